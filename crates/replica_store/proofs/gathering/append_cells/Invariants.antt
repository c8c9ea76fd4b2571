use Rattle.std.proofs.Common.{◌≡◌, ◌++◌, take}
use Rattle.replica_store.proofs.gathering.append_cells.Given as goal

abbrev pub invariant-cells : goal.invariant-cells
invariant-cells l = l.list ≡ l.initial.list ++ take l.stored-index l.cells
