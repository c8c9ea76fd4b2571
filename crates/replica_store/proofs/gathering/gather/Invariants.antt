use Rattle.std.proofs.Common.{◌≡◌, ◌++◌, None, length}
use Rattle.replica_store.specs.Cells.{range_cells}
use Rattle.replica_store.proofs.gathering.gather.Given as goal

abbrev pub invariant-gathering : goal.invariant-gathering
invariant-gathering g l = l.list ++ range_cells (g.S.Store.cells l.store) l.table l.range l.after ≡ range_cells (g.S.Store.cells l.store) l.table l.range None

abbrev pub decreases-gathering : goal.decreases-gathering
decreases-gathering g l = length (range_cells (g.S.Store.cells l.store) l.table l.range l.after)
