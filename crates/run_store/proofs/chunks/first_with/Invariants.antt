use Rattle.std.proofs.Common.{◌≡◌, [], take}
use Rattle.replica_store.specs.Cells.{range_cells}
use Rattle.run_store.specs.Runs.{run_cells}
use Rattle.run_store.proofs.chunks.first_with.Given as goal

abbrev pub invariant-loop-at : goal.invariant-loop-at
invariant-loop-at l = range_cells (run_cells l.table (take l.at l.runs)) l.table l.range l.after ≡ []
