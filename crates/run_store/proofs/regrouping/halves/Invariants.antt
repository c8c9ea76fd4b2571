use Rattle.std.proofs.Common.{◌≡◌, ◌+◌, ◌*◌, length, take}
use Rattle.run_store.specs.Runs.{run_cells, AreRuns}
use Rattle.run_store.proofs.regrouping.halves.Given as goal

abbrev pub invariant-loop-at : goal.invariant-loop-at
invariant-loop-at l = record {
  cells : run_cells l.table l.halves.items ≡ run_cells l.table (take l.at l.runs);
  count : length l.halves.items ≡ 2 * l.at;
  each : AreRuns l.table (l.log2 + 1) 0 l.halves.items;
}
