use Rattle.std.proofs.Common.{◌≡◌, ℕ, ◌<◌, ◌≤◌, get_or}
use Rattle.replica_store.specs.Cells.{outside}
use Rattle.run_store.specs.Runs.{Filled, run_cells, IsGrouped, least_spare}
use Rattle.run_store.proofs.LoopLemmas.{IsClean}
use Rattle.run_store.proofs.runs.drop_range.Given as goal

abbrev pub invariant-loop-at : goal.invariant-loop-at
invariant-loop-at l = record {
  grouped : IsGrouped l.table l.log2 l.runs.items;
  cells : outside (run_cells l.table l.runs.items) l.table l.range ≡ outside (run_cells l.table l.initial.runs.items) l.table l.range;
  room : least_spare l.initial.runs.items ≤ least_spare l.runs.items;
  clean : (k : ℕ) (d : Filled) → k < l.at → IsClean l.table l.range (get_or l.runs.items k d);
}
