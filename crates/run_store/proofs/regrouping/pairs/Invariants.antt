use Rattle.std.proofs.Common.{◌≡◌, ℕ, ◌+◌, ◌*◌, length, take}
use Rattle.base_ids.specs.declared.ids.TableId.{TableId}
use Rattle.run_store.specs.Runs.{run_cells, AreRuns, IsGrouped}
use Rattle.run_store.proofs.regrouping.pairs.Given as goal

abbrev pub invariant-loop-at : goal.invariant-loop-at
invariant-loop-at l = record {
  cells : (table : TableId) → run_cells table l.pairs.items ≡ run_cells table (take (2 * l.at) l.runs);
  count : length l.pairs.items ≡ l.at;
  each : (table : TableId) (log2 : ℕ) → IsGrouped table (log2 + 1) l.runs → AreRuns table log2 0 l.pairs.items;
}
