use Rattle.std.proofs.Common.{◌-◌, ◌≤◌, length}
use Rattle.replica_store.specs.Columns.{first_from}
use Rattle.run_store.specs.Runs.{of_table}
use Rattle.run_store.proofs.run.first_from.Given as goal

abbrev pub invariant-halving : goal.invariant-halving
invariant-halving l = record {
  above : l.low ≤ first_from (of_table l.table l.stored) l.from;
  below : first_from (of_table l.table l.stored) l.from ≤ l.high;
  within : l.high ≤ length l.stored;
}

abbrev pub decreases-halving : goal.decreases-halving
decreases-halving l = l.high - l.low
