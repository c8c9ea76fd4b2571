use Rattle.std.proofs.Common.{◌-◌, ◌≤◌, length}
use Rattle.std.specs.List.{zip}
use Rattle.replica_store.specs.Columns.{first_from}
use Rattle.replica_store.proofs.columns.first_from.Given as goal

abbrev pub invariant-halving : goal.invariant-halving
invariant-halving l = record {
  above : l.low ≤ first_from (zip l.tables l.stored) l.from;
  below : first_from (zip l.tables l.stored) l.from ≤ l.high;
  within : l.high ≤ length l.tables;
}

abbrev pub decreases-halving : goal.decreases-halving
decreases-halving l = l.high - l.low
