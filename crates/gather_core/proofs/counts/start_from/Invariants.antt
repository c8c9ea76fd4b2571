use Rattle.std.proofs.Common.{◌≡◌, ◌-◌, ◌≤◌, ◌≤ℤ◌, length, drop}
use Rattle.token_ring.specs.declared.token.Token.{Token}
use Rattle.replica_store.specs.Cells.{stored_at}
use Rattle.gather_core.proofs.counts.start_from.Given as goal

pub record Inv (is_within : Type 0) (is_same : Type 0) : Type 0 where
  pub within : is_within
  pub same : is_same

abbrev pub invariant-skipping : goal.invariant-skipping
invariant-skipping l =
    Inv (l.at ≤ length l.cells) ((k : Token) → l.token.value ≤ℤ k.value → stored_at (drop l.at l.cells) k ≡ stored_at (drop l.from l.cells) k)

abbrev pub decreases-skipping : goal.decreases-skipping
decreases-skipping l = length l.cells - l.at
