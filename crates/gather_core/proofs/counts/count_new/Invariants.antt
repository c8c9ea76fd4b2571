use Rattle.std.proofs.Common.{◌≡◌, ◌≤◌, length, take, drop}
use Rattle.gather_core.specs.Counts.{new_in}
use Rattle.gather_core.proofs.CountLemmas.{Keeps}
use Rattle.gather_core.proofs.counts.count_new.Given as goal

pub record Inv (is_count : Type 0) (is_few : Type 0) (is_within : Type 0) (is_kept : Type 0) : Type 0 where
  pub count : is_count
  pub few : is_few
  pub within : is_within
  pub keeps : is_kept

abbrev pub invariant-counting : goal.invariant-counting
invariant-counting l =
    Inv (l.count ≡ new_in l.before (take l.stored-index l.now)) (l.count ≤ l.stored-index) (l.at ≤ length l.before) (Keeps l.before l.at (drop l.stored-index l.now))
