-- The first place at which a test passes.
use Rattle.std.proofs.Common.{◌≡◌, ◌<◌, ◌≤◌, ℕ, List, length, get_or, Bool, true, false, cond, nat_lt, Some, None, refl, arith}
use Rattle.std.proofs.lemmas.List.Sums.{fails_before_first, position_or_len_is}
use Rattle.std.specs.List.{position, position_or_len}
use borrow.Author.Tests.{ltb-false, lt-ltb}

-- where there is none, no element passes
pub none_passes : {X : Type 0} (p : X → Bool) (xs : List X) (d : X) → position p xs ≡ None → (k : ℕ) → k < length xs → p (get_or xs k d) ≡ false
none_passes {X} p xs d none k below =
    let past : length xs ≤ position_or_len p xs =
    elim (nat_lt (position_or_len p xs) (length xs)) as (λ v. nat_lt (position_or_len p xs) (length xs) ≡ v → cond v (Some (position_or_len p xs)) None ≡ None → length xs ≤ position_or_len p xs)
    [ true ↦ λ e h. cc h | false ↦ λ e h. ltb-false (position_or_len p xs) (length xs) e ] refl none in
    fails_before_first p xs k d (omega arith)

-- the first place is where the test passes for the first time
pub first_place : {X : Type 0} (p : X → Bool) (xs : List X) (at : ℕ) (d : X) → at < length xs → ((k : ℕ) → k < at → p (get_or xs k d) ≡ false) → p (get_or xs at d) ≡ true → position p xs ≡ Some at
first_place {X} p xs at d below before here =
    let e : position_or_len p xs ≡ at = position_or_len_is p xs at d (omega arith) before (λ _. here) in
    let t : nat_lt at (length xs) ≡ true = lt-ltb at (length xs) below in rw (e, t) refl

not_below : (n : ℕ) → nat_lt n n ≡ false
not_below n = grind arith

-- there is none where the test passes nowhere
pub no_place : {X : Type 0} (p : X → Bool) (xs : List X) (d : X) → ((k : ℕ) → k < length xs → p (get_or xs k d) ≡ false) → position p xs ≡ None
no_place {X} p xs d before =
    let e : position_or_len p xs ≡ length xs = position_or_len_is p xs (length xs) d (omega arith) before (λ lt. absurd (omega arith)) in
    let t : nat_lt (length xs) (length xs) ≡ false = not_below (length xs) in rw (e, t) refl
