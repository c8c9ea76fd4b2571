-- Pairs of neighbours.
use Rattle.std.proofs.Common.{◌≡◌, ◌+◌, ◌*◌, ◌/◌, ◌<◌, ◌≤◌, ℕ, zero, suc, List, [], ◌∷◌, length, get_or, set, map, take, true, false, Some, None, refl, sym, ◌∙◌, ap, arith, ◌≢◌, inl, inr}
use Rattle.std.proofs.lemmas.Bool.{cases_lt}
use Rattle.std.proofs.lemmas.Grind.{common_steps}
use Rattle.std.proofs.lemmas.List.{length-map, get_or-map, ext_get_or, length-take-le, get_or-take}
use Rattle.std.proofs.lemmas.List.Edits.{swap_is, length-swap}
use Rattle.std.specs.List.{swap}
use Rattle.std.specs.List.{position}
use Rattle.std.proofs.Common.{Option}
use Rattle.std.specs.Prelude.{option_map}
use Rattle.tablet_map.specs.declared.tablet.Tablet.{Tablet}
use Rattle.tablet_map.specs.Replicas.{same_set}
use Rattle.tablet_map.specs.Tablets.{tablet_in, no_tablet}
use Rattle.tablet_map.specs.Calls.{pairs, is_apart, least_apart}
use Rattle.tablet_map.proofs.Places.{first_place, no_place, none_passes}
use Rattle.tablet_map.proofs.Joined.{not_both}

pub length-pairs : (list : List Tablet) → length (pairs list) ≡ length list / 2
length-pairs [] = refl
length-pairs (left ∷ []) = refl
length-pairs (left ∷ right ∷ rest) = omega (arith, length-pairs rest)

pub length-lefts : (list : List Tablet) → length (map (λ (pair : Tablet × Tablet). pair.0) (pairs list)) ≡ length list / 2
length-lefts list = length-map (pairs list) (λ (pair : Tablet × Tablet). pair.0) ∙ length-pairs list

-- the pair of a number is the tablet of twice that number, and its right neighbour
pub pair_at : (list : List Tablet) (at : ℕ) → at < length list / 2 → get_or (pairs list) at (no_tablet, no_tablet) ≡ (tablet_in list (2 * at), tablet_in list (2 * at + 1))
pair_at [] at below = absurd (omega arith)
pair_at (left ∷ []) at below = absurd (omega arith)
pair_at (left ∷ right ∷ rest) zero below = refl
pair_at (left ∷ right ∷ rest) (suc at) below =
    let e : 2 * suc at ≡ suc (suc (2 * at)) = omega arith in
    let f : suc (suc (2 * at)) + 1 ≡ suc (suc (2 * at + 1)) = omega arith in
    rw (e, f) (pair_at rest at (omega arith))

abbrev pub SameAt : List Tablet → ℕ → Type 0
SameAt list at = same_set (tablet_in list (2 * at)).replicas (tablet_in list (2 * at + 1)).replicas ≡ true

not_apart : (list : List Tablet) (at : ℕ) → at < length list / 2 → SameAt list at → is_apart (get_or (pairs list) at (no_tablet, no_tablet)) ≡ false
not_apart list at below same = rw (pair_at list at below, same) refl

-- the first pair that is not colocated
pub apart_at : (list : List Tablet) (at : ℕ) → at < length list / 2 → ((k : ℕ) → k < at → SameAt list k) → same_set (tablet_in list (2 * at)).replicas (tablet_in list (2 * at + 1)).replicas ≡ false → least_apart list ≡ Some (2 * at)
apart_at list at below before here =
    ap (option_map (λ n. 2 * n))
    (first_place is_apart (pairs list) at (no_tablet, no_tablet) (omega (arith, length-pairs list))
    (λ k lt. not_apart list k (omega arith) (before k lt)) (rw (pair_at list at below, here) refl))

pub none_apart : (list : List Tablet) → ((k : ℕ) → k < length list / 2 → SameAt list k) → least_apart list ≡ None
none_apart list same =
    ap (option_map (λ n. 2 * n))
    (no_place is_apart (pairs list) (no_tablet, no_tablet) (λ k lt. not_apart list k (omega (arith, length-pairs list)) (same k (omega (arith, length-pairs list)))))

-- What stands after the left ones of the first pairs came to the front.
pub record IsGathered (old : List Tablet) (new : List Tablet) (at : ℕ) : Type 0 where
  pub same_length : length new ≡ length old
  pub front : (k : ℕ) → k < at → tablet_in new k ≡ tablet_in old (2 * k)
  pub behind : (k : ℕ) → 2 * at ≤ k + 1 → tablet_in new k ≡ tablet_in old k

pub not_gathered : (old : List Tablet) → IsGathered old old 1
not_gathered old = record { same_length = refl; front = λ k lt. (let e : k ≡ 0 = omega arith in rw e refl); behind = λ k le. refl }

set_twice_first : (list : List Tablet) (x y : Tablet) (i j : ℕ) → i < length list → j < length list → i < j → tablet_in (set (set list i x) j y) i ≡ x
set_twice_first list x y i j p q lt = grind (arith, common_steps)

set_twice_other : (list : List Tablet) (x y : Tablet) (i j k : ℕ) → i < length list → j < length list → k ≢ i → k ≢ j → tablet_in (set (set list i x) j y) k ≡ tablet_in list k
set_twice_other list x y i j k p q a b = grind (arith, common_steps)

-- what a swap leaves at a place
at_first : (list : List Tablet) (i j : ℕ) → i < length list → j < length list → i < j → tablet_in (swap list i j) i ≡ tablet_in list j
at_first list i j p q lt = rw (← swap_is list i j no_tablet p q) (set_twice_first list (tablet_in list j) (tablet_in list i) i j p q lt)

at_other : (list : List Tablet) (i j k : ℕ) → i < length list → j < length list → k ≢ i → k ≢ j → tablet_in (swap list i j) k ≡ tablet_in list k
at_other list i j k p q a b = rw (← swap_is list i j no_tablet p q) (set_twice_other list (tablet_in list j) (tablet_in list i) i j k p q a b)

pub gather_one : (old new : List Tablet) (at : ℕ) → 0 < at → at < length old / 2 → IsGathered old new at → IsGathered old (swap new at (2 * at)) (at + 1)
gather_one old new at positive below gathered =
    let same : length new ≡ length old = gathered.same_length in
    let first : at < length new = omega arith in
    let second : 2 * at < length new = omega arith in
    record {
      same_length = length-swap new at (2 * at) ∙ same;
      front = λ k lt.
          elim (cases_lt k at) [
            | inl before ↦ at_other new at (2 * at) k first second (omega arith) (omega arith) ∙ gathered.front k before
            | inr past ↦ let e : k ≡ at = omega arith in rw e (at_first new at (2 * at) first second (omega arith) ∙ gathered.behind (2 * at) (omega arith))
          ];
      behind = λ k le. at_other new at (2 * at) k first second (omega arith) (omega arith) ∙ gathered.behind k (omega arith);
    }

pub gathered_all : (old new : List Tablet) (at : ℕ) → length old / 2 ≤ at → IsGathered old new at → take (length old / 2) new ≡ map (λ (pair : Tablet × Tablet). pair.0) (pairs old)
gathered_all old new at past gathered =
    let n : length (take (length old / 2) new) ≡ length old / 2 = length-take-le (length old / 2) new (omega (arith, gathered.same_length)) in
    ext_get_or no_tablet (take (length old / 2) new) (map (λ (pair : Tablet × Tablet). pair.0) (pairs old)) (n ∙ sym (length-lefts old))
    (λ k lt.
    let below : k < length old / 2 = omega arith in
    get_or-take (length old / 2) new k no_tablet below ∙ (gathered.front k (omega arith) ∙ sym
    (get_or-map (λ (pair : Tablet × Tablet). pair.0) (pairs old) k (no_tablet, no_tablet) no_tablet (omega (arith, length-pairs old)) ∙ ap (λ (pair : Tablet × Tablet). pair.0) (pair_at old k below))))

-- the left tablet of a pair
pub left_at : (list : List Tablet) (at : ℕ) → at < length list / 2 → tablet_in (map (λ (pair : Tablet × Tablet). pair.0) (pairs list)) at ≡ tablet_in list (2 * at)
left_at list at below =
    get_or-map (λ (pair : Tablet × Tablet). pair.0) (pairs list) at (no_tablet, no_tablet) no_tablet (omega (arith, length-pairs list)) ∙ ap (λ (pair : Tablet × Tablet). pair.0) (pair_at list at below)

no_double : (place : Option ℕ) → option_map (λ n. 2 * n) place ≡ None → place ≡ None
no_double None h = refl
no_double (Some n) h = cc h

-- where no pair is apart, each has the same set of replicas
pub same_at : (list : List Tablet) (at : ℕ) → least_apart list ≡ None → at < length list / 2 → SameAt list at
same_at list at none below =
    let passes : is_apart (get_or (pairs list) at (no_tablet, no_tablet)) ≡ false = none_passes is_apart (pairs list) (no_tablet, no_tablet) (no_double (position is_apart (pairs list)) none) at (omega (arith, length-pairs list)) in
    not_both (same_set (tablet_in list (2 * at)).replicas (tablet_in list (2 * at + 1)).replicas) (rw (pair_at list at below) at passes)
