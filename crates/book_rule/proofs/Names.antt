-- Actors that differ, functions of actors, and lists of them.
use Rattle.std.proofs.Common.{List, [], refl, sym, ◌++◌, ◌∙◌, ◌∷◌, ◌≡◌, ap, subst, true≢false}
use Rattle.std.specs.Prelude.{false, if◌then◌else◌, not, true, ◌||◌}
use Rattle.base_ids.proofs.NameLemmas.{both_true, is_false, not_false, or_false, or_first, or_second, same_actor-refl, same_actor-same}
use Rattle.base_ids.specs.Names.{same_actor}
use Rattle.base_ids.specs.declared.ids.Actor.{Actor}
use Rattle.book_rule.specs.Notes.{changed}
use Rattle.book_rule.specs.Turns.{are_distinct, has_actor}

-- two actors that differ are not the same
pub apart : (a b : Actor) → (a ≡ b → ⊥) → same_actor a b ≡ false
apart a b differ = is_false (same_actor a b) (λ e. differ (same_actor-same a b e))

pub differ : (a b : Actor) → same_actor a b ≡ false → a ≡ b → ⊥
differ a b e same = true≢false (sym (same_actor-refl b) ∙ (ap (λ x. same_actor x b) (sym same) ∙ e))

module _ {X : Type 0} (f : Actor → X) (a : Actor) (x : X) where
  pub changed_here : changed f a x a ≡ x
  changed_here = ap (λ t. if t then x else f a) (same_actor-refl a)

  pub changed_else : (b : Actor) → same_actor b a ≡ false → changed f a x b ≡ f b
  changed_else b e = ap (λ t. if t then x else f b) e

  -- a fact of the new value and of the old ones is one of all values
  pub changed_all : (P : Actor → X → Type 0) → P a x → ((b : Actor) → same_actor b a ≡ false → P b (f b)) → (b : Actor) → P b (changed f a x b)
  changed_all P here others b = elim (same_actor b a) as (λ t. same_actor b a ≡ t → P b (if t then x else f b)) [
    | true ↦ λ e. subst (λ c. P c x) (sym (same_actor-same b a e)) here
    | false ↦ λ e. others b e
  ]
      refl

pub has_front : (xs ys : List Actor) (a : Actor) → has_actor xs a ≡ true → has_actor (xs ++ ys) a ≡ true
has_front [] ys a e = cc e
has_front (x ∷ xs) ys a e = elim (same_actor a x) as (λ t. (t || has_actor xs a) ≡ true → (t || has_actor (xs ++ ys) a) ≡ true)
    [ true ↦ λ _. refl | false ↦ λ h. has_front xs ys a h ] e

pub has_last : (xs : List Actor) (a : Actor) → has_actor (xs ++ a ∷ []) a ≡ true
has_last [] a = or_first (same_actor a a) false (same_actor-refl a)
has_last (x ∷ xs) a = or_second (same_actor a x) (has_actor (xs ++ a ∷ []) a) (has_last xs a)

pub has_here : (xs ys : List Actor) (a : Actor) → has_actor (xs ++ a ∷ ys) a ≡ true
has_here [] ys a = or_first (same_actor a a) (has_actor ys a) (same_actor-refl a)
has_here (x ∷ xs) ys a = or_second (same_actor a x) (has_actor (xs ++ a ∷ ys) a) (has_here xs ys a)

pub not_front : (xs ys : List Actor) (a : Actor) → has_actor (xs ++ ys) a ≡ false → has_actor xs a ≡ false
not_front [] ys a e = refl
not_front (x ∷ xs) ys a e = let both = or_false (same_actor a x) (has_actor (xs ++ ys) a) e in
    ap (λ t. t || has_actor xs a) both.0 ∙ not_front xs ys a both.1

-- of distinct actors, none stands before itself
pub none_before : (xs ys : List Actor) (a : Actor) → are_distinct (xs ++ a ∷ ys) ≡ true → has_actor xs a ≡ false
none_before [] ys a e = refl
none_before (x ∷ xs) ys a e =
    let both = both_true (not (has_actor (xs ++ a ∷ ys) x)) (are_distinct (xs ++ a ∷ ys)) e in
    let here : same_actor a x ≡ false = is_false (same_actor a x) (λ same. true≢false (sym (has_here xs ys a) ∙ (ap (has_actor (xs ++ a ∷ ys)) (same_actor-same a x same) ∙ not_false (has_actor (xs ++ a ∷ ys) x) both.0))) in
    ap (λ t. t || has_actor xs a) here ∙ none_before xs ys a both.1
