-- Lists, and histories that grow.
use Rattle.std.proofs.Common.{List, [], ap, arith, get_or, length, length-append, refl, set, suc, sym, zero, ℕ, ◌++◌, ◌+◌, ◌<◌, ◌∙◌, ◌∷◌, ◌≡◌, ◌≢◌, ◌≤◌, inl, inr, ⊎_elim}
use Rattle.std.specs.Prelude.{false, if◌then◌else◌, true, ◌⊎◌}
use Rattle.std.proofs.lemmas.List.Elements.{filter-append}
use mathlib.Core.Option.{some, some-injective, some-ne-none}
use lib.ListN.{get_elem?}
use Rattle.base_ids.specs.Names.{same_actor}
use Rattle.base_ids.specs.declared.ids.Actor.{Actor}
use Rattle.book_rule.specs.Turns.{has_ticket, stage_of, tickets}
use Rattle.book_rule.specs.World.{IsForeign, IsLegal, Meaning, own_of}
use Rattle.book_rule.specs.declared.view.Stage.{Stage}
use Rattle.book_rule.specs.declared.view.Stage.TheVariants.{Idle, Turn, Waits}
use Rattle.book_rule.specs.declared.view.View.{View}

pub there : {A : Type 0} (l : List A) (i : ℕ) (a : A) → get_elem? l i ≡ some a → i < length l
there [] i a e = absurd (some-ne-none a (sym e))
there (x ∷ xs) zero a e = omega arith
there (x ∷ xs) (suc i) a e = let r = there xs i a e in omega arith

pub at_end : {A : Type 0} (l : List A) (a b : A) (j : ℕ) → get_elem? (l ++ a ∷ []) j ≡ some b → (get_elem? l j ≡ some b) ⊎ ((j ≡ length l) × (a ≡ b))
at_end [] a b zero e = inr (refl, some-injective a b e)
at_end [] a b (suc j) e = absurd (some-ne-none b (sym e))
at_end (x ∷ xs) a b zero e = inl e
at_end (x ∷ xs) a b (suc j) e = ⊎_elim (λ h. inl h) (λ h. inr (ap suc h.0, h.1)) (at_end xs a b j e)

pub get_or-set_else : (l : List ℕ) (i j a : ℕ) → i ≢ j → get_or (set l i a) j 0 ≡ get_or l j 0
get_or-set_else [] i j a ne = refl
get_or-set_else (x ∷ xs) zero zero a ne = absurd (ne refl)
get_or-set_else (x ∷ xs) zero (suc j) a ne = refl
get_or-set_else (x ∷ xs) (suc i) zero a ne = refl
get_or-set_else (x ∷ xs) (suc i) (suc j) a ne = get_or-set_else xs i j a (λ e. ne (ap suc e))

pub set-get : (l : List ℕ) (i : ℕ) → set l i (get_or l i 0) ≡ l
set-get [] i = refl
set-get (x ∷ xs) zero = refl
set-get (x ∷ xs) (suc i) = ap (λ (ys : List ℕ). x ∷ ys) (set-get xs i)

-- nothing stands before a list that is not longer
pub none_before : {A : Type 0} (xs ys : List A) → xs ++ ys ≡ ys → xs ≡ []
none_before [] ys e = refl
none_before (x ∷ xs) ys e = let l : length (x ∷ (xs ++ ys)) ≡ length ys = ap length e in let s = length-append xs ys in absurd (omega arith)

pub one_at_most : (s : Stage) → has_ticket s ≤ 1
one_at_most Idle = omega arith
one_at_most (Waits t) = omega arith
one_at_most (Turn t) = omega arith

module _ {O E : Type 0} where
  pub tickets-set : (l : List (View O E)) (i : ℕ) (v w : View O E) → get_elem? l i ≡ some v → tickets (set l i w) + has_ticket (stage_of v) ≡ tickets l + has_ticket (stage_of w)
  tickets-set [] i v w e = absurd (some-ne-none v (sym e))
  tickets-set (x ∷ xs) zero v w e = let is : has_ticket (stage_of x) ≡ has_ticket (stage_of v) = ap (λ (m : View O E). has_ticket (stage_of m)) (some-injective x v e) in omega arith
  tickets-set (x ∷ xs) (suc i) v w e = let r = tickets-set xs i v w e in omega arith

  pub tickets-few : (l : List (View O E)) → tickets l ≤ length l
  tickets-few [] = omega arith
  tickets-few (x ∷ xs) = let r = tickets-few xs in let o = one_at_most (stage_of x) in omega arith

  pub tickets-last : (l : List (View O E)) (v : View O E) → tickets (l ++ v ∷ []) ≡ tickets l + has_ticket (stage_of v)
  tickets-last [] v = omega arith
  tickets-last (x ∷ xs) v = let r = tickets-last xs v in omega arith

module _ {W O E C R M S : Type 0} (m : Meaning W O E C R M S) where
  pub own-append : (a : Actor) (xs ys : List E) → own_of m a (xs ++ ys) ≡ own_of m a xs ++ own_of m a ys
  own-append a xs ys = filter-append (λ e. same_actor (m.author e) a) xs ys

  pub own_mine : (a : Actor) (e : E) (es : List E) → same_actor (m.author e) a ≡ true → own_of m a (e ∷ es) ≡ e ∷ own_of m a es
  own_mine a e es is = ap (λ t. if t then e ∷ own_of m a es else own_of m a es) is

  pub own_other : (a : Actor) (e : E) (es : List E) → same_actor (m.author e) a ≡ false → own_of m a (e ∷ es) ≡ own_of m a es
  own_other a e es is = ap (λ t. if t then e ∷ own_of m a es else own_of m a es) is

  -- no entry of an actor that has none
  pub none_of : (a : Actor) (e : E) (es : List E) → own_of m a (e ∷ es) ≡ [] → (same_actor (m.author e) a ≡ false) × (own_of m a es ≡ [])
  none_of a e es none = elim (same_actor (m.author e) a) as (λ t. same_actor (m.author e) a ≡ t → (same_actor (m.author e) a ≡ false) × (own_of m a es ≡ [])) [
    | true ↦ λ is. absurd (let l : length (e ∷ own_of m a es) ≡ 0 = ap length (sym (own_mine a e es is) ∙ none) in omega arith)
    | false ↦ λ is. (is, sym (own_other a e es is) ∙ none)
  ]
      refl

  -- between two histories with the same entries of an actor there is none of it
  pub none_between : (a : Actor) (between seen : List E) → own_of m a (between ++ seen) ≡ own_of m a seen → own_of m a between ≡ []
  none_between a between seen same = none_before (own_of m a between) (own_of m a seen) (sym (own-append a between seen) ∙ same)

  pub legal_before : (o : O) (xs ys : List E) → IsLegal m o (xs ++ ys) → IsLegal m o ys
  legal_before o [] ys l = l
  legal_before o (x ∷ xs) ys l = legal_before o xs ys l.1

  -- what each entry of others keeps holds after many of them
  pub carried : (o : O) (a : Actor) (P : List E → Type 0) → ((history : List E) (entry : E) → IsForeign m o history entry a → P history → P (entry ∷ history))
      → (between seen : List E) → IsLegal m o (between ++ seen) → own_of m a between ≡ [] → P seen → P (between ++ seen)
  carried o a P keep [] seen legal none p = p
  carried o a P keep (e ∷ es) seen legal none p =
      let rest = none_of a e es none in
      keep (es ++ seen) e (record { legal = legal.1; next = legal.0; apart = rest.0 }) (carried o a P keep es seen legal.1 rest.1 p)
