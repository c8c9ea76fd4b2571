-- The order of cells is total and tells all cells apart, and the greater cell is its join.
use Rattle.std.proofs.Common.{◌≡◌, true, false, Option, Some, None, refl, sym, ap, subst, ◌⊎◌, inl, inr, if◌then◌else◌}
use Rattle.std.specs.Ordering.{int_cmp, ordering_then, ordering_reverse, is_lt, is_ge, is_gt}
use Rattle.std.specs.declared.cmp.Ordering.{Ordering}
use Rattle.std.specs.declared.cmp.Ordering.TheVariants.{Less, Equal, Greater}
use Rattle.std.specs.Cmp.{IsTotalOrder}
use Rattle.std.specs.FinMap.{IsAntisymmetric, int_cmp-IsAntisymmetric, nat_cmp-IsAntisymmetric, slice_cmp-IsAntisymmetric}
use Rattle.std.proofs.lemmas.Cmp.{nat_cmp_total, int_cmp_total, nat_list_cmp_total, then_total, on_total, tied_itself, upto}
use Rattle.cell_merge.specs.declared.cell.Cell.{Cell}
use Rattle.cell_merge.specs.declared.cell.Body.{Body}
use Rattle.cell_merge.specs.declared.cell.Body.TheVariants.{Live, Dead}
use Rattle.cell_merge.specs.Cell.{body_order, cell_order, greater_cell, IsNotBelow}
use Rattle.cell_merge.specs.Laws.{IsAssociative, IsCommutative, IsIdempotent, IsIdentity, IsChoice, IsLeastUpperBound, IsTotal}

-- ---- the order

body_antisymm : (x y : Body) → body_order x y ≡ ordering_reverse (body_order y x)
body_antisymm (Live a) (Live b) = nat_list_cmp_total.antisymm a b
body_antisymm (Live a) (Dead t) = refl
body_antisymm (Dead s) (Live b) = refl
body_antisymm (Dead s) (Dead t) = nat_cmp_total.antisymm s t

body_trans : (x y z : Body) → body_order x y ≡ Less → body_order y z ≡ Less → body_order x z ≡ Less
body_trans (Live a) (Live b) (Live c) p q = nat_list_cmp_total.trans a b c p q
body_trans (Live a) y (Dead t) p q = refl
body_trans (Live a) (Dead s) (Live c) p q = cc
body_trans (Dead s) (Live b) z p q = cc
body_trans (Dead s) (Dead t) (Live c) p q = cc
body_trans (Dead s) (Dead t) (Dead u) p q = nat_cmp_total.trans s t u p q

body_congr : (x y z : Body) → body_order x y ≡ Equal → body_order x z ≡ body_order y z
body_congr (Live a) (Live b) (Live c) p = nat_list_cmp_total.congr a b c p
body_congr (Live a) (Live b) (Dead t) p = refl
body_congr (Live a) (Dead t) z p = cc
body_congr (Dead s) (Live b) z p = cc
body_congr (Dead s) (Dead t) (Live c) p = refl
body_congr (Dead s) (Dead t) (Dead u) p = nat_cmp_total.congr s t u p

pub body_total : IsTotalOrder body_order
body_total = record { antisymm = body_antisymm; trans = body_trans; congr = body_congr }

body_same : (x y : Body) → body_order x y ≡ Equal → x ≡ y
body_same (Live a) (Live b) p = ap Live (slice_cmp-IsAntisymmetric nat_cmp-IsAntisymmetric a b p)
body_same (Live a) (Dead t) p = cc
body_same (Dead s) (Live b) p = cc
body_same (Dead s) (Dead t) p = ap Dead (nat_cmp-IsAntisymmetric s t p)

pub cell_total : IsTotalOrder cell_order
cell_total = then_total (on_total (λ (c : Cell). c.timestamp) int_cmp_total) (on_total (λ (c : Cell). c.body) body_total)

both_equal : (r s : Ordering) → ordering_then r s ≡ Equal → (r ≡ Equal) × (s ≡ Equal)
both_equal Less s p = (cc, cc)
both_equal Equal s p = (refl, p)
both_equal Greater s p = (cc, cc)

-- cells that are equal in the order are the same
pub cell_same : IsAntisymmetric cell_order
cell_same a b p =
    let both = both_equal (int_cmp a.timestamp b.timestamp) (body_order a.body b.body) p in
    λ i. record {
      timestamp = int_cmp-IsAntisymmetric a.timestamp b.timestamp both.0 i;
      body = body_same a.body b.body both.1 i;
    }

-- ---- not below

-- what the reverse of an answer says
ge_reverse : (r : Ordering) → is_ge r ≡ true → is_gt (ordering_reverse r) ≡ false
ge_reverse Less p = cc
ge_reverse Equal p = refl
ge_reverse Greater p = refl

reverse_ge : (r : Ordering) → is_gt (ordering_reverse r) ≡ false → is_ge r ≡ true
reverse_ge Less p = cc
reverse_ge Equal p = refl
reverse_ge Greater p = refl

ge_both : (r : Ordering) → is_ge r ≡ true → is_ge (ordering_reverse r) ≡ true → r ≡ Equal
ge_both Less p q = cc
ge_both Equal p q = refl
ge_both Greater p q = cc

ge_either : (r : Ordering) → (is_ge r ≡ true) ⊎ (is_ge (ordering_reverse r) ≡ true)
ge_either Less = inr refl
ge_either Equal = inl refl
ge_either Greater = inl refl

not_below_reflexive : (a : Option Cell) → IsNotBelow a a
not_below_reflexive None = refl
not_below_reflexive (Some a) = ap is_ge (tied_itself cell_total a)

not_below_transitive : (a b c : Option Cell) → IsNotBelow a b → IsNotBelow b c → IsNotBelow a c
not_below_transitive None None None p q = refl
not_below_transitive None None (Some c) p q = cc
not_below_transitive None (Some b) c p q = cc
not_below_transitive (Some a) b None p q = refl
not_below_transitive (Some a) None (Some c) p q = cc
not_below_transitive (Some a) (Some b) (Some c) p q =
    let ba : is_gt (cell_order b a) ≡ false = rw (cell_total.antisymm b a) (ge_reverse (cell_order a b) p) in
    let cb : is_gt (cell_order c b) ≡ false = rw (cell_total.antisymm c b) (ge_reverse (cell_order b c) q) in
    let ca : is_gt (cell_order c a) ≡ false = upto cell_total c b a cb ba in
    reverse_ge (cell_order a c) (rw (← cell_total.antisymm c a) ca)

not_below_antisymmetric : (a b : Option Cell) → IsNotBelow a b → IsNotBelow b a → a ≡ b
not_below_antisymmetric None None p q = refl
not_below_antisymmetric None (Some b) p q = cc
not_below_antisymmetric (Some a) None p q = cc
not_below_antisymmetric (Some a) (Some b) p q =
    ap Some (cell_same a b (ge_both (cell_order a b) p (rw (← cell_total.antisymm b a) q)))

not_below_total : (a b : Option Cell) → IsNotBelow a b ⊎ IsNotBelow b a
not_below_total None None = inl refl
not_below_total None (Some b) = inr refl
not_below_total (Some a) None = inl refl
not_below_total (Some a) (Some b) = rw (cell_total.antisymm b a) (ge_either (cell_order a b))

pub not_below : IsTotal IsNotBelow
not_below = record {
  reflexive = not_below_reflexive;
  transitive = not_below_transitive;
  antisymmetric = not_below_antisymmetric;
  total = not_below_total;
}

-- ---- the greater cell

ge_of_not_lt : (r : Ordering) → is_lt r ≡ false → is_ge r ≡ true
ge_of_not_lt Less p = cc
ge_of_not_lt Equal p = refl
ge_of_not_lt Greater p = refl

ge_of_lt : (r : Ordering) → is_lt r ≡ true → is_ge (ordering_reverse r) ≡ true
ge_of_lt Less p = refl
ge_of_lt Equal p = cc
ge_of_lt Greater p = cc

-- the greater of the two is the one that the test names
pub greater-choice : IsChoice greater_cell
greater-choice None None = inl refl
greater-choice None (Some b) = inr refl
greater-choice (Some a) None = inl refl
greater-choice (Some a) (Some b) =
    elim (is_lt (cell_order a b)) as (λ t. ((if t then Some b else Some a) ≡ Some a) ⊎ ((if t then Some b else Some a) ≡ Some b)) [
      | true ↦ inr refl
      | false ↦ inl refl
    ]

pub greater-first : (a b : Option Cell) → IsNotBelow (greater_cell a b) a
greater-first None None = refl
greater-first None (Some b) = refl
greater-first (Some a) None = not_below_reflexive (Some a)
greater-first (Some a) (Some b) =
    elim (is_lt (cell_order a b)) as (λ t. is_lt (cell_order a b) ≡ t → IsNotBelow (if t then Some b else Some a) (Some a)) [
      | true ↦ λ p. rw (cell_total.antisymm b a) (ge_of_lt (cell_order a b) p)
      | false ↦ λ p. not_below_reflexive (Some a)
    ] refl

pub greater-second : (a b : Option Cell) → IsNotBelow (greater_cell a b) b
greater-second None b = not_below_reflexive b
greater-second (Some a) None = refl
greater-second (Some a) (Some b) =
    elim (is_lt (cell_order a b)) as (λ t. is_lt (cell_order a b) ≡ t → IsNotBelow (if t then Some b else Some a) (Some b)) [
      | true ↦ λ p. not_below_reflexive (Some b)
      | false ↦ λ p. ge_of_not_lt (cell_order a b) p
    ] refl

pub greater-least : (a b c : Option Cell) → IsNotBelow c a → IsNotBelow c b → IsNotBelow c (greater_cell a b)
greater-least a b c p q =
    elim (greater-choice a b) [
      | inl e ↦ subst (λ g. IsNotBelow c g) (sym e) p
      | inr e ↦ subst (λ g. IsNotBelow c g) (sym e) q
    ]

pub greater_bound : IsLeastUpperBound IsNotBelow greater_cell
greater_bound = record { first = greater-first; second = greater-second; least = greater-least }

-- what is above both is above the greater one, step by step
above : (a b c : Option Cell) → IsNotBelow a b → IsNotBelow b c → IsNotBelow a c
above = not_below_transitive

pub greater-idempotent : IsIdempotent greater_cell
greater-idempotent a = elim (greater-choice a a) [ inl e ↦ e | inr e ↦ e ]

pub greater-commutative : IsCommutative greater_cell
greater-commutative a b =
    not_below_antisymmetric (greater_cell a b) (greater_cell b a)
    (greater-least b a (greater_cell a b) (greater-second a b) (greater-first a b))
    (greater-least a b (greater_cell b a) (greater-second b a) (greater-first b a))

pub greater-associative : IsAssociative greater_cell
greater-associative a b c =
    let left : Option Cell = greater_cell (greater_cell a b) c in
    let right : Option Cell = greater_cell a (greater_cell b c) in
    let left_ab : IsNotBelow left (greater_cell a b) = greater-first (greater_cell a b) c in
    let left_a : IsNotBelow left a = above left (greater_cell a b) a left_ab (greater-first a b) in
    let left_b : IsNotBelow left b = above left (greater_cell a b) b left_ab (greater-second a b) in
    let left_c : IsNotBelow left c = greater-second (greater_cell a b) c in
    let right_bc : IsNotBelow right (greater_cell b c) = greater-second a (greater_cell b c) in
    let right_a : IsNotBelow right a = greater-first a (greater_cell b c) in
    let right_b : IsNotBelow right b = above right (greater_cell b c) b right_bc (greater-first b c) in
    let right_c : IsNotBelow right c = above right (greater_cell b c) c right_bc (greater-second b c) in
    not_below_antisymmetric left right
    (greater-least a (greater_cell b c) left left_a (greater-least b c left left_b left_c))
    (greater-least (greater_cell a b) c right (greater-least a b right right_a right_b) right_c)

pub greater-identity : IsIdentity greater_cell None
greater-identity None = (refl, refl)
greater-identity (Some a) = (refl, refl)

-- the first is kept exactly where it is not below the second
pub greater_kept : (a b : Option Cell) → IsNotBelow a b → greater_cell a b ≡ a
greater_kept a b p =
    not_below_antisymmetric (greater_cell a b) a (greater-first a b) (greater-least a b a (not_below_reflexive a) p)

pub kept_not_below : (a b : Option Cell) → greater_cell a b ≡ a → IsNotBelow a b
kept_not_below a b e = subst (λ g. IsNotBelow g b) e (greater-second a b)
