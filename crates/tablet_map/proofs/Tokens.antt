-- A token's replicas over splits and merges.
use Rattle.std.proofs.Common.{◌≡◌, ◌+◌, ◌-◌, ◌*◌, ◌/◌, ◌^◌, ◌<◌, ℕ, zero, suc, List, [], ◌∷◌, length, map, true, None, refl, ap, sym, ◌∙◌, arith}
use Rattle.std.specs.List.{flat_map}
use Rattle.tablet_map.specs.declared.tablet.Tablet.{Tablet}
use Rattle.tablet_map.specs.Tablets.{Tablets, tablet_in, no_tablet, IsMap}
use Rattle.tablet_map.specs.Calls.{both, pairs, split_of, merge_of, least_moving, least_apart}
use Rattle.tablet_map.specs.Replicas.{same_set}
use Rattle.std.specs.Prelude.{ℤ, Ok}
use Rattle.std.proofs.Common.{inl, inr}
use Rattle.std.proofs.lemmas.Bool.{cases_lt}
use Rattle.token_ring.specs.declared.token.Token.{Token}
use Rattle.token_ring.specs.Ring.{offset, tablet_at}
use Rattle.token_ring.proofs.Offsets.{tablet_below, offset_below, parent_tablet}
use Rattle.tablet_map.specs.Tablets.{is_moving}
use Rattle.tablet_map.specs.Calls.{MergeEnds}
use Rattle.tablet_map.specs.Sets.{replicas_at}
use Rattle.tablet_map.proofs.Members.{same_set_itself}
use Rattle.tablet_map.proofs.Places.{none_passes, no_place}
use Rattle.tablet_map.proofs.Pairs.{SameAt, none_apart, same_at, left_at}
use Rattle.tablet_map.proofs.Halves.{length-both, twice}

-- a tablet of a split map is the one that it was split from
pub both_at : (list : List Tablet) (at : ℕ) → tablet_in (flat_map both list) at ≡ tablet_in list (at / 2)
both_at [] at = refl
both_at (tablet ∷ rest) zero = refl
both_at (tablet ∷ rest) (suc zero) = refl
both_at (tablet ∷ rest) (suc (suc at)) = let e : suc (suc at) / 2 ≡ suc (at / 2) = omega arith in rw e (both_at rest at)

-- the pairs of a split map
lefts_of_both : (list : List Tablet) → map (λ (pair : Tablet × Tablet). pair.0) (pairs (flat_map both list)) ≡ list
lefts_of_both [] = refl
lefts_of_both (tablet ∷ rest) = ap (λ l. tablet ∷ l) (lefts_of_both rest)

same_of_both : (list : List Tablet) (at : ℕ) → SameAt (flat_map both list) at
same_of_both list at =
    let e : 2 * at / 2 ≡ at = omega arith in
    let f : (2 * at + 1) / 2 ≡ at = omega arith in
    rw (both_at list (2 * at), both_at list (2 * at + 1), e, f) (same_set_itself (tablet_in list at).replicas)

still_of_both : (list : List Tablet) → least_moving list ≡ None → least_moving (flat_map both list) ≡ None
still_of_both list none =
    no_place is_moving (flat_map both list) no_tablet
    (λ k below.
    let inside : k / 2 < length list = omega (arith, length-both list) in
    let e : tablet_in (flat_map both list) k ≡ tablet_in list (k / 2) = both_at list k in
    rw e (none_passes is_moving list no_tablet none (k / 2) inside))

pub split_then_merge : (tablets : Tablets) → least_moving tablets.list ≡ None → MergeEnds (split_of tablets) tablets (Ok tt)
split_then_merge tablets none =
    let log2 : tablets.log2 + 1 - 1 ≡ tablets.log2 = omega arith in
    let list : map (λ (pair : Tablet × Tablet). pair.0) (pairs (flat_map both tablets.list)) ≡ tablets.list = lefts_of_both tablets.list in
    let made : ℕ → List Tablet → Tablets = λ n l. record { log2 = n; list = l } in (
      still_of_both tablets.list none,
      none_apart (flat_map both tablets.list) (λ k below. same_of_both tablets.list k),
      sym (ap (λ n. made n (map (λ (pair : Tablet × Tablet). pair.0) (pairs (flat_map both tablets.list)))) log2 ∙ ap (made tablets.log2) list),
    )

pub split_keeps : (tablets : Tablets) (token : ℤ) → tablets.log2 < 10 → replicas_at (split_of tablets) token ≡ replicas_at tablets token
split_keeps tablets token below =
    ap (λ (t : Tablet). t.replicas)
    (both_at tablets.list (tablet_at (tablets.log2 + 1) token) ∙ ap (tablet_in tablets.list) (parent_tablet tablets.log2 (offset token) (omega arith)))

merged_half : (tablets : Tablets) (half at : ℕ) → least_apart tablets.list ≡ None → half < length tablets.list / 2 → half ≡ at / 2 → same_set (tablet_in (merge_of tablets).list half).replicas (tablet_in tablets.list at).replicas ≡ true
merged_half tablets half at none below e =
    rw (left_at tablets.list half below)
    (elim (cases_lt (2 * half) at) [
      | inl odd ↦ let f : at ≡ 2 * half + 1 = omega arith in rw f (same_at tablets.list half none below)
      | inr even ↦ let f : at ≡ 2 * half = omega arith in rw f (same_set_itself (tablet_in tablets.list (2 * half)).replicas)
    ])

pub merge_keeps : (tablets : Tablets) (token : Token) → IsMap tablets.log2 tablets.list → 0 < tablets.log2 → least_apart tablets.list ≡ None → same_set (replicas_at (merge_of tablets) token.value) (replicas_at tablets token.value) ≡ true
merge_keeps tablets token is_map above none =
    let e : tablets.log2 - 1 + 1 ≡ tablets.log2 = omega arith in
    let pow : 2 ^ tablets.log2 ≡ 2 * 2 ^ (tablets.log2 - 1) = (rw e at (twice (tablets.log2 - 1))) in
    let at : tablet_at tablets.log2 token.value < 2 ^ tablets.log2 = tablet_below tablets.log2 (offset token.value) (omega (arith, is_map.few)) (offset_below token.value token.is_token) in
    let half : tablet_at tablets.log2 token.value / 2 ≡ tablet_at (tablets.log2 - 1) token.value =
    (rw e at (parent_tablet (tablets.log2 - 1) (offset token.value) (omega (arith, is_map.few)))) in
    merged_half tablets (tablet_at (tablets.log2 - 1) token.value) (tablet_at tablets.log2 token.value) none (omega (arith, is_map.count)) (sym half)
