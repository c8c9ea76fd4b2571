-- Maps of what is kept.
use Rattle.std.proofs.Common.{◌≡◌, ℕ, ◌+◌, ◌^◌, ◌==◌, ◌≤◌, ◌<◌, Bool, true, false, cond, ◌&&◌, Option, Some, None, List, [], ◌∷◌, ◌++◌, length, reverse, take, get_or, if◌then◌else◌, refl, sym, ◌∙◌, ap, append_assoc, arith}
use Rattle.std.specs.Ordering.{nat_cmp, ordering_then, is_eq}
use Rattle.std.specs.declared.cmp.Ordering.{Ordering}
use Rattle.std.specs.declared.cmp.Ordering.TheVariants.{Less, Equal, Greater}
use Rattle.std.specs.Map.{lookup}
use Rattle.std.proofs.lemmas.Bool.Decides.{nat_tests}
use Rattle.std.proofs.lemmas.List.{take_more, length-reverse, length-take, reverse-append}
use Rattle.base_ids.specs.declared.ids.LaneId.{LaneId}
use Rattle.base_ids.specs.Names.{same_lane}
use Rattle.cluster_history.specs.declared.data.Entry.{Entry}
use Rattle.overlap_law.specs.Counts.{is_at_lane, or_zero, count_at, AreCounts}
use Rattle.base_ids.proofs.NameLemmas.{same_lane-same}
use Rattle.history_facts.proofs.BegunLemmas.{begun_within}

pub is_eq-then : (a b : Ordering) → is_eq (ordering_then a b) ≡ (is_eq a && is_eq b)
is_eq-then Less b = refl
is_eq-then Equal b = refl
is_eq-then Greater b = refl

is_eq-nat_cmp : (a b : ℕ) → is_eq (nat_cmp a b) ≡ (a == b)
is_eq-nat_cmp a b = grind (arith, nat_tests)

pub is_at_lane-same : (a b : LaneId) → is_at_lane a b ≡ same_lane a b
is_at_lane-same a b =
    is_eq-then (nat_cmp a.host.0 b.host.0) (nat_cmp a.lane b.lane)
    ∙ ap (λ t. t && is_eq (nat_cmp a.lane b.lane)) (is_eq-nat_cmp a.host.0 b.host.0)
    ∙ ap (λ t. (a.host.0 == b.host.0) && t) (is_eq-nat_cmp a.lane b.lane)

pub count_next : (old new : List (LaneId × ℕ)) (lane : LaneId) (number : ℕ) → number ≡ count_at old lane + 1 → ((q : LaneId) → lookup (is_at_lane q) new ≡ cond (is_at_lane lane q) (Some number) (lookup (is_at_lane q) old)) → (other : LaneId) → count_at new other ≡ (if same_lane lane other then count_at old other + 1 else count_at old other)
count_next old new lane number is updates other =
    ap or_zero (updates other)
    ∙ ap (λ t. or_zero (cond t (Some number) (lookup (is_at_lane other) old))) (is_at_lane-same lane other)
    ∙ elim (same_lane lane other) as (λ t. same_lane lane other ≡ t → or_zero (cond t (Some number) (lookup (is_at_lane other) old)) ≡ cond t (count_at old other + 1) (count_at old other)) [
      | true ↦ λ h. is ∙ ap (λ l. count_at old l + 1) (same_lane-same lane other h)
      | false ↦ λ h. refl
    ] refl

-- a number that counts entries of a list fits
pub counts_fit : (entries : List Entry) (i : ℕ) (counts : List (LaneId × ℕ)) → AreCounts (reverse (take i entries)) counts → i < length entries → length entries < 2 ^ 64 → (lane : LaneId) → count_at counts lane + 1 < 2 ^ 64
counts_fit entries i counts are within fits lane =
    omega (arith, are lane, begun_within (reverse (take i entries)) lane, length-reverse (take i entries), length-take i entries)

-- the history of one entry more
pub history_more : (entries : List Entry) (i : ℕ) (entry : Entry) → i < length entries → entry ≡ get_or entries i entry → reverse (take (i + 1) entries) ≡ entry ∷ reverse (take i entries)
history_more entries i entry within is =
    ap reverse (take_more entries i entry within ∙ ap (λ e. take i entries ++ e ∷ []) (sym is))
    ∙ reverse-append (take i entries) (entry ∷ [])
