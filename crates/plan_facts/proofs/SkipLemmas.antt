-- What an actor took, as its history and its skips grow.
use Rattle.std.proofs.Common.{ap, arith, refl}
use Rattle.std.proofs.lemmas.Bool.Decides.{nat_tests}
use Rattle.std.specs.Prelude.{List, [], false, if◌then◌else◌, option_to_list, true, ℕ, ◌++◌, ◌+◌, ◌==◌, ◌∷◌, ◌≡◌, ◌≤◌, ◌<◌}
use Rattle.base_ids.specs.declared.ids.Actor.{Actor}
use Rattle.cluster_history.specs.History.{History, is_by}
use Rattle.cluster_history.specs.declared.data.Entry.{Entry}
use Rattle.plan_facts.specs.Own.{own_count, taken_ref}
use Rattle.plan_facts.specs.Skips.{skipped_at, took_of}
use Rattle.plan_facts.specs.declared.skips.Skip.{Skip}

-- each was made after no more entries than there are
abbrev pub ArePlaced : ℕ → List Skip → Type 0
ArePlaced count [] = Unit {0}
ArePlaced count (skip ∷ skips) = (skip.after ≤ count) × ArePlaced count skips

pub placed_later : (count later : ℕ) (skips : List Skip) → count ≤ later → ArePlaced count skips → ArePlaced later skips
placed_later count later [] le h = tt
placed_later count later (skip ∷ skips) le h =
    let first = h.0 in (omega (arith, first, le), placed_later count later skips le h.1)

none_yet : (count : ℕ) (skips : List Skip) → ArePlaced count skips → skipped_at (count + 1) skips ≡ []
none_yet count [] h = refl
none_yet count (skip ∷ skips) h =
    let first = h.0 in
    let e : (skip.after == count + 1) ≡ false = grind (arith, nat_tests, first) in
    rw e (none_yet count skips h.1)

-- past an entry of another
pub took-other : (actor : Actor) (history : History) (entry : Entry) (skips : List Skip) → is_by actor entry.event ≡ false → took_of actor (entry ∷ history) skips ≡ took_of actor history skips
took-other actor history entry skips e = rw e refl

-- past one of its own
pub took-own : (actor : Actor) (history : History) (entry : Entry) (skips : List Skip) → is_by actor entry.event ≡ true → ArePlaced (own_count actor history) skips → took_of actor (entry ∷ history) skips ≡ option_to_list (taken_ref entry.event) ++ took_of actor history skips
took-own actor history entry skips e placed =
    rw e (ap (λ l. l ++ (option_to_list (taken_ref entry.event) ++ took_of actor history skips)) (none_yet (own_count actor history) skips placed))

-- with one more skip: at its place it stands in front, and elsewhere nothing changes
skipped-here : (skip : Skip) (skips : List Skip) (count : ℕ) → skip.after ≡ count → skipped_at count (skip ∷ skips) ≡ skip.at ∷ skipped_at count skips
skipped-here skip skips count is =
    let e : (skip.after == count) ≡ true = grind (arith, nat_tests, is) in rw e refl

skipped-elsewhere : (skip : Skip) (skips : List Skip) (count : ℕ) → count < skip.after → skipped_at count (skip ∷ skips) ≡ skipped_at count skips
skipped-elsewhere skip skips count less =
    let e : (skip.after == count) ≡ false = grind (arith, nat_tests, less) in rw e refl

took-below : (actor : Actor) (history : History) (skip : Skip) (skips : List Skip) → own_count actor history < skip.after → took_of actor history (skip ∷ skips) ≡ took_of actor history skips
took-below actor [] skip skips less = skipped-elsewhere skip skips 0 less
took-below actor (entry ∷ history) skip skips less =
    (elim (is_by actor entry.event) as (λ b.
    (if b then own_count actor history + 1 else own_count actor history) < skip.after →
    (if b then skipped_at (own_count actor history + 1) (skip ∷ skips) ++ (option_to_list (taken_ref entry.event) ++ took_of actor history (skip ∷ skips)) else took_of actor history (skip ∷ skips))
    ≡ (if b then skipped_at (own_count actor history + 1) skips ++ (option_to_list (taken_ref entry.event) ++ took_of actor history skips) else took_of actor history skips)) [
      | true ↦ λ less. λ i. skipped-elsewhere skip skips (own_count actor history + 1) less i ++ (option_to_list (taken_ref entry.event) ++ took-below actor history skip skips (omega (arith, less)) i)
      | false ↦ λ less. took-below actor history skip skips less
    ]) less

pub took-skip : (actor : Actor) (history : History) (skip : Skip) (skips : List Skip) → skip.after ≡ own_count actor history → took_of actor history (skip ∷ skips) ≡ skip.at ∷ took_of actor history skips
took-skip actor [] skip skips is = skipped-here skip skips 0 is
took-skip actor (entry ∷ history) skip skips is =
    (elim (is_by actor entry.event) as (λ b.
    skip.after ≡ (if b then own_count actor history + 1 else own_count actor history) →
    (if b then skipped_at (own_count actor history + 1) (skip ∷ skips) ++ (option_to_list (taken_ref entry.event) ++ took_of actor history (skip ∷ skips)) else took_of actor history (skip ∷ skips))
    ≡ skip.at ∷ (if b then skipped_at (own_count actor history + 1) skips ++ (option_to_list (taken_ref entry.event) ++ took_of actor history skips) else took_of actor history skips)) [
      | true ↦ λ is. λ i. skipped-here skip skips (own_count actor history + 1) is i ++ (option_to_list (taken_ref entry.event) ++ took-below actor history skip skips (omega (arith, is)) i)
      | false ↦ λ is. took-skip actor history skip skips is
    ]) is
