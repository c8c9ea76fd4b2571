-- Why a message was skipped stays so as the history grows.
use Rattle.std.proofs.Common.{ap, arith, refl, subst, sym, ◌∙◌}
use Rattle.std.proofs.lemmas.Bool.Decides.{nat_tests}
use Rattle.std.specs.Prelude.{List, None, Option, Some, [], false, nat_le, true, ℕ, ◌+◌, ◌∷◌, ◌≡◌, ◌≤◌}
use Rattle.base_ids.specs.declared.ids.Actor.{Actor}
use Rattle.base_ids.specs.declared.ids.Actor.TheVariants.{Host as ByHost, Lane as ByLane, Topo as ByTopo}
use Rattle.base_ids.specs.declared.ids.MsgRef.{MsgRef}
use Rattle.cluster_history.specs.History.{History, entry_at, is_by, message_at, message_of, output_of}
use Rattle.cluster_history.specs.declared.data.Entry.{Entry}
use Rattle.cluster_history.specs.declared.data.Message.{Message}
use Rattle.cluster_history.specs.declared.data.Opening.{Opening}
use Rattle.cluster_history.proofs.MessageLemmas.{entry-stays}
use Rattle.base_ids.proofs.NameLemmas.{and_false}
use Rattle.plan_facts.specs.Own.{own_count, own_past, taken_count}
use Rattle.plan_facts.specs.Plan.{most_takes}
use Rattle.plan_facts.specs.Skips.{AreCaused, IsCaused, IsNotSo, is_others}
use Rattle.run_plan.specs.declared.plan.RunPlan.{RunPlan}
use Rattle.plan_facts.specs.declared.skips.Skip.{Skip}
use Rattle.plan_facts.specs.declared.skips.SkipCause.{SkipCause}
use Rattle.plan_facts.specs.declared.skips.SkipCause.TheVariants.{NotTrue, Repeat, Stopped, Wrong}
use Rattle.plan_facts.proofs.OtherLemmas.{own_count-other, taken_count-other}
use Rattle.plan_facts.proofs.SkipLemmas.{ArePlaced}

-- a message that is there stays
pub message-later : (history : History) (entry : Entry) (at : MsgRef) (message : Message) → message_at history at ≡ Some message → message_at (entry ∷ history) at ≡ Some message
message-later history entry at message e = by_entry (entry_at history at.event) refl e
  where
    by_entry : (found : Option Entry) → entry_at history at.event ≡ found → message_of (output_of found at.out) ≡ Some message → message_at (entry ∷ history) at ≡ Some message
    by_entry None is f = cc f
    by_entry (Some there) is f = ap (λ (o : Option Entry). message_of (output_of o at.out)) (entry-stays history entry at.event there is) ∙ f

others_there : (actor : Actor) (message : Option Message) → is_others actor message ≡ true → (m : Message) × (message ≡ Some m)
others_there actor None e = cc e
others_there actor (Some m) e = (m, refl)

not_so_there : (opening : Opening) (past : History) (actor : Actor) (message : Option Message) → IsNotSo opening past actor message → (m : Message) × (message ≡ Some m)
not_so_there opening past actor None h = others_there actor None (none_not actor h)
  where
    none_not : (a : Actor) → IsNotSo opening past a None → is_others a None ≡ true
    none_not (ByHost host) h = h
    none_not (ByLane lane) h = h
    none_not (ByTopo host) h = h
not_so_there opening past actor (Some m) h = (m, refl)

-- the own past of a number stays, past an entry of another and past a later one
past-other : (actor : Actor) (count : ℕ) (history : History) (entry : Entry) → is_by actor entry.event ≡ false → own_past actor count (entry ∷ history) ≡ own_past actor count history
past-other actor count history entry e = rw e refl

past-later : (actor : Actor) (count : ℕ) (history : History) (entry : Entry) → count ≤ own_count actor history → own_past actor count (entry ∷ history) ≡ own_past actor count history
past-later actor count history entry le =
    let e : nat_le (own_count actor history + 1) count ≡ false = grind (arith, nat_tests) in
    let f = and_false (is_by actor entry.event) (nat_le (own_count actor history + 1) count) e in
    rw f refl

-- so a cause stays where the own past of its number does
caused-stays : (plan : RunPlan) (opening : Opening) (actor : Actor) (history : History) (entry : Entry) (skip : Skip) (cause : SkipCause) → own_past actor skip.after (entry ∷ history) ≡ own_past actor skip.after history → IsCaused plan opening actor history skip cause → IsCaused plan opening actor (entry ∷ history) skip cause
caused-stays plan opening actor history entry skip Wrong past h =
    let there = others_there actor (message_at history skip.at) h in
    ap (is_others actor) (message-later history entry skip.at there.0 there.1 ∙ sym there.1) ∙ h
caused-stays plan opening actor history entry skip NotTrue past h =
    let there = not_so_there opening (own_past actor skip.after history) actor (message_at history skip.at) h in
    let same : message_at (entry ∷ history) skip.at ≡ message_at history skip.at = message-later history entry skip.at there.0 there.1 ∙ sym there.1 in
    subst (λ (p : History). IsNotSo opening p actor (message_at (entry ∷ history) skip.at)) (sym past)
    (subst (λ (m : Option Message). IsNotSo opening (own_past actor skip.after history) actor m) (sym same) h)
caused-stays plan opening actor history entry skip Repeat past h =
    ap (λ (p : History). nat_le (most_takes plan) (taken_count actor p skip.at)) past ∙ h
caused-stays plan opening actor history entry skip Stopped past h = tt

pub all_caused-other : (plan : RunPlan) (opening : Opening) (actor : Actor) (history : History) (entry : Entry) (skips : List Skip) → is_by actor entry.event ≡ false → AreCaused plan opening actor history skips → AreCaused plan opening actor (entry ∷ history) skips
all_caused-other plan opening actor history entry [] e h = tt
all_caused-other plan opening actor history entry (skip ∷ skips) e h = (
  subst (λ n. skip.after ≤ n) (sym (own_count-other history entry actor e)) h.0,
  caused-stays plan opening actor history entry skip skip.cause (past-other actor skip.after history entry e) h.1,
  all_caused-other plan opening actor history entry skips e h.2,
)

pub all_caused-own : (plan : RunPlan) (opening : Opening) (actor : Actor) (history : History) (entry : Entry) (skips : List Skip) → is_by actor entry.event ≡ true → AreCaused plan opening actor history skips → AreCaused plan opening actor (entry ∷ history) skips
all_caused-own plan opening actor history entry [] e h = tt
all_caused-own plan opening actor history entry (skip ∷ skips) e h =
    let le = h.0 in (
      (let more : skip.after ≤ own_count actor history + 1 = omega (arith, le) in rw e more),
      caused-stays plan opening actor history entry skip skip.cause (past-later actor skip.after history entry le) h.1,
      all_caused-own plan opening actor history entry skips e h.2,
    )

pub caused_placed : (plan : RunPlan) (opening : Opening) (actor : Actor) (history : History) (skips : List Skip) → AreCaused plan opening actor history skips → ArePlaced (own_count actor history) skips
caused_placed plan opening actor history [] h = tt
caused_placed plan opening actor history (skip ∷ skips) h = (h.0, caused_placed plan opening actor history skips h.2)

-- what the own past of all own entries says is what the history says
pub past-all : (actor : Actor) (history : History) (entry : Entry) → is_by actor entry.event ≡ true → own_past actor (own_count actor (entry ∷ history)) (entry ∷ history) ≡ entry ∷ history
past-all actor history entry e =
    let le : nat_le (own_count actor history + 1) (own_count actor history + 1) ≡ true = grind (arith, nat_tests) in
    rw (e, le) refl

pub past-none : (actor : Actor) (history : History) (entry : Entry) → is_by actor entry.event ≡ false → own_past actor (own_count actor (entry ∷ history)) (entry ∷ history) ≡ own_past actor (own_count actor history) history
past-none actor history entry e =
    ap (λ n. own_past actor n (entry ∷ history)) (own_count-other history entry actor e) ∙ past-other actor (own_count actor history) history entry e

pub taken_past : (actor : Actor) (history : History) (at : MsgRef) → taken_count actor (own_past actor (own_count actor history) history) at ≡ taken_count actor history at
taken_past actor [] at = refl
taken_past actor (entry ∷ history) at =
    (elim (is_by actor entry.event) as (λ b. is_by actor entry.event ≡ b → taken_count actor (own_past actor (own_count actor (entry ∷ history)) (entry ∷ history)) at ≡ taken_count actor (entry ∷ history) at) [
      | true ↦ λ e. ap (λ (p : History). taken_count actor p at) (past-all actor history entry e)
      | false ↦ λ e. ap (λ (p : History). taken_count actor p at) (past-none actor history entry e) ∙ taken_past actor history at ∙ sym (taken_count-other history entry actor at e)
    ]) refl
