-- What an actor took: its entries' messages, and others of which it made no entry.
use Rattle.std.specs.Prelude.{Bool, List, None, Option, Some, [], false, if◌then◌else◌, nat_le, option_to_list, true, ℕ, ◌++◌, ◌+◌, ◌==◌, ◌∷◌, ◌≡◌, ◌≤◌}
use Rattle.base_ids.specs.Names.{same_actor}
use Rattle.base_ids.specs.declared.ids.Actor.{Actor}
use Rattle.base_ids.specs.declared.ids.Actor.TheVariants.{Host as ByHost}
use Rattle.base_ids.specs.declared.ids.MsgRef.{MsgRef}
use Rattle.cluster_history.specs.Held.{has_done}
use Rattle.cluster_history.specs.History.{History, is_by, message_at}
use Rattle.cluster_history.specs.Messages.{addressee}
use Rattle.cluster_history.specs.Rules.{is_so}
use Rattle.cluster_history.specs.Topology.{applied_state, floor_of}
use Rattle.cluster_history.specs.declared.data.Message.{Message}
use Rattle.cluster_history.specs.declared.data.Message.TheVariants.{Ask as AskSent}
use Rattle.cluster_history.specs.declared.data.Opening.{Opening}
use Rattle.plan_facts.specs.Own.{own_count, own_past, taken_count, taken_ref}
use Rattle.plan_facts.specs.Plan.{most_takes}
use Rattle.run_plan.specs.declared.plan.RunPlan.{RunPlan}
use Rattle.plan_facts.specs.declared.skips.Skip.{Skip}
use Rattle.plan_facts.specs.declared.skips.SkipCause.{SkipCause}
use Rattle.plan_facts.specs.declared.skips.SkipCause.TheVariants.{NotTrue, Repeat, Stopped, Wrong}

-- the messages skipped when the actor had so many entries, the newest first
abbrev pub skipped_at : ℕ → List Skip → List MsgRef
skipped_at count [] = []
skipped_at count (skip ∷ skips) =
    if skip.after == count then skip.at ∷ skipped_at count skips else skipped_at count skips

-- what the actor took, the newest first: each skip stands after as many of its entries as it says
abbrev pub took_of : Actor → History → List Skip → List MsgRef
took_of actor [] skips = skipped_at 0 skips
took_of actor (entry ∷ history) skips =
    if is_by actor entry.event
    then skipped_at (own_count actor history + 1) skips
    ++ (option_to_list (taken_ref entry.event) ++ took_of actor history skips)
    else took_of actor history skips

-- the message is there, and another's
abbrev pub is_others : Actor → Option Message → Bool
is_others actor None = false
is_others actor (Some message) = if same_actor (addressee message) actor then false else true

-- the message is an ask of something that is not so on this host
abbrev pub IsNotSo : Opening → History → Actor → Option Message → Type 0
IsNotSo opening history (ByHost host) (Some (AskSent ask)) =
    is_so (floor_of history host) (applied_state opening history host) (has_done opening history host) ask.what ≡ false
IsNotSo opening history actor message = is_others actor message ≡ true

-- why a message was skipped, by the history that the actor has seen
abbrev pub IsCaused : RunPlan → Opening → Actor → History → Skip → SkipCause → Type 0
IsCaused plan opening actor history skip Wrong = is_others actor (message_at history skip.at) ≡ true
IsCaused plan opening actor history skip NotTrue =
    IsNotSo opening (own_past actor skip.after history) actor (message_at history skip.at)
IsCaused plan opening actor history skip Repeat =
    nat_le (most_takes plan) (taken_count actor (own_past actor skip.after history) skip.at) ≡ true
IsCaused plan opening actor history skip Stopped = Unit {0}

-- each was made after no more entries than there are, for its cause
abbrev pub AreCaused : RunPlan → Opening → Actor → History → List Skip → Type 0
AreCaused plan opening actor history [] = Unit {0}
AreCaused plan opening actor history (skip ∷ skips) =
    (skip.after ≤ own_count actor history)
    × IsCaused plan opening actor history skip skip.cause
    × AreCaused plan opening actor history skips
