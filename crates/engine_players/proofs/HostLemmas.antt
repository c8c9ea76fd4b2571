-- A host plays its event, and skips a question whose answer is no.
use Rattle.std.proofs.Common.{ap, arith, refl, subst, sym, ◌∙◌}
use Rattle.std.proofs.lemmas.Bool.Decides.{nat_tests}
use Rattle.std.specs.Result.{IsErr}
use Rattle.std.specs.Prelude.{Bool, Err, List, None, Ok, OnOk, Option, Result, Some, [], false, if◌then◌else◌, nat_lt, true, ℕ, ◌∷◌, ◌≡◌, ◌≤◌}
use Rattle.barrier_core.specs.declared.data.Ask.{Ask}
use Rattle.barrier_core.specs.declared.data.What.{What}
use Rattle.barrier_core.specs.declared.data.What.TheVariants.{Clean as CleanOf, Done, Drain, Fence as FenceAt, Ready}
use Rattle.base_ids.specs.declared.ids.Actor.{Actor}
use Rattle.base_ids.specs.declared.ids.Actor.TheVariants.{Host as ByHost}
use Rattle.base_ids.specs.declared.ids.HostId.{HostId}
use Rattle.base_ids.specs.declared.ids.MsgRef.{MsgRef}
use Rattle.base_ids.specs.declared.ids.Version.{Version}
use Rattle.base_ids.specs.declared.rules.EventRule.TheVariants.{VersionAhead}
use Rattle.base_ids.proofs.NameLemmas.{same_host-refl}
use Rattle.cluster_history.specs.Held.{has_done}
use Rattle.cluster_history.specs.History.{History, actor_of, is_by, message_at}
use Rattle.cluster_history.specs.Legal.{IsFitEvent, IsLegalHistory}
use Rattle.cluster_history.specs.Openings.{HasPart}
use Rattle.cluster_history.specs.Rules.{is_so}
use Rattle.cluster_history.specs.Topology.{applied_state, floor_of, version_of}
use Rattle.cluster_history.specs.declared.data.Entry.{Entry}
use Rattle.cluster_history.specs.declared.data.Event.{Event}
use Rattle.cluster_history.specs.declared.data.Event.TheVariants.{Ask as AskEvent, Propose, Quiet}
use Rattle.cluster_history.specs.declared.data.Message.{Message}
use Rattle.cluster_history.specs.declared.data.Message.TheVariants.{Ask as AskSent}
use Rattle.cluster_history.specs.declared.data.Opening.{Opening}
use Rattle.host_core.specs.Host.{CanTake, HostView, holds_here, host_after, host_out, host_rule}
use Rattle.host_core.specs.declared.data.HostInput.{HostInput}
use Rattle.host_core.specs.declared.data.HostInput.TheVariants.{Quiet as QuietInput}
use Rattle.host_ties.specs.HostTies.{IsHostPlay, host_input, host_outputs, host_view}
use Rattle.host_ties.proofs.HostTies.{host_plays, host_stays}
use Rattle.host_ties.proofs.PullLemmas.{host_pulls}
use Rattle.plan_facts.specs.Own.{own_count, own_past}
use Rattle.plan_facts.specs.Skips.{IsCaused, IsNotSo}
use Rattle.run_plan.specs.declared.plan.RunPlan.{RunPlan}
use Rattle.plan_facts.specs.declared.skips.SkipCause.TheVariants.{NotTrue}
use Rattle.plan_facts.proofs.CauseLemmas.{past-all, past-none}
use Rattle.engine_desk.specs.Chairs.{HasCommitted, IsEnabled, IsLater, Known, MayCommit}
use Rattle.engine_desk.specs.Desks.{DeskTurned, DeskView, IsDeskCommit, IsSeated, skip_of}
use Rattle.engine_desk.specs.declared.chair.Refused.{Refused}
use Rattle.engine_desk.proofs.LaterLemmas.{Stays}
use Rattle.engine_players.specs.Hosts.{IsHost, IsHostDue, IsHostPlayed, host_entry}
use Rattle.engine_players.proofs.StepLemmas.{actors_step}

-- ---- what a due event finds

reached : (version newest : Version) → version.0 ≤ newest.0 → (if nat_lt newest.0 version.0 then Some VersionAhead else None) ≡ None
reached version newest le =
    (elim (nat_lt newest.0 version.0) as (λ b. nat_lt newest.0 version.0 ≡ b → (if b then Some VersionAhead else None) ≡ None) [
      | true ↦ λ less. let wrong : ⊥ = grind (arith, nat_tests) in absurd wrong
      | false ↦ λ less. refl
    ]) refl

quiet_play : (opening : Opening) (history : History) (host : HostId) (version : Version) → version.0 ≤ (version_of opening history host).0 → IsHostPlay opening history host (Quiet host version) (QuietInput version)
quiet_play opening history host version le =
    record {
      rule = reached version (version_of opening history host) le;
      fits = tt;
      outputs = refl;
      after = rw (same_host-refl host) refl;
    }

event_play : (known : Known) (host : HostId) (event : Event) (input : HostInput) → IsSeated known → actor_of event ≡ ByHost host → IsEnabled known event → host_input known.seen event ≡ Some input → IsHostPlay known.opening known.seen host event input
event_play known host (Quiet by version) input seated mine enabled given =
    let named : by ≡ host = cc mine in
    let is : QuietInput version ≡ input = cc given in
    subst (λ (h : HostId). IsHostPlay known.opening known.seen h (Quiet by version) input) named
    (subst (λ (i : HostInput). IsHostPlay known.opening known.seen by (Quiet by version) i) is (quiet_play known.opening known.seen by version enabled))
event_play known host event input seated mine enabled given =
    host_plays known.opening known.seen event host input seated.valid seated.run.legal mine enabled seated.run.commands given

pub host_play : (desk : DeskView) (host : HostView) (event : Event) (input : HostInput) → IsSeated desk.known → IsHost desk.known host → IsHostDue desk host event input → IsHostPlay desk.known.opening desk.known.seen host.host event input
host_play desk host event input seated is due =
    event_play desk.known host.host event input seated due.author due.enabled due.input_is

pub host_rule_is : (desk : DeskView) (host : HostView) (event : Event) (input : HostInput) → IsSeated desk.known → IsHost desk.known host → IsHostDue desk host event input → host_rule host input ≡ None
host_rule_is desk host event input seated is due =
    ap (λ (v : HostView). host_rule v input) is.view ∙ (host_play desk host event input seated is due).rule

pub host_fits : (desk : DeskView) (host : HostView) (event : Event) (input : HostInput) → IsSeated desk.known → IsHost desk.known host → IsHostDue desk host event input → CanTake host input
host_fits desk host event input seated is due =
    subst (λ (v : HostView). CanTake v input) (sym is.view) (host_play desk host event input seated is due).fits

fit_event : (opening : Opening) (event : Event) (host : HostId) → actor_of event ≡ ByHost host → IsFitEvent opening event
fit_event opening (AskEvent topo to what) host is = cc is
fit_event opening (Propose topo command) host is = cc is
fit_event opening event host is = tt

pub host_may : (desk : DeskView) (host : HostView) (event : Event) (input : HostInput) → IsSeated desk.known → IsHost desk.known host → IsHostDue desk host event input → MayCommit desk.known (host_entry host event input)
host_may desk host event input seated is due =
    record {
      author = due.author ∙ sym is.actor;
      there = subst (HasPart desk.known.opening) (is.actor ∙ sym due.author) seated.there;
      fit = fit_event desk.known.opening event host.host due.author;
      enabled = due.enabled;
      outputs = ap (λ (v : HostView). host_outputs host.host (host_out v input)) is.view ∙ (host_play desk host event input seated is due).outputs;
      holds = due.holds;
    }

-- ---- and what it leaves

committed_host : (desk : DeskView) (after : Known) (host : HostView) (event : Event) (input : HostInput) (number : ℕ) → IsSeated desk.known → IsHost desk.known host → IsHostDue desk host event input → HasCommitted desk.known (host_entry host event input) number after → IsHost after (host_after host input)
committed_host desk after host event input number seated is due c =
    let known = desk.known in
    let entry = host_entry host event input in
    let later : IsLater known.opening (ByHost host.host) known.seen c.now = subst (λ (a : Actor). IsLater known.opening a known.seen c.now) is.actor c.later in
    let step = actors_step.hosts known.opening host.host entry input known.seen c.now seated.valid later c.next due.author due.input_is in
    let played : host_after host input ≡ host_view known.opening (entry ∷ c.now) host.host = ap (λ (v : HostView). host_after v input) is.view ∙ step in
    let named : (host_after host input).host ≡ host.host = ap (λ (v : HostView). v.host) played in
    subst (λ (k : Known). IsHost k (host_after host input)) (sym c.is)
    (record { actor = is.actor ∙ ap ByHost (sym named); view = played ∙ ap (host_view known.opening (entry ∷ c.now)) (sym named) })

pub host_played : (desk after : DeskView) (host : HostView) (event : Event) (input : HostInput) (result : Result ℕ Refused) → IsSeated desk.known → IsHost desk.known host → IsHostDue desk host event input → IsDeskCommit desk (host_entry host event input) result after → IsHostPlayed desk host event input result after (host_after host input)
host_played desk after host event input (Ok number) seated is due c = (c, committed_host desk after.known host event input number seated is due c.committed)
host_played desk after host event input (Err refused) seated is due c = c

pub lost_host : (desk after : DeskView) (host played : HostView) (event : Event) (input : HostInput) (result : Result ℕ Refused) → IsErr result → DeskTurned desk after → IsHostPlayed desk host event input result after played
lost_host desk after host played event input (Ok number) e t = cc e
lost_host desk after host played event input (Err refused) e t = t

-- ---- what the own past of all own entries says

pub at_own_past : {X : Type 0} (opening : Opening) (actor : Actor) (f : History → X) → Stays opening actor f → (history : History) → IsLegalHistory opening history → f (own_past actor (own_count actor history) history) ≡ f history
at_own_past opening actor f stays [] legal = refl
at_own_past opening actor f stays (entry ∷ history) legal =
    (elim (is_by actor entry.event) as (λ b. is_by actor entry.event ≡ b → f (own_past actor (own_count actor (entry ∷ history)) (entry ∷ history)) ≡ f (entry ∷ history)) [
      | true ↦ λ e. ap f (past-all actor history entry e)
      | false ↦ λ e. ap f (past-none actor history entry e) ∙ at_own_past opening actor f stays history legal.1 ∙ sym (stays history entry legal e)
    ]) refl

-- what a host can tell is what its history says
here_is : (opening : Opening) (history : History) (host : HostId) (what : What) → holds_here (host_view opening history host) what ≡ is_so (floor_of history host) (applied_state opening history host) (has_done opening history host) what
here_is opening history host (Drain version) = refl
here_is opening history host (FenceAt version) = refl
here_is opening history host (Done session) = (host_pulls opening history host session).done
here_is opening history host (CleanOf session) = refl
here_is opening history host (Ready number) = refl

pub not_true_caused : (plan : RunPlan) (desk : DeskView) (host : HostView) (at : MsgRef) (ask : Ask) → IsSeated desk.known → IsHost desk.known host → message_at desk.known.seen at ≡ Some (AskSent ask) → holds_here host ask.what ≡ false → IsCaused plan desk.known.opening desk.known.actor desk.known.seen (skip_of NotTrue desk at) NotTrue
not_true_caused plan desk host at ask seated is found untrue =
    let opening = desk.known.opening in
    let seen = desk.known.seen in
    let past = own_past desk.known.actor (own_count desk.known.actor seen) seen in
    let same : host_view opening past host.host ≡ host_view opening seen host.host =
    at_own_past opening desk.known.actor (λ h. host_view opening h host.host)
    (λ history entry legal other. host_stays opening history entry host.host legal (subst (λ (a : Actor). is_by a entry.event ≡ false) is.actor other)) seen seated.run.legal in
    let so : is_so (floor_of past host.host) (applied_state opening past host.host) (has_done opening past host.host) ask.what ≡ false =
    sym (here_is opening past host.host ask.what) ∙ ap (λ (v : HostView). holds_here v ask.what) (same ∙ sym is.view) ∙ untrue in
    subst (λ (a : Actor). IsNotSo opening past a (message_at seen at)) (sym is.actor)
    (subst (λ (m : Option Message). IsNotSo opening past (ByHost host.host) m) (sym found) so)
