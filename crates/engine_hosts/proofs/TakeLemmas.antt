-- A host takes a message: its event is due and suits the plan, or its skip has its cause.
use Rattle.std.proofs.Common.{ap, arith, subst, sym, ◌∙◌}
use Rattle.std.proofs.lemmas.Bool.Decides.{nat_tests}
use Rattle.std.specs.Prelude.{Err, None, Ok, Option, Result, Some, nat_lt, true, ℕ, ◌<◌, ◌∷◌, ◌≡◌}
use Rattle.base_ids.specs.Names.{same_actor}
use Rattle.base_ids.specs.declared.ids.Actor.{Actor}
use Rattle.base_ids.specs.declared.ids.Actor.TheVariants.{Host as ByHost}
use Rattle.base_ids.specs.declared.ids.HostId.{HostId}
use Rattle.base_ids.specs.declared.ids.MsgRef.{MsgRef}
use Rattle.base_ids.specs.declared.ids.Session.{Session}
use Rattle.base_ids.specs.declared.rules.EventRule.{EventRule}
use Rattle.cluster_history.specs.History.{History, message_at}
use Rattle.cluster_history.specs.Messages.{addressee}
use Rattle.cluster_history.specs.declared.data.Event.{Event}
use Rattle.cluster_history.specs.declared.data.Message.{Message}
use Rattle.host_core.specs.Host.{HostView, host_rule}
use Rattle.host_core.specs.declared.data.HostInput.{HostInput}
use Rattle.plan_facts.specs.Own.{own_count, taken_count}
use Rattle.plan_facts.specs.Plan.{most_takes}
use Rattle.plan_facts.specs.Skips.{IsCaused, is_others}
use Rattle.plan_facts.specs.Suits.{Suits}
use Rattle.plan_facts.specs.declared.skips.SkipCause.{SkipCause}
use Rattle.plan_facts.specs.declared.skips.SkipCause.TheVariants.{NotTrue, Wrong}
use Rattle.plan_facts.proofs.CauseLemmas.{message-later}
use Rattle.run_plan.specs.declared.plan.RunPlan.{RunPlan}
use Rattle.engine_desk.specs.Chairs.{HasTurned, Holds, IsLater, Known}
use Rattle.engine_desk.specs.Desks.{DeskTurned, DeskView, IsDesk, IsFetched, IsSeated, skip_of, skipping, taking}
use Rattle.engine_desk.proofs.DeskLemmas.{desk_took, skipped_kept}
use Rattle.engine_desk.proofs.EnabledLemmas.{enabled_by}
use Rattle.engine_desk.proofs.LaterLemmas.{kept}
use Rattle.engine_desk.proofs.SameLemmas.{same_skipped}
use Rattle.engine_players.specs.Hosts.{IsHost, IsHostDue, IsHostPlayed, host_entry}
use Rattle.engine_players.proofs.HostLemmas.{not_true_caused}
use Rattle.host_ties.specs.HostTies.{host_view}
use Rattle.engine_hosts.specs.Notes.{IsNoted, NotesView}
use Rattle.engine_hosts.specs.Turns.{HasAdded, HasEntered, HasSkipped, HasTaken, IsAtHost, IsStill, IsTaken}
use Rattle.engine_hosts.specs.Ways.{IsWay, event_by, input_in, pull_in_message}
use Rattle.engine_hosts.specs.declared.way.Way.{Way}
use Rattle.engine_hosts.specs.declared.way.Way.TheVariants.{Answers, Cleans, Serves, TakesChunk}
use Rattle.engine_hosts.proofs.TurnLemmas.{added_on, event_added, no_more_on, no_more_same}
use Rattle.engine_hosts.proofs.WayLemmas.{way_author, way_enabled, way_gives, way_suits, way_takes, way_untrue}

-- ---- an event

way_holds : (known : Known) (way : Way) (host : HostId) (at : MsgRef) → Holds known (event_by way host at)
way_holds known Serves host at = tt
way_holds known Answers host at = tt
way_holds known Cleans host at = tt
way_holds known TakesChunk host at = tt

pub way_due : (desk : DeskView) (host : HostView) (name : HostId) (at : MsgRef) (message : Message) (way : Way) (event : Event) (input : HostInput) → name ≡ host.host → IsHost desk.known host → desk.held ≡ Some at → message_at desk.known.seen at ≡ Some message → IsWay name message way → event ≡ event_by way name at → input_in message ≡ Some input → host_rule host input ≡ None → IsHostDue desk host event input
way_due desk host name at message way event input named is held found by event_is given may =
    let opening = desk.known.opening in
    let seen = desk.known.seen in
    let mine : same_actor (addressee message) (ByHost host.host) ≡ true = ap (λ (h : HostId). same_actor (addressee message) (ByHost h)) (sym named) ∙ by.mine in
    let may_seen : host_rule (host_view opening seen host.host) input ≡ None = ap (λ (v : HostView). host_rule v input) (sym is.view) ∙ may in
    subst (λ (e : Event). IsHostDue desk host e input) (sym (event_is ∙ ap (λ (h : HostId). event_by way h at) named))
    (record {
      author = way_author way host.host at;
      enabled = enabled_by desk.known (event_by way host.host at) (way_enabled opening seen host.host at message way input found by.is given mine may_seen);
      input_is = way_gives seen host.host at message way input found by.is given;
      holds = way_holds desk.known way host.host at;
      held = held ∙ way_takes way host.host at;
    })

pub way_suits_seen : (plan : RunPlan) (desk : DeskView) (host : HostView) (name : HostId) (at : MsgRef) (way : Way) (event : Event) (taken : ℕ) → name ≡ host.host → IsHost desk.known host → event ≡ event_by way name at → taken ≡ taken_count desk.known.actor desk.known.seen at → taken < most_takes plan → Suits plan desk.known.opening desk.known.seen event
way_suits_seen plan desk host name at way event taken named is event_is counted few =
    let same : taken_count (ByHost name) desk.known.seen at ≡ taken = ap (λ (a : Actor). taken_count a desk.known.seen at) (ap ByHost named ∙ sym is.actor) ∙ sym counted in
    let fewer : nat_lt (taken_count (ByHost name) desk.known.seen at) (most_takes plan) ≡ true = grind (arith, nat_tests) in
    subst (Suits plan desk.known.opening desk.known.seen) (sym event_is) (way_suits plan desk.known.opening desk.known.seen way name at fewer)

pub entered : (desk after : DeskView) (host played : HostView) (name : HostId) (at : MsgRef) (message : Message) (way : Way) (event : Event) (input : HostInput) (number : ℕ) → name ≡ host.host → IsWay name message way → event ≡ event_by way name at → input_in message ≡ Some input → IsHostPlayed desk host event input (Ok number) after played → HasEntered desk host at message way after
entered desk after host played name at message way event input number named by event_is given p =
    record {
      input = input;
      way_is = by.is;
      input_is = given;
      added =
          subst (λ (e : Event). HasAdded desk.known (host_entry host e input) after.known) (event_is ∙ ap (λ (h : HostId). event_by way h at) named)
          (event_added desk after host played event input number p);
    }

-- ---- a skip

pub record IsSkip (plan : RunPlan) (name : HostId) (desk new : DeskView) (host : HostView) (notes : NotesView) (at : MsgRef) (cause : SkipCause) : Type 0 where
  pub still : IsStill plan desk new
  pub at_host : IsAtHost plan name new host notes
  pub taken : HasSkipped desk at cause new

pub skipped_so : (plan : RunPlan) (name : HostId) (desk new : DeskView) (host : HostView) (notes : NotesView) (at : MsgRef) (cause : SkipCause) → IsDesk plan desk → IsHost desk.known host → name ≡ host.host → IsNoted desk.known name notes → desk.held ≡ Some at → ((at : MsgRef) → desk.held ≡ Some at → new ≡ skipping cause desk at) → IsCaused plan desk.known.opening desk.known.actor desk.known.seen (skip_of cause desk at) cause → IsSkip plan name desk new host notes at cause
skipped_so plan name desk new host notes at cause d is named n held skip caused =
    let skipped = skip at held in
    let whole = skipped_kept plan desk new cause at d held skipped caused in
    let known : new.known ≡ desk.known = ap (λ (d : DeskView). d.known) skipped in
    record {
      still = record { kept = whole; same = same_skipped desk new cause at skipped; takes = ap (λ (d : DeskView). d.takes) skipped };
      at_host = record {
        kept = whole;
        host_is = subst (λ (k : Known). IsHost k host) (sym known) is;
        named = named;
        noted = subst (λ (k : Known). IsNoted k name notes) (sym known) n;
        free = ap (λ (d : DeskView). d.held) skipped;
      };
      taken = record {
        none = no_more_same desk.known new.known known d.seated.run;
        skipped = ap (λ (d : DeskView). d.skips) skipped ∙ ap (λ (k : Known). record { at = at; after = own_count k.actor k.seen; cause = cause } ∷ desk.skips) (sym known);
      };
    }

pub wrong_so : (plan : RunPlan) (desk : DeskView) (host : HostView) (name : HostId) (at : MsgRef) (message : Message) → name ≡ host.host → IsHost desk.known host → message_at desk.known.seen at ≡ Some message → is_others (ByHost name) (Some message) ≡ true → IsCaused plan desk.known.opening desk.known.actor desk.known.seen (skip_of Wrong desk at) Wrong
wrong_so plan desk host name at message named is found wrong =
    ap (λ (a : Actor). is_others a (message_at desk.known.seen at)) (is.actor ∙ ap ByHost (sym named)) ∙ ap (is_others (ByHost name)) found ∙ wrong

pub untrue_so : (plan : RunPlan) (desk : DeskView) (host : HostView) (at : MsgRef) (message : Message) (input : HostInput) (broken : EventRule) → IsSeated desk.known → IsHost desk.known host → message_at desk.known.seen at ≡ Some message → input_in message ≡ Some input → host_rule host input ≡ Some broken → IsCaused plan desk.known.opening desk.known.actor desk.known.seen (skip_of NotTrue desk at) NotTrue
untrue_so plan desk host at message input broken seated is found given rule =
    let untrue = way_untrue host message input broken given rule in
    not_true_caused plan desk host at untrue.ask seated is (found ∙ ap Some untrue.is) untrue.untrue

-- ---- a message that was fetched

pub at_none : (plan : RunPlan) (name : HostId) (old new : DeskView) (host : HostView) (notes : NotesView) → IsAtHost plan name old host notes → new ≡ taking None old → IsAtHost plan name new host notes
at_none plan name old new host notes a is =
    subst (λ (d : DeskView). IsAtHost plan name d host notes) (sym is)
    (record { kept = desk_took plan old None a.kept a.free; host_is = a.host_is; named = a.named; noted = a.noted; free = a.free })

found_later : (known : Known) (now : History) (at : MsgRef) (message : Message) → IsLater known.opening known.actor known.seen now → message_at known.seen at ≡ Some message → message_at now at ≡ Some message
found_later known now at message later found =
    kept known.opening known.actor (λ history. message_at history at ≡ Some message) (λ history other legal foreign is. message-later history other at message is) known.seen now later found

pub taken_found : (desk new : DeskView) (host : HostView) (at : MsgRef) (message : Message) (became : Result Way SkipCause) → IsTaken desk host at message became new → message_at desk.known.seen at ≡ Some message → message_at new.known.seen at ≡ Some message
taken_found desk new host at message (Ok way) t found =
    let now = t.added.now in
    subst (λ (h : History). message_at h at ≡ Some message) (sym t.added.is)
    (message-later now (host_entry host (event_by way host.host at) t.input) at message (found_later desk.known now at message t.added.later found))
taken_found desk new host at message (Err cause) t found = found_later desk.known new.known.seen at message t.none found

pub taken_on : (old mid new : DeskView) (host : HostView) (at : MsgRef) (message : Message) (became : Result Way SkipCause) → HasTurned old.known mid.known → mid.skips ≡ old.skips → IsTaken mid host at message became new → IsTaken old host at message became new
taken_on old mid new host at message (Ok way) t skips k =
    record {
      input = k.input;
      way_is = k.way_is;
      input_is = k.input_is;
      added = added_on old.known mid.known new.known (host_entry host (event_by way host.host at) k.input) t k.added;
    }
taken_on old mid new host at message (Err cause) t skips k =
    record { none = no_more_on old.known mid.known new.known t k.none; skipped = k.skipped ∙ ap (λ l. skip_of cause new at ∷ l) skips }

pub fetched_skips : (old new : DeskView) (at : MsgRef) → DeskTurned (taking (Some at) old) new → new.skips ≡ old.skips
fetched_skips old new at t = ap (λ (d : DeskView). d.skips) t.is

pub take_so : (old mid new : DeskView) (host : HostView) (at : MsgRef) (message : Message) (session : Option Session) (became : Result Way SkipCause) → IsFetched old (Ok (Some (at, message))) mid → session ≡ pull_in_message message → IsTaken mid host at message became new → HasTaken old host (record { at = at; session = session; became = became }) new
take_so old mid new host at message session became fetched spoken taken =
    record {
      message = message;
      found = taken_found mid new host at message became taken fetched.1;
      session_is = spoken;
      became = taken_on old mid new host at message became fetched.0.turned (fetched_skips old mid at fetched.0) taken;
    }
