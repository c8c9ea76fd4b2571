-- A coordinator's turn.
use Rattle.std.proofs.Common.{ap, arith, refl, subst, sym, ◌∙◌}
use Rattle.std.proofs.lemmas.Bool.Decides.{nat_tests}
use Rattle.std.specs.Result.{IsErr}
use Rattle.std.specs.Prelude.{Err, List, None, Ok, Result, Some, length, true, ℕ, ◌*◌, ◌<◌, ◌∷◌, ◌≡◌}
use Rattle.barrier_core.specs.declared.data.What.{What}
use Rattle.base_ids.specs.declared.ids.Actor.{Actor}
use Rattle.base_ids.specs.declared.ids.Actor.TheVariants.{Topo as ByTopo}
use Rattle.base_ids.specs.declared.ids.HostId.{HostId}
use Rattle.base_ids.specs.declared.ids.MsgRef.{MsgRef}
use Rattle.base_ids.specs.declared.rules.Appended.{Appended}
use Rattle.topo_state.specs.State.{Topology}
use Rattle.topo_state.specs.declared.command.Command.{Command}
use Rattle.topo_state.specs.declared.command.Rule.{Rule}
use Rattle.cluster_history.specs.History.{History, actor_of, message_at, output_at}
use Rattle.cluster_history.specs.Messages.{is_for, is_report}
use Rattle.cluster_history.specs.Openings.{HasHost, HasPart}
use Rattle.cluster_history.specs.Rules.{message_rule}
use Rattle.cluster_history.specs.Topology.{seen_state}
use Rattle.cluster_history.specs.declared.data.Event.{Event}
use Rattle.cluster_history.specs.declared.data.Event.TheVariants.{Ask, Hear, Look, Propose}
use Rattle.cluster_history.specs.declared.data.Message.{Message}
use Rattle.cluster_history.specs.declared.data.Opening.{Opening}
use Rattle.cluster_history.specs.declared.data.Output.{Output}
use Rattle.history_facts.proofs.LegalLemmas.{message_sent}
use Rattle.topo_coord.specs.Topo.{TopoView, topo_after, topo_out, topo_rule}
use Rattle.topo_coord.specs.declared.data.TopoInput.{TopoInput}
use Rattle.topo_coord.specs.declared.data.TopoInput.TheVariants.{Ask as AskInput, Hear as HearInput, HearNotMine, Look as LookInput, Propose as ProposeInput}
use Rattle.topo_ties.specs.TopoTies.{IsTopoPlay, heard_input, proposal_outcome, topo_input, topo_outputs, topo_view}
use Rattle.topo_ties.proofs.TopoTies.{topos_play, topos_stay}
use Rattle.plan_facts.specs.Moves.{Proposal, proposals_of, with_proposal}
use Rattle.plan_facts.specs.Own.{last_begun, taken_count}
use Rattle.plan_facts.proofs.OtherLemmas.{proposals_of-other}
use Rattle.plan_facts.specs.Plan.{most_takes, moves_of}
use Rattle.plan_facts.specs.Skips.{IsCaused, is_others}
use Rattle.plan_facts.specs.Suits.{IsAbout, Suits}
use Rattle.run_plan.specs.declared.plan.RunPlan.{RunPlan}
use Rattle.plan_facts.specs.declared.skips.SkipCause.TheVariants.{Wrong}
use Rattle.engine_desk.specs.Chairs.{HasCommitted, HasTurned, IsLater, Known, MayCommit}
use Rattle.engine_desk.specs.Desks.{DeskTurned, DeskView, IsDesk, IsDeskCommit, IsSameDesk, IsSeated, skip_of}
use Rattle.engine_desk.specs.declared.chair.Refused.{Refused}
use Rattle.engine_desk.proofs.DeskLemmas.{desk_committed, desk_turned}
use Rattle.engine_desk.proofs.EnabledLemmas.{enabled_by}
use Rattle.engine_desk.proofs.LaterLemmas.{since}
use Rattle.engine_desk.proofs.SameLemmas.{same_committed, same_turned}
use Rattle.engine_players.specs.Coordinators.{IsTopo}
use Rattle.engine_players.specs.Inputs.{kept_input}
use Rattle.engine_players.proofs.StepLemmas.{actors_step}
use Rattle.engine_topos.specs.Notes.{IsNoted, NotesView, asked_in}
use Rattle.engine_topos.specs.Turns.{IsAtTopo, IsPlain, IsTopoDue, IsTopoPlayed, WaysStay, plain_outputs, topo_entry}
use Rattle.engine_topos.proofs.NoteLemmas.{noted_since}

kept_given : (opening : Opening) (history : History) (event : Event) (given : TopoInput) → kept_input opening history event ≡ Some given → topo_input opening history event ≡ Some given
kept_given opening history (Look topo) given h = cc h
kept_given opening history event given h = h

plain_same : (outcome : ℕ → Command → Appended Rule) (topo : TopoView) (input : TopoInput) → IsPlain input → plain_outputs (topo_out topo input) ≡ topo_outputs outcome (topo_out topo input)
plain_same outcome topo (LookInput len state) p = refl
plain_same outcome topo (AskInput to what) p = refl
plain_same outcome topo (HearInput fact) p = refl
plain_same outcome topo HearNotMine p = refl
plain_same outcome topo (ProposeInput command) p = absurd p

plain_fits : (topo : TopoView) (input : TopoInput) → IsPlain input → topo_rule topo input ≡ None
plain_fits topo (LookInput len state) p = refl
plain_fits topo (AskInput to what) p = refl
plain_fits topo (HearInput fact) p = refl
plain_fits topo HearNotMine p = refl
plain_fits topo (ProposeInput command) p = absurd p

pub due_rule : (desk : DeskView) (topo : TopoView) (event : Event) (input : TopoInput) → IsTopoDue desk topo event input → topo_rule topo input ≡ None
due_rule desk topo event input due = plain_fits topo input due.plain

topo_play : (desk : DeskView) (topo : TopoView) (event : Event) (input : TopoInput) → IsSeated desk.known → IsTopoDue desk topo event input → IsTopoPlay desk.known.opening desk.known.seen topo.host event input
topo_play desk topo event input seated due =
    topos_play desk.known.opening desk.known.seen event topo.host input seated.valid seated.run.legal due.author due.enabled
    (kept_given desk.known.opening desk.known.seen event input due.input_is)

pub topo_may : (desk : DeskView) (topo : TopoView) (event : Event) (input : TopoInput) → IsSeated desk.known → IsTopo desk.known topo → IsTopoDue desk topo event input → MayCommit desk.known (topo_entry topo event input)
topo_may desk topo event input seated is due =
    record {
      author = due.author ∙ sym is.actor;
      there = subst (HasPart desk.known.opening) (is.actor ∙ sym due.author) seated.there;
      fit = due.fit;
      enabled = enabled_by desk.known event due.enabled;
      outputs =
          plain_same (proposal_outcome desk.known.opening desk.known.seen) topo input due.plain
          ∙ ap (λ (v : TopoView). topo_outputs (proposal_outcome desk.known.opening desk.known.seen) (topo_out v input)) is.view
          ∙ (topo_play desk topo event input seated due).outputs;
      holds = due.holds;
    }

pub later_of : (known : Known) (topo : HostId) (now : History) → known.actor ≡ ByTopo topo → IsLater known.opening known.actor known.seen now → IsLater known.opening (ByTopo topo) known.seen now
later_of known topo now is later = subst (λ (a : Actor). IsLater known.opening a known.seen now) is later

committed_topo : (known after : Known) (topo : TopoView) (event : Event) (input : TopoInput) (number : ℕ) → IsSeated known → IsTopo known topo → actor_of event ≡ ByTopo topo.host → kept_input known.opening known.seen event ≡ Some input → HasCommitted known (topo_entry topo event input) number after → IsTopo after (topo_after topo input)
committed_topo known after topo event input number seated is author given c =
    let entry = topo_entry topo event input in
    let step = actors_step.topos known.opening topo.host entry input known.seen c.now seated.valid (later_of known topo.host c.now is.actor c.later) c.next author given in
    let played : topo_after topo input ≡ topo_view known.opening (entry ∷ c.now) topo.host = ap (λ (v : TopoView). topo_after v input) is.view ∙ step in
    let named : (topo_after topo input).host ≡ topo.host = ap (λ (v : TopoView). v.host) played in
    subst (λ (k : Known). IsTopo k (topo_after topo input)) (sym c.is)
    (record {
      actor = is.actor ∙ ap ByTopo (sym named);
      view = played ∙ ap (topo_view known.opening (entry ∷ c.now)) (sym named);
    })

pub topo_played : (desk after : DeskView) (topo : TopoView) (event : Event) (input : TopoInput) (result : Result ℕ Refused) → IsSeated desk.known → IsTopo desk.known topo → IsTopoDue desk topo event input → IsDeskCommit desk (topo_entry topo event input) result after → IsTopoPlayed desk topo event input result after (topo_after topo input)
topo_played desk after topo event input (Ok number) seated is due c =
    (c, committed_topo desk.known after.known topo event input number seated is due.author due.input_is c.committed)
topo_played desk after topo event input (Err refused) seated is due c = c

pub lost_played : (desk after : DeskView) (topo played : TopoView) (event : Event) (input : TopoInput) (result : Result ℕ Refused) → IsErr result → DeskTurned desk after → IsTopoPlayed desk topo event input result after played
lost_played desk after topo played event input (Ok number) e t = cc e
lost_played desk after topo played event input (Err refused) e t = t

pub event_kept : (plan : RunPlan) (desk after : DeskView) (topo played : TopoView) (event : Event) (input : TopoInput) (result : Result ℕ Refused) → IsDesk plan desk → IsTopo desk.known topo → IsTopoDue desk topo event input → Suits plan desk.known.opening desk.known.seen event → IsTopoPlayed desk topo event input result after played → IsDesk plan after
event_kept plan desk after topo played event input (Ok number) d is due suits p =
    desk_committed plan desk (topo_entry topo event input) number after d (due.author ∙ sym is.actor) due.held suits p.0
event_kept plan desk after topo played event input (Err refused) d is due suits p = desk_turned plan desk after d p

pub event_takes : (desk after : DeskView) (topo played : TopoView) (event : Event) (input : TopoInput) (result : Result ℕ Refused) → IsTopoPlayed desk topo event input result after played → after.takes ≡ desk.takes
event_takes desk after topo played event input (Ok number) p = ap (λ (d : DeskView). d.takes) p.0.is
event_takes desk after topo played event input (Err refused) p = ap (λ (d : DeskView). d.takes) p.is

-- ---- ways

pub ways_since : (opening : Opening) (topo : HostId) (old now : History) → IsLater opening (ByTopo topo) old now → proposals_of opening now topo ≡ proposals_of opening old topo
ways_since opening topo old now later =
    since opening (ByTopo topo) (λ h. proposals_of opening h topo) (λ history entry legal other. proposals_of-other opening history entry topo other) old now later

pub ways_turned : (old new : Known) (topo : HostId) → old.actor ≡ ByTopo topo → HasTurned old new → WaysStay old topo new
ways_turned old new topo is t =
    ap (λ (k : Known). proposals_of k.opening k.seen topo) t.is ∙ ways_since old.opening topo old.seen t.now (later_of old topo t.now is t.later)

no_proposal : (topo : HostId) (state : Topology) (event : Event) (outputs : List Output) (proposals : List Proposal) (opening : Opening) (history : History) (input : TopoInput) → kept_input opening history event ≡ Some input → IsPlain input → with_proposal topo state event outputs proposals ≡ proposals
no_proposal topo state (Propose by command) outputs proposals opening history input is p = let same : ProposeInput command ≡ input = cc is in let wrong : IsPlain (ProposeInput command) = subst IsPlain (sym same) p in absurd wrong
no_proposal topo state event outputs proposals opening history input is p = refl

pub ways_played : (desk after : DeskView) (topo played : TopoView) (event : Event) (input : TopoInput) (result : Result ℕ Refused) → IsTopo desk.known topo → IsTopoDue desk topo event input → IsTopoPlayed desk topo event input result after played → WaysStay desk.known topo.host after.known
ways_played desk after topo played event input (Ok number) is due p =
    let c = p.0.committed in
    let opening = desk.known.opening in
    let entry = topo_entry topo event input in
    ap (λ (k : Known). proposals_of k.opening k.seen topo.host) c.is
    ∙ no_proposal topo.host (seen_state opening c.now topo.host) event entry.outputs (proposals_of opening c.now topo.host) opening desk.known.seen input due.input_is due.plain
    ∙ ways_since opening topo.host desk.known.seen c.now (later_of desk.known topo.host c.now is.actor c.later)
ways_played desk after topo played event input (Err refused) is due p = ways_turned desk.known after.known topo.host is.actor p.turned

-- ---- what an event leaves

named_by : (a b : HostId) → ByTopo a ≡ ByTopo b → a ≡ b
named_by a b e = cc e

pub named_after : (desk after : DeskView) (topo played : TopoView) (event : Event) (input : TopoInput) (number : ℕ) → IsTopo desk.known topo → IsTopoPlayed desk topo event input (Ok number) after played → topo.host ≡ played.host
named_after desk after topo played event input number is p =
    let actor : after.known.actor ≡ desk.known.actor = ap (λ (k : Known). k.actor) p.0.committed.is in
    named_by topo.host played.host (sym is.actor ∙ sym actor ∙ p.1.actor)

noted_played : (desk after : DeskView) (topo played : TopoView) (event : Event) (input : TopoInput) (number : ℕ) (old new : NotesView) → IsTopo desk.known topo → ((history : History) → IsNoted history topo.host old → IsNoted (topo_entry topo event input ∷ history) topo.host new) → IsNoted desk.known.seen topo.host old → IsTopoPlayed desk topo event input (Ok number) after played → IsNoted after.known.seen topo.host new
noted_played desk after topo played event input number old new is on n p =
    let c = p.0.committed in
    subst (λ (k : Known). IsNoted k.seen topo.host new) (sym c.is)
    (on c.now (noted_since desk.known.opening topo.host desk.known.seen c.now old (later_of desk.known topo.host c.now is.actor c.later) n))

pub at_played : (plan : RunPlan) (desk after : DeskView) (topo played : TopoView) (event : Event) (input : TopoInput) (number : ℕ) (old new : NotesView) → IsTopo desk.known topo → IsDesk plan after → ((history : History) → IsNoted history topo.host old → IsNoted (topo_entry topo event input ∷ history) topo.host new) → IsNoted desk.known.seen topo.host old → IsTopoPlayed desk topo event input (Ok number) after played → IsAtTopo plan after played new
at_played plan desk after topo played event input number old new is d on n p =
    record {
      kept = d;
      topo_is = p.1;
      noted = subst (λ (h : HostId). IsNoted after.known.seen h new) (named_after desk after topo played event input number is p) (noted_played desk after topo played event input number old new is on n p);
      free = ap (λ (d : DeskView). d.held) p.0.is;
    }

-- ---- a message that is heard

pub hear_due : (desk : DeskView) (topo : TopoView) (at : MsgRef) (message : Message) (input : TopoInput) → desk.held ≡ Some at → message_at desk.known.seen at ≡ Some message → heard_input (Some message) ≡ Some input → is_for (ByTopo topo.host) is_report message ≡ true → IsPlain input → IsTopoDue desk topo (Hear topo.host at) input
hear_due desk topo at message input held found is mine plain =
    let there = message_sent (output_at desk.known.seen at) message found in
    record {
      author = refl;
      enabled = ap (message_rule (is_for (ByTopo topo.host) is_report)) there ∙ rw mine refl;
      fit = tt;
      input_is = ap heard_input found ∙ is;
      plain = plain;
      holds = tt;
      held = held;
    }

pub hear_suits : (plan : RunPlan) (desk : DeskView) (topo : TopoView) (at : MsgRef) (taken : ℕ) → IsTopo desk.known topo → taken ≡ taken_count desk.known.actor desk.known.seen at → taken < most_takes plan → Suits plan desk.known.opening desk.known.seen (Hear topo.host at)
hear_suits plan desk topo at taken is counted few =
    let same : taken_count (ByTopo topo.host) desk.known.seen at ≡ taken = ap (λ (a : Actor). taken_count a desk.known.seen at) (sym is.actor) ∙ sym counted in
    (tt, grind (arith, nat_tests))

pub wrong_topo : (plan : RunPlan) (desk : DeskView) (topo : TopoView) (at : MsgRef) (message : Message) → IsTopo desk.known topo → message_at desk.known.seen at ≡ Some message → is_others (ByTopo topo.host) (Some message) ≡ true → IsCaused plan desk.known.opening desk.known.actor desk.known.seen (skip_of Wrong desk at) Wrong
wrong_topo plan desk topo at message is found wrong = (λ i. is_others (is.actor i) (found i)) ∙ wrong

-- a skip leaves all but the desk's own lists
pub at_skipped : (plan : RunPlan) (desk after : DeskView) (topo : TopoView) (notes : NotesView) → after.known ≡ desk.known → after.held ≡ None → IsDesk plan after → IsTopo desk.known topo → IsNoted desk.known.seen topo.host notes → IsAtTopo plan after topo notes
at_skipped plan desk after topo notes is free d t n =
    record {
      kept = d;
      topo_is = subst (λ (k : Known). IsTopo k topo) (sym is) t;
      noted = subst (λ (k : Known). IsNoted k.seen topo.host notes) (sym is) n;
      free = free;
    }

pub ways_same : (old new : Known) (topo : HostId) → new ≡ old → WaysStay old topo new
ways_same old new topo is = ap (λ (k : Known). proposals_of k.opening k.seen topo) is

pub ways_on : (a b c : Known) (topo : HostId) → WaysStay a topo b → WaysStay b topo c → WaysStay a topo c
ways_on a b c topo first second = second ∙ first

-- a turn leaves the coordinator
pub topo_turned : (old new : Known) (topo : TopoView) → HasTurned old new → IsTopo old topo → IsTopo new topo
topo_turned old new topo t is =
    subst (λ (k : Known). IsTopo k topo) (sym t.is)
    (record { actor = is.actor; view = is.view ∙ sym (since old.opening (ByTopo topo.host) (λ h. topo_view old.opening h topo.host) (λ history entry legal other. topos_stay old.opening history entry topo.host other) old.seen t.now (later_of old topo.host t.now is.actor t.later)) })

pub noted_turned : (old new : Known) (topo : HostId) (notes : NotesView) → old.actor ≡ ByTopo topo → HasTurned old new → IsNoted old.seen topo notes → IsNoted new.seen topo notes
noted_turned old new topo notes is t n =
    subst (λ (k : Known). IsNoted k.seen topo notes) (sym t.is) (noted_since old.opening topo old.seen t.now notes (later_of old topo t.now is t.later) n)

-- ---- an ask

pub ask_due : (desk : DeskView) (topo : TopoView) (host : HostId) (what : What) → HasHost desk.known.opening host → desk.held ≡ None → IsTopoDue desk topo (Ask topo.host host what) (AskInput host what)
ask_due desk topo host what there free =
    record { author = refl; enabled = refl; fit = there; input_is = refl; plain = tt; holds = tt; held = free }

pub ask_suits : (plan : RunPlan) (desk : DeskView) (topo : TopoView) (notes : NotesView) (host : HostId) (what : What) (asked moves : ℕ) → IsTopo desk.known topo → IsNoted desk.known.seen topo.host notes → IsAbout topo.state notes.begun what → asked ≡ asked_in host what notes.asks → moves ≡ length (moves_of plan topo.host) → asked < plan.patience * moves → Suits plan desk.known.opening desk.known.seen (Ask topo.host host what)
ask_suits plan desk topo notes host what asked moves is n about counted many few =
    let state : topo.state ≡ seen_state desk.known.opening desk.known.seen topo.host = ap (λ (v : TopoView). v.state) is.view in
    let count = sym (n.asks_are host what) ∙ sym counted in
    let within : asked < plan.patience * length (moves_of plan topo.host) = subst (λ k. asked < plan.patience * k) many few in (
      (
        subst (λ (s : Topology). IsAbout s (last_begun desk.known.seen topo.host) what) state (subst (λ b. IsAbout topo.state b what) n.begun_is about),
        grind (arith, nat_tests),
      ),
      tt,
    )

pub event_same : (desk after : DeskView) (topo played : TopoView) (event : Event) (input : TopoInput) (result : Result ℕ Refused) → IsTopoPlayed desk topo event input result after played → IsSameDesk desk after
event_same desk after topo played event input (Ok number) p = same_committed desk after (topo_entry topo event input) number p.0
event_same desk after topo played event input (Err refused) p = same_turned desk after p
