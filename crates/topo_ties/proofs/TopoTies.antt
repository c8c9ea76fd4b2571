-- A coordinator along a history.
use Rattle.std.proofs.Common.{IfSome, List, None, Option, Some, [], ap, arith, false, length, refl, subst, sym, true, ◌∙◌, ◌∷◌, ◌≡◌, ℕ}
use Rattle.base_ids.specs.declared.ids.Actor.{Actor}
use Rattle.base_ids.specs.declared.ids.Actor.TheVariants.{Topo as ByTopo}
use Rattle.base_ids.specs.declared.ids.HostId.{HostId}
use Rattle.base_ids.specs.declared.ids.MsgRef.{MsgRef}
use Rattle.barrier_core.specs.declared.data.Told.{Told}
use Rattle.topo_state.specs.State.{Topology}
use Rattle.topo_state.specs.Tables.{have_distinct_ids}
use Rattle.topo_state.specs.declared.command.Command.{Command}
use Rattle.topo_coord.specs.Topo.{TopoView}
use Rattle.topo_coord.specs.declared.data.TopoInput.TheVariants.{Ask as AskInput, Hear as HearInput, HearNotMine, Look as LookInput, Propose as ProposeInput}
use Rattle.group0_log.specs.Log.{state_at}
use Rattle.group0_log.proofs.StateLemmas.{at_first, at_last}
use Rattle.log_law.proofs.LawLemmas.{sound_states_law}
use Rattle.cluster_history.specs.History.{History, actor_of, is_restart_of, message_at, output_at}
use Rattle.cluster_history.specs.Legal.{IsLegalHistory, broken_rule, outputs_of}
use Rattle.cluster_history.specs.Messages.{is_for, is_report}
use Rattle.cluster_history.specs.Openings.{IsValidOpening, opening_state}
use Rattle.cluster_history.specs.Topology.{accepted_command, evidence_of, last_state, log_of, look_of, seen_state}
use Rattle.cluster_history.specs.declared.data.Event.{Event}
use Rattle.cluster_history.specs.declared.data.Event.TheVariants.{Answer, Apply, Ask, Begin, Clean, Hear, Look, Propose, Pull, Quiet, Restart, Serve, Take, TakeChunk, Timeout}
use Rattle.cluster_history.specs.declared.data.Message.{Message}
use Rattle.cluster_history.specs.declared.data.Message.TheVariants.{Answer as AnswerSent, Ask as AskSent, Chunk as ChunkSent, ChunkAsk as ChunkAskSent, Fact as FactSent, NotMine, Read as ReadSent, Write as WriteSent}
use Rattle.cluster_history.specs.declared.data.Opening.{Opening}
use Rattle.cluster_history.proofs.FrameLemmas.{evidence_of-other, look_of-other}
use Rattle.cluster_history.proofs.LogLemmas.{state_at-stays}
use Rattle.cluster_history.proofs.StayLemmas.{seen_state-other}
use Rattle.cluster_history.proofs.WithinLemmas.{look_within}
use Rattle.history_facts.proofs.HostLemmas.{log_legal}
use Rattle.history_facts.proofs.LegalLemmas.{addressed, taken_by}
use Rattle.base_ids.proofs.NameLemmas.{same_actor-refl, same_host-refl}
use Rattle.topo_ties.specs.TopoTies.{HasTopoInput, IsTopoPlay, ProposalsAreJudged, ToposBegin, ToposHaveInputs, ToposPlay, ToposRestart, ToposStay, heard_input, topo_input, topo_view}
use Rattle.topo_ties.proofs.RuleLemmas.{same_rule}

-- ---- the rule of a proposal

-- the tables of the state that was seen have distinct numbers
seen_distinct : (opening : Opening) (history : History) (host : HostId) → IsValidOpening opening → IsLegalHistory opening history → have_distinct_ids (seen_state opening history host).tables ≡ true
seen_distinct opening history host valid legal =
    ((sound_states_law (opening_state opening) valid.topology (log_of history) (log_legal opening history legal)).states (look_of history host)).distinct

pub proposals_are_judged : ProposalsAreJudged
proposals_are_judged opening history host command valid legal =
    same_rule (seen_state opening history host) (evidence_of history host) command (seen_distinct opening history host valid legal)

-- ---- an event of the coordinator

abbrev host_in : HostId → Actor → HostId
host_in none (ByTopo host) = host
host_in none actor = none

looks : (opening : Opening) (history : History) (host : HostId) → IsTopoPlay opening history host (Look host) (LookInput (length (log_of history)) (last_state opening history))
looks opening history host =
    let last : last_state opening history ≡ state_at (opening_state opening) (log_of history) (length (log_of history)) = sym (at_last (opening_state opening) (log_of history) (length (log_of history)) (omega arith)) in
    record {
      fits = refl;
      outputs = refl;
      after = rw (same_host-refl host) (ap (λ (state : Topology). let v : TopoView = record (topo_view opening history host) { look = length (log_of history); state = state } in v) last);
    }

hears : (opening : Opening) (history : History) (host : HostId) (at : MsgRef) (message : Option Message) → message_at history at ≡ message → IfSome (heard_input message) (IsTopoPlay opening history host (Hear host at))
hears opening history host at None is = tt
hears opening history host at (Some (FactSent fact)) is =
    record { fits = refl; outputs = refl; after = rw (same_host-refl host, is) refl }
hears opening history host at (Some (NotMine from to session)) is =
    record { fits = refl; outputs = refl; after = rw (same_host-refl host, is) refl }
hears opening history host at (Some (WriteSent ask)) is = tt
hears opening history host at (Some (ReadSent ask)) is = tt
hears opening history host at (Some (AnswerSent answer)) is = tt
hears opening history host at (Some (ChunkAskSent ask)) is = tt
hears opening history host at (Some (ChunkSent chunk)) is = tt
hears opening history host at (Some (AskSent ask)) is = tt

proposes : (opening : Opening) (history : History) (host : HostId) (command : Command) → IsValidOpening opening → IsLegalHistory opening history → broken_rule opening history (Propose host command) ≡ None → IsTopoPlay opening history host (Propose host command) (ProposeInput command)
proposes opening history host command valid legal enabled =
    let event = Propose host command in
    let stays = state_at-stays (opening_state opening) (accepted_command event (outputs_of opening history event)) (log_of history) (look_of history host) (look_within history host) in
    record {
      fits = sym (proposals_are_judged opening history host command valid legal) ∙ enabled;
      outputs = refl;
      after = ap (λ (state : Topology). let v : TopoView = record (topo_view opening history host) { state = state } in v) (sym stays);
    }

pub topos_play : ToposPlay
topos_play opening history event host input valid legal mine enabled given =
    subst (λ i. IfSome i (IsTopoPlay opening history host event)) given (plays event mine enabled)
  where
    plays : (event : Event) → actor_of event ≡ ByTopo host → broken_rule opening history event ≡ None → IfSome (topo_input opening history event) (IsTopoPlay opening history host event)
    plays (Look topo) mine enabled =
        let is : topo ≡ host = ap (host_in host) mine in
        subst (λ h. IsTopoPlay opening history host (Look h) (LookInput (length (log_of history)) (last_state opening history))) (sym is) (looks opening history host)
    plays (Ask topo other what) mine enabled =
        let is : topo ≡ host = ap (host_in host) mine in
        subst (λ h. IsTopoPlay opening history host (Ask h other what) (AskInput other what)) (sym is) (record { fits = refl; outputs = refl; after = refl })
    plays (Hear topo at) mine enabled =
        let is : topo ≡ host = ap (host_in host) mine in
        subst (λ h. IfSome (heard_input (message_at history at)) (IsTopoPlay opening history host (Hear h at))) (sym is) (hears opening history host at (message_at history at) refl)
    plays (Propose topo command) mine enabled =
        let is : topo ≡ host = ap (host_in host) mine in
        let mine_enabled = subst (λ h. broken_rule opening history (Propose h command) ≡ None) is enabled in
        subst (λ h. IsTopoPlay opening history host (Propose h command) (ProposeInput command)) (sym is) (proposes opening history host command valid legal mine_enabled)
    plays (Begin lane operation version) mine enabled = tt
    plays (Take lane at) mine enabled = tt
    plays (Timeout lane op) mine enabled = tt
    plays (Apply by) mine enabled = tt
    plays (Quiet by version) mine enabled = tt
    plays (Serve by at) mine enabled = tt
    plays (Answer by at) mine enabled = tt
    plays (Clean by at) mine enabled = tt
    plays (Pull by session) mine enabled = tt
    plays (TakeChunk by at) mine enabled = tt
    plays (Restart actor) mine enabled = tt

-- ---- an event of the coordinator gives it an input

heard : (opening : Opening) (history : History) (topo : HostId) (at : MsgRef) (message : Message) → message_at history at ≡ Some message → is_report message ≡ true → HasTopoInput opening history (Hear topo at)
heard opening history topo at (FactSent fact) is report = record { input = HearInput fact; gives = ap heard_input is }
heard opening history topo at (NotMine from to session) is report = record { input = HearNotMine; gives = ap heard_input is }
heard opening history topo at (WriteSent ask) is report = cc report
heard opening history topo at (ReadSent ask) is report = cc report
heard opening history topo at (AnswerSent answer) is report = cc report
heard opening history topo at (ChunkAskSent ask) is report = cc report
heard opening history topo at (ChunkSent chunk) is report = cc report
heard opening history topo at (AskSent ask) is report = cc report

pub topos_have_inputs : ToposHaveInputs
topos_have_inputs opening history event host mine apart enabled = gives event mine apart enabled
  where
    gives : (event : Event) → actor_of event ≡ ByTopo host → is_restart_of (ByTopo host) event ≡ false → broken_rule opening history event ≡ None → HasTopoInput opening history event
    gives (Look topo) mine apart enabled = record { input = LookInput (length (log_of history)) (last_state opening history); gives = refl }
    gives (Ask topo other what) mine apart enabled = record { input = AskInput other what; gives = refl }
    gives (Hear topo at) mine apart enabled =
        let taken = taken_by (is_for (ByTopo topo) is_report) (output_at history at) enabled in
        heard opening history topo at taken.message taken.sent (addressed (ByTopo topo) is_report taken.message taken.taken).0
    gives (Propose topo command) mine apart enabled = record { input = ProposeInput command; gives = refl }
    gives (Restart actor) mine apart enabled =
        let restarts : is_restart_of (ByTopo host) (Restart actor) ≡ true = rw mine (same_actor-refl (ByTopo host)) in cc
    gives (Begin lane operation version) mine apart enabled = cc mine
    gives (Take lane at) mine apart enabled = cc mine
    gives (Timeout lane op) mine apart enabled = cc mine
    gives (Apply by) mine apart enabled = cc mine
    gives (Quiet by version) mine apart enabled = cc mine
    gives (Serve by at) mine apart enabled = cc mine
    gives (Answer by at) mine apart enabled = cc mine
    gives (Clean by at) mine apart enabled = cc mine
    gives (Pull by session) mine apart enabled = cc mine
    gives (TakeChunk by at) mine apart enabled = cc mine

-- ---- other events

abbrev view_with : Opening → HostId → ℕ → Topology → List Told → TopoView
view_with opening host look state facts =
    record { host = host; opening = opening_state opening; look = look; state = state; facts = facts }

pub topos_stay : ToposStay
topos_stay opening history entry host other =
    ap (λ look. view_with opening host look (seen_state opening (entry ∷ history) host) (evidence_of (entry ∷ history) host)) (look_of-other history entry host other)
    ∙ ap (λ state. view_with opening host (look_of history host) state (evidence_of (entry ∷ history) host)) (seen_state-other opening history entry host other)
    ∙ ap (view_with opening host (look_of history host) (seen_state opening history host)) (evidence_of-other history entry host other)

pub topos_restart : ToposRestart
topos_restart opening history host =
    rw (same_host-refl host) (ap (λ (state : Topology). let v : TopoView = record { host = host; opening = opening_state opening; look = 0; state = state; facts = [] } in v) (at_first (opening_state opening) (log_of history)))

pub topos_begin : ToposBegin
topos_begin opening host = refl
