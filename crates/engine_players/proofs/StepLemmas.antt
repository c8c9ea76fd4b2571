-- The own step of an actor, and the three kinds.
use Rattle.std.proofs.Common.{ap, arith, refl, subst, sym, ◌∙◌}
use Rattle.std.specs.Prelude.{List, None, Option, Some, false, is_some, length, option_map, ℕ, ◌+◌, ◌∷◌, ◌≡◌, ◌≤◌}
use Rattle.base_ids.specs.declared.ids.Actor.{Actor}
use Rattle.base_ids.specs.declared.ids.Actor.TheVariants.{Host as ByHost, Lane as ByLane, Topo as ByTopo}
use Rattle.base_ids.specs.declared.ids.HostId.{HostId}
use Rattle.base_ids.specs.declared.ids.LaneId.{LaneId}
use Rattle.base_ids.specs.declared.ids.MsgRef.{MsgRef}
use Rattle.group0_log.specs.Log.{command_at}
use Rattle.topo_state.specs.declared.command.Command.{Command}
use Rattle.cluster_history.specs.Held.{chunk_in}
use Rattle.cluster_history.specs.History.{History, actor_of, is_by, message_at}
use Rattle.cluster_history.specs.Legal.{IsLegalHistory, IsNext, broken_rule, entry_of, outputs_of}
use Rattle.cluster_history.specs.Openings.{HasLane, IsValidOpening}
use Rattle.cluster_history.specs.Topology.{accepted_command, applied_count, log_of, with_command}
use Rattle.cluster_history.specs.declared.data.Entry.{Entry}
use Rattle.cluster_history.specs.declared.data.Event.{Event}
use Rattle.cluster_history.specs.declared.data.Event.TheVariants.{Answer, Apply, Ask, Begin, Clean, Hear, Look, Propose, Pull, Quiet, Restart, Serve, Take, TakeChunk, Timeout}
use Rattle.cluster_history.specs.declared.data.Message.{Message}
use Rattle.cluster_history.specs.declared.data.Opening.{Opening}
use Rattle.cluster_history.proofs.FrameLemmas.{applied_count-other}
use Rattle.log_law.proofs.PrefixLemmas.{command_at_older}
use Rattle.history_facts.proofs.LegalLemmas.{as_event}
use Rattle.host_core.specs.Host.{HostView, host_after, host_out}
use Rattle.host_core.specs.declared.data.HostInput.{HostInput}
use Rattle.host_core.specs.declared.data.HostInput.TheVariants.{Answer as AnswerInput, Apply as ApplyInput, Clean as CleanInput, TakeChunk as ChunkInput}
use Rattle.host_ties.specs.HostTies.{ask_in, host_input, host_outputs, host_view, served_input}
use Rattle.host_ties.proofs.HostTies.{host_plays, host_stays}
use Rattle.lane_core.specs.Lane.{LaneView, lane_after, lane_out}
use Rattle.lane_core.specs.declared.data.LaneInput.{LaneInput}
use Rattle.lane_ties.specs.LaneTies.{lane_input, lane_outputs, lane_view}
use Rattle.lane_ties.proofs.LaneTies.{lane_plays, lane_stays}
use Rattle.topo_coord.specs.Topo.{TopoView, topo_after, topo_out}
use Rattle.topo_coord.specs.declared.data.TopoInput.{TopoInput}
use Rattle.topo_ties.specs.TopoTies.{heard_input, proposal_outcome, topo_input, topo_outputs, topo_view}
use Rattle.topo_ties.proofs.TopoTies.{topos_play, topos_stay}
use Rattle.plan_facts.proofs.CauseLemmas.{message-later}
use Rattle.engine_desk.specs.Chairs.{IsLater, IsRun}
use Rattle.engine_desk.proofs.LaneLemmas.{input-stays, lane_step}
use Rattle.engine_desk.proofs.LaterLemmas.{kept, since}
use Rattle.engine_players.specs.Inputs.{kept_input}
use Rattle.engine_players.specs.Steps.{ActorsStep}

-- ---- any kind of actor

module _ {V I : Type 0} (opening : Opening) (actor : Actor)
    (view : History → V) (input : History → Event → Option I) (next : V → I → V)
    (stays : (history : History) (entry : Entry) → IsLegalHistory opening (entry ∷ history) → is_by actor entry.event ≡ false → view (entry ∷ history) ≡ view history)
    (input_stays : (history : History) (entry : Entry) (event : Event) (given : I) → actor_of event ≡ actor → is_by actor entry.event ≡ false → input history event ≡ Some given → input (entry ∷ history) event ≡ Some given)
    (plays : (history : History) (event : Event) (given : I) → IsRun opening history → actor_of event ≡ actor → broken_rule opening history event ≡ None → input history event ≡ Some given → next (view history) given ≡ view (entry_of opening history event ∷ history)) where
  pub own_step : (entry : Entry) (given : I) (seen now : History) → IsLater opening actor seen now → IsNext opening now entry → actor_of entry.event ≡ actor → input seen entry.event ≡ Some given → next (view seen) given ≡ view (entry ∷ now)
  own_step entry given seen now later came author is =
      let is_now : input now entry.event ≡ Some given = kept opening actor (λ h. input h entry.event ≡ Some given) (λ history other legal foreign h. input_stays history other entry.event given author foreign h) seen now later is in
      ap (λ v. next v given) (sym (since opening actor view stays seen now later))
      ∙ plays now entry.event given later.run author came.enabled is_now
      ∙ ap (λ (e : Entry). view (e ∷ now)) (sym (as_event opening now entry came))

-- ---- a message's input stays

by_message : {I : Type 0} (of : Option Message → Option I) (history : History) (entry : Entry) (at : MsgRef) (given : I) → of None ≡ None → (message : Option Message) → message_at history at ≡ message → of message ≡ Some given → of (message_at (entry ∷ history) at) ≡ Some given
by_message of history entry at given none None is h = let wrong : None ≡ Some given = sym none ∙ h in cc wrong
by_message of history entry at given none (Some message) is h = ap of (message-later history entry at message is) ∙ h

-- ---- hosts

with_command_at : (added : Option Command) (log : List Command) (n : ℕ) (command : Command) → command_at log n ≡ Some command → command_at (with_command added log) n ≡ Some command
with_command_at None log n command h = h
with_command_at (Some other) log n command h = command_at_older log other n command h

command_stays : (history : History) (entry : Entry) (host : HostId) (given : HostInput) → is_by (ByHost host) entry.event ≡ false → host_input history (Apply host) ≡ Some given → host_input (entry ∷ history) (Apply host) ≡ Some given
command_stays history entry host given other h = by_command (command_at (log_of history) (applied_count history host + 1)) refl h
  where
    by_command : (command : Option Command) → command_at (log_of history) (applied_count history host + 1) ≡ command → option_map ApplyInput command ≡ Some given → host_input (entry ∷ history) (Apply host) ≡ Some given
    by_command None is f = cc f
    by_command (Some command) is f =
        let now : command_at (log_of (entry ∷ history)) (applied_count (entry ∷ history) host + 1) ≡ Some command =
        ap (λ n. command_at (log_of (entry ∷ history)) (n + 1)) (applied_count-other history entry host other)
        ∙ with_command_at (accepted_command entry.event entry.outputs) (log_of history) (applied_count history host + 1) command is in
        ap (option_map ApplyInput) now ∙ f

host_input_stays : (host : HostId) (history : History) (entry : Entry) (event : Event) (given : HostInput) → actor_of event ≡ ByHost host → is_by (ByHost host) entry.event ≡ false → host_input history event ≡ Some given → host_input (entry ∷ history) event ≡ Some given
host_input_stays host history entry (Apply by) given author other h =
    let is : host ≡ by = cc author in
    command_stays history entry by given (subst (λ (x : HostId). is_by (ByHost x) entry.event ≡ false) is other) h
host_input_stays host history entry (Quiet by version) given author other h = h
host_input_stays host history entry (Serve by at) given author other h = by_message served_input history entry at given refl (message_at history at) refl h
host_input_stays host history entry (Answer by at) given author other h = by_message (λ m. option_map AnswerInput (ask_in m)) history entry at given refl (message_at history at) refl h
host_input_stays host history entry (Clean by at) given author other h = by_message (λ m. option_map CleanInput (ask_in m)) history entry at given refl (message_at history at) refl h
host_input_stays host history entry (Pull by session) given author other h = h
host_input_stays host history entry (TakeChunk by at) given author other h = by_message (λ m. option_map ChunkInput (chunk_in m)) history entry at given refl (message_at history at) refl h
host_input_stays host history entry event given author other h = cc h

-- ---- coordinators

topo_input_stays : (opening : Opening) (topo : HostId) (history : History) (entry : Entry) (event : Event) (given : TopoInput) → actor_of event ≡ ByTopo topo → is_by (ByTopo topo) entry.event ≡ false → kept_input opening history event ≡ Some given → kept_input opening (entry ∷ history) event ≡ Some given
topo_input_stays opening topo history entry (Ask by host what) given author other h = h
topo_input_stays opening topo history entry (Hear by at) given author other h = by_message heard_input history entry at given refl (message_at history at) refl h
topo_input_stays opening topo history entry (Propose by command) given author other h = h
topo_input_stays opening topo history entry event given author other h = cc h

kept_is : (opening : Opening) (history : History) (event : Event) (given : TopoInput) → kept_input opening history event ≡ Some given → topo_input opening history event ≡ Some given
kept_is opening history (Look topo) given h = cc h
kept_is opening history event given h = h

-- ---- the three

pub actors_step : ActorsStep
actors_step =
    record {
      hosts = λ opening host entry input seen now valid later came author is.
          own_step opening (ByHost host) (λ h. host_view opening h host) host_input host_after
          (λ history other legal foreign. host_stays opening history other host legal foreign)
          (λ history other event given a foreign h. host_input_stays host history other event given a foreign h)
          (λ history event given run a fine g. (host_plays opening history event host given valid run.legal a fine run.commands g).after)
          entry input seen now later came author is;
      lanes = λ opening lane entry input seen now valid there later came author is.
          lane_step opening lane entry input seen now valid there later came author is;
      topos = λ opening topo entry input seen now valid later came author is.
          own_step opening (ByTopo topo) (λ h. topo_view opening h topo) (kept_input opening) topo_after
          (λ history other legal foreign. topos_stay opening history other topo foreign)
          (λ history other event given a foreign h. topo_input_stays opening topo history other event given a foreign h)
          (λ history event given run a fine g. (topos_play opening history event topo given valid run.legal a fine (kept_is opening history event given g)).after)
          entry input seen now later came author is;
    }
