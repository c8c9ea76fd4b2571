-- How a topology coordinator is tied to a history: what the history says of it as the coordinator's own plain data,
-- what each event gives it, and what it then does.
use Rattle.std.specs.Prelude.{List, None, Option, Some, [], false, length, ℕ, ◌∷◌, ◌≡◌, ◌≤◌}
use Rattle.base_ids.specs.Outcomes.{outcome_of}
use Rattle.group0_log.specs.Log.{state_at}
use Rattle.base_ids.specs.declared.ids.Actor.TheVariants.{Topo as ByTopo}
use Rattle.base_ids.specs.declared.ids.HostId.{HostId}
use Rattle.base_ids.specs.declared.ids.Session.{Session}
use Rattle.base_ids.specs.declared.rules.Appended.{Appended}
use Rattle.topo_state.specs.Rules.{rule}
use Rattle.topo_state.specs.declared.command.Command.{Command}
use Rattle.topo_state.specs.declared.command.Rule.{Rule}
use Rattle.log_law.specs.Laws.{OfEachLog}
use Rattle.migrate_core.specs.Laws.{IsFoundOnce}
use Rattle.topo_coord.specs.Topo.{TopoView, topo_after, topo_first, topo_out, topo_restarted, topo_rule}
use Rattle.topo_coord.specs.declared.data.TopoInput.{TopoInput}
use Rattle.topo_coord.specs.declared.data.TopoInput.TheVariants.{Ask as AskInput, Hear as HearInput, HearNotMine, Look as LookInput, Propose as ProposeInput}
use Rattle.topo_coord.specs.declared.data.TopoOut.{TopoOut}
use Rattle.topo_coord.specs.declared.data.TopoOut.TheVariants.{Ask as AskOut, Nothing, Propose as ProposeOut}
use Rattle.cluster_history.specs.History.{History, actor_of, is_by, is_restart_of, message_at}
use Rattle.cluster_history.specs.Legal.{IsLegalHistory, broken_rule, entry_of, outputs_of}
use Rattle.cluster_history.specs.Openings.{IsValidOpening, opening_state}
use Rattle.cluster_history.specs.Topology.{evidence_of, last_state, log_of, look_of, seen_state}
use Rattle.cluster_history.specs.declared.data.Entry.{Entry}
use Rattle.cluster_history.specs.declared.data.Event.{Event}
use Rattle.cluster_history.specs.declared.data.Event.TheVariants.{Ask, Hear, Look, Propose, Restart}
use Rattle.cluster_history.specs.declared.data.Message.{Message}
use Rattle.cluster_history.specs.declared.data.Message.TheVariants.{Ask as AskSent, Fact as FactSent, NotMine}
use Rattle.cluster_history.specs.declared.data.Opening.{Opening}
use Rattle.cluster_history.specs.declared.data.Output.{Output}
use Rattle.cluster_history.specs.declared.data.Output.TheVariants.{Proposed, Sent}

-- the coordinator of a host as the history has it
abbrev pub topo_view : Opening → History → HostId → TopoView
topo_view opening history host =
    record {
      host = host;
      opening = opening_state opening;
      look = look_of history host;
      state = seen_state opening history host;
      facts = evidence_of history host;
    }

-- ---- inputs and outputs

-- what hearing a message gives it
abbrev pub heard_input : Option Message → Option TopoInput
heard_input (Some (FactSent fact)) = Some (HearInput fact)
heard_input (Some (NotMine from to session)) = Some HearNotMine
heard_input message = None

-- what an event gives it; a restart gives nothing
abbrev pub topo_input : Opening → History → Event → Option TopoInput
topo_input opening history (Look topo) = Some (LookInput (length (log_of history)) (last_state opening history))
topo_input opening history (Ask topo host what) = Some (AskInput host what)
topo_input opening history (Hear topo at) = heard_input (message_at history at)
topo_input opening history (Propose topo command) = Some (ProposeInput command)
topo_input opening history event = None

-- what becomes of a command whose proposer has read the state of this number
abbrev pub proposal_outcome : Opening → History → ℕ → Command → Appended Rule
proposal_outcome opening history read command =
    outcome_of read (length (log_of history)) (rule (last_state opening history) command)

-- the outputs of what it gives out, by what becomes of a proposal
abbrev pub topo_outputs : (ℕ → Command → Appended Rule) → TopoOut → List Output
topo_outputs outcome Nothing = []
topo_outputs outcome (AskOut ask) = Sent (AskSent ask) ∷ []
topo_outputs outcome (ProposeOut read command) = Proposed (outcome read.0 command) ∷ []

-- ---- laws

-- the coordinator's part of an event is what the history says of it
pub record IsTopoPlay (opening : Opening) (history : History) (host : HostId) (event : Event)
    (input : TopoInput) : Type 0 where
  pub fits : topo_rule (topo_view opening history host) input ≡ None
  pub outputs :
      topo_outputs (proposal_outcome opening history) (topo_out (topo_view opening history host) input)
      ≡ outputs_of opening history event
  pub after :
      topo_after (topo_view opening history host) input
      ≡ topo_view opening (entry_of opening history event ∷ history) host

abbrev pub ToposPlay : Type 0
ToposPlay =
    (opening : Opening) (history : History) (event : Event) (host : HostId) (input : TopoInput) →
    IsValidOpening opening →
    IsLegalHistory opening history →
    actor_of event ≡ ByTopo host →
    broken_rule opening history event ≡ None →
    topo_input opening history event ≡ Some input →
    IsTopoPlay opening history host event input

-- what an event gives to its coordinator is there
pub record HasTopoInput (opening : Opening) (history : History) (event : Event) : Type 0 where
  pub input : TopoInput
  pub gives : topo_input opening history event ≡ Some input

-- so it is for each event of a coordinator, but for a restart, that breaks no rule
abbrev pub ToposHaveInputs : Type 0
ToposHaveInputs =
    (opening : Opening) (history : History) (event : Event) (host : HostId) →
    actor_of event ≡ ByTopo host →
    is_restart_of (ByTopo host) event ≡ false →
    broken_rule opening history event ≡ None →
    HasTopoInput opening history event

-- an event of another actor leaves it
abbrev pub ToposStay : Type 0
ToposStay =
    (opening : Opening) (history : History) (entry : Entry) (host : HostId) →
    is_by (ByTopo host) entry.event ≡ false →
    topo_view opening (entry ∷ history) host ≡ topo_view opening history host

abbrev pub ToposRestart : Type 0
ToposRestart =
    (opening : Opening) (history : History) (host : HostId) →
    topo_view opening (entry_of opening history (Restart (ByTopo host)) ∷ history) host
    ≡ topo_restarted (topo_view opening history host)

abbrev pub ToposBegin : Type 0
ToposBegin = (opening : Opening) (host : HostId) → topo_view opening [] host ≡ topo_first host (opening_state opening)

-- the rule that a proposal breaks is the one that the coordinator finds
abbrev pub ProposalsAreJudged : Type 0
ProposalsAreJudged =
    (opening : Opening) (history : History) (host : HostId) (command : Command) →
    IsValidOpening opening →
    IsLegalHistory opening history →
    broken_rule opening history (Propose host command)
    ≡ topo_rule (topo_view opening history host) (ProposeInput command)

-- in each state of a legal log no other tablet moves under a session than the one at which it is found
abbrev pub SessionsAreFoundOnce : Type 0
SessionsAreFoundOnce =
    OfEachLog (λ first log.
    (count : ℕ) → count ≤ length log → (session : Session) → IsFoundOnce (state_at first log count) session)
