-- Which proposals carry out a move, and how it stands after them.
use Rattle.std.specs.Prelude.{Bool, List, None, Option, Some, [], false, if◌then◌else◌, length, option_map, slice_get, true, ℕ, ◌&&◌, ◌++◌, ◌∷◌, ◌≡◌}
use Rattle.base_ids.specs.declared.ids.HostId.{HostId}
use Rattle.base_ids.specs.declared.ids.Session.{Session}
use Rattle.base_ids.specs.declared.rules.Appended.{Appended}
use Rattle.base_ids.specs.declared.rules.Appended.TheVariants.{Accepted, Illegal}
use Rattle.migrate_core.specs.Transitions.{target, transition_of}
use Rattle.stage_graph.specs.declared.stage.Stage.{Stage}
use Rattle.stage_graph.specs.declared.stage.Stage.TheVariants.{AllowWriteBothReadOld, RevertMigration, Streaming, WriteBothReadNew, WriteBothReadOld}
use Rattle.tablet_map.specs.declared.tablet.Transition.{Transition}
use Rattle.topo_state.specs.State.{Topology}
use Rattle.topo_state.specs.declared.command.Command.{Command}
use Rattle.topo_state.specs.declared.command.Command.TheVariants.{Advance, CreateTable, FinalizeResize, Join as JoinHost, Leave as LeaveHost, Resize, Start}
use Rattle.topo_state.specs.declared.data.ResizeKind.TheVariants.{Merge as Merging, Split as Splitting}
use Rattle.topo_state.specs.declared.command.Rule.{Rule}
use Rattle.cluster_history.specs.History.{History}
use Rattle.cluster_history.specs.Topology.{seen_state}
use Rattle.cluster_history.specs.declared.data.Event.{Event}
use Rattle.cluster_history.specs.declared.data.Event.TheVariants.{Propose}
use Rattle.cluster_history.specs.declared.data.Opening.{Opening}
use Rattle.cluster_history.specs.declared.data.Output.{Output}
use Rattle.cluster_history.specs.declared.data.Output.TheVariants.{Proposed}
use Rattle.base_ids.specs.Names.{same_host}
use Rattle.plan_facts.specs.Own.{raises}
use Rattle.plan_facts.specs.declared.standing.Standing.{Standing}
use Rattle.plan_facts.specs.declared.standing.Standing.TheVariants.{Before, Going, Over}
use Rattle.plan_facts.specs.declared.standing.Ending.TheVariants.{Moved, Refused, Reverted}
use Rattle.run_plan.specs.declared.plan.Act.{Act}
use Rattle.run_plan.specs.declared.plan.Act.TheVariants.{Create, Join, Leave, Merge, Move, Split}
use Rattle.run_plan.specs.declared.plan.MoveAsk.{MoveAsk}

-- ---- proposals

-- what was proposed, the stage that its session had in the state that the coordinator had seen, and the outcome
pub record Proposal : Type 0 where
  pub command : Command
  pub stage : Option Stage
  pub outcome : Appended Rule

abbrev pub stage_in : Topology → Session → Option Stage
stage_in state session = option_map (λ (t : Transition). t.stage) (transition_of state session)

abbrev pub advanced_stage : Topology → Command → Option Stage
advanced_stage state (Advance session to) = stage_in state session
advanced_stage state command = None

-- the proposal with its outcome, in front of those before it
abbrev pub with_outcome : Topology → Command → List Output → List Proposal → List Proposal
with_outcome state command (Proposed outcome ∷ outputs) proposals =
    record { command = command; stage = advanced_stage state command; outcome = outcome } ∷ proposals
with_outcome state command outputs proposals = proposals

abbrev pub with_proposal : HostId → Topology → Event → List Output → List Proposal → List Proposal
with_proposal topo state (Propose by command) outputs proposals =
    if same_host by topo && raises command then with_outcome state command outputs proposals else proposals
with_proposal topo state event outputs proposals = proposals

-- the proposals of a coordinator but for fences, the newest first
abbrev pub proposals_of : Opening → History → HostId → List Proposal
proposals_of opening [] topo = []
proposals_of opening (entry ∷ history) topo =
    with_proposal topo (seen_state opening history topo) entry.event entry.outputs (proposals_of opening history topo)

-- ---- a move

-- the command that begins an act
abbrev pub first_command : Act → Command
first_command (Move table tablet from to) = Start table tablet from to
first_command (Split table) = Resize table Splitting
first_command (Merge table) = Resize table Merging
first_command (Join host) = JoinHost host
first_command (Leave host) = LeaveHost host
first_command (Create table log2 replicas) = CreateTable table log2 replicas

-- the first four stages, at which a move may turn back
abbrev pub turns_back_at : Option Stage → Stage → Bool
turns_back_at (Some AllowWriteBothReadOld) AllowWriteBothReadOld = true
turns_back_at (Some WriteBothReadOld) WriteBothReadOld = true
turns_back_at (Some Streaming) Streaming = true
turns_back_at (Some WriteBothReadNew) WriteBothReadNew = true
turns_back_at wanted stage = false

-- the advance from a stage: forward, but back from the stage from which the move is to go back
abbrev pub next_advance : Option Stage → Session → Stage → Command
next_advance back_from session stage = Advance session (target stage (turns_back_at back_from stage))

-- the command that an act under way is to go on with, by the stage that its session was seen in
abbrev pub going_command : MoveAsk → Act → Session → Option Stage → Option Command
going_command move (Move table tablet from to) session stage =
    option_map (next_advance move.back_from session) stage
going_command move (Split table) session stage = Some (FinalizeResize table session)
going_command move (Merge table) session stage = Some (FinalizeResize table session)
going_command move act session stage = None

-- the command that a move is to propose next
abbrev pub due_command : MoveAsk → Standing → Option Stage → Option Command
due_command move Before stage = Some (first_command move.act)
due_command move (Going session) stage = going_command move move.act session stage
due_command move (Over ending) stage = None

-- how the move stands once its first command is accepted
abbrev pub begun_standing : Act → ℕ → Standing
begun_standing (Move table tablet from to) index = Going (record { 0 = index })
begun_standing (Split table) index = Going (record { 0 = index })
begun_standing (Merge table) index = Going (record { 0 = index })
begun_standing act index = Over Moved

-- how it stands once a later one is: the finalizing of a resize ends it, and so does the last advance of a session
abbrev pub advanced_standing : Session → Command → Option Stage → Standing
advanced_standing session (Advance by (Some to)) stage = Going session
advanced_standing session (Advance by None) (Some RevertMigration) = Over Reverted
advanced_standing session command stage = Over Moved

-- how the move stands after a proposal: a conflict changes nothing, and an illegal one ends it
abbrev pub standing_by : MoveAsk → Standing → Command → Option Stage → Appended Rule → Standing
standing_by move Before command stage (Accepted index) = begun_standing move.act index
standing_by move (Going session) command stage (Accepted index) = advanced_standing session command stage
standing_by move standing command stage (Illegal rule) = Over (Refused rule)
standing_by move standing command stage outcome = standing

abbrev pub next_standing : MoveAsk → Standing → Proposal → Standing
next_standing move standing proposal = standing_by move standing proposal.command proposal.stage proposal.outcome

-- how it stands after these proposals, the newest first
abbrev pub standing_after : MoveAsk → List Proposal → Standing
standing_after move [] = Before
standing_after move (proposal ∷ proposals) = next_standing move (standing_after move proposals) proposal

-- an advance is never judged illegal
abbrev pub may_come : Command → Appended Rule → Bool
may_come (Advance session to) (Illegal rule) = false
may_come command outcome = true

-- each proposal was the one that was due
abbrev pub CarriesMove : MoveAsk → List Proposal → Type 0
CarriesMove move [] = Unit {0}
CarriesMove move (proposal ∷ proposals) =
    (due_command move (standing_after move proposals) proposal.stage ≡ Some proposal.command)
    × (may_come proposal.command proposal.outcome ≡ true)
    × CarriesMove move proposals

-- ---- the moves of a coordinator

-- shares of proposals, one for each of the first moves, the last of these first; each carries out its move
abbrev pub CarryMoves : List MoveAsk → List (List Proposal) → Type 0
CarryMoves moves [] = Unit {0}
CarryMoves moves (share ∷ shares) =
    ((move : MoveAsk) × (slice_get moves (length shares) ≡ Some move) × CarriesMove move share)
    × CarryMoves moves shares

-- all of them, the newest first
abbrev pub joined : List (List Proposal) → List Proposal
joined [] = []
joined (share ∷ shares) = share ++ joined shares

-- the proposals fall into such shares
pub record AreShared (moves : List MoveAsk) (proposals : List Proposal) : Type 0 where
  pub shares : List (List Proposal)
  pub whole : joined shares ≡ proposals
  pub carried : CarryMoves moves shares
