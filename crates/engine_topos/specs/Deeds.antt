-- What a coordinator does for its move, and why it does nothing.
use Rattle.std.specs.Prelude.{Bool, List, None, Option, Some, if◌then◌else◌, false, nat_le, nat_lt, option_map, true, ℕ, ◌&&◌, ◌*◌, ◌-◌, ◌∷◌, ◌≡◌}
use Rattle.barrier_core.specs.Facts.{first_without}
use Rattle.barrier_core.specs.declared.data.Mode.TheVariants.{Fenced}
use Rattle.barrier_core.specs.declared.data.Told.{Told}
use Rattle.barrier_core.specs.declared.data.What.{What}
use Rattle.barrier_core.specs.declared.data.What.TheVariants.{Clean as CleanOf, Done, Drain, Fence as FenceAt, Ready as ReadyFor}
use Rattle.base_ids.specs.declared.ids.HostId.{HostId}
use Rattle.base_ids.specs.declared.ids.Session.{Session}
use Rattle.base_ids.specs.declared.rules.Appended.{Appended}
use Rattle.stage_graph.specs.declared.stage.Stage.{Stage}
use Rattle.topo_state.specs.Rules.{IsFit, rule}
use Rattle.topo_state.specs.State.{Topology}
use Rattle.topo_state.specs.declared.command.Command.{Command}
use Rattle.topo_state.specs.declared.command.Command.TheVariants.{Advance}
use Rattle.topo_state.specs.declared.command.Rule.{Rule}
use Rattle.migrate_core.specs.declared.next.Next.{Next}
use Rattle.migrate_core.specs.declared.next.Next.TheVariants.{Barrier, Clean, Nothing, Propose, Ready, Stream}
use Rattle.topo_coord.specs.Rules.{proposal_rule}
use Rattle.topo_coord.specs.Topo.{TopoView}
use Rattle.plan_facts.specs.Moves.{due_command, may_come, proposals_of, standing_by}
use Rattle.plan_facts.specs.declared.standing.Standing.{Standing}
use Rattle.run_plan.specs.declared.plan.MoveAsk.{MoveAsk}
use Rattle.run_plan.specs.declared.plan.RunPlan.{RunPlan}
use Rattle.engine_desk.specs.Chairs.{Known}
use Rattle.engine_desk.specs.Desks.{HasSent}
use Rattle.engine_topos.specs.Notes.{NotesView, asked_in}
use Rattle.engine_topos.specs.Turns.{SentStays, WaysStay, ask_outputs}
use Rattle.engine_topos.specs.declared.clock.Clock.{Clock}
use Rattle.engine_topos.specs.declared.deed.Deed.{Deed}
use Rattle.engine_topos.specs.declared.deed.Deed.TheVariants.{Hindered, Idle, Inquired, Proposed, Silent}
use Rattle.engine_topos.specs.declared.deed.Hindrance.{Hindrance}
use Rattle.engine_topos.specs.declared.deed.Hindrance.TheVariants.{Early, Unfit, Unsafe, Unseen}
use Rattle.engine_topos.specs.declared.deed.Silence.{Silence}
use Rattle.engine_topos.specs.declared.deed.Silence.TheVariants.{Absent, Spent, Unasked, Waiting}
use Rattle.engine_topos.specs.declared.notes.Asked.{Asked}

-- what a coordinator knows when it acts: itself, its notes and its clock, how often it has asked for messages, how many
-- turns a host has to answer, how often a host may be asked the same, and how many hosts there are
pub record Moment : Type 0 where
  pub topo : TopoView
  pub notes : NotesView
  pub clock : Clock
  pub takes : ℕ
  pub drain : ℕ
  pub most : ℕ
  pub hosts : ℕ

abbrev pub moment_at : RunPlan → TopoView → NotesView → Clock → ℕ → ℕ → ℕ → Moment
moment_at plan topo notes clock takes moves hosts =
    record {
      topo = topo;
      notes = notes;
      clock = clock;
      takes = takes;
      drain = plan.drain;
      most = plan.patience * moves;
      hosts = hosts;
    }

-- ---- questions

-- at a barrier: whether the version is drained, and once the fence is there, who has not told that it is fenced
abbrev pub barrier_question : HostId → Topology → List Told → Option Asked
barrier_question host state facts =
    if nat_lt state.fence.0 state.version.0
    then Some (record { to = host; what = Drain state.version })
    else option_map (λ (other : HostId). record { to = other; what = FenceAt state.version })
    (first_without facts Fenced state.version state.members state.before)

-- of the number that the coordinator began last
abbrev pub session_question : HostId → (Session → What) → Option ℕ → Option Asked
session_question host kind begun =
    option_map (λ (number : ℕ). record { to = host; what = kind (record { 0 = number }) }) begun

-- what is asked for the next act
abbrev pub question : Next → Topology → List Told → Option ℕ → Option Asked
question (Barrier host) state facts begun = barrier_question host state facts
question (Stream host) state facts begun = session_question host (λ session. Done session) begun
question (Clean host) state facts begun = session_question host (λ session. CleanOf session) begun
question (Ready host) state facts begun = session_question host (λ session. ReadyFor session) begun
question next state facts begun = None

abbrev pub question_at : Moment → Next → Option Asked
question_at moment next = question next moment.topo.state moment.topo.facts moment.notes.begun

-- the host was asked this, and has more time to answer
abbrev pub must_wait : ℕ → NotesView → Clock → ℕ → Asked → Bool
must_wait drain notes clock takes asked =
    nat_lt 0 (asked_in asked.to asked.what notes.asks) && nat_lt (takes - clock.asked) drain

-- what tells against it
abbrev pub silence : Moment → Asked → Option Silence
silence moment asked =
    if nat_le moment.hosts asked.to.0 then Some Absent
    else if must_wait moment.drain moment.notes moment.clock moment.takes asked then Some Waiting
    else if nat_le moment.most (asked_in asked.to asked.what moment.notes.asks) then Some Spent
    else None

abbrev pub IsSilent : Moment → Next → Silence → Type 0
IsSilent moment next Unasked = question_at moment next ≡ None
IsSilent moment next cause =
    (asked : Asked) × (question_at moment next ≡ Some asked) × (silence moment asked ≡ Some cause)

-- ---- proposals

-- the rule that an advance breaks in the state; of other commands this is not asked
abbrev pub advance_rule : Topology → Command → Option Rule
advance_rule state (Advance session to) = rule state (Advance session to)
advance_rule state command = None

abbrev pub IsHindered : TopoView → NotesView → Command → Hindrance → Type 0
IsHindered topo notes command Unseen = notes.looked ≡ false
IsHindered topo notes command Unfit = IsFit command → ⊥
IsHindered topo notes command (Early broken) = proposal_rule topo.state topo.facts command ≡ Some broken
IsHindered topo notes command (Unsafe broken) = advance_rule topo.state command ≡ Some broken

-- ---- deeds

-- what became of a command that is due
abbrev pub IsProposing : TopoView → NotesView → Command → Deed → Type 0
IsProposing topo notes command (Proposed outcome) = Unit {0}
IsProposing topo notes command (Hindered hindrance) = IsHindered topo notes command hindrance
IsProposing topo notes command deed = ⊥

-- why the coordinator did this where its move is to do that next
abbrev pub IsDeed : Moment → Next → Deed → Type 0
IsDeed moment next (Proposed outcome) = (command : Command) × (next ≡ Propose command)
IsDeed moment next (Hindered hindrance) =
    (command : Command) × (next ≡ Propose command) × IsHindered moment.topo moment.notes command hindrance
IsDeed moment next (Inquired number asked) =
    (question_at moment next ≡ Some asked) × (silence moment asked ≡ None)
IsDeed moment next (Silent cause) = IsSilent moment next cause
IsDeed moment next Idle = next ≡ Nothing

-- ---- what a deed leaves

-- the command that was due was proposed, and the move stands as it does by what became of it
pub record HasGone (old : Known) (topo : HostId) (move : MoveAsk) (before after : Standing) (outcome : Appended Rule)
    (new : Known) : Type 0 where
  pub command : Command
  pub stage : Option Stage
  pub whole :
      proposals_of new.opening new.seen topo ≡
      record { command = command; stage = stage; outcome = outcome } ∷ proposals_of old.opening old.seen topo
  pub due : due_command move before stage ≡ Some command
  pub comes : may_come command outcome ≡ true
  pub stands : after ≡ standing_by move before command stage outcome

-- a move that stood so now stands otherwise where its command was proposed, and as before else
abbrev pub WayGoes : Known → HostId → MoveAsk → Standing → Deed → Standing → Known → Type 0
WayGoes old topo move before (Proposed outcome) after new = HasGone old topo move before after outcome new
WayGoes old topo move before deed after new = WaysStay old topo new × (after ≡ before)

-- an ask sends a message, and nothing else does
abbrev pub DeedSends : Known → HostId → Deed → Known → Type 0
DeedSends old topo (Inquired number asked) new = HasSent old number (ask_outputs topo asked) new
DeedSends old topo deed new = SentStays old topo new
