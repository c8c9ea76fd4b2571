-- What a coordinator does for a move.
use Rattle.std.specs.Prelude.{Bool, List, None, Option, Some, false, nat_lt, true, ◌&&◌, ◌==◌, ◌≡◌}
use Rattle.barrier_core.specs.declared.data.Told.{Told}
use Rattle.base_ids.specs.declared.ids.Session.{Session}
use Rattle.base_ids.specs.declared.ids.Version.{Version}
use Rattle.base_ids.specs.declared.rules.Appended.{Appended}
use Rattle.base_ids.specs.declared.rules.Appended.TheVariants.{Illegal}
use Rattle.stage_graph.specs.declared.stage.Stage.{Stage}
use Rattle.topo_state.specs.State.{Topology}
use Rattle.topo_state.specs.declared.command.Rule.{Rule}
use Rattle.migrate_core.specs.Plan.{awaited_barrier, awaited_or, plan_next}
use Rattle.migrate_core.specs.declared.next.Next.{Next}
use Rattle.migrate_core.specs.declared.next.Next.TheVariants.{Barrier, Nothing, Propose}
use Rattle.resize_core.specs.Plan.{plan_resize}
use Rattle.plan_facts.specs.Moves.{first_command, stage_in, turns_back_at}
use Rattle.plan_facts.specs.declared.standing.Standing.{Standing}
use Rattle.plan_facts.specs.declared.standing.Standing.TheVariants.{Before, Going, Over}
use Rattle.run_plan.specs.declared.plan.Act.{Act}
use Rattle.run_plan.specs.declared.plan.Act.TheVariants.{Merge, Move, Split}
use Rattle.run_plan.specs.declared.plan.MoveAsk.{MoveAsk}
use Rattle.topo_coord.specs.Topo.{TopoView}
use Rattle.engine_topos.specs.Notes.{NotesView}

-- ---- what is planned

-- whether a move goes back from the stage that its session is seen in
abbrev pub turns_back : Option Stage → Option Stage → Bool
turns_back back_from None = false
turns_back back_from (Some stage) = turns_back_at back_from stage

abbrev pub planned_move : Option Stage → Session → Topology → List Told → Next
planned_move back_from session state facts =
    plan_next state facts session (turns_back back_from (stage_in state session))

abbrev pub planned_act : MoveAsk → Act → Session → Topology → List Told → Next
planned_act move (Move table tablet from to) session state facts = planned_move move.back_from session state facts
planned_act move (Split table) session state facts = plan_resize state facts table session
planned_act move (Merge table) session state facts = plan_resize state facts table session
planned_act move act session state facts = Nothing

-- what a move that goes on under this number is to do next
abbrev pub planned : MoveAsk → Session → Topology → List Told → Next
planned move session state facts = planned_act move move.act session state facts

-- what a move that stands so is to do next
abbrev pub next_act : MoveAsk → Standing → Topology → List Told → Next
next_act move Before state facts =
    awaited_or Barrier (awaited_barrier facts state) (Propose (first_command move.act))
next_act move (Going session) state facts = planned move session state facts
next_act move (Over ending) state facts = Nothing

-- ---- fences

abbrev pub is_illegal : Appended Rule → Bool
is_illegal (Illegal rule) = true
is_illegal outcome = false

abbrev pub is_drained : Option Version → Version → Bool
is_drained None version = false
is_drained (Some drained) version = drained.0 == version.0

-- the coordinator has looked since its last proposal, the fence is below the version that it saw, and it has asked some
-- host to drain that
abbrev pub can_fence : TopoView → NotesView → Bool
can_fence topo notes =
    notes.looked
    && (nat_lt topo.state.fence.0 topo.state.version.0 && is_drained notes.drained topo.state.version)

-- the fence may be set to this version
pub record CanFence (topo : TopoView) (notes : NotesView) (version : Version) : Type 0 where
  pub is : version ≡ topo.state.version
  pub above : nat_lt topo.state.fence.0 topo.state.version.0 ≡ true
  pub looked : notes.looked ≡ true
  pub drained : notes.drained ≡ Some version
