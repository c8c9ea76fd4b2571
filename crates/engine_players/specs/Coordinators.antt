-- A coordinator at its desk.
use Rattle.std.specs.Prelude.{Bool, List, None, Option, Some, true, ℕ, ◌∷◌, ◌≡◌}
use Rattle.base_ids.specs.declared.ids.Actor.TheVariants.{Topo as ByTopo}
use Rattle.base_ids.specs.declared.rules.Appended.{Appended}
use Rattle.topo_state.specs.Rules.{IsFit, rule}
use Rattle.topo_state.specs.State.{Topology}
use Rattle.topo_state.specs.declared.command.Command.{Command}
use Rattle.topo_state.specs.declared.command.Command.TheVariants.{Advance}
use Rattle.topo_state.specs.declared.command.Rule.{Rule}
use Rattle.topo_coord.specs.Rules.{proposal_rule}
use Rattle.topo_coord.specs.Topo.{TopoView}
use Rattle.topo_ties.specs.TopoTies.{topo_view}
use Rattle.plan_facts.specs.Moves.{advanced_stage, due_command, standing_by}
use Rattle.plan_facts.specs.declared.standing.Standing.{Standing}
use Rattle.plan_facts.specs.Own.{has_looked, raises}
use Rattle.plan_facts.specs.Suits.{IsFenceDue}
use Rattle.run_plan.specs.declared.plan.MoveAsk.{MoveAsk}
use Rattle.engine_desk.specs.Chairs.{Known}
use Rattle.engine_desk.specs.Desks.{DeskView}
use Rattle.engine_desk.specs.Topos.{IsUnderWay}

-- the coordinator is what its desk has seen
pub record IsTopo (known : Known) (topo : TopoView) : Type 0 where
  pub actor : known.actor ≡ ByTopo topo.host
  pub view : topo ≡ topo_view known.opening known.seen topo.host

-- the command may be proposed: it breaks no rule, the coordinator has looked since its last proposal, and a fence is
-- due
pub record IsProposable (desk : DeskView) (topo : TopoView) (command : Command) : Type 0 where
  pub rule_is : proposal_rule topo.state topo.facts command ≡ None
  pub fit : IsFit command
  pub looked : has_looked desk.known.seen topo.host ≡ true
  pub fence : IsFenceDue desk.known.seen topo.host topo.state command
  pub free : desk.held ≡ None

-- an advance breaks no rule in the state that was seen
abbrev pub IsSafe : Topology → Command → Type 0
IsSafe state (Advance session to) = rule state (Advance session to) ≡ None
IsSafe state command = Unit {0}

-- a move whose due command was proposed goes on by its outcome
abbrev pub MovesOn : Known → TopoView → Command → Appended Rule → Known → Type 0
MovesOn old topo command outcome new =
    (moves : List MoveAsk) (done : ℕ) (move : MoveAsk) (standing : Standing)
    → IsUnderWay moves old.opening topo.host old.seen done move standing
    → raises command ≡ true
    → due_command move standing (advanced_stage topo.state command) ≡ Some command
    → IsSafe topo.state command
    → IsUnderWay moves new.opening topo.host new.seen done move
    (standing_by move standing command (advanced_stage topo.state command) outcome)
