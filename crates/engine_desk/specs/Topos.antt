-- A coordinator's moves: which of its proposals belong to which, and how the one under way stands.
use Rattle.std.specs.Prelude.{List, None, Option, Some, [], length, slice_get, true, ℕ, ◌+◌, ◌∷◌, ◌≡◌}
use Rattle.base_ids.specs.declared.ids.HostId.{HostId}
use Rattle.cluster_history.specs.History.{History}
use Rattle.cluster_history.specs.declared.data.Opening.{Opening}
use Rattle.base_ids.specs.declared.ids.Actor.TheVariants.{Topo as ByTopo}
use Rattle.base_ids.specs.declared.rules.Appended.{Appended}
use Rattle.topo_state.specs.Rules.{rule}
use Rattle.topo_state.specs.declared.command.Command.{Command}
use Rattle.topo_state.specs.declared.command.Rule.{Rule}
use Rattle.cluster_history.specs.Legal.{IsNext}
use Rattle.cluster_history.specs.Topology.{seen_state}
use Rattle.plan_facts.specs.Moves.{AreShared, CarriesMove, CarryMoves, Proposal, advanced_stage, due_command, joined, may_come, proposals_of, standing_after, standing_by}
use Rattle.plan_facts.specs.declared.standing.Standing.{Standing}
use Rattle.plan_facts.specs.declared.standing.Standing.TheVariants.{Before}
use Rattle.plan_facts.specs.Own.{raises}
use Rattle.engine_desk.specs.Chairs.{IsLater, propose_entry}
use Rattle.run_plan.specs.declared.plan.MoveAsk.{MoveAsk}

-- so many moves are done, and this one is under way
pub record IsUnderWay (moves : List MoveAsk) (opening : Opening) (topo : HostId) (history : History)
    (done : ℕ) (move : MoveAsk) (standing : Standing) : Type 0 where
  pub share : List Proposal
  pub older : List (List Proposal)
  pub whole : joined (share ∷ older) ≡ proposals_of opening history topo
  pub count : length older ≡ done
  pub there : slice_get moves done ≡ Some move
  pub carried : CarriesMove move share
  pub before : CarryMoves moves older
  pub stands : standing_after move share ≡ standing

-- a move goes on as the history grows, by a proposal that was due, and the next one begins when it is left
pub record WaysGoOn (moves : List MoveAsk) (opening : Opening) (topo : HostId) (done : ℕ) (move : MoveAsk)
    (standing : Standing) : Type 0 where
  pub later :
      (old new : History) →
      IsLater opening (ByTopo topo) old new →
      IsUnderWay moves opening topo old done move standing →
      IsUnderWay moves opening topo new done move standing
  pub proposed :
      (now : History) (command : Command) (outcome : Appended Rule) →
      IsUnderWay moves opening topo now done move standing →
      raises command ≡ true →
      due_command move standing (advanced_stage (seen_state opening now topo) command) ≡ Some command →
      may_come command outcome ≡ true →
      IsUnderWay moves opening topo (propose_entry topo command outcome ∷ now) done move
      (standing_by move standing command (advanced_stage (seen_state opening now topo) command) outcome)
  pub next :
      (now : History) (after : MoveAsk) →
      IsUnderWay moves opening topo now done move standing →
      slice_get moves (done + 1) ≡ Some after →
      IsUnderWay moves opening topo now (done + 1) after Before

abbrev pub MovesGoOn : Type 0
MovesGoOn =
    (moves : List MoveAsk) (opening : Opening) (topo : HostId) (done : ℕ) (move : MoveAsk) (standing : Standing) →
    WaysGoOn moves opening topo done move standing

-- so the proposals fall into shares of the moves
abbrev pub WaysAreShared : Type 0
WaysAreShared =
    (moves : List MoveAsk) (opening : Opening) (topo : HostId) (history : History) (done : ℕ) (move : MoveAsk)
    (standing : Standing) →
    IsUnderWay moves opening topo history done move standing →
    AreShared moves (proposals_of opening history topo)

-- an advance that breaks no rule in the state that was seen is not judged illegal
abbrev pub AdvancesAreJudgedWell : Type 0
AdvancesAreJudgedWell =
    (opening : Opening) (now : History) (topo : HostId) (command : Command) (outcome : Appended Rule) →
    IsNext opening now (propose_entry topo command outcome) →
    rule (seen_state opening now topo) command ≡ None →
    may_come command outcome ≡ true
