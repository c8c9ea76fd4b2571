-- What holds of plans.
use Rattle.std.specs.Prelude.{◌≡◌, ◌≤◌, List, length, None, Some}
use Rattle.topo_state.specs.Sound.{IsTopology}
use Rattle.topo_state.specs.State.{Topology}
use Rattle.balance_plan.specs.declared.data.Move.{Move}
use Rattle.balance_plan.specs.declared.data.Plan.{Plan}
use Rattle.balance_plan.specs.Loads.{spread}
use Rattle.balance_plan.specs.Moves.{AreLegal, moved_by}
use Rattle.balance_plan.specs.Plans.{IsPlan, first_moving}
use Rattle.balance_plan.specs.Places.{place_of}
use Rattle.balance_plan.specs.declared.data.PlanError.{PlanError}
use Rattle.balance_plan.specs.declared.data.PlanError.TheVariants.{Moving, NoMemory}

-- a sound state in which no tablet moves
pub record IsAtRest (state : Topology) : Type 0 where
  pub sound : IsTopology state
  pub still : first_moving state.tables ≡ None

-- The moves are legal, each after those before it; they leave a spread of at most 1; and every other list of legal
-- moves that does so is at least as long.
pub record EvensOut (state : Topology) (moves : List Move) : Type 0 where
  pub legal : AreLegal state moves
  pub even : spread (moved_by state moves) ≤ 1
  pub shortest :
      (others : List Move) → AreLegal state others → spread (moved_by state others) ≤ 1 →
      length moves ≤ length others

-- each plan does so
abbrev pub PlansEvenOut : Type 0
PlansEvenOut = (state : Topology) (moves : List Move) → IsAtRest state → IsPlan state moves → EvensOut state moves

-- a plan was made: no tablet moves, the moves are those of the plan, they even out the loads, and the spread is the one
-- after them
pub record IsPlanned (state : Topology) (made : Plan) : Type 0 where
  pub still : first_moving state.tables ≡ None
  pub plan : IsPlan state made.moves
  pub evens : EvensOut state made.moves
  pub spread_is : made.spread ≡ spread (moved_by state made.moves)

-- why no plan was made: a tablet moves, and the first is told; else memory was refused
abbrev pub IsRefused : Topology → PlanError → Type 0
IsRefused state (Moving table tablet) = first_moving state.tables ≡ Some (place_of (table, tablet))
IsRefused state NoMemory = first_moving state.tables ≡ None
