-- The plan of a state, as a list of moves.
use Rattle.std.specs.Option.{option_map_or}
use Rattle.std.specs.Prelude.{List, None, [], suc, zero, ℕ, ◌+◌, ◌≡◌, ◌∷◌}
use Rattle.balance_plan.specs.Laws.{EvensOut}
use Rattle.balance_plan.specs.Loads.{loads}
use Rattle.balance_plan.specs.Moves.{moved}
use Rattle.balance_plan.specs.Plans.{IsPlan, first_moving, next_move}
use Rattle.balance_plan.specs.declared.data.Move.{Move}
use Rattle.topo_state.specs.Sound.{IsTopology}
use Rattle.topo_state.specs.State.{Topology}

-- 0 + 1 + .. up to below a number
abbrev pub sum_below : ℕ → ℕ
sum_below zero = 0
sum_below (suc n) = sum_below n + n

-- the sum of this over loads: each move of a plan lowers it, so a plan has no more moves
abbrev pub most_moves : List ℕ → ℕ
most_moves [] = 0
most_moves (load ∷ rest) = sum_below load + most_moves rest

-- the first so many moves of the plan, or all where it has fewer
abbrev pub moves_within : ℕ → Topology → List Move
moves_within zero state = []
moves_within (suc n) state = option_map_or (λ move. move ∷ moves_within n (moved state move)) (next_move state) []

-- the moves of the plan
unfoldable pub plan_of : Topology → List Move
plan_of state = moves_within (most_moves (loads state)) state

-- these moves are the plan, they are legal one after the other, they leave a spread of at most 1, and no shorter list
-- of legal moves does
pub record IsEvened (state : Topology) : Type 0 where
  pub plan : IsPlan state (plan_of state)
  pub evens : EvensOut state (plan_of state)

-- so it is of every sound state in which no tablet moves
abbrev pub PlansAreMade : Type 0
PlansAreMade = (state : Topology) → IsTopology state → first_moving state.tables ≡ None → IsEvened state
