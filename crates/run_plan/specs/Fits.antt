-- Which plans fit an opening: what a run may ask of the plan that it is given.
use Rattle.std.specs.Prelude.{◌≡◌, ◌<◌, ◌≤◌, ◌==◌, ◌&&◌, not, ℕ, Bool, true, false, List, [], ◌∷◌, length, IfSome}
use Rattle.std.specs.List.{All, list_any}
use Rattle.base_ids.specs.Names.{same_host}
use Rattle.base_ids.specs.declared.ids.LaneId.{LaneId}
use Rattle.cluster_history.specs.declared.data.Opening.{Opening}
use Rattle.stage_graph.specs.declared.stage.Stage.{Stage}
use Rattle.stage_graph.specs.declared.stage.Stage.TheVariants.{AllowWriteBothReadOld, WriteBothReadOld, Streaming, WriteBothReadNew}
use Rattle.run_plan.specs.declared.plan.RunPlan.{RunPlan}
use Rattle.run_plan.specs.declared.plan.Act.{Act}
use Rattle.run_plan.specs.declared.plan.Act.TheVariants.{Move, Split, Merge, Join, Leave, Create}
use Rattle.run_plan.specs.declared.plan.Script.{Script}
use Rattle.run_plan.specs.declared.plan.MoveAsk.{MoveAsk}

-- ---- scripts

-- the script of the lane
abbrev pub is_of : LaneId → Script → Bool
is_of lane script = same_host script.lane.host lane.host && (script.lane.lane == lane.lane)

-- no lane has two scripts
abbrev pub distinct_lanes : List Script → Bool
distinct_lanes [] = true
distinct_lanes (s ∷ rest) = not (list_any (is_of s.lane) rest) && distinct_lanes rest

-- scripts of lanes that are there, one for each
pub record AreScripts (hosts lanes : ℕ) (scripts : List Script) : Type 0 where
  pub once : distinct_lanes scripts ≡ true
  pub there : All (λ (s : Script). (s.lane.host.0 < hosts) × (s.lane.lane < lanes)) scripts

-- ---- moves

-- the act is a move of a tablet
abbrev pub is_move : Act → Bool
is_move (Move t i f p) = true
is_move (Split t) = false
is_move (Merge t) = false
is_move (Join h) = false
is_move (Leave h) = false
is_move (Create t b rs) = false

-- a stage from which a move may go back
abbrev pub is_early : Stage → Bool
is_early AllowWriteBothReadOld = true
is_early WriteBothReadOld = true
is_early Streaming = true
is_early WriteBothReadNew = true
is_early stage = false

-- a new table has 1 to 1024 tablets of 1 to 8 replicas
abbrev pub IsFineAct : Act → Type 0
IsFineAct (Create t b rs) = (b ≤ 10) × (1 ≤ length rs) × (length rs ≤ 8)
IsFineAct act = Unit {0}

-- the coordinator is one of so many hosts; only a move goes back, and from an early stage
pub record IsFineMove (hosts : ℕ) (ask : MoveAsk) : Type 0 where
  pub by : ask.by.0 < hosts
  pub act : IsFineAct ask.act
  pub back : IfSome ask.back_from (λ stage. (is_move ask.act ≡ true) × (is_early stage ≡ true))

-- ---- the plan

-- Counts are in their ranges, and the lanes of the scripts and the hosts of the moves are there.
pub record IsPlanFor (opening : Opening) (plan : RunPlan) : Type 0 where
  pub workers : (1 ≤ plan.workers) × (plan.workers ≤ 16)
  pub patience : (1 ≤ plan.patience) × (plan.patience ≤ 1000000)
  pub drain : (1 ≤ plan.drain) × (plan.drain ≤ 1000000)
  pub scripts : AreScripts opening.hosts opening.lanes plan.scripts
  pub moves : All (IsFineMove opening.hosts) plan.moves
  pub storm : IfSome plan.storm (λ storm. (storm.lose ≤ 100) × (storm.repeat ≤ 100))
