-- The words of a plan.
use Rattle.std.specs.Prelude.{Bool, List, None, Option, Some, [], false, filter, if◌then◌else◌, nat_lt, ℕ, ◌∷◌}
use Rattle.base_ids.specs.Names.{same_host, same_lane}
use Rattle.base_ids.specs.declared.ids.HostId.{HostId}
use Rattle.base_ids.specs.declared.ids.LaneId.{LaneId}
use Rattle.cluster_history.specs.declared.data.Operation.{Operation}
use Rattle.run_plan.specs.declared.plan.MoveAsk.{MoveAsk}
use Rattle.run_plan.specs.declared.plan.RunPlan.{RunPlan}
use Rattle.run_plan.specs.declared.plan.Script.{Script}
use Rattle.run_plan.specs.declared.plan.Storm.{Storm}

-- the operations of the lane's script, none where it has no script
abbrev pub ops_in : List Script → LaneId → List Operation
ops_in [] lane = []
ops_in (script ∷ scripts) lane = if same_lane script.lane lane then script.ops else ops_in scripts lane

abbrev pub script_of : RunPlan → LaneId → List Operation
script_of plan lane = ops_in plan.scripts lane

-- the moves of the coordinator of a host, in their order
abbrev pub moves_of : RunPlan → HostId → List MoveAsk
moves_of plan topo = filter (λ (move : MoveAsk). same_host move.by topo) plan.moves

abbrev pub loses_by : Option Storm → Bool
loses_by None = false
loses_by (Some storm) = nat_lt 0 storm.lose

-- messages may be lost
abbrev pub loses : RunPlan → Bool
loses plan = loses_by plan.storm

abbrev pub repeats_by : Option Storm → Bool
repeats_by None = false
repeats_by (Some storm) = nat_lt 0 storm.repeat

-- by how many entries a message may be taken: one, or two where messages may come twice
abbrev pub most_takes : RunPlan → ℕ
most_takes plan = if repeats_by plan.storm then 2 else 1
