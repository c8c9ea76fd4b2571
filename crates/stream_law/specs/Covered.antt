-- What a key sees of the log's state, and how many replicas hold a write of the key.
use Rattle.std.specs.List.{count_by}
use Rattle.std.specs.Prelude.{Bool, List, Option, Some, length, true, ℕ, ◌≡◌, ◌≤◌}
use Rattle.base_ids.specs.declared.ids.HostId.{HostId}
use Rattle.base_ids.specs.declared.ids.LaneId.{LaneId}
use Rattle.base_ids.specs.declared.ids.OpId.{OpId}
use Rattle.base_ids.specs.declared.ids.Replica.{Replica}
use Rattle.cell_merge.specs.Cell.{is_not_below}
use Rattle.cell_merge.specs.declared.cell.Cell.{Cell}
use Rattle.cluster_history.specs.Held.{held_cell}
use Rattle.cluster_history.specs.History.{History}
use Rattle.cluster_history.specs.Messages.{level_of}
use Rattle.cluster_history.specs.Requests.{Request, request_at}
use Rattle.cluster_history.specs.Topology.{last_state}
use Rattle.cluster_history.specs.declared.data.Opening.{Opening}
use Rattle.cluster_history.specs.declared.data.Operation.TheVariants.{Write as WriteOf}
use Rattle.register_model.specs.declared.data.Key.{Key}
use Rattle.stage_graph.specs.Needs.{base_need}
use Rattle.stage_graph.specs.declared.level.Level.{Level}
use Rattle.tablet_map.specs.declared.tablet.Tablet.{Tablet}
use Rattle.topo_state.specs.Lists.{reads_of}
use Rattle.topo_state.specs.Views.{view}
use Rattle.stream_law.specs.Settled.{is_settled}

-- the version of the log's last state
abbrev pub last_version : Opening → History → ℕ
last_version opening history = (last_state opening history).version.0

-- the key's tablet in that state
abbrev pub view_now : Opening → History → Key → Option Tablet
view_now opening history key = view (last_state opening history) key.table key.token.value

-- the host of the replica holds no less than the cell, by what each host holds
abbrev pub holds : (HostId → Option Cell) → Cell → Replica → Bool
holds held cell replica = is_not_below (held replica.host) (Some cell)

-- how many of the replicas do
abbrev pub holding_count : (HostId → Option Cell) → Cell → List Replica → ℕ
holding_count held cell replicas = count_by (holds held cell) replicas

-- what each host holds at the key after the history
abbrev pub held_at : Opening → History → Key → HostId → Option Cell
held_at opening history key host = held_cell opening history host key

-- how many of the replicas hold no less than the cell at the key then
abbrev pub covered_count : Opening → History → Key → Cell → List Replica → ℕ
covered_count opening history key cell replicas = holding_count (held_at opening history key) cell replicas

-- how many replicas of the tablet a request asks for, but for the extra one of a write that goes to both lists
abbrev pub base_of : Request → Tablet → ℕ
base_of request tablet = base_need (level_of request.operation) (length tablet.replicas)

-- the request writes the cell at the key, at some level
pub record IsWriteOf (opening : Opening) (history : History) (lane : LaneId) (op : OpId) (request : Request) (key : Key)
    (cell : Cell) : Type 0 where
  pub level : Level
  pub begun : request_at opening history lane op ≡ Some request
  pub writes : request.operation ≡ WriteOf key.table key.token cell level

-- Each settled write is held by as many as it needs of the replicas that reads of its key go to.
abbrev pub ReadsAreCovered : Opening → History → Type 0
ReadsAreCovered opening history =
    (lane : LaneId) (op : OpId) (request : Request) (key : Key) (cell : Cell) (tablet : Tablet) →
    IsWriteOf opening history lane op request key cell →
    is_settled opening history lane op ≡ true →
    view_now opening history key ≡ Some tablet →
    base_of request tablet ≤ covered_count opening history key cell (reads_of tablet)
