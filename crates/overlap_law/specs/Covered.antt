-- When a settled write is covered: enough of the replicas that reads of its key go to hold its cell, or a greater one.
use Rattle.std.specs.Prelude.{Bool, None, Option, Some, length, nat_le, true, ℕ, ◌+◌, ◌≡◌, ◌≤◌}
use Rattle.base_ids.specs.declared.ids.LaneId.{LaneId}
use Rattle.base_ids.specs.declared.ids.OpId.{OpId}
use Rattle.base_ids.specs.declared.ids.TableId.{TableId}
use Rattle.base_ids.specs.declared.ids.Version.{Version}
use Rattle.cell_merge.specs.declared.cell.Cell.{Cell}
use Rattle.cluster_history.specs.History.{History}
use Rattle.cluster_history.specs.Messages.{key_of}
use Rattle.cluster_history.specs.Requests.{Request, request_at}
use Rattle.cluster_history.specs.Topology.{state_of_version}
use Rattle.cluster_history.specs.declared.data.Opening.{Opening}
use Rattle.cluster_history.specs.declared.data.Operation.TheVariants.{Write as WriteOf}
use Rattle.register_model.specs.declared.data.Key.{Key}
use Rattle.stage_graph.specs.Needs.{base_need}
use Rattle.stage_graph.specs.declared.level.Level.{Level}
use Rattle.tablet_map.specs.declared.tablet.Tablet.{Tablet}
use Rattle.token_ring.specs.declared.token.Token.{Token}
use Rattle.topo_state.specs.Lists.{reads_of, writes_both}
use Rattle.topo_state.specs.State.{Topology}
use Rattle.topo_state.specs.Views.{view}
use Rattle.stream_law.specs.Covered.{covered_count, last_version}
use Rattle.stream_law.specs.Settled.{is_settled}

-- the version is at least the one before the log's
abbrev pub is_recent : Opening → History → Version → Bool
is_recent opening history version = nat_le (last_version opening history) (version.0 + 1)

-- the tablet of the key at a version of the log
abbrev pub view_in : Option Topology → Key → Option Tablet
view_in None key = None
view_in (Some state) key = view state key.table key.token.value

abbrev pub view_at : Opening → History → Version → Key → Option Tablet
view_at opening history version key = view_in (state_of_version opening history version) key

-- So many of the replicas that reads go to hold the cell, or a greater one; and where writes go to both lists at the
-- log's version, so do as many of the tablet's own.
pub record IsCovered (opening : Opening) (history : History) (version : Version) (tablet : Tablet) (key : Key)
    (cell : Cell) (base : ℕ)
    : Type 0 where
  pub reads : base ≤ covered_count opening history key cell (reads_of tablet)
  pub old :
      version.0 ≡ last_version opening history →
      writes_both tablet ≡ true →
      base ≤ covered_count opening history key cell tablet.replicas

-- So it is with each settled write, by as many as its level asks for, at the log's version and at the one before it.
abbrev pub Cover : Opening → History → Type 0
Cover opening history =
    (lane : LaneId) (op : OpId) (request : Request) (table : TableId) (token : Token) (cell : Cell)
    (level : Level) (version : Version) (tablet : Tablet) →
    is_settled opening history lane op ≡ true →
    request_at opening history lane op ≡ Some request →
    request.operation ≡ WriteOf table token cell level →
    is_recent opening history version ≡ true →
    view_at opening history version (key_of (WriteOf table token cell level)) ≡ Some tablet →
    IsCovered opening history version tablet (key_of (WriteOf table token cell level)) cell
    (base_need level (length tablet.replicas))
