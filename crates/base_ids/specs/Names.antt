-- When two names are the same: when their numbers are equal.
use Rattle.std.specs.Prelude.{Bool, false, ◌==◌, ◌&&◌}
use Rattle.base_ids.specs.declared.ids.HostId.{HostId}
use Rattle.base_ids.specs.declared.ids.LaneId.{LaneId}
use Rattle.base_ids.specs.declared.ids.Actor.{Actor}
use Rattle.base_ids.specs.declared.ids.Actor.TheVariants.{Host as ByHost, Lane as ByLane, Topo as ByTopo}
use Rattle.base_ids.specs.declared.ids.OpId.{OpId}
use Rattle.base_ids.specs.declared.ids.Session.{Session}
use Rattle.base_ids.specs.declared.ids.TableId.{TableId}
use Rattle.base_ids.specs.declared.ids.Version.{Version}

abbrev pub same_host : HostId → HostId → Bool
same_host a b = a.0 == b.0

-- the same lane of the same host
abbrev pub same_lane : LaneId → LaneId → Bool
same_lane a b = same_host a.host b.host && (a.lane == b.lane)

-- the same lane, host or coordinator; two of different kinds are never the same, even on one host
abbrev pub same_actor : Actor → Actor → Bool
same_actor (ByLane a) (ByLane b) = same_lane a b
same_actor (ByHost a) (ByHost b) = same_host a b
same_actor (ByTopo a) (ByTopo b) = same_host a b
same_actor a b = false

abbrev pub same_op : OpId → OpId → Bool
same_op a b = a.0 == b.0

abbrev pub same_session : Session → Session → Bool
same_session a b = a.0 == b.0

abbrev pub same_table : TableId → TableId → Bool
same_table a b = a.0 == b.0

-- the version of the topology at first
abbrev pub first_version : Version
first_version = record { 0 = 1 }
