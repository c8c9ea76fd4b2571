-- What an actor is known by stays as it was while others act: the look of a coordinator, the floor and the version of a
-- host, and the live requests of a lane.
use Rattle.std.specs.Prelude.{false, ◌∷◌, ◌≡◌}
use Rattle.base_ids.specs.declared.ids.Actor.TheVariants.{Host as ByHost, Lane as ByLane, Topo as ByTopo}
use Rattle.base_ids.specs.declared.ids.HostId.{HostId}
use Rattle.base_ids.specs.declared.ids.LaneId.{LaneId}
use Rattle.base_ids.specs.declared.ids.OpId.{OpId}
use Rattle.cluster_history.specs.History.{History, is_by}
use Rattle.cluster_history.specs.Legal.{IsLegalHistory}
use Rattle.cluster_history.specs.Requests.{live_ops, live_request}
use Rattle.cluster_history.specs.Topology.{floor_of, look_of, version_of}
use Rattle.cluster_history.specs.declared.data.Entry.{Entry}
use Rattle.cluster_history.specs.declared.data.Opening.{Opening}

abbrev pub OthersLeaveLooks : Type 0
OthersLeaveLooks =
    (history : History) (entry : Entry) (topo : HostId) →
    is_by (ByTopo topo) entry.event ≡ false →
    look_of (entry ∷ history) topo ≡ look_of history topo

abbrev pub OthersLeaveFloors : Type 0
OthersLeaveFloors =
    (history : History) (entry : Entry) (host : HostId) →
    is_by (ByHost host) entry.event ≡ false →
    floor_of (entry ∷ history) host ≡ floor_of history host

-- also where the entry is an accepted proposal: the host has not applied it
abbrev pub OthersLeaveVersions : Type 0
OthersLeaveVersions =
    (opening : Opening) (history : History) (entry : Entry) (host : HostId) →
    IsLegalHistory opening history →
    is_by (ByHost host) entry.event ≡ false →
    version_of opening (entry ∷ history) host ≡ version_of opening history host

-- the same requests are live, and each is what it was
pub record AreLeft (opening : Opening) (history : History) (entry : Entry) (lane : LaneId) : Type 0 where
  pub numbers : live_ops (entry ∷ history) lane ≡ live_ops history lane
  pub requests : (op : OpId) → live_request opening (entry ∷ history) lane op ≡ live_request opening history lane op

abbrev pub OthersLeaveLiveRequests : Type 0
OthersLeaveLiveRequests =
    (opening : Opening) (history : History) (entry : Entry) (lane : LaneId) →
    is_by (ByLane lane) entry.event ≡ false →
    AreLeft opening history entry lane
