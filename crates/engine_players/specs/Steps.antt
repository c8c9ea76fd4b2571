-- The own step of each kind.
use Rattle.std.specs.Prelude.{Some, ◌∷◌, ◌≡◌}
use Rattle.base_ids.specs.declared.ids.Actor.TheVariants.{Host as ByHost, Lane as ByLane, Topo as ByTopo}
use Rattle.base_ids.specs.declared.ids.HostId.{HostId}
use Rattle.base_ids.specs.declared.ids.LaneId.{LaneId}
use Rattle.cluster_history.specs.History.{History, actor_of}
use Rattle.cluster_history.specs.Legal.{IsNext}
use Rattle.cluster_history.specs.Openings.{HasLane, IsValidOpening}
use Rattle.cluster_history.specs.declared.data.Entry.{Entry}
use Rattle.cluster_history.specs.declared.data.Opening.{Opening}
use Rattle.host_core.specs.Host.{host_after}
use Rattle.host_core.specs.declared.data.HostInput.{HostInput}
use Rattle.host_ties.specs.HostTies.{host_input, host_view}
use Rattle.lane_core.specs.Lane.{lane_after}
use Rattle.lane_core.specs.declared.data.LaneInput.{LaneInput}
use Rattle.lane_ties.specs.LaneTies.{lane_input, lane_view}
use Rattle.topo_coord.specs.Topo.{topo_after}
use Rattle.topo_coord.specs.declared.data.TopoInput.{TopoInput}
use Rattle.topo_ties.specs.TopoTies.{topo_input, topo_view}
use Rattle.engine_desk.specs.Chairs.{IsLater}
use Rattle.engine_players.specs.Inputs.{kept_input}

-- what was made of an event by what was seen is what the history makes of it where it comes, for a host
abbrev pub HostsStep : Type 0
HostsStep =
    (opening : Opening) (host : HostId) (entry : Entry) (input : HostInput) (seen now : History) →
    IsValidOpening opening →
    IsLater opening (ByHost host) seen now →
    IsNext opening now entry →
    actor_of entry.event ≡ ByHost host →
    host_input seen entry.event ≡ Some input →
    host_after (host_view opening seen host) input ≡ host_view opening (entry ∷ now) host

-- for a lane
abbrev pub LanesStep : Type 0
LanesStep =
    (opening : Opening) (lane : LaneId) (entry : Entry) (input : LaneInput) (seen now : History) →
    IsValidOpening opening →
    HasLane opening lane →
    IsLater opening (ByLane lane) seen now →
    IsNext opening now entry →
    actor_of entry.event ≡ ByLane lane →
    lane_input opening seen entry.event ≡ Some input →
    lane_after (lane_view opening seen lane) input ≡ lane_view opening (entry ∷ now) lane

-- and for a coordinator, but for its looks
abbrev pub ToposStep : Type 0
ToposStep =
    (opening : Opening) (topo : HostId) (entry : Entry) (input : TopoInput) (seen now : History) →
    IsValidOpening opening →
    IsLater opening (ByTopo topo) seen now →
    IsNext opening now entry →
    actor_of entry.event ≡ ByTopo topo →
    kept_input opening seen entry.event ≡ Some input →
    topo_after (topo_view opening seen topo) input ≡ topo_view opening (entry ∷ now) topo

pub record ActorsStep : Type 0 where
  pub hosts : HostsStep
  pub lanes : LanesStep
  pub topos : ToposStep
