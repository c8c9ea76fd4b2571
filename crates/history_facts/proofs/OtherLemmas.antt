-- What an actor is known by stays as it was while others act.
use Rattle.std.proofs.Common.{ap}
use Rattle.cluster_history.proofs.FrameLemmas.{floor_of-other, live_ops-other, live_request-other, look_of-other}
use Rattle.cluster_history.proofs.StayLemmas.{applied_state-other}
use Rattle.cluster_history.proofs.WithinLemmas.{applied_within}
use Rattle.topo_state.specs.State.{Topology}
use Rattle.history_facts.specs.Others.{OthersLeaveFloors, OthersLeaveLiveRequests, OthersLeaveLooks, OthersLeaveVersions}

pub others_leave_looks : OthersLeaveLooks
others_leave_looks history entry topo other = look_of-other history entry topo other

pub others_leave_floors : OthersLeaveFloors
others_leave_floors history entry host other = floor_of-other history entry host other

pub others_leave_versions : OthersLeaveVersions
others_leave_versions opening history entry host legal other =
    ap (λ (s : Topology). s.version) (applied_state-other opening history entry host (applied_within opening history host legal) other)

pub others_leave_live_requests : OthersLeaveLiveRequests
others_leave_live_requests opening history entry lane other =
    record {
      numbers = live_ops-other history entry lane other;
      requests = λ op. live_request-other opening history entry lane op other;
    }
