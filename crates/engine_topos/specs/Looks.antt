-- What a look leaves.
use Rattle.std.specs.Prelude.{length, ℕ, ◌≡◌, ◌≤◌}
use Rattle.topo_state.specs.State.{Topology}
use Rattle.cluster_history.specs.History.{History}
use Rattle.cluster_history.specs.Topology.{log_of, state_after}
use Rattle.cluster_history.specs.declared.data.Opening.{Opening}

-- the log has so many commands, and this is the state after them
pub record IsReached (opening : Opening) (count : ℕ) (state : Topology) (history : History) : Type 0 where
  pub there : count ≤ length (log_of history)
  pub is : state ≡ state_after opening history count
