-- What the stores of a cluster hold once its machine is taken apart.
use Rattle.std.specs.Prelude.{List, [], length, slice_index_or, ◌∷◌, ◌≡◌}
use Rattle.base_ids.specs.declared.ids.HostId.{HostId}
use Rattle.replica_store.specs.Cells.{IsOrdered}
use Rattle.run_store.specs.Tables.{Laid}
use Rattle.host_core.specs.Ready.{Holding}
use Rattle.cluster_history.specs.Held.{held_cells}
use Rattle.cluster_history.specs.History.{History}
use Rattle.cluster_history.specs.Openings.{HasHost}
use Rattle.cluster_history.specs.declared.data.Opening.{Opening}

-- Each host of the opening has its store, at the place of its number, which holds exactly the cells that the history
-- says of the host, in their order.
pub record HoldTheirs (opening : Opening) (history : History) (stores : List Laid) : Type 0 where
  pub count : length stores ≡ opening.hosts
  pub each : (host : HostId) (none : Laid) → HasHost opening host →
      (slice_index_or stores host.0 none).cells ≡ held_cells opening history host
  pub ordered : (host : HostId) (none : Laid) → HasHost opening host →
      IsOrdered (slice_index_or stores host.0 none).cells

-- the stores are those of the hosts, one by one: each has its host's cells, in their order
abbrev pub AreOf : List (Holding Laid) → List Laid → Type 0
AreOf [] [] = Unit {0}
AreOf (host ∷ hosts) (store ∷ stores) =
    (store.cells ≡ host.core.cells) × IsOrdered store.cells × AreOf hosts stores
AreOf hosts stores = ⊥
