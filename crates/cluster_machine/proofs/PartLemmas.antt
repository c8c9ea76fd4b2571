-- The stores of the hosts, taken one by one.
use Rattle.std.proofs.Common.{List, [], ap, arith, length, refl, slice_index_or, zero, suc, ℕ, ◌++◌, ◌<◌, ◌∙◌, ◌∷◌, ◌≡◌}
use Rattle.replica_store.specs.Cells.{IsOrdered}
use Rattle.run_store.specs.Tables.{Laid}
use Rattle.group0_log.specs.Log.{CommandLog}
use Rattle.host_core.specs.Host.{HostView}
use Rattle.host_core.specs.Ready.{Holding}
use Rattle.lane_core.specs.Kept.{LaneHolding}
use Rattle.topo_coord.specs.Topo.{TopoHolding}
use Rattle.cluster_history.specs.History.{History}
use Rattle.cluster_history.specs.declared.data.Opening.{Opening}
use Rattle.cluster_machine.specs.Stores.{AreOf, HoldTheirs}
use Rattle.cluster_machine.specs.Tied.{AreTied}

-- one more
pub of_more : (hosts : List (Holding Laid)) (stores : List Laid) (host : Holding Laid) (store : Laid)
    → AreOf hosts stores
    → store.cells ≡ host.core.cells
    → IsOrdered store.cells
    → AreOf (hosts ++ host ∷ []) (stores ++ store ∷ [])
of_more [] [] host store are same ordered = (same, ordered, tt)
of_more [] (s ∷ stores) host store are same ordered = absurd are
of_more (h ∷ hosts) [] host store are same ordered = absurd are
of_more (h ∷ hosts) (s ∷ stores) host store are same ordered = (are.0, are.1, of_more hosts stores host store are.2 same ordered)

pub of_count : (hosts : List (Holding Laid)) (stores : List Laid) → AreOf hosts stores → length stores ≡ length hosts
of_count [] [] are = refl
of_count [] (s ∷ stores) are = absurd are
of_count (h ∷ hosts) [] are = absurd are
of_count (h ∷ hosts) (s ∷ stores) are = ap (λ n. suc n) (of_count hosts stores are.2)

-- the store at a place
record IsOf (host : Holding Laid) (store : Laid) : Type 0 where
  same : store.cells ≡ host.core.cells
  ordered : IsOrdered store.cells

of_each : (hosts : List (Holding Laid)) (stores : List Laid) (place : ℕ) (no_host : Holding Laid) (no_store : Laid) → AreOf hosts stores → place < length hosts → IsOf (slice_index_or hosts place no_host) (slice_index_or stores place no_store)
of_each [] [] place no_host no_store are less = absurd (omega (arith, less))
of_each [] (s ∷ stores) place no_host no_store are less = absurd are
of_each (h ∷ hosts) [] place no_host no_store are less = absurd are
of_each (h ∷ hosts) (s ∷ stores) zero no_host no_store are less = record { same = are.0; ordered = are.1 }
of_each (h ∷ hosts) (s ∷ stores) (suc place) no_host no_store are less = of_each hosts stores place no_host no_store are.2 (omega (arith, less))

first_of_hosts : (hosts : List (Holding Laid)) → 0 < length hosts → Holding Laid
first_of_hosts [] less = absurd (omega (arith, less))
first_of_hosts (host ∷ hosts) less = host

-- hosts that are as the history has them have stores that hold what it says
pub hold_theirs : (opening : Opening) (history : History) (log : CommandLog) (hosts : List (Holding Laid)) (lanes : List LaneHolding) (topos : List TopoHolding) (stores : List Laid)
    → AreTied opening history log hosts lanes topos
    → AreOf hosts stores
    → HoldTheirs opening history stores
hold_theirs opening history log hosts lanes topos stores tied are =
    record {
      count = of_count hosts stores are ∙ tied.hosts_are.count;
      each = λ host none there.
          let within : host.0 < length hosts = omega (arith, there, tied.hosts_are.count) in
          let some = first_of_hosts hosts (omega (arith, within)) in
          (of_each hosts stores host.0 some none are within).same ∙ ap (λ (view : HostView). view.cells) (tied.hosts_are.each host some there);
      ordered = λ host none there.
          let within : host.0 < length hosts = omega (arith, there, tied.hosts_are.count) in
          let some = first_of_hosts hosts (omega (arith, within)) in
          (of_each hosts stores host.0 some none are within).ordered;
    }
