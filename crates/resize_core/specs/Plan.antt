-- What is to be done next to carry out a decision to resize a table.
use Rattle.std.specs.Prelude.{List, map, Option, Some, None, if◌then◌else◌}
use Rattle.std.specs.List.{flat_map}
use Rattle.base_ids.specs.Names.{same_session}
use Rattle.base_ids.specs.declared.ids.HostId.{HostId}
use Rattle.base_ids.specs.declared.ids.Replica.{Replica}
use Rattle.base_ids.specs.declared.ids.Session.{Session}
use Rattle.base_ids.specs.declared.ids.TableId.{TableId}
use Rattle.barrier_core.specs.declared.data.Told.{Told}
use Rattle.barrier_core.specs.declared.data.What.TheVariants.{Ready as ReadyFor}
use Rattle.barrier_core.specs.Facts.{least_without}
use Rattle.tablet_map.specs.declared.tablet.Tablet.{Tablet}
use Rattle.topo_state.specs.declared.command.Command.TheVariants.{FinalizeResize}
use Rattle.topo_state.specs.declared.data.Resize.{Resize as Decision}
use Rattle.topo_state.specs.declared.data.ResizeKind.{ResizeKind}
use Rattle.topo_state.specs.declared.data.ResizeKind.TheVariants.{Split, Merge, Keep}
use Rattle.topo_state.specs.declared.data.Table.{Table}
use Rattle.topo_state.specs.State.{Topology}
use Rattle.topo_state.specs.Tables.{table_in}
use Rattle.migrate_core.specs.declared.next.Next.{Next}
use Rattle.migrate_core.specs.declared.next.Next.TheVariants.{Barrier, Ready, Propose, Nothing}
use Rattle.migrate_core.specs.Plan.{awaited_or, awaited_barrier}

-- the hosts of a list of replicas, and of the replicas of all tablets of a list
abbrev pub hosts_of : List Replica → List HostId
hosts_of replicas = map (λ (replica : Replica). replica.host) replicas

abbrev pub replica_hosts : List Tablet → List HostId
replica_hosts tablets = flat_map (λ (tablet : Tablet). hosts_of tablet.replicas) tablets

-- before a split, the least host with a replica that has not told that it is ready
abbrev pub awaited_ready : List Told → ResizeKind → Session → List Tablet → Option HostId
awaited_ready facts Split seq tablets = least_without facts (ReadyFor seq) (replica_hosts tablets)
awaited_ready facts Merge seq tablets = None
awaited_ready facts Keep seq tablets = None

abbrev pub next_for_decision : Topology → List Told → TableId → List Tablet → Session → Option Decision → Next
next_for_decision state facts id tablets seq None = Nothing
next_for_decision state facts id tablets seq (Some decision) =
    if same_session decision.seq seq then
    awaited_or Ready (awaited_ready facts decision.kind seq tablets) (
    awaited_or Barrier (awaited_barrier facts state) (
    Propose (FinalizeResize id seq)))
    else Nothing

abbrev pub next_for_table : Topology → List Told → TableId → Session → Option Table → Next
next_for_table state facts id seq None = Nothing
next_for_table state facts id seq (Some table) = next_for_decision state facts id table.map.list seq table.resize

abbrev pub plan_resize : Topology → List Told → TableId → Session → Next
plan_resize state facts id seq = next_for_table state facts id seq (table_in state.tables id)
