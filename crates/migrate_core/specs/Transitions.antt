-- The transition of a session in a state, and where it leads.
use Rattle.std.specs.Prelude.{Bool, ℕ, List, Option, Some, None, if◌then◌else◌}
use Rattle.base_ids.specs.declared.ids.HostId.{HostId}
use Rattle.base_ids.specs.declared.ids.Session.{Session}
use Rattle.base_ids.specs.declared.ids.TableId.{TableId}
use Rattle.stage_graph.specs.declared.stage.Stage.{Stage}
use Rattle.stage_graph.specs.declared.stage.Stage.TheVariants.{AllowWriteBothReadOld, WriteBothReadOld, Streaming, WriteBothReadNew, UseNew, Cleanup, EndMigration, FallbackCleanup, CleanupTarget, RevertMigration}
use Rattle.tablet_map.specs.declared.tablet.Transition.{Transition}
use Rattle.tablet_map.specs.Tablets.{tablet_in}
use Rattle.topo_state.specs.declared.data.Table.{Table}
use Rattle.topo_state.specs.State.{Topology}
use Rattle.topo_state.specs.Sessions.{SessionPlace, place_of_session}
use Rattle.topo_state.specs.Tables.{table_in}

abbrev pub transition_in : Option Table → ℕ → Option Transition
transition_in None tablet = None
transition_in (Some table) tablet = (tablet_in table.map.list tablet).transition

abbrev pub transition_at : List Table → Option SessionPlace → Option Transition
transition_at tables None = None
transition_at tables (Some place) = transition_in (table_in tables place.table) place.tablet

-- none where no tablet moves under the session
abbrev pub transition_of : Topology → Session → Option Transition
transition_of state session = transition_at state.tables (place_of_session state.tables session)

-- a place as a table's number and the number of one of its tablets
abbrev pub place_seen : TableId × ℕ → SessionPlace
place_seen place = record { table = place.0; tablet = place.1 }

-- Where a transition goes from its stage: to the one stage that the table of stages has; of two, to that of the way
-- back where this is asked for, and else to that of the way forward. `None` ends the transition.
abbrev pub target : Stage → Bool → Option Stage
target AllowWriteBothReadOld back = Some (if back then CleanupTarget else WriteBothReadOld)
target WriteBothReadOld back = Some (if back then CleanupTarget else Streaming)
target Streaming back = Some (if back then CleanupTarget else WriteBothReadNew)
target WriteBothReadNew back = Some (if back then FallbackCleanup else UseNew)
target UseNew back = Some Cleanup
target Cleanup back = Some EndMigration
target EndMigration back = None
target FallbackCleanup back = Some CleanupTarget
target CleanupTarget back = Some RevertMigration
target RevertMigration back = None

-- the host that a stage cleans: on the way forward the leaving replica's, on the way back the pending one's
abbrev pub cleaned_at : Stage → Transition → Option HostId
cleaned_at Cleanup t = Some t.leaving.host
cleaned_at CleanupTarget t = Some t.pending.host
cleaned_at stage t = None

-- the host that a stage streams to
abbrev pub streamed_at : Stage → Transition → Option HostId
streamed_at Streaming t = Some t.pending.host
streamed_at stage t = None

-- the same of a session's transition, where there is one
abbrev pub cleaned_host_in : Option Transition → Option HostId
cleaned_host_in None = None
cleaned_host_in (Some t) = cleaned_at t.stage t

abbrev pub streamed_host : Option Transition → Option HostId
streamed_host None = None
streamed_host (Some t) = streamed_at t.stage t
