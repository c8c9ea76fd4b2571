-- What a cleanup does.
use Rattle.std.specs.Prelude.{Option, Some, None, if◌then◌else◌}
use Rattle.base_ids.specs.declared.ids.HostId.{HostId}
use Rattle.base_ids.specs.declared.ids.Session.{Session}
use Rattle.replica_store.specs.Cells.{Cells, outside}
use Rattle.topo_state.specs.State.{Topology}
use Rattle.topo_state.specs.Moves.{move_of, cleans_host}
use Rattle.topo_state.specs.declared.moves.Move.{Move}
use Rattle.replica_core.specs.declared.cleanup.Cleanup.{Cleanup}
use Rattle.replica_core.specs.declared.cleanup.Cleanup.TheVariants.{Cleaned, NotMine}

abbrev pub cleanup_by : HostId → Option Move → Cleanup
cleanup_by host move = if cleans_host host move then Cleaned else NotMine

-- the session cleans the host where the state has it in a stage that cleans this host
abbrev pub cleanup_of : Topology → HostId → Session → Cleanup
cleanup_of state host session = cleanup_by host (move_of state session)

abbrev pub cells_without : Cells → Option Move → Cells
cells_without cells None = cells
cells_without cells (Some move) = outside cells move.table move.range

abbrev pub cells_cleaned_by : Cells → HostId → Option Move → Cells
cells_cleaned_by cells host move = if cleans_host host move then cells_without cells move else cells

-- the host's cells after a cleanup: those of the moved tablet's range are dropped, where the session cleans the host
abbrev pub cleaned_cells : Cells → Topology → HostId → Session → Cells
cleaned_cells cells state host session = cells_cleaned_by cells host (move_of state session)
