-- What the laws of a plan speak of.
use Rattle.std.specs.Prelude.{◌≡◌, ◌<◌, ℕ, true, length, Some}
use Rattle.base_ids.specs.declared.ids.Session.{Session}
use Rattle.base_ids.specs.declared.ids.TableId.{TableId}
use Rattle.tablet_map.specs.Tablets.{tablet_in, has_session}
use Rattle.topo_state.specs.declared.data.Table.{Table}
use Rattle.topo_state.specs.State.{Topology}
use Rattle.topo_state.specs.Sessions.{place_of_session}
use Rattle.topo_state.specs.Tables.{table_in}

-- no other tablet moves under the session than the one at which it is found
abbrev pub IsFoundOnce : Topology → Session → Type 0
IsFoundOnce state session =
    (id : TableId) (table : Table) (tablet : ℕ) → table_in state.tables id ≡ Some table →
    tablet < length table.map.list → has_session session (tablet_in table.map.list tablet) ≡ true →
    place_of_session state.tables session ≡ Some (record { table = id; tablet = tablet })
