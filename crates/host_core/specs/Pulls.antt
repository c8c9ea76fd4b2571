-- The pulls of a host, each under its session.
use Rattle.std.specs.Prelude.{ℕ, List, Option, Some, None, if◌then◌else◌}
use Rattle.std.specs.Map.{lookup, remove_entry}
use Rattle.indexmap.specs.IndexMap.{insert_entry}
use Rattle.base_ids.specs.Names.{same_session}
use Rattle.base_ids.specs.declared.ids.HostId.{HostId}
use Rattle.base_ids.specs.declared.ids.Session.{Session}
use Rattle.stream_core.specs.Pulls.{Pulling, new_pull}
use Rattle.topo_state.specs.State.{Topology}
use Rattle.topo_state.specs.Moves.{move_of, streams_to}
use Rattle.topo_state.specs.declared.moves.Move.{Move}

-- the pulls in the order in which they began
abbrev pub Pulls : Type 0
Pulls = List (Session × Pulling)

-- the pull of a session
abbrev pub pull_in : Pulls → Session → Option Pulling
pull_in pulls session = lookup (same_session session) pulls

-- the pulls with this one for its session: in the place of the one that is there, or behind the others
abbrev pub with_pull : Pulls → Session → Pulling → Pulls
with_pull pulls session pull = insert_entry same_session pulls session pull

-- the pulls of other sessions, in their order
abbrev pub without_pull : Pulls → Session → Pulls
without_pull pulls session = remove_entry (same_session session) pulls

-- the pull that a move is for a host: of the tablet's range from the leaving replica's host, where it streams to this
-- host
abbrev pub pull_of_move : HostId → Session → Option Move → Option Pulling
pull_of_move host session None = None
pull_of_move host session (Some move) =
    if streams_to host move then Some (new_pull session move.table move.range host move.transition.leaving.host)
    else None

abbrev pub pull_of_state : Topology → HostId → Session → Option Pulling
pull_of_state state host session = pull_of_move host session (move_of state session)

-- what is seen of a table of pulls: the pulls, and how many can begin without taking memory
pub record PullTableView : Type 0 where
  pub list : Pulls
  pub spare : ℕ
