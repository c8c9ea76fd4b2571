use Rattle.std.proofs.Common.{◌≡◌, drop}
use Rattle.topo_state.specs.Sessions.{place_of_session}
use Rattle.migrate_core.proofs.session.place_of_session.Given as goal

abbrev pub invariant-loop-table : goal.invariant-loop-table
invariant-loop-table l = place_of_session (drop l.table-index l.tables) l.session ≡ place_of_session l.tables l.session
