-- Moves of a plan: when they are legal, and what they make of a state in which no tablet moves.
use Rattle.std.specs.Prelude.{◌≡◌, ◌<◌, true, List, [], ◌∷◌, length, map, None, Some, slice_set, if◌then◌else◌}
use Rattle.base_ids.specs.Names.{same_table}
use Rattle.tablet_map.specs.declared.tablet.Tablet.{Tablet}
use Rattle.tablet_map.specs.Calls.{at_rest}
use Rattle.tablet_map.specs.Replicas.{replaced_list, CanMove}
use Rattle.tablet_map.specs.Tablets.{tablet_in}
use Rattle.topo_state.specs.declared.command.Command.{Command}
use Rattle.topo_state.specs.declared.command.Command.TheVariants.{Start}
use Rattle.topo_state.specs.declared.data.Table.{Table}
use Rattle.topo_state.specs.After.{with_list}
use Rattle.topo_state.specs.Rules.{rule}
use Rattle.topo_state.specs.State.{Topology}
use Rattle.topo_state.specs.Tables.{table_in, have_distinct_ids}
use Rattle.balance_plan.specs.declared.data.Move.{Move}

-- the command that starts a move
abbrev pub start_of : Move → Command
start_of move = Start move.table move.tablet move.from move.to

-- the state judges that command well
abbrev pub IsLegal : Topology → Move → Type 0
IsLegal state move = rule state (start_of move) ≡ None

-- the tablet with the new replica in the old one's place
abbrev pub moved_tablet : Move → Tablet → Tablet
moved_tablet move tablet = at_rest (replaced_list move.from move.to tablet.replicas)

-- the table with the tablet that the move names moved
abbrev pub moved_here : Move → Table → Table
moved_here move table =
    with_list table
    (slice_set table.map.list move.tablet.0 (moved_tablet move (tablet_in table.map.list move.tablet.0)))

-- a table after a move; only the one that it names changes
abbrev pub moved_table : Move → Table → Table
moved_table move table = if same_table move.table table.id then moved_here move table else table

-- a move can be made: its table is there and has the tablet, which does not move, and the replica may move
pub record IsMovable (tables : List Table) (move : Move) : Type 0 where
  pub distinct : have_distinct_ids tables ≡ true
  pub table : Table
  pub there : table_in tables move.table ≡ Some table
  pub within : move.tablet.0 < length table.map.list
  pub rests : (tablet_in table.map.list move.tablet.0).transition ≡ None
  pub moves : CanMove (tablet_in table.map.list move.tablet.0).replicas move.from move.to

-- a state after a move: in a state in which no tablet moves, and none moves afterwards
abbrev pub moved : Topology → Move → Topology
moved state move = record state { tables = map (moved_table move) state.tables }

-- a state after moves, one after the other
abbrev pub moved_by : Topology → List Move → Topology
moved_by state [] = state
moved_by state (move ∷ moves) = moved_by (moved state move) moves

-- each move is legal in the state after the moves before it
abbrev pub AreLegal : Topology → List Move → Type 0
AreLegal state [] = Unit {0}
AreLegal state (move ∷ moves) = IsLegal state move × AreLegal (moved state move) moves
