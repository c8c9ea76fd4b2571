-- The lines that are written after a report.
use Rattle.std.specs.Fmt.{decimal}
use Rattle.std.specs.Prelude.{List, None, Option, Some, [], codes, length, map, ℕ, ◌++◌, ◌∷◌}
use Rattle.balance_plan.specs.Loads.{spread}
use Rattle.balance_plan.specs.Moves.{moved_by}
use Rattle.balance_plan.specs.Plans.{TabletPlace, first_moving}
use Rattle.balance_plan.specs.declared.data.Move.{Move}
use Rattle.base_ids.specs.declared.ids.Replica.{Replica}
use Rattle.cluster_history.specs.History.{History}
use Rattle.monotone_read.specs.Notes.{repaired_in}
use Rattle.monotone_read.specs.declared.data.Repaired.{Repaired}
use Rattle.report_text.specs.Report.{found_text}
use Rattle.topo_state.specs.State.{Topology}
use Rattle.further_report.specs.Planned.{plan_of}

-- ---- repaired reads

-- the line of a repaired read: its lane, its number in that lane, and what it returned
abbrev pub repaired_line : Repaired → List ℕ
repaired_line read =
    codes "repaired "
    ++ (decimal read.lane.host.0
    ++ (codes "."
    ++ (decimal read.lane.lane
    ++ (codes " " ++ (decimal read.op.0 ++ (codes " " ++ (found_text read.cell ++ codes "\n")))))))

-- a line for each repaired read of a history, in the order of the entries at which they are answered
abbrev pub repaired_lines : History → List (List ℕ)
repaired_lines history = map repaired_line (repaired_in history)

-- ---- a plan

abbrev pub replica_text : Replica → List ℕ
replica_text replica = decimal replica.host.0 ++ (codes ":" ++ decimal replica.shard.0)

-- the line of a move: table and tablet, the replica that leaves, and the one that takes its place
abbrev pub move_line : Move → List ℕ
move_line move =
    codes "move "
    ++ (decimal move.table.0
    ++ (codes " "
    ++ (decimal move.tablet.0
    ++ (codes " " ++ (replica_text move.from ++ (codes " " ++ (replica_text move.to ++ codes "\n")))))))

-- the line behind the moves: how many they are, and the spread after them
abbrev pub balance_line : ℕ → ℕ → List ℕ
balance_line moves spread =
    codes "balance moves " ++ (decimal moves ++ (codes " spread " ++ (decimal spread ++ codes "\n")))

-- the line where a tablet moves, so that there is no plan: its table and its number
abbrev pub moving_line : TabletPlace → List ℕ
moving_line place =
    codes "balance moving " ++ (decimal place.table.0 ++ (codes " " ++ (decimal place.tablet ++ codes "\n")))

-- a line for each of the moves, and the one behind them
abbrev pub moves_lines : Topology → List Move → List (List ℕ)
moves_lines state moves =
    map move_line moves ++ balance_line (length moves) (spread (moved_by state moves)) ∷ []

abbrev pub balance_lines_by : Topology → Option TabletPlace → List (List ℕ)
balance_lines_by state None = moves_lines state (plan_of state)
balance_lines_by state (Some place) = moving_line place ∷ []

-- the lines of a state: those of its plan, or the line of the first tablet that moves
abbrev pub balance_lines : Topology → List (List ℕ)
balance_lines state = balance_lines_by state (first_moving state.tables)
