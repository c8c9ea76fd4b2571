-- The lines that the program writes.
use Rattle.std.specs.Fmt.{decimal}
use Rattle.std.specs.List.{count_by}
use Rattle.std.specs.Prelude.{Bool, List, None, [], codes, false, length, true, ℕ, ◌++◌, ◌∷◌}
use Rattle.base_ids.specs.Rules.{event_rule_word, limit_word}
use Rattle.base_ids.specs.declared.ids.Version.{Version}
use Rattle.base_ids.specs.declared.rules.EventRule.{EventRule}
use Rattle.base_ids.specs.declared.rules.LimitName.{LimitName}
use Rattle.cluster_history.specs.Legal.{history_of}
use Rattle.cluster_history.specs.Topology.{last_state, log_of}
use Rattle.cluster_history.specs.declared.data.Journal.{Journal}
use Rattle.further_report.specs.Lines.{balance_lines, repaired_lines}
use Rattle.report_text.specs.Report.{reply_count, report, report_lines}
use Rattle.schedule_data.specs.declared.data.LineAct.{LineAct}
use Rattle.schedule_data.specs.declared.data.LineAct.TheVariants.{Event, Short}
use Rattle.schedule_data.specs.declared.data.LineEvent.TheVariants.{Propose}
use Rattle.schedule_data.specs.declared.data.SchedLine.{SchedLine}
use Rattle.schedule_data.specs.declared.data.Schedule.{Schedule}
use Rattle.schedule_data.specs.declared.data.Shorthand.TheVariants.{Force, Step}
use Rattle.schedule_play.specs.Play.{Stop, AtLimit, AtRule}
use Rattle.text_grammar.specs.Rules.{text_rule_word}
use Rattle.text_grammar.specs.declared.faults.TextRule.{TextRule}
use Rattle.topo_state.specs.declared.command.Command.{Command}
use Rattle.topo_state.specs.declared.command.Command.TheVariants.{Advance}
use Rattle.cluster_program.specs.declared.texts.Form.{Form}
use Rattle.cluster_program.specs.declared.texts.Form.TheVariants.{Planned, Repaired, Report, Summary}

-- ---- where a text or a play stops

abbrev pub usage_line : List ℕ
usage_line = codes "usage: play | run | trace | gen N | reads | balance\n"

abbrev pub read_fault_line : List ℕ
read_fault_line = codes "read-fault\n"

-- a line of the text breaks a rule
abbrev pub refused_line : ℕ → TextRule → List ℕ
refused_line line rule = codes "refused line " ++ (decimal line ++ (codes " " ++ (text_rule_word rule ++ codes "\n")))

-- the event of a line is not enabled
abbrev pub not_enabled_line : ℕ → EventRule → List ℕ
not_enabled_line line rule =
    codes "not-enabled line " ++ (decimal line ++ (codes " " ++ (event_rule_word rule ++ codes "\n")))

-- a limit is passed
abbrev pub limit_line : LimitName → List ℕ
limit_line name = codes "limit " ++ (limit_word name ++ codes "\n")

-- where a play stopped
abbrev pub stop_line : Stop → List ℕ
stop_line (AtRule line rule) = not_enabled_line line rule
stop_line (AtLimit name) = limit_line name

-- the report of a play that stopped: the lines so far, and where it stopped
abbrev pub stopped_lines : Journal → Stop → List (List ℕ)
stopped_lines journal stop = report_lines journal ++ stop_line stop ∷ []

-- ---- the summary of a made schedule's play

-- the command is the end of a move: `advance S none`
unfoldable pub is_move_end : Command → Bool
is_move_end (Advance session None) = true
is_move_end command = false

-- what a line says has the end of a move for its command
unfoldable pub says_move_end : LineAct → Bool
says_move_end (Event (Propose topo command)) = is_move_end command
says_move_end (Short (Step topo command)) = is_move_end command
says_move_end (Short (Force topo command)) = is_move_end command
says_move_end act = false

-- the line ends a move
unfoldable pub ends_move : SchedLine → Bool
ends_move line = says_move_end line.act

-- how many lines of the schedule end a move
abbrev pub moved_count : Schedule → ℕ
moved_count schedule = count_by ends_move schedule.lines

-- the number of the schedule, and the counts of entries, replies and commands, the version and the fence of the log's
-- state, and the count of lines that end a move
abbrev pub counts_line : ℕ → ℕ → ℕ → ℕ → Version → Version → ℕ → List ℕ
counts_line n events replies log version fence moved =
    codes "gen "
    ++ (decimal n
    ++ (codes " events " ++ (decimal events
    ++ (codes " replies " ++ (decimal replies
    ++ (codes " log " ++ (decimal log
    ++ (codes " version " ++ (decimal version.0
    ++ (codes " fence " ++ (decimal fence.0
    ++ (codes " moved " ++ (decimal moved ++ codes "\n")))))))))))))

-- the line that sums up the play of a number's schedule: what came of it is in the journal
abbrev pub summary_line : ℕ → Schedule → Journal → List ℕ
summary_line n schedule journal =
    counts_line
    n
    (length journal.entries)
    (reply_count (history_of journal))
    (length (log_of (history_of journal)))
    (last_state journal.opening (history_of journal)).version
    (last_state journal.opening (history_of journal)).fence
    (moved_count schedule)

-- ---- a play that came to its end

-- the report, and a line for each repaired read
abbrev pub reads_report : Journal → List (List ℕ)
reads_report journal = report journal ++ repaired_lines (history_of journal)

-- the report, and the lines of the plan that evens out the tablets of the log's last state
abbrev pub balance_report : Journal → List (List ℕ)
balance_report journal = report journal ++ balance_lines (last_state journal.opening (history_of journal))

-- what is written of it
abbrev pub form_lines : Form → Schedule → Journal → List (List ℕ)
form_lines Report schedule journal = report journal
form_lines (Summary n) schedule journal = summary_line n schedule journal ∷ []
form_lines Repaired schedule journal = reads_report journal
form_lines Planned schedule journal = balance_report journal
