-- How a call is to end, by what it is given: the status, the journal that it keeps, and what it writes. A text ends in
-- just one way, since it says one schedule or has one first fault.
use Rattle.std.specs.List.{concat}
use Rattle.std.specs.Prelude.{List, None, Option, Some, [], length, ℕ, ◌<◌, ◌≡◌, ◌≤◌, ◌⊎◌}
use Rattle.base_ids.specs.declared.rules.LimitName.TheVariants.{Input}
use Rattle.cluster_history.specs.Legal.{opening_journal}
use Rattle.cluster_history.specs.declared.data.Journal.{Journal}
use Rattle.cluster_history.specs.declared.data.Opening.{Opening}
use Rattle.command_words.specs.declared.words.Command.{Command}
use Rattle.command_words.specs.declared.words.Command.TheVariants.{Balance, Gen, Play, Reads}
use Rattle.schedule_data.specs.declared.data.Schedule.{Schedule}
use Rattle.schedule_gen.specs.Schedule.{schedule_text}
use Rattle.schedule_play.specs.Play.{AtLimit, AtRule, Stop, played}
use Rattle.schedule_text.specs.Texts.{IsFaultAt, IsScheduleText}
use Rattle.text_grammar.specs.declared.faults.Fault.{Fault}
use Rattle.text_grammar.specs.declared.faults.Fault.TheVariants.{Limit as PassesLimit, Refused as BreaksRule}
use Rattle.cluster_program.specs.Texts.{form_lines, limit_line, read_fault_line, refused_line, stopped_lines, usage_line}
use Rattle.cluster_program.specs.declared.status.Status.{Status}
use Rattle.cluster_program.specs.declared.status.Status.TheVariants.{Done, Limit, NotEnabled, ReadFault, Refused, Usage}
use Rattle.cluster_program.specs.declared.texts.Form.{Form}
use Rattle.cluster_program.specs.declared.texts.Form.TheVariants.{Planned, Repaired, Report, Summary}

-- the status, the journal that is kept, and all that is to be written
pub record Ending : Type 0 where
  pub status : Status
  pub journal : Journal
  pub bytes : List ℕ

-- ---- where no opening is reached

-- no hosts, and nothing happened
abbrev pub no_opening : Opening
no_opening = record { hosts = 0; lanes = 0; shards = 0; members = []; tables = [] }

abbrev pub no_journal : Journal
no_journal = opening_journal no_opening

-- one line is written
abbrev pub early : Status → List ℕ → Ending
early status line = record { status = status; journal = no_journal; bytes = line }

-- the words are no command
abbrev pub usage_ending : Ending
usage_ending = early Usage usage_line

-- the source failed
abbrev pub read_fault_ending : Ending
read_fault_ending = early ReadFault read_fault_line

-- more bytes came than are read
abbrev pub input_ending : Ending
input_ending = early Limit (limit_line Input)

-- a line of the text breaks a rule, or passes a limit
abbrev pub fault_ending : ℕ → Fault → Ending
fault_ending line (BreaksRule rule) = early Refused (refused_line line rule)
fault_ending line (PassesLimit name) = early Limit (limit_line name)

-- ---- where a schedule is played

-- the status of a play that stopped
abbrev pub stop_status : Stop → Status
stop_status (AtRule line rule) = NotEnabled
stop_status (AtLimit name) = Limit

-- the play of a schedule came to its end
abbrev pub whole_ending : Form → Schedule → Journal → Ending
whole_ending form schedule journal =
    record { status = Done; journal = journal; bytes = concat (form_lines form schedule journal) }

-- the play stopped, which is told in one form
abbrev pub stopped_ending : Journal → Stop → Ending
stopped_ending journal stop =
    record { status = stop_status stop; journal = journal; bytes = concat (stopped_lines journal stop) }

-- the play of a schedule came to its end, or stopped
abbrev pub ending_at : Form → Schedule → Journal → Option Stop → Ending
ending_at form schedule journal None = whole_ending form schedule journal
ending_at form schedule journal (Some stop) = stopped_ending journal stop

-- how the play of a schedule is to end
abbrev pub play_ending : Form → Schedule → Ending
play_ending form schedule = ending_at form schedule (played schedule).journal (played schedule).stop

-- ---- the commands

-- a text has at most so many bytes: one more may be taken, to know that the source has more
abbrev pub input_limit : ℕ
input_limit = 4194304

-- how a text is to end: the schedule that it says is played, or its first line at fault is told
abbrev pub IsTextEnding : Form → List ℕ → Ending → Type 0
IsTextEnding form text ending =
    ((schedule : Schedule) × IsScheduleText text schedule × (ending ≡ play_ending form schedule))
    ⊎ ((line : ℕ) × (fault : Fault) × IsFaultAt text line fault × (ending ≡ fault_ending line fault))

-- how a command that reads is to end on a text: more bytes came than are read, or else as the text says
abbrev pub IsReadEnding : Form → List ℕ → Ending → Type 0
IsReadEnding form text ending =
    ((input_limit < length text) × (ending ≡ input_ending))
    ⊎ ((length text ≤ input_limit) × IsTextEnding form text ending)

-- how `play`, `reads` and `balance` are to end on a text
abbrev pub IsPlayEnding : List ℕ → Ending → Type 0
IsPlayEnding text ending = IsReadEnding Report text ending

abbrev pub IsReadsEnding : List ℕ → Ending → Type 0
IsReadsEnding text ending = IsReadEnding Repaired text ending

abbrev pub IsBalanceEnding : List ℕ → Ending → Type 0
IsBalanceEnding text ending = IsReadEnding Planned text ending

-- how `gen` is to end on a number
abbrev pub IsGenEnding : ℕ → Ending → Type 0
IsGenEnding n ending = IsTextEnding (Summary n) (schedule_text n) ending

-- how the program is to end on what it is asked and a text
abbrev pub IsCommandEnding : Option Command → List ℕ → Ending → Type 0
IsCommandEnding None text ending = ending ≡ usage_ending
IsCommandEnding (Some Play) text ending = IsPlayEnding text ending
IsCommandEnding (Some (Gen n)) text ending = IsGenEnding n ending
IsCommandEnding (Some Reads) text ending = IsReadsEnding text ending
IsCommandEnding (Some Balance) text ending = IsBalanceEnding text ending
