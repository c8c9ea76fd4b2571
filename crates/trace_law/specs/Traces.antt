-- What the written form of a legal run is: the text of a schedule whose play is that run.
use Rattle.std.specs.Prelude.{length, ℕ, ◌≡◌, ◌≢◌, ◌≤◌}
use Rattle.cluster_history.specs.Legal.{IsLegalRun, history_of}
use Rattle.cluster_history.specs.Topology.{log_of}
use Rattle.cluster_history.specs.declared.data.Journal.{Journal}
use Rattle.cluster_machine.specs.Step.{most_commands, most_entries}
use Rattle.schedule_data.specs.declared.data.Schedule.{Schedule}
use Rattle.schedule_play.specs.Play.{ended_play, played}
use Rattle.schedule_text.specs.Texts.{IsScheduleText}
use Rattle.schedule_write.specs.Written.{written_form}
use Rattle.written_text.specs.Fits.{FitsJournal}
use Rattle.written_text.specs.Schedules.{schedule_from}

-- the journal passes no limit
pub record IsWithin (journal : Journal) : Type 0 where
  pub entries : length journal.entries ≤ most_entries
  pub commands : length (log_of (history_of journal)) ≤ most_commands

-- a schedule with a line for each entry of a legal run, whatever the lines' numbers, is played to its end, and its play
-- is that run
abbrev pub EntriesArePlayed : Type 0
EntriesArePlayed =
    (journal : Journal) (number : ℕ) → IsLegalRun journal → IsWithin journal →
    played (schedule_from number journal) ≡ ended_play journal

-- The written form of the journal is the text of a schedule. The schedule has the journal's opening and a line for each
-- of its entries, and its play goes to its end and is the journal.
pub record IsTrace (journal : Journal) : Type 0 where
  pub schedule : Schedule
  pub text : IsScheduleText (written_form journal) schedule
  pub opening : schedule.opening ≡ journal.opening
  pub count : length schedule.lines ≡ length journal.entries
  pub plays : played schedule ≡ ended_play journal

-- the law of the trace
abbrev pub WrittenRunsAreTraces : Type 0
WrittenRunsAreTraces =
    (journal : Journal) → IsLegalRun journal → journal.opening.hosts ≢ 0 → FitsJournal journal → IsWithin journal →
    IsTrace journal
