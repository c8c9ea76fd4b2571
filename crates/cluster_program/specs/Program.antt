-- What may be relied on where nothing fails.
use Rattle.std.specs.List.{concat}
use Rattle.std.specs.Prelude.{List, None, Option, Some, length, ℕ, ◌≡◌, ◌≤◌, ◌⊎◌}
use Rattle.command_words.specs.declared.words.Command.{Command}
use Rattle.command_words.specs.declared.words.Command.TheVariants.{Balance, Play, Reads}
use Rattle.cluster_history.specs.declared.data.Journal.{Journal}
use Rattle.fault_io.specs.Counts.{Rose, SinkAccount, SourceAccount}
use Rattle.fault_io.specs.Written.{content_after}
use Rattle.cluster_history.specs.Legal.{history_of}
use Rattle.cluster_history.specs.Topology.{last_state}
use Rattle.topo_state.specs.State.{Topology}
use Rattle.schedule_data.specs.declared.data.Schedule.{Schedule}
use Rattle.schedule_gen.specs.Schedule.{schedule_text}
use Rattle.schedule_play.specs.Play.{played}
use Rattle.schedule_text.specs.Texts.{IsScheduleText}
use Rattle.cluster_program.specs.Endings.{input_limit}
use Rattle.cluster_program.specs.Texts.{form_lines, summary_line}
use Rattle.cluster_program.specs.declared.outcome.Outcome.{Outcome}
use Rattle.cluster_program.specs.declared.texts.Form.{Form}
use Rattle.cluster_program.specs.declared.texts.Form.TheVariants.{Planned, Repaired, Report}

-- the log's state after all entries of a journal
abbrev pub end_state : Journal → Topology
end_state journal = last_state journal.opening (history_of journal)

-- all was done and written: the journal is that of the whole play, and what was written is what the form has of it
pub record IsReported (form : Form) (schedule : Schedule) (outcome : Outcome) (before after : SinkAccount) : Type 0 where
  pub status : outcome.status ≡ 0
  pub journal : outcome.journal ≡ (played schedule).journal
  pub written :
      after.content ≡ content_after before.content (concat (form_lines form schedule (played schedule).journal))

-- what was written is what the form has of a schedule whose play came to this journal
abbrev pub IsWrittenOf : Form → Journal → SinkAccount → SinkAccount → Type 0
IsWrittenOf form journal before after =
    (schedule : Schedule)
    × (after.content ≡ content_after before.content (concat (form_lines form schedule journal)))

-- the form in which a command that reads tells a play; other commands read nothing
abbrev pub asked_form : Option Command → Option Form
asked_form (Some Play) = Some Report
asked_form (Some Reads) = Some Repaired
asked_form (Some Balance) = Some Planned
asked_form asked = None

-- what was written is the line that sums up the play of the schedule that the text of a number says
abbrev pub IsSummed : ℕ → Journal → SinkAccount → SinkAccount → Type 0
IsSummed n journal before after =
    (schedule : Schedule)
    × IsScheduleText (schedule_text n) schedule
    × (after.content ≡ content_after before.content (summary_line n schedule journal))

-- A source that tells a text of at most 4194304 bytes that the grammar has, whose schedule is played to its end, gets
-- all that the form has of the play, or want of memory is told, where neither the source nor the sink fails.
abbrev pub IsComplete : Form → Outcome → SourceAccount → SourceAccount → SinkAccount → SinkAccount → Type 0
IsComplete form outcome source_before source_after before after =
    (text : List ℕ) (schedule : Schedule) →
    source_before.left ≡ Some text →
    length text ≤ input_limit →
    IsScheduleText text schedule →
    (played schedule).stop ≡ None →
    (Rose source_before.faults source_after.faults → ⊥) →
    (Rose before.faults after.faults → ⊥) →
    IsReported form schedule outcome before after ⊎ (outcome.status ≡ 8)
