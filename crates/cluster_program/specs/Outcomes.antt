-- What came of a call that was to end so.
use Rattle.std.specs.Prelude.{List, length, ℕ, ◌+◌, ◌<◌, ◌≡◌, ◌≤◌, ◌⊎◌}
use Rattle.cluster_history.specs.declared.data.Journal.{Journal}
use Rattle.fault_io.specs.Counts.{Rose, SinkAccount, SourceAccount}
use Rattle.fault_io.specs.Given.{TakesBytes}
use Rattle.fault_io.specs.Written.{AddsPart, content_after}
use Rattle.fault_io.specs.declared.reading.ReadError.{ReadError}
use Rattle.fault_io.specs.declared.reading.ReadError.TheVariants.{NoMemory as ReadNoMemory, ReadFault as SourceFault, TooLong}
use Rattle.schedule_play.specs.Play.{IsFrontOf}
use Rattle.schedule_text.specs.declared.errors.ParseError.{ParseError}
use Rattle.schedule_text.specs.declared.errors.ParseError.TheVariants.{Limit as ParseLimit, NoMemory as ParseNoMemory, Refused as ParseRefused}
use Rattle.cluster_program.specs.Endings.{Ending, early, input_ending, input_limit, no_journal, read_fault_ending}
use Rattle.cluster_program.specs.Status.{status_number}
use Rattle.cluster_program.specs.Texts.{limit_line, refused_line}
use Rattle.cluster_program.specs.declared.outcome.Outcome.{Outcome}
use Rattle.cluster_program.specs.declared.status.Status.TheVariants.{Limit, NoMemory, Refused, WriteFault}

-- ---- what was written

-- the call ended as it was to, and no call of the sink failed
pub record IsWhole (ending : Ending) (outcome : Outcome) (before after : SinkAccount) : Type 0 where
  pub status : outcome.status ≡ status_number ending.status
  pub journal : outcome.journal ≡ ending.journal
  pub written : after.content ≡ content_after before.content ending.bytes
  pub quiet : after.faults ≡ before.faults

-- the sink failed before all was written
pub record IsCutShort (ending : Ending) (outcome : Outcome) (before after : SinkAccount) : Type 0 where
  pub status : outcome.status ≡ status_number WriteFault
  pub journal : outcome.journal ≡ ending.journal
  pub written : AddsPart before after ending.bytes
  pub cause : Rose before.faults after.faults

-- a journal has some of the first entries of another, or no opening was reached
abbrev pub IsReached : Journal → Journal → Type 0
IsReached journal whole = (journal ≡ no_journal) ⊎ IsFrontOf journal whole

-- memory was refused before anything was written, and the sink is as it was
pub record IsStarved (ending : Ending) (outcome : Outcome) (before after : SinkAccount) : Type 0 where
  pub status : outcome.status ≡ status_number NoMemory
  pub journal : IsReached outcome.journal ending.journal
  pub written : after ≡ before

-- what came of a call that takes no memory, and of the sink that it wrote to
abbrev pub IsSaidOrCut : Ending → Outcome → SinkAccount → SinkAccount → Type 0
IsSaidOrCut ending outcome before after = IsWhole ending outcome before after ⊎ IsCutShort ending outcome before after

-- what came of a call that may want memory
abbrev pub CameTo : Ending → Outcome → SinkAccount → SinkAccount → Type 0
CameTo ending outcome before after = IsSaidOrCut ending outcome before after ⊎ IsStarved ending outcome before after

-- ---- what was read

-- no call of a source failed
abbrev pub NoFault : SourceAccount → SourceAccount → Type 0
NoFault before after = after.faults ≡ before.faults

-- what came of a call that reads: no call of the source failed, and what was to come of the text came; or one failed,
-- the source's count of faults rose, and that is said
abbrev pub Answers : Ending → Outcome → SourceAccount → SourceAccount → SinkAccount → SinkAccount → Type 0
Answers ending outcome source_before source_after before after =
    (NoFault source_before source_after × CameTo ending outcome before after)
    ⊎ (Rose source_before.faults source_after.faults × IsSaidOrCut read_fault_ending outcome before after)

-- just these bytes were taken, at most one more than are read, and what was to come of them came; where they are more
-- than are read no memory is asked for
pub record IsAnswer (taken : List ℕ) (ending : Ending) (outcome : Outcome) (source_before source_after : SourceAccount)
    (before after : SinkAccount) : Type 0 where
  pub bytes : TakesBytes source_before source_after taken
  pub within : length taken ≤ input_limit + 1
  pub answer : Answers ending outcome source_before source_after before after
  pub over : input_limit < length taken → IsSaidOrCut input_ending outcome before after

-- ---- by what may end so

-- it ended in one of the ways that pass a test, and that came
abbrev pub CameAs : (Ending → Type 0) → Outcome → SinkAccount → SinkAccount → Type 0
CameAs is outcome before after = (ending : Ending) × is ending × CameTo ending outcome before after

abbrev pub AnswersAs :
    (Ending → Type 0) → Outcome → SourceAccount → SourceAccount → SinkAccount → SinkAccount → Type 0
AnswersAs is outcome source_before source_after before after =
    (ending : Ending) × is ending × Answers ending outcome source_before source_after before after

abbrev pub IsAnswerAs :
    (Ending → Type 0) → List ℕ → Outcome → SourceAccount → SourceAccount → SinkAccount → SinkAccount → Type 0
IsAnswerAs is taken outcome source_before source_after before after =
    (ending : Ending) × is ending × IsAnswer taken ending outcome source_before source_after before after

-- ---- where no schedule was read

-- what came of a source that was not read whole: memory was refused before anything was written, or what came was told
abbrev pub CameToError : ReadError → Outcome → SinkAccount → SinkAccount → Type 0
CameToError SourceFault outcome before after = IsSaidOrCut read_fault_ending outcome before after
CameToError TooLong outcome before after = IsSaidOrCut input_ending outcome before after
CameToError ReadNoMemory outcome before after = (outcome.status ≡ status_number NoMemory) × (after ≡ before)

-- what came of a text that says no schedule: the line at fault was told, or memory was refused before anything was
-- written
abbrev pub CameToFault : ParseError → Outcome → SinkAccount → SinkAccount → Type 0
CameToFault (ParseRefused line rule) outcome before after =
    CameTo (early Refused (refused_line line rule)) outcome before after
CameToFault (ParseLimit name) outcome before after = CameTo (early Limit (limit_line name)) outcome before after
CameToFault ParseNoMemory outcome before after = (outcome.status ≡ status_number NoMemory) × (after ≡ before)
