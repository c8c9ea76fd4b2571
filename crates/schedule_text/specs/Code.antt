-- What the code's values stand for, and what it answers.
use Rattle.std.specs.Prelude.{◌≡◌, ℕ, List, Result, Ok, Err}
use Rattle.schedule_data.specs.declared.data.Schedule.{Schedule}
use Rattle.text_grammar.specs.declared.faults.TextRule.{TextRule}
use Rattle.text_grammar.specs.declared.faults.TextRule.TheVariants.{NoHeader}
use Rattle.text_grammar.specs.declared.faults.Fault.{Fault}
use Rattle.text_grammar.specs.declared.faults.Fault.TheVariants.{Refused as RefusedIn, Limit as LimitIn}
use Rattle.text_grammar.specs.Readings.{or_rule, ◌>>=◌, reading}
use Rattle.text_grammar.specs.Folds.{LineFault, at_line, line_reading}
use Rattle.schedule_words.specs.Labels.{lines_in}
use Rattle.schedule_header.specs.Header.{no_header}
use Rattle.schedule_header.specs.Forms.{format_of}
use Rattle.schedule_header.specs.Code.{header_in, next_step}
use Rattle.schedule_lines.specs.Forms.{act_form}
use Rattle.schedule_text.specs.Language.{schedules, Body, State, Nothing, InHeader, InBody, counts_of, state_behind, after_act}
use Rattle.schedule_text.specs.Texts.{IsScheduleText, IsFaultAt}
use Rattle.schedule_text.specs.declared.state.BodyState.{BodyState}
use Rattle.schedule_text.specs.declared.state.State.{State as CodeState}
use Rattle.schedule_text.specs.declared.state.State.TheVariants.{Nothing as NothingYet, Header as HeaderYet, Body as BodyYet}
use Rattle.schedule_text.specs.declared.errors.ParseError.{ParseError}
use Rattle.schedule_text.specs.declared.errors.ParseError.TheVariants.{Refused, Limit, NoMemory}

abbrev pub body_in : BodyState → Body
body_in body =
    record { format = body.format; opening = body.opening; labels = lines_in body.labels; lines = body.lines }

abbrev pub state_in : CodeState → State
state_in NothingYet = Nothing
state_in (HeaderYet header) = InHeader (header_in header)
state_in (BodyYet body) = InBody (body_in body)

-- ---- what a line makes that is not passed over

abbrev pub first_next : List (List ℕ) → Result State Fault
first_next words = or_rule NoHeader (format_of words) >>= λ format. Ok (InHeader (no_header format))

abbrev pub act_next : ℕ → Body → List (List ℕ) → Result State Fault
act_next number body words =
    reading (act_form (counts_of body.format body.opening) body.labels) words >>= λ said.
    Ok (InBody (after_act number body said))

abbrev pub told_next : ℕ → State → List (List ℕ) → Result State Fault
told_next number Nothing words = first_next words
told_next number (InHeader header) words = next_step header words >>= λ step. Ok (state_behind header.format step)
told_next number (InBody body) words = act_next number body words

-- what the code has in the end
abbrev pub code_ended : Result Schedule TextRule → Result Schedule Fault
code_ended (Ok schedule) = Ok schedule
code_ended (Err rule) = Err (RefusedIn rule)

-- what the line of a number makes
abbrev pub line_at : ℕ → State → List (List ℕ) → Result State LineFault
line_at number state words = at_line number (line_reading schedules number state words)

-- ---- what the code answers

-- it fails as the reading does, unless memory was refused; a limit is named without its line
abbrev pub CodeFailsAs : {Y : Type 0} → ParseError → Result Y LineFault → Type 0
CodeFailsAs (Refused line rule) read = read ≡ Err (record { line = line; fault = RefusedIn rule })
CodeFailsAs (Limit name) read = (line : ℕ) × (read ≡ Err (record { line = line; fault = LimitIn name }))
CodeFailsAs NoMemory read = Unit {0}

-- it gives what is read, seen by a view
abbrev pub TextGives : {X Y : Type 0} → (X → Y) → Result X ParseError → Result Y LineFault → Type 0
TextGives view (Ok x) read = read ≡ Ok (view x)
TextGives view (Err error) read = CodeFailsAs error read

-- it says what the text says, or names its first fault
abbrev pub IsTold : List ℕ → Result Schedule ParseError → Type 0
IsTold bytes (Ok schedule) = IsScheduleText bytes schedule
IsTold bytes (Err (Refused line rule)) = IsFaultAt bytes line (RefusedIn rule)
IsTold bytes (Err (Limit name)) = (line : ℕ) × IsFaultAt bytes line (LimitIn name)
IsTold bytes (Err NoMemory) = Unit {0}
