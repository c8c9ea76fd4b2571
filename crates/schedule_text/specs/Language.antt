-- The language of schedule texts: what may stand as a line behind others, what a line makes, and what a text says.
use Rattle.std.specs.Prelude.{ℕ, List, [], ◌∷◌, ◌++◌, Option, Result, Ok, Err}
use Rattle.cluster_history.specs.declared.data.Opening.{Opening}
use Rattle.schedule_data.specs.declared.data.LineAct.{LineAct}
use Rattle.schedule_data.specs.declared.data.SchedLine.{SchedLine}
use Rattle.schedule_data.specs.declared.data.Schedule.{Schedule}
use Rattle.text_grammar.specs.declared.faults.TextRule.TheVariants.{NoHeader, NoGo}
use Rattle.text_grammar.specs.declared.faults.Fault.{Fault}
use Rattle.text_grammar.specs.declared.faults.Fault.TheVariants.{Refused}
use Rattle.text_grammar.specs.Readings.{or_rule}
use Rattle.text_grammar.specs.Shapes.{Shape, Made, Whole}
use Rattle.text_grammar.specs.Lines.{Language}
use Rattle.schedule_words.specs.Labels.{LineOf, no_labels, after_label}
use Rattle.schedule_words.specs.declared.counts.Counts.{Counts}
use Rattle.schedule_words.specs.declared.counts.Format.{Format}
use Rattle.schedule_header.specs.Header.{Header, no_header, Said as HeaderSaid, Step, More, Opened, step_of}
use Rattle.schedule_header.specs.Forms.{format_of, header_line}
use Rattle.schedule_lines.specs.Forms.{act_form}

-- what the lines behind the header have said so far
pub record Body : Type 0 where
  pub format : Format
  pub opening : Opening
  pub labels : LineOf
  pub lines : List SchedLine

-- what a text has said so far
pub data State : Type 0 where
  Nothing : State
  InHeader : Header → State
  InBody : Body → State

-- what a line says: the format, a line of the header, or what is played, with a label where it has one
pub data LineSaid : Type 0 where
  SaidFormat : Format → LineSaid
  SaidHeader : HeaderSaid → LineSaid
  SaidAct : Option (List ℕ) × LineAct → LineSaid

-- what a line is judged by: its format, and whom it may name as the one that acts
abbrev pub counts_of : Format → Opening → Counts
counts_of format opening = record { format = format; hosts = opening.hosts; lanes = opening.lanes }

-- what may stand next
abbrev pub form_at : State → Shape LineSaid
form_at Nothing = Made (Whole (λ words. or_rule NoHeader (format_of words))) SaidFormat
form_at (InHeader header) = Made (header_line header) SaidHeader
form_at (InBody body) = Made (act_form (counts_of body.format body.opening) body.labels) SaidAct

-- the state behind a line of the header of this format
abbrev pub state_behind : Format → Step → State
state_behind format (More header) = InHeader header
state_behind format (Opened opening) =
    InBody (record { format = format; opening = opening; labels = no_labels; lines = [] })

-- behind a line of this number that is played
abbrev pub after_act : ℕ → Body → Option (List ℕ) × LineAct → Body
after_act number body said =
    record body {
      labels = after_label body.labels said.0 number;
      lines = body.lines ++ record { line = number; act = said.1 } ∷ [];
    }

-- the state behind a line of this number
abbrev pub after_line : ℕ → State → LineSaid → State
after_line number Nothing (SaidFormat format) = InHeader (no_header format)
after_line number (InHeader header) (SaidHeader said) = state_behind header.format (step_of header said)
after_line number (InBody body) (SaidAct said) = InBody (after_act number body said)
after_line number state said = state

-- what the whole text says
abbrev pub finish : State → Result Schedule Fault
finish Nothing = Err (Refused NoHeader)
finish (InHeader header) = Err (Refused NoGo)
finish (InBody body) = Ok (record { opening = body.opening; lines = body.lines })

-- the language: which line may stand next, what it makes, and what the text says in the end
abbrev pub schedules : Language State LineSaid Schedule
schedules = record { shape = form_at; after = after_line; finish = finish }
