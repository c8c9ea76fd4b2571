-- How a call ends as a function of its text, by the reading of it, which is shaped like the code: what it gives is an
-- ending of the text as Endings.antt has them.
use Rattle.std.specs.Prelude.{Err, List, None, Ok, Option, Result, Some, if◌then◌else◌, length, nat_lt, ℕ}
use Rattle.command_words.specs.declared.words.Command.{Command}
use Rattle.command_words.specs.declared.words.Command.TheVariants.{Balance, Gen, Play, Reads}
use Rattle.schedule_data.specs.declared.data.Schedule.{Schedule}
use Rattle.schedule_gen.specs.Schedule.{schedule_text}
use Rattle.schedule_text.specs.Texts.{schedule_of}
use Rattle.text_grammar.specs.Folds.{LineFault}
use Rattle.cluster_program.specs.Endings.{Ending, fault_ending, input_ending, input_limit, play_ending, usage_ending}
use Rattle.cluster_program.specs.declared.texts.Form.{Form}
use Rattle.cluster_program.specs.declared.texts.Form.TheVariants.{Planned, Repaired, Report, Summary}

-- what is read of a text: a schedule, or the first line at fault
unfoldable pub schedule_reading : List ℕ → Result Schedule LineFault
schedule_reading text = schedule_of text

-- what was read is played, or told
abbrev pub reading_ending : Form → Result Schedule LineFault → Ending
reading_ending form (Ok schedule) = play_ending form schedule
reading_ending form (Err fault) = fault_ending fault.line fault.fault

-- the ending of a command that reads on a text
abbrev pub ending_of : Form → List ℕ → Ending
ending_of form text = if nat_lt input_limit (length text) then input_ending
    else reading_ending form (schedule_reading text)

-- the ending of `gen` on a number
abbrev pub gen_ending : ℕ → Ending
gen_ending n = reading_ending (Summary n) (schedule_reading (schedule_text n))

-- the ending of the program on what it is asked and a text
abbrev pub command_ending : Option Command → List ℕ → Ending
command_ending None text = usage_ending
command_ending (Some Play) text = ending_of Report text
command_ending (Some (Gen n)) text = gen_ending n
command_ending (Some Reads) text = ending_of Repaired text
command_ending (Some Balance) text = ending_of Planned text
