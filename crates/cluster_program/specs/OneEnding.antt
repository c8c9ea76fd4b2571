-- How a call is to end is one ending.
use Rattle.std.specs.Prelude.{List, Option, ℕ, ◌≡◌}
use Rattle.command_words.specs.declared.words.Command.{Command}
use Rattle.cluster_program.specs.Endings.{Ending, IsCommandEnding, IsGenEnding, IsReadEnding}
use Rattle.cluster_program.specs.declared.texts.Form.{Form}

-- a command that reads ends on each text in one way at most
abbrev pub ReadEndsOneWay : Type 0
ReadEndsOneWay =
    (form : Form) (text : List ℕ) (one other : Ending)
    → IsReadEnding form text one → IsReadEnding form text other → one ≡ other

-- `gen` ends on each number in one way at most
abbrev pub GenEndsOneWay : Type 0
GenEndsOneWay = (n : ℕ) (one other : Ending) → IsGenEnding n one → IsGenEnding n other → one ≡ other

-- the program ends in one way at most on what it is asked and a text
abbrev pub CommandEndsOneWay : Type 0
CommandEndsOneWay =
    (asked : Option Command) (text : List ℕ) (one other : Ending)
    → IsCommandEnding asked text one → IsCommandEnding asked text other → one ≡ other
