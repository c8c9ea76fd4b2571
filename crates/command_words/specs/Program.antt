-- The program's words, as the reader of command lines is told of them, and what it finds in them.
use Rattle.std.specs.List.{list_all}
use Rattle.std.specs.Prelude.{Bool, List, None, Option, Some, codes, if◌then◌else◌, not, option_and_then, option_map, true, ◌&&◌}
use Rattle.std.specs.Str.{bytes_eq, is_utf8}
use Rattle.clap.specs.Simple.{on_top}
use Rattle.clap.specs.Words.{App, Row, Rule, Shape, Text, first_of, new_app, new_rule, with_rule, with_subcommand}
use Rattle.command_words.specs.Words.{asked_alone, number_of}
use Rattle.command_words.specs.declared.words.Command.{Command}
use Rattle.command_words.specs.declared.words.Command.TheVariants.{Gen}

-- ---- the program

-- the number of `gen`: one word, which must be given
abbrev pub number_rule : Rule
number_rule = record (new_rule (codes "number")) { required = true }

-- a command with no words of its own
abbrev pub plain_app : Text → App
plain_app name = new_app name

abbrev pub gen_app : App
gen_app = with_rule (new_app (codes "gen")) number_rule

-- no name of the program stands before its words, and no help is added
abbrev pub as_words : Shape → Shape
as_words shape = record shape {
  no_binary_name = true;
  disable_help_flag = true;
  disable_help_subcommand = true;
  subcommand_required = true;
}

abbrev pub bare_program : App
bare_program = on_top as_words (new_app (codes "cluster_cli"))

-- `play`, `gen N`, `reads` and `balance`, and nothing else
abbrev pub program : App
program =
    with_subcommand
    (with_subcommand
    (with_subcommand (with_subcommand bare_program (plain_app (codes "play")).top) gen_app.top)
    (plain_app (codes "reads")).top)
    (plain_app (codes "balance")).top

-- ---- the words that are given to it

-- text that does not end the options
abbrev pub is_plain : Text → Bool
is_plain word = is_utf8 word && not (bytes_eq word (codes "--"))

abbrev pub plain_text : Text → Option Text
plain_text word = if is_plain word then Some word else None

-- the words, where each is such a text
abbrev pub plain_texts : List Text → Option (List Text)
plain_texts words = if list_all is_plain words then Some words else None

-- ---- what is found

-- the command of the subcommand of this name, which may have a number
abbrev pub command_named : Text → Option Text → Option Command
command_named name number =
    if bytes_eq name (codes "gen") then option_and_then (λ word. option_map Gen (number_of word)) number
    else asked_alone name

abbrev pub command_of_rows : Text × List Row → Option Command
command_of_rows found = command_named found.0 (first_of (codes "number") found.1)

-- the command of the subcommand that was found
abbrev pub command_found : Option (Text × List Row) → Option Command
command_found = option_and_then command_of_rows
