-- What the words of a command ask for.
use Rattle.std.specs.Prelude.{List, None, Option, Some, [], codes, if◌then◌else◌, nat_lt, option_and_then, option_map, ℕ, ◌^◌, ◌∷◌}
use Rattle.std.specs.Str.{bytes_eq}
use Rattle.command_words.specs.declared.words.Command.{Command}
use Rattle.command_words.specs.declared.words.Command.TheVariants.{Balance, Gen, Play, Reads}
use Rattle.text_grammar.specs.Readings.{unsigned_of}

-- ---- numbers

-- a number that 64 bits hold
abbrev pub if_wide : ℕ → Option ℕ
if_wide n = if nat_lt n (2 ^ 64) then Some n else None

-- a number of 64 bits, in 1 to 20 digits; zeros may lead
unfoldable pub number_of : List ℕ → Option ℕ
number_of word = option_and_then if_wide (unsigned_of word)

-- ---- commands

-- `play`, `reads` or `balance`
abbrev pub asked_alone : List ℕ → Option Command
asked_alone word =
    if bytes_eq word (codes "play") then Some Play
    else (if bytes_eq word (codes "reads") then Some Reads
    else (if bytes_eq word (codes "balance") then Some Balance
    else None))

-- `gen` and a number
abbrev pub asked_with : List ℕ → List ℕ → Option Command
asked_with word number = if bytes_eq word (codes "gen") then option_map Gen (number_of number) else None

-- the command that the words after the program's name ask for, or none
abbrev pub asked_command : List (List ℕ) → Option Command
asked_command [] = None
asked_command (word ∷ []) = asked_alone word
asked_command (word ∷ number ∷ []) = asked_with word number
asked_command (word ∷ number ∷ other ∷ words) = None
