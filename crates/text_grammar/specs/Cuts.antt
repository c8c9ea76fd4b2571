-- A text cut into lines, and a line into words, as the code does it.
use Rattle.std.specs.Prelude.{◌≡◌, ℕ, ◌==◌, ◌&&◌, Bool, true, false, List, [], ◌∷◌, Result, Ok, Err, map, if◌then◌else◌}
use Rattle.std.proofs.Common.{Bor}
use Rattle.text_grammar.specs.declared.faults.Fault.{Fault}

-- a word ends here
abbrev pub at_space : List ℕ → Bool
at_space [] = true
at_space (b ∷ bytes) = b == 32

abbrev pub onto_word : ℕ → Bool → List (List ℕ) → List (List ℕ)
onto_word b true words = (b ∷ []) ∷ words
onto_word b false [] = (b ∷ []) ∷ []
onto_word b false (word ∷ words) = (b ∷ word) ∷ words

-- the words of a line, which spaces, byte 32, part
abbrev pub words_of : List ℕ → List (List ℕ)
words_of [] = []
words_of (b ∷ bytes) = if b == 32 then words_of bytes else onto_word b (at_space bytes) (words_of bytes)

-- a word and what follows it, seen as words
abbrev pub seen_word : Result (Bor (List ℕ) × Bor (List ℕ)) Fault → Result (List ℕ × List (List ℕ)) Fault
seen_word (Ok x) = Ok (x.0.now, words_of x.1.now)
seen_word (Err rule) = Err rule

-- two parts of a word
abbrev pub seen_parts : Result (Bor (List ℕ) × Bor (List ℕ)) Fault → Result (List ℕ × List ℕ) Fault
seen_parts (Ok x) = Ok (x.0.now, x.1.now)
seen_parts (Err rule) = Err rule

-- an operation and what follows it, seen as words
abbrev pub seen_more : {A : Type 0} → Result (A × Bor (List ℕ)) Fault → Result (A × List (List ℕ)) Fault
seen_more (Ok x) = Ok (x.0, words_of x.1.now)
seen_more (Err rule) = Err rule

-- no space comes first
abbrev pub starts_word : List ℕ → Type 0
starts_word [] = Unit {0}
starts_word (b ∷ bytes) = (b == 32) ≡ false

-- a byte in front of a text that is cut into lines
abbrev pub onto_line : ℕ → List (List ℕ) → List (List ℕ)
onto_line b [] = (b ∷ []) ∷ []
onto_line b (line ∷ lines) = (b ∷ line) ∷ lines

-- LF, byte 10, comes first
abbrev pub at_feed : List ℕ → Bool
at_feed [] = false
at_feed (b ∷ bytes) = b == 10

-- the lines of a text, each of which LF or the end of the text ends; CR, byte 13, is passed over directly before LF
abbrev pub lines_of : List ℕ → List (List ℕ)
lines_of [] = []
lines_of (b ∷ bytes) =
    if b == 10 then [] ∷ lines_of bytes
    else (if (b == 13) && at_feed bytes then lines_of bytes else onto_line b (lines_of bytes))

-- without a CR at its end
abbrev pub without_return : List ℕ → List ℕ
without_return [] = []
without_return (b ∷ []) = if b == 13 then [] else b ∷ []
without_return (b ∷ c ∷ bytes) = b ∷ without_return (c ∷ bytes)

-- the words of the lines
abbrev pub words_in : List ℕ → List (List (List ℕ))
words_in bytes = map words_of (lines_of bytes)
