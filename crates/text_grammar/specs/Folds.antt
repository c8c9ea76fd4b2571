-- How a text is read: line by line, up to the first fault.
use Rattle.std.specs.Prelude.{ℕ, Bool, true, false, ◌+◌, List, [], ◌∷◌, length, Result, Ok, Err, if◌then◌else◌}
use Rattle.text_grammar.specs.declared.faults.Fault.{Fault}
use Rattle.text_grammar.specs.Rules.{bad_word}
use Rattle.text_grammar.specs.Lines.{Line, Language, is_comment, are_ascii}
use Rattle.text_grammar.specs.Readings.{◌>>=◌, reading}

-- a line at fault, and its fault
pub record LineFault : Type 0 where
  pub line : ℕ
  pub fault : Fault

abbrev pub at_line : {A : Type 0} → ℕ → Result A Fault → Result A LineFault
at_line number (Ok a) = Ok a
at_line number (Err fault) = Err (record { line = number; fault = fault })

abbrev pub and_then : {A B : Type 0} → Result A LineFault → (A → Result B LineFault) → Result B LineFault
and_then (Ok a) f = f a
and_then (Err fault) f = Err fault

-- whether a line is passed over: one without words, and a comment; a comment may be at fault
abbrev pub is_passed_over : Line → Result Bool Fault
is_passed_over [] = Ok true
is_passed_over (word ∷ words) =
    if is_comment word then (if are_ascii (word ∷ words) then Ok true else Err bad_word) else Ok false

-- what a line makes, by whether it is passed over
abbrev pub told_or : {S X Y : Type 0} → Language S X Y → ℕ → S → Line → Bool → Result S Fault
told_or language number before line true = Ok before
told_or language number before line false =
    reading (language.shape before) line >>= λ x. Ok (language.after number before x)

-- what a line makes
abbrev pub line_reading : {S X Y : Type 0} → Language S X Y → ℕ → S → Line → Result S Fault
line_reading language number before [] = Ok before
line_reading language number before (word ∷ words) =
    if is_comment word then (if are_ascii (word ∷ words) then Ok before else Err bad_word)
    else (reading (language.shape before) (word ∷ words) >>= λ x. Ok (language.after number before x))

-- what lines make, of which the first has this number
abbrev pub lines_reading : {S X Y : Type 0} → Language S X Y → ℕ → S → List Line → Result S LineFault
lines_reading language number before [] = Ok before
lines_reading language number before (line ∷ lines) =
    and_then
    (at_line number (line_reading language number before line))
    (λ next. lines_reading language (number + 1) next lines)

-- what a text says
abbrev pub text_reading : {S X Y : Type 0} → Language S X Y → S → List Line → Result Y LineFault
text_reading language first lines =
    and_then (lines_reading language 1 first lines) (λ last. at_line (length lines + 1) (language.finish last))
