-- A text as a chain of lines: each is judged by what the lines before it made.
use Rattle.std.specs.Prelude.{◌≡◌, ℕ, ◌+◌, ◌==◌, ◌⊎◌, nat_lt, Bool, true, false, List, [], ◌∷◌, ◌++◌, length, Result, Ok, Err}
use Rattle.std.specs.List.{list_all}
use Rattle.text_grammar.specs.declared.faults.Fault.{Fault}
use Rattle.text_grammar.specs.Rules.{bad_word}
use Rattle.text_grammar.specs.Shapes.{Shape, Either, begins_with, Spells, Fails}

-- a line is its words
abbrev pub Line : Type 0
Line = List (List ℕ)

-- the line begins with a byte 35, `#`
abbrev pub is_comment : List ℕ → Bool
is_comment word = begins_with (λ b. b == 35) word

-- each byte of the line is below 128
abbrev pub are_ascii : Line → Bool
are_ascii words = list_all (λ word. list_all (λ b. nat_lt b 128) word) words

-- what may stand as the next line after lines that made this, what a line makes of it, and what a text says in the end
pub record Language (S X Y : Type 0) : Type 1 where
  pub shape : S → Shape X
  pub after : ℕ → S → X → S
  pub finish : S → Result Y Fault

-- what a line of this number makes of what those before it made; a line without words and a comment make nothing
abbrev pub Makes : {S X Y : Type 0} → Language S X Y → ℕ → S → Line → S → Type 0
Makes language number before [] next = next ≡ before
Makes {S} {X} language number before (word ∷ words) next =
    Either
    (is_comment word)
    ((are_ascii (word ∷ words) ≡ true) × (next ≡ before))
    ((x : X) × Spells (language.shape before) (word ∷ words) x × (next ≡ language.after number before x))

-- the line is at fault after lines that made this
abbrev pub Breaks : {S X Y : Type 0} → Language S X Y → S → Line → Fault → Type 0
Breaks language before [] r = ⊥
Breaks language before (word ∷ words) r =
    Either
    (is_comment word)
    ((are_ascii (word ∷ words) ≡ false) × (r ≡ bad_word))
    (Fails (language.shape before) (word ∷ words) r)

-- lines, of which the first has this number, lead from what was made before them to this
abbrev pub Leads : {S X Y : Type 0} → Language S X Y → ℕ → S → List Line → S → Type 0
Leads language number before [] last = last ≡ before
Leads {S} language number before (line ∷ lines) last =
    (next : S) × Makes language number before line next × Leads language (number + 1) next lines last

-- the lines from this state on are a text that says this
pub record IsText {S X Y : Type 0} (language : Language S X Y) (first : S) (lines : List Line) (said : Y) : Type 0 where
  pub last : S
  pub leads : Leads language 1 first lines last
  pub says : language.finish last ≡ Ok said

-- the line of this number is the first at fault, with this fault
pub record IsFirstFault {S X Y : Type 0}
    (language : Language S X Y) (first : S) (lines : List Line) (number : ℕ) (fault : Fault) : Type 0 where
  pub earlier : List Line
  pub line : Line
  pub later : List Line
  pub spelt : lines ≡ earlier ++ line ∷ later
  pub count : number ≡ length earlier + 1
  pub before : S
  pub leads : Leads language 1 first earlier before
  pub breaks : Breaks language before line fault

-- no line is at fault, and the text ends too early
pub record EndsEarly {S X Y : Type 0}
    (language : Language S X Y) (first : S) (lines : List Line) (number : ℕ) (fault : Fault) : Type 0 where
  pub last : S
  pub leads : Leads language 1 first lines last
  pub count : number ≡ length lines + 1
  pub breaks : language.finish last ≡ Err fault

-- the line of this number is the first at fault, or the text ends too early there
abbrev pub IsFault : {S X Y : Type 0} → Language S X Y → S → List Line → ℕ → Fault → Type 0
IsFault language first lines number fault =
    IsFirstFault language first lines number fault ⊎ EndsEarly language first lines number fault
