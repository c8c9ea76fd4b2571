-- The words of a line are read exactly as the shape says.
use Rattle.std.proofs.Common.{◌≡◌, ℕ, inl, inr, List, [], ◌∷◌, ◌++◌, Result, Ok, Err, refl, sym, ap, ◌∙◌}
use Rattle.text_grammar.specs.declared.faults.Fault.{Fault}
use Rattle.text_grammar.specs.Shapes.{Place, Is, Shape, End, Word, EndOr, Each, Made, Whole, AreEach, AtEach, Spells, Fails}
use Rattle.text_grammar.specs.Readings.{◌>>=◌, read, read_each, reading}
use Rattle.text_grammar.proofs.PlaceLaws.{Told, told, reads, faults}

abbrev pub ToldEach : {B : Type 0} → (List B → Place B) → List B → List (List ℕ) → Result (List B) Fault → Type 0
ToldEach place earlier words (Ok all) = AreEach place earlier words all
ToldEach place earlier words (Err r) = AtEach place earlier words r

one_each : {B : Type 0} (place : List B → Place B) (earlier : List B) (word : List ℕ) (words : List (List ℕ)) (b : B) → Is (place earlier) word b → (found : Result (List B) Fault) → ToldEach place (earlier ++ b ∷ []) words found → ToldEach place earlier (word ∷ words) found
one_each place earlier word words b is (Ok all) more = (b, is, more)
one_each place earlier word words b is (Err r) more = inr (b, is, more)

step_each : {B : Type 0} (place : List B → Place B) (earlier : List B) (word : List ℕ) (words : List (List ℕ)) → ((b : B) → ToldEach place (earlier ++ b ∷ []) words (read_each place (earlier ++ b ∷ []) words)) → (found : Result B Fault) → Told (place earlier) word found → ToldEach place earlier (word ∷ words) (found >>= λ b. read_each place (earlier ++ b ∷ []) words)
step_each place earlier word words more (Ok b) is = one_each place earlier word words b is (read_each place (earlier ++ b ∷ []) words) (more b)
step_each place earlier word words more (Err r) is = inl is

told_each : {B : Type 0} (place : List B → Place B) (earlier : List B) (words : List (List ℕ)) → ToldEach place earlier words (read_each place earlier words)
told_each place earlier [] = refl
told_each place earlier (word ∷ words) = step_each place earlier word words (λ b. told_each place (earlier ++ b ∷ []) words) (read (place earlier) word) (told (place earlier) word)

reads_each : {B : Type 0} (place : List B → Place B) (earlier : List B) (words : List (List ℕ)) (all : List B) → AreEach place earlier words all → read_each place earlier words ≡ Ok all
reads_each place earlier [] all are = ap Ok (sym are)
reads_each place earlier (word ∷ words) all are =
    ap (λ r. r >>= λ b. read_each place (earlier ++ b ∷ []) words) (reads (place earlier) word are.0 are.1) ∙ reads_each place (earlier ++ are.0 ∷ []) words all are.2

faults_each : {B : Type 0} (place : List B → Place B) (earlier : List B) (words : List (List ℕ)) (r : Fault) → AtEach place earlier words r → read_each place earlier words ≡ Err r
faults_each place earlier [] r at = absurd at
faults_each place earlier (word ∷ words) r (inl at) = ap (λ x. x >>= λ b. read_each place (earlier ++ b ∷ []) words) (faults (place earlier) word r at)
faults_each place earlier (word ∷ words) r (inr at) =
    ap (λ x. x >>= λ b. read_each place (earlier ++ b ∷ []) words) (reads (place earlier) word at.0 at.1) ∙ faults_each place (earlier ++ at.0 ∷ []) words r at.2

-- what a reading of a line tells
abbrev pub ToldLine : {A : Type 0} → Shape A → List (List ℕ) → Result A Fault → Type 0
ToldLine shape words (Ok a) = Spells shape words a
ToldLine shape words (Err r) = Fails shape words r

one_word : {A B : Type 0} (place : Place B) (more : B → Shape A) (word : List ℕ) (words : List (List ℕ)) (b : B) → Is place word b → (found : Result A Fault) → ToldLine (more b) words found → ToldLine (Word place more) (word ∷ words) found
one_word place more word words b is (Ok a) line = (b, is, line)
one_word place more word words b is (Err r) line = inr (b, is, line)

step_word : {A B : Type 0} (place : Place B) (more : B → Shape A) (word : List ℕ) (words : List (List ℕ)) → ((b : B) → ToldLine (more b) words (reading (more b) words)) → (found : Result B Fault) → Told place word found → ToldLine (Word place more) (word ∷ words) (found >>= λ b. reading (more b) words)
step_word place more word words line (Ok b) is = one_word place more word words b is (reading (more b) words) (line b)
step_word place more word words line (Err r) is = inl is

or_more : {A : Type 0} (x : A) (more : Shape A) (word : List ℕ) (words : List (List ℕ)) (found : Result A Fault) → ToldLine more (word ∷ words) found → ToldLine (EndOr x more) (word ∷ words) found
or_more x more word words (Ok a) line = line
or_more x more word words (Err r) line = line

made_each : {A B : Type 0} (place : List B → Place B) (made : List B → A) (word : List ℕ) (words : List (List ℕ)) (found : Result (List B) Fault) → ToldEach place [] (word ∷ words) found → ToldLine (Each place made) (word ∷ words) (found >>= λ all. Ok (made all))
made_each place made word words (Ok all) are = (all, are, refl)
made_each place made word words (Err r) at = at

made_told : {A B : Type 0} (shape : Shape B) (made : B → A) (words : List (List ℕ)) (found : Result B Fault) → ToldLine shape words found → ToldLine (Made shape made) words (found >>= λ b. Ok (made b))
made_told shape made words (Ok b) is = (b, is, refl)
made_told shape made words (Err r) at = at

pub line_told : {A : Type 0} (shape : Shape A) (words : List (List ℕ)) → ToldLine shape words (reading shape words)
line_told (End x) [] = refl
line_told (End x) (word ∷ words) = refl
line_told (Word place more) [] = refl
line_told (Word place more) (word ∷ words) = step_word place more word words (λ b. line_told (more b) words) (read place word) (told place word)
line_told (EndOr x more) [] = refl
line_told (EndOr x more) (word ∷ words) = or_more x more word words (reading more (word ∷ words)) (line_told more (word ∷ words))
line_told (Each place made) [] = refl
line_told (Each place made) (word ∷ words) = made_each place made word words (read_each place [] (word ∷ words)) (told_each place [] (word ∷ words))
line_told (Made shape made) words = made_told shape made words (reading shape words) (line_told shape words)
line_told {A} (Whole table) words =
    elim (table words) as (λ (f : Result A Fault). table words ≡ f → ToldLine (Whole table) words f) [
      | Ok a ↦ λ e. e
      | Err r ↦ λ e. e
    ] refl

pub line_reads : {A : Type 0} (shape : Shape A) (words : List (List ℕ)) (a : A) → Spells shape words a → reading shape words ≡ Ok a
line_reads (End x) [] a is = ap Ok (sym is)
line_reads (End x) (word ∷ words) a is = absurd is
line_reads (Word place more) [] a is = absurd is
line_reads (Word place more) (word ∷ words) a is = ap (λ r. r >>= λ b. reading (more b) words) (reads place word is.0 is.1) ∙ line_reads (more is.0) words a is.2
line_reads (EndOr x more) [] a is = ap Ok (sym is)
line_reads (EndOr x more) (word ∷ words) a is = line_reads more (word ∷ words) a is
line_reads (Each place made) [] a is = absurd is
line_reads (Each place made) (word ∷ words) a is = ap (λ r. r >>= λ all. Ok (made all)) (reads_each place [] (word ∷ words) is.0 is.1) ∙ ap Ok (sym is.2)
line_reads (Made shape made) words a is = ap (λ r. r >>= λ b. Ok (made b)) (line_reads shape words is.0 is.1) ∙ ap Ok (sym is.2)
line_reads (Whole table) words a is = is

pub line_faults : {A : Type 0} (shape : Shape A) (words : List (List ℕ)) (r : Fault) → Fails shape words r → reading shape words ≡ Err r
line_faults (End x) [] r at = absurd at
line_faults (End x) (word ∷ words) r at = ap Err (sym at)
line_faults (Word place more) [] r at = ap Err (sym at)
line_faults (Word place more) (word ∷ words) r (inl at) = ap (λ x. x >>= λ b. reading (more b) words) (faults place word r at)
line_faults (Word place more) (word ∷ words) r (inr at) = ap (λ x. x >>= λ b. reading (more b) words) (reads place word at.0 at.1) ∙ line_faults (more at.0) words r at.2
line_faults (EndOr x more) [] r at = absurd at
line_faults (EndOr x more) (word ∷ words) r at = line_faults more (word ∷ words) r at
line_faults (Each place made) [] r at = ap Err (sym at)
line_faults (Each place made) (word ∷ words) r at = ap (λ x. x >>= λ all. Ok (made all)) (faults_each place [] (word ∷ words) r at)
line_faults (Made shape made) words r at = ap (λ x. x >>= λ b. Ok (made b)) (line_faults shape words r at)
line_faults (Whole table) words r at = at
