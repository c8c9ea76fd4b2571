-- What holds of the values of a shape, whatever its words.
use Rattle.std.proofs.Common.{◌≡◌, ◌∙◌, ℕ, ◌+◌, ◌≤◌, Bool, true, false, List, [], ◌∷◌, ◌++◌, length, Result, Ok, Err, ap, refl, sym, subst, arith}
use Rattle.base_ids.specs.declared.rules.LimitName.{LimitName}
use Rattle.text_grammar.specs.declared.faults.TextRule.{TextRule}
use Rattle.text_grammar.specs.Judging.{if_so, if_within}
use Rattle.std.specs.Prelude.{IfOk}
use Rattle.std.proofs.lemmas.List.{length-append}
use Rattle.text_grammar.specs.declared.faults.LineError.{LineError}
use Rattle.text_grammar.specs.Readings.{reading}
use Rattle.text_grammar.specs.Results.{Gives}
use Rattle.text_grammar.proofs.ShapeLaws.{ToldLine, line_told}
use Rattle.text_grammar.specs.Shapes.{Place, Is, Shape, End, Word, EndOr, Each, Made, Whole, AreEach, Spells}

-- each value that the shape may tell is so
abbrev pub AllTell : {A : Type 0} → (A → Type 0) → Shape A → Type 0
AllTell P (End a) = P a
AllTell P (Word {B = B} place more) = (w : List ℕ) (b : B) → Is place w b → AllTell P (more b)
AllTell P (EndOr a more) = P a × AllTell P more
AllTell P (Each {B = B} place made) = (ws : List (List ℕ)) (all : List B) → 1 ≤ length ws → AreEach place [] ws all → P (made all)
AllTell P (Made shape made) = AllTell (λ b. P (made b)) shape
AllTell {A} P (Whole table) = (ws : List (List ℕ)) (a : A) → table ws ≡ Ok a → P a

pub all_tell : {A : Type 0} (P : A → Type 0) (shape : Shape A) (words : List (List ℕ)) (a : A) → AllTell P shape → Spells shape words a → P a
all_tell P (End x) [] a all is = subst P (sym is) all
all_tell P (End x) (word ∷ words) a all is = absurd is
all_tell P (Word place more) [] a all is = absurd is
all_tell P (Word place more) (word ∷ words) a all is = all_tell P (more is.0) words a (all word is.0 is.1) is.2
all_tell P (EndOr x more) [] a all is = subst P (sym is) all.0
all_tell P (EndOr x more) (word ∷ words) a all is = all_tell P more (word ∷ words) a all.1 is
all_tell P (Each place made) [] a all is = absurd is
all_tell P (Each place made) (word ∷ words) a all is = subst P (sym is.2) (all (word ∷ words) is.0 (omega arith) is.1)
all_tell P (Made shape made) words a all is = subst P (sym is.2) (all_tell (λ b. P (made b)) shape words is.0 all is.1)
all_tell P (Whole table) words a all is = all words a is

-- a weaker fact
pub all_weaker : {A : Type 0} (P Q : A → Type 0) → ((a : A) → P a → Q a) → (shape : Shape A) → AllTell P shape → AllTell Q shape
all_weaker P Q more (End x) all = more x all
all_weaker P Q more (Word place next) all = λ w b is. all_weaker P Q more (next b) (all w b is)
all_weaker P Q more (EndOr x next) all = (more x all.0, all_weaker P Q more next all.1)
all_weaker P Q more (Each place made) all = λ ws list some are. more (made list) (all ws list some are)
all_weaker P Q more (Made shape made) all = all_weaker (λ b. P (made b)) (λ b. Q (made b)) (λ b. more (made b)) shape all
all_weaker P Q more (Whole table) all = λ ws a e. more a (all ws a e)

-- so is each value that is read
pub read_tells : {A : Type 0} (P : A → Type 0) (shape : Shape A) (words : List (List ℕ)) (a : A) → AllTell P shape → reading shape words ≡ Ok a → P a
read_tells P shape words a all e = all_tell P shape words a all (subst (ToldLine shape words) e (line_told shape words))

-- and each that the code gives
pub given_tells : {V A : Type 0} (view : V → A) (P : A → Type 0) (shape : Shape A) (words : List (List ℕ)) (r : Result V LineError) → AllTell P shape → Gives view r (reading shape words) → IfOk r (λ v. P (view v))
given_tells view P shape words (Ok v) all gives = read_tells P shape words (view v) all gives
given_tells view P shape words (Err e) all gives = tt

-- what holds of no value, and of one more where it holds of those before, holds of all that words tell one by one
pub each_keeps : {B : Type 0} (P : List B → Type 0) (place : List B → Place B) → ((earlier : List B) (w : List ℕ) (b : B) → P earlier → Is (place earlier) w b → P (earlier ++ b ∷ [])) → (earlier : List B) (words : List (List ℕ)) (all : List B) → P earlier → AreEach place earlier words all → P all
each_keeps P place more earlier [] all holds are = subst P (sym are) holds
each_keeps P place more earlier (word ∷ words) all holds are = each_keeps P place more (earlier ++ are.0 ∷ []) words all (more earlier word are.0 holds are.1) are.2

-- a value that is told passes its test
pub is_so : {A : Type 0} (test : Bool) (rule : TextRule) (a b : A) → if_so test rule a ≡ Ok b → (test ≡ true) × (a ≡ b)
is_so true rule a b e = (refl, cc)
is_so false rule a b e = absurd (cc)

pub is_within : {A : Type 0} (test : Bool) (name : LimitName) (a b : A) → if_within test name a ≡ Ok b → (test ≡ true) × (a ≡ b)
is_within true name a b e = (refl, cc)
is_within false name a b e = absurd (cc)

-- as many are told as there are words
pub told_count : {B : Type 0} (place : List B → Place B) (earlier : List B) (words : List (List ℕ)) (all : List B) → AreEach place earlier words all → length all ≡ length earlier + length words
told_count place earlier [] all are = ap length are ∙ (omega arith)
told_count place earlier (word ∷ words) all are =
    let more : length all ≡ length (earlier ++ are.0 ∷ []) + length words = told_count place (earlier ++ are.0 ∷ []) words all are.2 in
    let one : length (earlier ++ are.0 ∷ []) ≡ length earlier + length (are.0 ∷ []) = length-append earlier (are.0 ∷ []) in
    omega arith
