-- What may stand at the place of a word, what a line may look like, and what in it is at fault.
use Rattle.std.specs.Prelude.{◌≡◌, ℕ, ◌==◌, ◌⊎◌, Bool, true, false, List, [], ◌∷◌, ◌++◌, Result, Ok, Err}
use Rattle.text_grammar.specs.declared.faults.TextRule.{TextRule}
use Rattle.text_grammar.specs.declared.faults.Fault.{Fault}
use Rattle.text_grammar.specs.Rules.{bad_word}
use Rattle.text_grammar.specs.declared.faults.Fault.TheVariants.{Refused}
use Rattle.text_grammar.specs.Words.{AreDigits, AreHex, IsCut}

-- ---- places

-- what may stand at a word's place, with what it tells
pub data Place : Type 0 → Type 1 where
  -- a number of digits; else this rule
  Digits : TextRule → Place ℕ
  -- bytes of two hexadecimal digits each; else this rule
  Hex : TextRule → Place (List ℕ)
  -- a word that a table tells, or the fault that it does not
  Known : {A : Type 0} → (List ℕ → Result A Fault) → Place A
  -- a word of a place, judged by what it tells
  Judged : {A B : Type 0} → Place A → (A → Result B Fault) → Place B
  -- two parts with a separator between them, the second by what the first tells; else this rule
  Cut : {A B : Type 0} → ℕ → TextRule → Place A → (A → Place B) → Place B
  -- one of two places, by whether the word begins with such a byte
  ByFirst : {A : Type 0} → (ℕ → Bool) → Place A → Place A → Place A
  -- one of two places, by whether the word begins with this byte, which is passed over
  Behind : {A : Type 0} → ℕ → Place A → Place A → Place A

-- the word begins with such a byte
abbrev pub begins_with : (ℕ → Bool) → List ℕ → Bool
begins_with test [] = false
begins_with test (b ∷ bytes) = test b

-- without its first byte
abbrev pub tail : List ℕ → List ℕ
tail [] = []
tail (b ∷ bytes) = bytes

-- one of two facts, by a test
abbrev pub Either : Bool → Type 0 → Type 0 → Type 0
Either true P Q = P
Either false P Q = Q

-- the word is of the place, and tells this
abbrev pub Is : {A : Type 0} → Place A → List ℕ → A → Type 0
Is (Digits rule) word n = AreDigits word n
Is (Hex rule) word bytes = AreHex word bytes
Is (Known table) word a = table word ≡ Ok a
Is (Judged {A = A} place judge) word b = (a : A) × Is place word a × (judge a ≡ Ok b)
Is (Cut {A = A} separator rule first last) word b =
    (front back : List ℕ) × (a : A) × IsCut separator word front back × Is first front a × Is (last a) back b
Is (ByFirst test one other) word a = Either (begins_with test word) (Is one word a) (Is other word a)
Is (Behind byte one other) word a = Either (begins_with (λ b. b == byte) word) (Is one (tail word) a) (Is other word a)

-- the word is at fault at the place, with this fault
abbrev pub At : {A : Type 0} → Place A → List ℕ → Fault → Type 0
At (Digits rule) word r = (r ≡ Refused rule) × ((n : ℕ) → AreDigits word n → ⊥)
At (Hex rule) word r = (r ≡ Refused rule) × ((bytes : List ℕ) → AreHex word bytes → ⊥)
At (Known table) word r = table word ≡ Err r
At (Judged {A = A} place judge) word r = At place word r ⊎ ((a : A) × Is place word a × (judge a ≡ Err r))
At (Cut {A = A} separator rule first last) word r =
    ((r ≡ Refused rule) × ((front back : List ℕ) → IsCut separator word front back → ⊥))
    ⊎ ((front back : List ℕ) × IsCut separator word front back
    × (At first front r ⊎ ((a : A) × Is first front a × At (last a) back r)))
At (ByFirst test one other) word r = Either (begins_with test word) (At one word r) (At other word r)
At (Behind byte one other) word r = Either (begins_with (λ b. b == byte) word) (At one (tail word) r) (At other word r)

-- ---- lines

-- what the words of a line may be, one after the other, each by what those before it tell
pub data Shape : Type 0 → Type 1 where
  -- no word
  End : {A : Type 0} → A → Shape A
  -- a word, and more
  Word : {A B : Type 0} → Place B → (B → Shape A) → Shape A
  -- no word, or more
  EndOr : {A : Type 0} → A → Shape A → Shape A
  -- one word or more, each by what those before it tell
  Each : {A B : Type 0} → (List B → Place B) → (List B → A) → Shape A
  -- the same words, with what they tell made into something else
  Made : {A B : Type 0} → Shape B → (B → A) → Shape A
  -- a line that a table tells, or the fault that it does not
  Whole : {A : Type 0} → (List (List ℕ) → Result A Fault) → Shape A

-- each of the words is of its place, where those before told this
abbrev pub AreEach : {B : Type 0} → (List B → Place B) → List B → List (List ℕ) → List B → Type 0
AreEach place earlier [] all = all ≡ earlier
AreEach {B} place earlier (word ∷ words) all =
    (b : B) × Is (place earlier) word b × AreEach place (earlier ++ b ∷ []) words all

-- one of the words is at fault at its place, and those before it are not
abbrev pub AtEach : {B : Type 0} → (List B → Place B) → List B → List (List ℕ) → Fault → Type 0
AtEach place earlier [] r = ⊥
AtEach {B} place earlier (word ∷ words) r =
    At (place earlier) word r ⊎ ((b : B) × Is (place earlier) word b × AtEach place (earlier ++ b ∷ []) words r)

-- the words are of the shape, and tell this
abbrev pub Spells : {A : Type 0} → Shape A → List (List ℕ) → A → Type 0
Spells (End x) [] a = a ≡ x
Spells (End x) (word ∷ words) a = ⊥
Spells (Word place more) [] a = ⊥
Spells (Word {B = B} place more) (word ∷ words) a = (b : B) × Is place word b × Spells (more b) words a
Spells (EndOr x more) [] a = a ≡ x
Spells (EndOr x more) (word ∷ words) a = Spells more (word ∷ words) a
Spells (Each place made) [] a = ⊥
Spells (Each {B = B} place made) (word ∷ words) a =
    (all : List B) × AreEach place [] (word ∷ words) all × (a ≡ made all)
Spells (Made {B = B} shape made) words a = (b : B) × Spells shape words b × (a ≡ made b)
Spells (Whole table) words a = table words ≡ Ok a

-- the first word at fault, or the end of the line where a word is wanted, is so with this fault
abbrev pub Fails : {A : Type 0} → Shape A → List (List ℕ) → Fault → Type 0
Fails (End x) [] r = ⊥
Fails (End x) (word ∷ words) r = r ≡ bad_word
Fails (Word place more) [] r = r ≡ bad_word
Fails (Word {B = B} place more) (word ∷ words) r =
    At place word r ⊎ ((b : B) × Is place word b × Fails (more b) words r)
Fails (EndOr x more) [] r = ⊥
Fails (EndOr x more) (word ∷ words) r = Fails more (word ∷ words) r
Fails (Each place made) [] r = r ≡ bad_word
Fails (Each place made) (word ∷ words) r = AtEach place [] (word ∷ words) r
Fails (Made shape made) words r = Fails shape words r
Fails (Whole table) words r = table words ≡ Err r
