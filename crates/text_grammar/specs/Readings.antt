-- How the words of a place and of a shape are read: functions that give what is told, or the fault.
use Rattle.std.specs.Prelude.{ℕ, ◌+◌, ◌-◌, ◌*◌, ◌==◌, ◌&&◌, nat_le, Bool, true, false, List, [], ◌∷◌, ◌++◌, length, Option, Some, None, Result, Ok, Err, if◌then◌else◌}
use Rattle.text_grammar.specs.declared.faults.TextRule.{TextRule}
use Rattle.text_grammar.specs.declared.faults.Fault.{Fault}
use Rattle.text_grammar.specs.Rules.{bad_word}
use Rattle.text_grammar.specs.declared.faults.Fault.TheVariants.{Refused}
use Rattle.text_grammar.specs.Shapes.{Place, Digits, Hex, Known, Judged, Cut, ByFirst, Behind, begins_with, tail, Shape, End, Word, EndOr, Each, Made, Whole}

-- one step after another, up to the first fault
infixl 10 ◌>>=◌
abbrev pub ◌>>=◌ : {A B : Type 0} → Result A Fault → (A → Result B Fault) → Result B Fault
(Ok x) >>= f = f x
(Err fault) >>= f = Err fault

-- what is there; else this rule
abbrev pub or_rule : {A : Type 0} → TextRule → Option A → Result A Fault
or_rule rule (Some a) = Ok a
or_rule rule None = Err (Refused rule)

-- a digit, 0 to 9
abbrev pub digit_of : ℕ → Option ℕ
digit_of b = if nat_le 48 b && nat_le b 57 then Some (b - 48) else None

-- the number that these digits make behind the digits of another
abbrev pub behind_digit : (ℕ → Option ℕ) → Option ℕ → Option ℕ
behind_digit more None = None
behind_digit more (Some digit) = more digit

abbrev pub with_digits : ℕ → List ℕ → Option ℕ
with_digits n [] = Some n
with_digits n (b ∷ bytes) = behind_digit (λ digit. with_digits (n * 10 + digit) bytes) (digit_of b)

-- 1 to 20 digits; zeros may lead
unfoldable pub unsigned_of : List ℕ → Option ℕ
unsigned_of word = if nat_le 1 (length word) && nat_le (length word) 20 then with_digits 0 word else None

-- a hexadecimal digit of either case
abbrev pub hex_digit_of : ℕ → Option ℕ
hex_digit_of b =
    if nat_le 48 b && nat_le b 57 then Some (b - 48)
    else (if nat_le 97 b && nat_le b 102 then Some (b - 87)
    else (if nat_le 65 b && nat_le b 70 then Some (b - 55) else None))

-- the byte of two digits, in front of bytes
abbrev pub onto_bytes : Option ℕ → Option ℕ → Option (List ℕ) → Option (List ℕ)
onto_bytes (Some high) (Some low) (Some bytes) = Some ((high * 16 + low) ∷ bytes)
onto_bytes high low bytes = None

-- the bytes that digits spell two by two, of which there may be none
abbrev pub hex_bytes_of : List ℕ → Option (List ℕ)
hex_bytes_of [] = Some []
hex_bytes_of (a ∷ []) = None
hex_bytes_of (a ∷ b ∷ word) = onto_bytes (hex_digit_of a) (hex_digit_of b) (hex_bytes_of word)

-- what stands before and behind the first separator, where there is one
abbrev pub onto_front : ℕ → Option (List ℕ × List ℕ) → Option (List ℕ × List ℕ)
onto_front b None = None
onto_front b (Some cut) = Some (b ∷ cut.0, cut.1)

abbrev pub cut_at : ℕ → List ℕ → Option (List ℕ × List ℕ)
cut_at separator [] = None
cut_at separator (b ∷ bytes) = if b == separator then Some ([], bytes) else onto_front b (cut_at separator bytes)

-- what the word tells at a place
abbrev pub read : {A : Type 0} → Place A → List ℕ → Result A Fault
read (Digits rule) word = or_rule rule (unsigned_of word)
read (Hex rule) word = or_rule rule (hex_bytes_of word)
read (Known table) word = table word
read (Judged place judge) word = read place word >>= judge
read (Cut separator rule first last) word =
    or_rule rule (cut_at separator word) >>= λ cut. read first cut.0 >>= λ a. read (last a) cut.1
read (ByFirst test one other) word = if begins_with test word then read one word else read other word
read (Behind byte one other) word = if begins_with (λ b. b == byte) word then read one (tail word) else read other word

-- the first word, and the others
abbrev pub next_of : List (List ℕ) → Result (List ℕ × List (List ℕ)) Fault
next_of [] = Err bad_word
next_of (word ∷ words) = Ok (word, words)

-- nothing, where no word is left
abbrev pub no_more : List (List ℕ) → Result (Unit {0}) Fault
no_more [] = Ok tt
no_more (word ∷ words) = Err bad_word

abbrev pub ends_line : List (List ℕ) → Bool
ends_line [] = true
ends_line (word ∷ words) = false

-- what the words tell, one by one
abbrev pub read_each : {B : Type 0} → (List B → Place B) → List B → List (List ℕ) → Result (List B) Fault
read_each place earlier [] = Ok earlier
read_each place earlier (word ∷ words) =
    read (place earlier) word >>= λ b. read_each place (earlier ++ b ∷ []) words

-- what the words of a line tell
abbrev pub reading : {A : Type 0} → Shape A → List (List ℕ) → Result A Fault
reading (End x) words = no_more words >>= λ _. Ok x
reading (Word place more) words = next_of words >>= λ next. read place next.0 >>= λ b. reading (more b) next.1
reading (EndOr x more) words = if ends_line words then Ok x else reading more words
reading (Each place made) words =
    if ends_line words then Err bad_word else read_each place [] words >>= λ all. Ok (made all)
reading (Made shape made) words = reading shape words >>= λ b. Ok (made b)
reading (Whole table) words = table words
