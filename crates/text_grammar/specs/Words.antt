-- What words and lines look like: digits, a word cut at a separator, the words of a line, the lines of a text.
use Rattle.std.specs.Prelude.{◌≡◌, ◌≢◌, ℕ, ◌+◌, ◌-◌, ◌*◌, ◌^◌, ◌≤◌, ◌⊎◌, List, [], ◌∷◌, ◌++◌, length}
use Rattle.std.specs.List.{AllByRecursion}

-- no byte of it is the separator
abbrev pub IsFree : ℕ → List ℕ → Type 0
IsFree separator bytes = AllByRecursion (λ b. b ≢ separator) bytes

-- a digit, 0 to 9
abbrev pub IsDigit : ℕ → Type 0
IsDigit b = (48 ≤ b) × (b ≤ 57)

-- what digits are worth, each ten times the one behind it
abbrev pub worth : List ℕ → ℕ
worth [] = 0
worth (b ∷ bytes) = (b - 48) * 10 ^ length bytes + worth bytes

-- 1 to 20 digits; zeros may lead
pub record AreDigits (word : List ℕ) (n : ℕ) : Type 0 where
  pub some : 1 ≤ length word
  pub few : length word ≤ 20
  pub digits : AllByRecursion IsDigit word
  pub value : n ≡ worth word

-- a hexadecimal digit of either case, and what it is worth
abbrev pub IsHexDigit : ℕ → ℕ → Type 0
IsHexDigit b digit =
    (IsDigit b × (digit ≡ b - 48))
    ⊎ (((97 ≤ b) × (b ≤ 102) × (digit ≡ b - 87)) ⊎ ((65 ≤ b) × (b ≤ 70) × (digit ≡ b - 55)))

-- an even count of hexadecimal digits, which may be none, and the bytes that they spell two by two
abbrev pub AreHex : List ℕ → List ℕ → Type 0
AreHex [] bytes = bytes ≡ []
AreHex (a ∷ []) bytes = ⊥
AreHex (a ∷ b ∷ word) bytes =
    (high low : ℕ) × (rest : List ℕ) × IsHexDigit a high × IsHexDigit b low × AreHex word rest
    × (bytes ≡ (high * 16 + low) ∷ rest)

-- the word has this separator, and these parts before and behind the first one; either may be empty
pub record IsCut (separator : ℕ) (word front back : List ℕ) : Type 0 where
  pub spelt : word ≡ front ++ separator ∷ back
  pub free : IsFree separator front

-- ---- the words of a line

-- spaces, byte 32
abbrev pub IsSpaces : List ℕ → Type 0
IsSpaces bytes = AllByRecursion (λ b. b ≡ 32) bytes

-- nothing, or a space first
abbrev pub EndsWord : List ℕ → Type 0
EndsWord [] = Unit {0}
EndsWord (b ∷ bytes) = b ≡ 32

-- a word that a line begins with behind spaces, and what follows it
pub record StartsWith (line word behind : List ℕ) : Type 0 where
  pub spaces : List ℕ
  pub spelt : line ≡ spaces ++ (word ++ behind)
  pub are_spaces : IsSpaces spaces
  pub some : 1 ≤ length word
  pub free : IsFree 32 word
  pub ends : EndsWord behind

-- the line has these words, with spaces between them
abbrev pub AreWords : List ℕ → List (List ℕ) → Type 0
AreWords line [] = IsSpaces line
AreWords line (word ∷ words) = (behind : List ℕ) × StartsWith line word behind × AreWords behind words

-- each of the lines has these words
abbrev pub HaveWords : List (List ℕ) → List (List (List ℕ)) → Type 0
HaveWords [] [] = Unit {0}
HaveWords (line ∷ lines) (words ∷ others) = AreWords line words × HaveWords lines others
HaveWords lines others = ⊥

-- ---- the lines of a text

-- what stands before LF is this line, with one CR, byte 13, that is passed over where it stands directly before LF
abbrev pub IsWithReturn : List ℕ → List ℕ → Type 0
IsWithReturn spelt line =
    (spelt ≡ line ++ 13 ∷ []) ⊎ ((spelt ≡ line) × ((front : List ℕ) → spelt ≡ front ++ 13 ∷ [] → ⊥))

-- the text begins with this line, which LF, byte 10, ends; and this follows
pub record BeginsWithLine (bytes line behind : List ℕ) : Type 0 where
  pub before : List ℕ
  pub spelt : bytes ≡ before ++ 10 ∷ behind
  pub free : IsFree 10 before
  pub passed : IsWithReturn before line

-- the text is one line, which its end ends; so a CR in it stays
pub record IsLastLine (bytes line : List ℕ) : Type 0 where
  pub spelt : bytes ≡ line
  pub free : IsFree 10 line
  pub some : 1 ≤ length line

-- the text has these lines, each with its LF; the last may go without, but then it has bytes
abbrev pub AreLines : List ℕ → List (List ℕ) → Type 0
AreLines bytes [] = bytes ≡ []
AreLines bytes (line ∷ lines) =
    ((behind : List ℕ) × BeginsWithLine bytes line behind × AreLines behind lines)
    ⊎ (IsLastLine bytes line × (lines ≡ []))

-- the text has these lines, each of which has these words
pub record HasLines (bytes : List ℕ) (lines : List (List (List ℕ))) : Type 0 where
  pub spelt : List (List ℕ)
  pub are_lines : AreLines bytes spelt
  pub have_words : HaveWords spelt lines
