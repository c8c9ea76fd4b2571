-- Words with a meaning of their own, and the names of labels.
use Rattle.std.specs.List.{list_all}
use Rattle.std.specs.Option.{option_map}
use Rattle.std.specs.Prelude.{Bool, List, None, Option, Some, [], codes, false, if◌then◌else◌, length, nat_le, true, ℕ, ◌&&◌, ◌∷◌}
use Rattle.std.specs.Str.{bytes_eq}
use Rattle.schedule_words.specs.declared.verbs.BodyKind.{BodyKind}
use Rattle.schedule_words.specs.declared.verbs.BodyKind.TheVariants.{Dead as DeadWord, Live as LiveWord}
use Rattle.schedule_words.specs.declared.verbs.HeaderVerb.{HeaderVerb}
use Rattle.schedule_words.specs.declared.verbs.HeaderVerb.TheVariants.{Go, Hosts, Lanes, Members, Shards, Table, Tablet, Tablets}
use Rattle.schedule_words.specs.declared.counts.Format.{Format}
use Rattle.schedule_words.specs.declared.counts.Format.TheVariants.{One as FirstFormat, Two as SecondFormat}
use Rattle.stage_graph.specs.declared.level.Level.{Level}
use Rattle.stage_graph.specs.declared.level.Level.TheVariants.{One, Two, Three, Quorum, All}
use Rattle.stage_graph.specs.declared.stage.Stage.{Stage}
use Rattle.stage_graph.specs.Rules.{stages}
use Rattle.stage_graph.specs.Words.{word as stage_word}
use Rattle.text_grammar.specs.Readings.{cut_at}
use Rattle.topo_state.specs.declared.data.ResizeKind.{ResizeKind}
use Rattle.topo_state.specs.declared.data.ResizeKind.TheVariants.{Keep, Merge, Split}

-- what a word means by a table of words
abbrev pub meaning : {A : Type 0} → List (List ℕ × A) → List ℕ → Option A
meaning [] word = None
meaning (entry ∷ table) word = if bytes_eq word entry.0 then Some entry.1 else meaning table word

-- ---- words of the header

-- the words of the lines of a header, and which of them a word is
abbrev pub header_words : List (List ℕ × HeaderVerb)
header_words =
    (codes "tablets", Tablets)
    ∷ (codes "hosts", Hosts)
    ∷ (codes "lanes", Lanes)
    ∷ (codes "shards", Shards)
    ∷ (codes "members", Members)
    ∷ (codes "table", Table)
    ∷ (codes "tablet", Tablet)
    ∷ (codes "go", Go)
    ∷ []

abbrev pub header_word : List ℕ → Option HeaderVerb
header_word word = meaning header_words word

-- ---- words inside lines

-- the words of cells, with a value or deleted
abbrev pub body_word : List ℕ → Option BodyKind
body_word word = meaning ((codes "live", LiveWord) ∷ (codes "dead", DeadWord) ∷ []) word

-- the words of levels, and which of them a word is
abbrev pub level_words : List (List ℕ × Level)
level_words =
    (codes "one", One)
    ∷ (codes "two", Two)
    ∷ (codes "three", Three)
    ∷ (codes "quorum", Quorum)
    ∷ (codes "all", All)
    ∷ []

abbrev pub level_word : List ℕ → Option Level
level_word word = meaning level_words word

-- in the first format no word is one
abbrev pub level_in : Format → List ℕ → Option Level
level_in FirstFormat word = None
level_in SecondFormat word = level_word word

-- the words of decisions for a table
abbrev pub resize_word : List ℕ → Option ResizeKind
resize_word word = meaning ((codes "split", Split) ∷ (codes "merge", Merge) ∷ (codes "keep", Keep) ∷ []) word

-- the first of these stages that has the word
abbrev pub stage_among : List Stage → List ℕ → Option Stage
stage_among [] word = None
stage_among (stage ∷ others) word =
    if bytes_eq word (stage_word stage) then Some stage else stage_among others word

-- the stage of a word, or none for the word `none`
abbrev pub target_word : List ℕ → Option (Option Stage)
target_word word = if bytes_eq word (codes "none") then Some None else option_map Some (stage_among stages word)

-- ---- labels

-- a lower-case letter
abbrev pub is_letter : ℕ → Bool
is_letter byte = nat_le 97 byte && nat_le byte 122

-- a lower-case letter or a digit
abbrev pub is_letter_or_digit : ℕ → Bool
is_letter_or_digit byte = if is_letter byte then true else nat_le 48 byte && nat_le byte 57

-- a label: 1 to 16 lower-case letters or digits, of which the first is a letter
abbrev pub is_name : List ℕ → Bool
is_name [] = false
is_name (first ∷ others) = is_letter first && (nat_le (length others) 15 && list_all is_letter_or_digit others)

abbrev pub is_empty : {A : Type 0} → List A → Bool
is_empty [] = true
is_empty (a ∷ others) = false

-- the name before a colon, where nothing stands behind it
abbrev pub name_of : Option (List ℕ × List ℕ) → Option (List ℕ)
name_of None = None
name_of (Some parts) = if is_name parts.0 && is_empty parts.1 then Some parts.0 else None

-- the name of a word `NAME:`
abbrev pub label_of : List ℕ → Option (List ℕ)
label_of word = name_of (cut_at 58 word)
