-- Which lists of words the program takes, and what is then found in them.
use Rattle.std.proofs.Common.{◌≡◌, ◌∷◌, ◌∙◌, ◌==◌, ◌≤◌, ◌⊎◌, Bool, List, None, Option, Some, [], ap, ap₂, arith, codes, cond, drop, false, fold, inl, inr, length, not, option_and_then, option_map, refl, subst, sym, true, unwrap_or, ℕ}
use Rattle.std.proofs.lemmas.Bool.Decides.{nat_tests}
use Rattle.std.proofs.lemmas.Slice.Eq.{bytes_eq-Decides}
use Rattle.std.proofs.lemmas.Str.{IsUtf8-from_ascii, is_utf8-from_IsUtf8}
use Rattle.std.proofs.lemmas.Str.Ascii.{IsAscii-cons, IsAscii-nil}
use Rattle.std.specs.Char.{encode_utf8}
use Rattle.std.specs.List.{AllByRecursion, list_all}
use Rattle.std.specs.Option.{option_map_or}
use Rattle.std.specs.Prelude.{slice_get}
use Rattle.std.specs.Str.{IsAscii, bytes_eq, chars, is_utf8}
use Rattle.clap.specs.declared.error.Error.{Error}
use Rattle.clap.specs.declared.error.kind.ErrorKind.TheVariants as kind
use Rattle.clap.specs.Faults.{bundle_fault, bundle_step_fault, check_fault, defaults_fault, entered_fault, fault_of, flag_word_fault, flags_fault, is_simple_and_free, level_fault, long_fault, settle_fault, short_fault, step_fault, stray_fault, turn_fault, walk_fault, word_fault}
use Rattle.clap.specs.Kinds.{HasKind, Kinds, or_else}
use Rattle.clap.specs.Lexer.{long_of, long_of_rest, short_of, short_of_rest, strip_byte}
use Rattle.clap.specs.Matches.{first_value, found_of, subcommand_name_of}
use Rattle.clap.specs.Simple.{App, HasMatchesOf, Shape, built, entered, filled, is_simple, names_of, new_shape, subcommand_of, subcommand_rows_of, with_index}
use Rattle.clap.specs.declared.parser.matches.ArgMatches.{ArgMatches}
use Rattle.clap.specs.declared.parser.matches.ArgMatches.TheViews.{out-ArgMatches, out-SubCommand}
use Rattle.clap.specs.declared.parser.matches.Found.{Found}
use Rattle.std.specs.Box.{box_value}
use Rattle.clap.specs.Values.{kind_of}
use Rattle.clap.specs.Walk.{Held, Names, Row, Rule, Text, Walk, after_flag, after_step, arg_by_index, arg_by_long, arg_by_short, bundle_met, bundle_step, finished, idle, long_or_other, nothing_held, plain, settled, short_or_plain, subcommand_met, rows_of, value, walk_from, walked, word_met}
use Rattle.clap.proofs.OnLiterals.{clap_on_literals}
use Rattle.clap.proofs.WalkLemmas.{both, first_value-rows, walk_stopped}
use Rattle.command_words.specs.Program.{command_found, command_named, is_plain, number_rule, plain_texts, program}
use Rattle.command_words.specs.Words.{asked_alone, asked_command, if_wide, number_of}
use Rattle.command_words.specs.declared.words.Command.{Command}
use Rattle.command_words.specs.declared.words.Command.TheVariants.{Balance, Gen, Play, Reads}
use Rattle.text_grammar.proofs.Numerals.{number_told}
use Rattle.text_grammar.specs.Readings.{unsigned_of}
use Rattle.text_grammar.specs.Words.{AreDigits, IsDigit}

-- a step and the steps behind it pass only if both do
first_passes : (a b : Kinds) → or_else a b ≡ [] → a ≡ []
first_passes [] b e = refl
first_passes (k ∷ ks) b e = e

next_passes : (a b : Kinds) → or_else a b ≡ [] → b ≡ []
next_passes [] b e = e
next_passes (k ∷ ks) b e = cc

unknown_fails : {X : Type 0} → kind.UnknownArgument ∷ [] ≡ [] → X
unknown_fails e = cc

stray_fails : (s : Shape) → stray_fault s ≡ [] → ⊥
stray_fails s e = go s.is_leaf e
  where
    go : (leaf : Bool) → cond leaf (kind.UnknownArgument ∷ []) (kind.UnknownArgument ∷ kind.InvalidSubcommand ∷ []) ≡ [] → ⊥
    go true e = cc
    go false e = cc

-- ---- a command that has no option

module _ (s : Shape) (no_long : (name : Text) → arg_by_long s.rules name ≡ None) (no_short : (c : ℕ) → arg_by_short s.rules c ≡ None)
    (rows : List Row) (pending : Option (Text × List Text)) (word : Text) where
  abbrev held : Held
  held = record { rows = rows; pending = pending; skip = 0 }

  abbrev standing : ℕ → Walk
  standing position = record { held = held; waiting = idle; position = position; is_trailing = false; stopped = None }

  by_character : (k : ℕ) (flags : Text) (o : Option ℕ)
      → bundle_step_fault s.rules s.args_override_self o flags 0 held (flags_fault s.rules s.args_override_self k) ≡ []
      → bundle_step s.rules o flags 0 plain held (bundle_met s.rules k) ≡ (held, plain)
  by_character k flags None e = refl
  by_character k flags (Some c) e =
      let rest = drop (length (encode_utf8 c)) flags in
      let next = flags_fault s.rules s.args_override_self k rest 0 in
      unknown_fails (subst (λ a. short_fault s.rules s.args_override_self a rest held next ≡ []) (no_short c) e)

  by_short : (o : Option Text) → option_map_or (λ flags. bundle_fault s.rules s.args_override_self flags held) o [] ≡ []
      → short_or_plain s.rules idle word o held ≡ (held, value)
  unfolding bundle_met flags_fault
  by_short None e = refl
  by_short (Some []) e = refl
  by_short (Some (x ∷ xs)) e =
      ap (λ p. after_flag s.rules idle word p.0 p.1) (by_character _ (x ∷ xs) (slice_get (chars (x ∷ xs)) 0) e)

  by_long : (o : Option (Text × Option Text)) → flag_word_fault s.rules s.args_override_self o word held ≡ []
      → long_or_other s.rules idle word o held ≡ (held, value)
  by_long (Some p) e = unknown_fails (subst (λ a. long_fault s.rules s.args_override_self a p.1 held ≡ []) (no_long p.0) e)
  by_long None e = by_short (short_of word) e

  module _ (names : Names) (none : subcommand_met names idle word ≡ None) (plain_word : bytes_eq word (codes "--") ≡ false) where
    -- a word that passes, and names no command, is for the next place
    pub is_value : (position : ℕ) → turn_fault s names (standing position) word ≡ []
        → word_met s.rules names false idle position word held ≡ (held, value)
    is_value position e =
        let passes = first_passes (word_fault s names false idle word held) _ e in
        rw (none, plain_word) (by_long (long_of word) (rw (none, plain_word) at passes))

    -- so there must be one
    pub wants_place : (position : ℕ) → arg_by_index s.rules position ≡ None → turn_fault s names (standing position) word ≡ [] → ⊥
    wants_place position no_place e =
        let step = next_passes (word_fault s names false idle word held) _ e in
        let taken = subst (λ p. step_fault s position p.0 p.1 ≡ []) (is_value position e) step in
        stray_fails s (rw no_place at taken)

-- ---- the program

not_options : (word : Text) (rest : List Text) → list_all is_plain (word ∷ rest) ≡ true → bytes_eq word (codes "--") ≡ false
not_options word rest texts = go (bytes_eq word (codes "--")) (both _ _ (both _ _ texts).0).1
  where
    go : (t : Bool) → not t ≡ true → t ≡ false
    go true e = cc
    go false e = refl

abbrev top : Shape
top = (built program).top

abbrev names : Names
names = names_of (built program)

abbrev settings : Shape → Shape
settings s = record s {
  no_binary_name = true;
  disable_help_flag = true;
  disable_help_subcommand = true;
  is_built = true;
}

abbrev number_place : Rule
number_place = with_index 1 (filled number_rule)

-- a command with no words of its own
abbrev alone : Text → Shape
alone name = settings (new_shape name)

abbrev gen : Shape
gen = record (settings (new_shape (codes "gen"))) { rules = number_place ∷ [] }

-- what a command's words must pass once its name is read
abbrev passes : Shape → List Text → Type 0
passes s rest = level_fault s [] nothing_held rest false [] ≡ []

-- the words behind the name of a command are its own
module _ (s : Shape) (rest : List Text)
    (first : walked [] names (walk_from nothing_held) s.name ≡ record (walk_from nothing_held) { stopped = Some (s.name, []) }) where
  pub stops : (fold (walked [] names) (walk_from nothing_held) (s.name ∷ rest)).stopped ≡ Some (s.name, rest)
  stops =
      ap (λ (w : Walk). (fold (walked [] names) w rest).stopped) first
      ∙ sym (ap (λ (w : Walk). w.stopped) (walk_stopped [] names (walk_from nothing_held) s.name [] rest))

  pub enters : fault_of program (s.name ∷ rest) ≡ [] → entered_fault (built program) (Some (s.name, rest)) ≡ []
  enters e =
      let below = next_passes (walk_fault top names (walk_from nothing_held) (s.name ∷ rest)) _ e in
      subst (λ stop. entered_fault (built program) stop ≡ []) stops (first_passes _ _ below)

  pub finds : subcommand_of program (s.name ∷ rest) ≡ entered (built program) (Some (s.name, rest))
  finds = ap (entered (built program)) stops

-- a word that names a command stops the walk there
abbrev Stops : Text → Type 0
Stops name = walked [] names (walk_from nothing_held) name ≡ record (walk_from nothing_held) { stopped = Some (name, []) }

play_stops : Stops (codes "play")
unfolding clap_on_literals
play_stops = refl

gen_stops : Stops (codes "gen")
unfolding clap_on_literals
gen_stops = refl

reads_stops : Stops (codes "reads")
unfolding clap_on_literals
reads_stops = refl

balance_stops : Stops (codes "balance")
unfolding clap_on_literals
balance_stops = refl

-- a command with no words of its own has none
no_words : (name : Text) (word : Text) (rest : List Text) → list_all is_plain (word ∷ rest) ≡ true → passes (alone name) (word ∷ rest) → ⊥
unfolding walk_fault
no_words name word rest texts level =
    let turn = first_passes _ _ (first_passes _ _ level) in
    wants_place (alone name) (λ _. refl) (λ _. refl) [] None word [] refl (not_options word rest texts) 1 refl turn

play_read : (rest : List Text) → list_all is_plain rest ≡ true → fault_of program (codes "play" ∷ rest) ≡ []
    → command_found (subcommand_of program (codes "play" ∷ rest)) ≡ asked_command (codes "play" ∷ rest)
play_read [] texts e = rw (finds (alone (codes "play")) [] play_stops) refl
play_read (word ∷ rest) texts e =
    absurd (no_words (codes "play") word rest texts (enters (alone (codes "play")) (word ∷ rest) play_stops e))

reads_read : (rest : List Text) → list_all is_plain rest ≡ true → fault_of program (codes "reads" ∷ rest) ≡ []
    → command_found (subcommand_of program (codes "reads" ∷ rest)) ≡ asked_command (codes "reads" ∷ rest)
reads_read [] texts e = rw (finds (alone (codes "reads")) [] reads_stops) refl
reads_read (word ∷ rest) texts e =
    absurd (no_words (codes "reads") word rest texts (enters (alone (codes "reads")) (word ∷ rest) reads_stops e))

balance_read : (rest : List Text) → list_all is_plain rest ≡ true → fault_of program (codes "balance" ∷ rest) ≡ []
    → command_found (subcommand_of program (codes "balance" ∷ rest)) ≡ asked_command (codes "balance" ∷ rest)
balance_read [] texts e = rw (finds (alone (codes "balance")) [] balance_stops) refl
balance_read (word ∷ rest) texts e =
    absurd (no_words (codes "balance") word rest texts (enters (alone (codes "balance")) (word ∷ rest) balance_stops e))

-- where the number's word stands
abbrev numbered : Text → Held
numbered word = record { rows = []; pending = Some (codes "number", word ∷ []); skip = 0 }

abbrev behind_number : Text → Walk
behind_number word = record { held = numbered word; waiting = idle; position = 2; is_trailing = false; stopped = None }

takes_number : (word : Text) → bytes_eq word (codes "--") ≡ false → turn_fault gen [] (walk_from nothing_held) word ≡ []
    → walked gen.rules [] (walk_from nothing_held) word ≡ behind_number word
unfolding walked
takes_number word unmarked turn =
    ap (λ p. after_step gen.rules word (walk_from nothing_held) p.0 p.1)
    (is_value gen (λ _. refl) (λ _. refl) [] None word [] refl unmarked 1 turn)

-- `gen` has one word, its number
gen_read : (rest : List Text) → list_all is_plain rest ≡ true → fault_of program (codes "gen" ∷ rest) ≡ []
    → command_found (subcommand_of program (codes "gen" ∷ rest)) ≡ asked_command (codes "gen" ∷ rest)
unfolding walk_fault
gen_read [] texts e = rw (finds gen [] gen_stops) refl
gen_read (word ∷ []) texts e =
    let level : passes gen (word ∷ []) = enters gen (word ∷ []) gen_stops e in
    let turn = first_passes _ _ (first_passes _ _ level) in
    let walk = takes_number word (not_options word [] texts) turn in
    ap command_found (finds gen (word ∷ []) gen_stops)
    ∙ ap (λ (w : Walk). command_found (Some (codes "gen", finished gen.rules w.held))) walk
gen_read (word ∷ other ∷ rest) texts e =
    let level : passes gen (word ∷ other ∷ rest) = enters gen (word ∷ other ∷ rest) gen_stops e in
    let turns = first_passes _ _ level in
    let turn = first_passes _ _ turns in
    let walk = takes_number word (not_options word (other ∷ rest) texts) turn in
    let behind = next_passes _ _ turns in
    let second = first_passes _ _ (subst (λ w. walk_fault gen [] w (other ∷ rest) ≡ []) walk behind) in
    absurd (wants_place gen (λ _. refl) (λ _. refl) [] (Some (codes "number", word ∷ [])) other [] refl
    (not_options other rest (both _ _ texts).1) 2 refl second)

-- the program is not called by another first word
other_fails : (word : Text) (rest : List Text) → bytes_eq (codes "play") word ≡ false → bytes_eq (codes "gen") word ≡ false
    → bytes_eq (codes "reads") word ≡ false → bytes_eq (codes "balance") word ≡ false
    → list_all is_plain (word ∷ rest) ≡ true → fault_of program (word ∷ rest) ≡ [] → ⊥
unfolding walk_fault
other_fails word rest no_play no_gen no_reads no_balance texts e =
    let turn = first_passes _ _ (first_passes _ _ e) in
    wants_place top (λ _. refl) (λ _. refl) [] None word names (rw (no_play, no_gen, no_reads, no_balance) refl)
    (not_options word rest texts) 1 refl turn

-- what is found where the program takes the words is what they ask
abbrev IsReadAsAsked : List Text → Type 0
IsReadAsAsked words = command_found (subcommand_of program words) ≡ asked_command words

-- a first word that names a command is read as that name
by_name : (name word : Text) (rest : List Text) → bytes_eq name word ≡ true → fault_of program (word ∷ rest) ≡ []
    → (fault_of program (name ∷ rest) ≡ [] → IsReadAsAsked (name ∷ rest)) → IsReadAsAsked (word ∷ rest)
by_name name word rest same e read =
    let is : name ≡ word = (bytes_eq-Decides _ _).0 same in
    subst (λ w. IsReadAsAsked (w ∷ rest)) is (read (subst (λ w. fault_of program (w ∷ rest) ≡ []) (sym is) e))

pub read_as_asked : (words : List Text) → list_all is_plain words ≡ true → fault_of program words ≡ [] → IsReadAsAsked words
read_as_asked [] texts e = refl
read_as_asked (word ∷ rest) texts e =
    by (both _ _ texts).1 (bytes_eq (codes "play") word) (bytes_eq (codes "gen") word) (bytes_eq (codes "reads") word)
    (bytes_eq (codes "balance") word) refl refl refl refl
  where
    by : list_all is_plain rest ≡ true → (p g r b : Bool) → bytes_eq (codes "play") word ≡ p → bytes_eq (codes "gen") word ≡ g → bytes_eq (codes "reads") word ≡ r
        → bytes_eq (codes "balance") word ≡ b → IsReadAsAsked (word ∷ rest)
    by behind true g r b same no_gen no_reads no_balance = by_name (codes "play") word rest same e (play_read rest behind)
    by behind false true r b no_play same no_reads no_balance = by_name (codes "gen") word rest same e (gen_read rest behind)
    by behind false false true b no_play no_gen same no_balance = by_name (codes "reads") word rest same e (reads_read rest behind)
    by behind false false false true no_play no_gen no_reads same = by_name (codes "balance") word rest same e (balance_read rest behind)
    by behind false false false false no_play no_gen no_reads no_balance =
        absurd (other_fails word rest no_play no_gen no_reads no_balance texts e)

-- ---- the words that ask

-- a word that begins with no hyphen
abbrev IsNumberWord : Text → Type 0
IsNumberWord word = (byte : ℕ) × (bytes : Text) × (word ≡ byte ∷ bytes) × (byte == 45 ≡ false) × IsAscii (byte ∷ bytes)

digits_are_ascii : (bytes : Text) → AllByRecursion IsDigit bytes → IsAscii bytes
digits_are_ascii [] digits = IsAscii-nil
digits_are_ascii (byte ∷ bytes) digits =
    let few : byte ≤ 57 = digits.0.1 in
    IsAscii-cons byte bytes (omega (arith, few)) (digits_are_ascii bytes digits.1)

no_hyphen_there : (byte : ℕ) → IsDigit byte → byte == 45 ≡ false
no_hyphen_there byte digit =
    let least : 48 ≤ byte = digit.0 in
    grind (arith, nat_tests)

spelt_word : (word : Text) (number : ℕ) → AreDigits word number → IsNumberWord word
spelt_word [] number is = absurd (omega (arith, is.some))
spelt_word (byte ∷ bytes) number is =
    (byte, bytes, refl, no_hyphen_there byte is.digits.0, digits_are_ascii (byte ∷ bytes) is.digits)

number_word : (word : Text) (number : ℕ) → number_of word ≡ Some number → IsNumberWord word
unfolding number_of
number_word word number e = go (unsigned_of word) refl e
  where
    go : (o : Option ℕ) → unsigned_of word ≡ o → option_and_then if_wide o ≡ Some number → IsNumberWord word
    go None same e = cc
    go (Some read) same e = spelt_word word read (number_told word read same)

abbrev IsNumbered : List Text → Type 0
IsNumbered words = (word : Text) × (words ≡ codes "gen" ∷ word ∷ []) × IsNumberWord word

-- the words that ask alone
abbrev IsAlone : Text → Type 0
IsAlone word = (word ≡ codes "play") ⊎ ((word ≡ codes "reads") ⊎ (word ≡ codes "balance"))

abbrev IsAskedAlone : List Text → Type 0
IsAskedAlone words = (word : Text) × (words ≡ word ∷ []) × IsAlone word

alone_word : (word : Text) (command : Command) → asked_alone word ≡ Some command → IsAlone word
alone_word word command e =
    go (bytes_eq word (codes "play")) (bytes_eq word (codes "reads")) (bytes_eq word (codes "balance")) refl refl refl e
  where
    go : (p r b : Bool) → bytes_eq word (codes "play") ≡ p → bytes_eq word (codes "reads") ≡ r → bytes_eq word (codes "balance") ≡ b
        → cond p (Some Play) (cond r (Some Reads) (cond b (Some Balance) None)) ≡ Some command → IsAlone word
    go true r b same differs ends e = inl ((bytes_eq-Decides word (codes "play")).0 same)
    go false true b differs same ends e = inr (inl ((bytes_eq-Decides word (codes "reads")).0 same))
    go false false true differs ends same e = inr (inr ((bytes_eq-Decides word (codes "balance")).0 same))
    go false false false differs ends last e = cc

-- what asks is a word alone, or `gen` and a number
asking : (words : List Text) (command : Command) → asked_command words ≡ Some command → IsAskedAlone words ⊎ IsNumbered words
asking [] command e = cc
asking (word ∷ []) command e = inl (word, refl, alone_word word command e)
asking (word ∷ number ∷ []) command e = go (bytes_eq word (codes "gen")) (number_of number) refl refl e
  where
    go : (t : Bool) (o : Option ℕ) → bytes_eq word (codes "gen") ≡ t → number_of number ≡ o
        → cond t (option_map Gen o) None ≡ Some command
        → IsAskedAlone (word ∷ number ∷ []) ⊎ IsNumbered (word ∷ number ∷ [])
    go true (Some n) same is e =
        inr (number, ap (λ w. w ∷ number ∷ []) ((bytes_eq-Decides word (codes "gen")).0 same), number_word number n is)
    go true None same is e = cc
    go false o same is e = cc
asking (word ∷ number ∷ other ∷ words) command e = cc

play_passes : fault_of program (codes "play" ∷ []) ≡ []
unfolding clap_on_literals
play_passes = refl

reads_passes : fault_of program (codes "reads" ∷ []) ≡ []
unfolding clap_on_literals
reads_passes = refl

balance_passes : fault_of program (codes "balance" ∷ []) ≡ []
unfolding clap_on_literals
balance_passes = refl

alone_passes : (name : Text) → IsAlone name → fault_of program (name ∷ []) ≡ []
alone_passes name (inl is) = ap (λ w. fault_of program (w ∷ [])) is ∙ play_passes
alone_passes name (inr (inl is)) = ap (λ w. fault_of program (w ∷ [])) is ∙ reads_passes
alone_passes name (inr (inr is)) = ap (λ w. fault_of program (w ∷ [])) is ∙ balance_passes

module _ (byte : ℕ) (bytes : Text) (no_hyphen : byte == 45 ≡ false) where
  abbrev word : Text
  word = byte ∷ bytes

  no_mark : bytes_eq word (codes "--") ≡ false
  no_mark = rw no_hyphen refl

  stripped : strip_byte 45 word ≡ None
  stripped = rw no_hyphen refl

  not_long : long_of word ≡ None
  not_long = ap (λ o. option_and_then long_of_rest (option_and_then (strip_byte 45) o)) stripped

  not_short : short_of word ≡ None
  not_short = ap (option_and_then short_of_rest) stripped

  number_met : word_met gen.rules [] false idle 1 word nothing_held ≡ (nothing_held, value)
  number_met = rw (no_mark, not_long, not_short) refl

  number_turn : turn_fault gen [] (walk_from nothing_held) word ≡ []
  number_turn =
      let passes : word_fault gen [] false idle word nothing_held ≡ [] = rw (no_mark, not_long, not_short) refl in
      ap₂ (λ kinds p. or_else kinds (step_fault gen 1 p.0 p.1)) passes number_met

  number_walk : walked gen.rules [] (walk_from nothing_held) word ≡ behind_number word
  unfolding walked
  number_walk = ap (λ p. after_step gen.rules word (walk_from nothing_held) p.0 p.1) number_met

  -- the words of `gen` pass
  number_passes : passes gen (word ∷ [])
  unfolding walk_fault defaults_fault
  number_passes = ap₂ (λ (kinds : Kinds) (w : Walk). or_else (or_else kinds []) (or_else []
      (or_else (settle_fault gen.rules false w.held) (or_else (defaults_fault (settled gen.rules w.held).rows gen.rules)
      (check_fault gen (finished gen.rules w.held) false))))) number_turn number_walk

  gen_passes : fault_of program (codes "gen" ∷ word ∷ []) ≡ []
  unfolding clap_on_literals
  gen_passes = ap (λ kinds. or_else kinds []) number_passes

-- the program takes the words that ask
asked_passes : (words : List Text) (command : Command) → asked_command words ≡ Some command → fault_of program words ≡ []
asked_passes words command e = go (asking words command e)
  where
    go : IsAskedAlone words ⊎ IsNumbered words → fault_of program words ≡ []
    go (inl h) = ap (fault_of program) h.1 ∙ alone_passes h.0 h.2
    go (inr h) =
        let word = h.2 in
        ap (fault_of program) (h.1 ∙ ap (λ w. codes "gen" ∷ w ∷ []) word.2) ∙ gen_passes word.0 word.1 word.3

ascii_is_utf8 : (bytes : Text) → IsAscii bytes → is_utf8 bytes ≡ true
ascii_is_utf8 bytes ascii = is_utf8-from_IsUtf8 bytes (IsUtf8-from_ascii bytes ascii)

play_plain : list_all is_plain (codes "play" ∷ []) ≡ true
unfolding is_utf8 chars encode_utf8
play_plain = refl

reads_plain : list_all is_plain (codes "reads" ∷ []) ≡ true
unfolding is_utf8 chars encode_utf8
reads_plain = refl

balance_plain : list_all is_plain (codes "balance" ∷ []) ≡ true
unfolding is_utf8 chars encode_utf8
balance_plain = refl

alone_plain : (name : Text) → IsAlone name → list_all is_plain (name ∷ []) ≡ true
alone_plain name (inl is) = ap (λ w. list_all is_plain (w ∷ [])) is ∙ play_plain
alone_plain name (inr (inl is)) = ap (λ w. list_all is_plain (w ∷ [])) is ∙ reads_plain
alone_plain name (inr (inr is)) = ap (λ w. list_all is_plain (w ∷ [])) is ∙ balance_plain

gen_plain : is_plain (codes "gen") ≡ true
unfolding is_utf8 chars encode_utf8
gen_plain = refl

number_plain : (byte : ℕ) (bytes : Text) → byte == 45 ≡ false → IsAscii (byte ∷ bytes) → is_plain (byte ∷ bytes) ≡ true
number_plain byte bytes no_hyphen ascii = rw (ascii_is_utf8 (byte ∷ bytes) ascii, no_hyphen) refl

-- and they are plain text
asked_plain : (words : List Text) (command : Command) → asked_command words ≡ Some command → list_all is_plain words ≡ true
asked_plain words command e = go (asking words command e)
  where
    go : IsAskedAlone words ⊎ IsNumbered words → list_all is_plain words ≡ true
    go (inl h) = ap (list_all is_plain) h.1 ∙ alone_plain h.0 h.2
    go (inr h) =
        let word = h.2 in
        ap (list_all is_plain) (h.1 ∙ ap (λ w. codes "gen" ∷ w ∷ []) word.2)
        ∙ rw (gen_plain, number_plain word.0 word.1 word.3 word.4) refl

-- words that are not plain text ask nothing
pub none_unread : (words : List Text) → plain_texts words ≡ None → asked_command words ≡ None
none_unread words unread = go (asked_command words) refl
  where
    go : (o : Option Command) → asked_command words ≡ o → asked_command words ≡ None
    go None same = same
    go (Some command) same =
        let plain = asked_plain words command same in
        let bad : Some words ≡ None = rw plain at unread in
        cc

-- ---- what a parse says

-- the matches of words that the program takes hold what the words ask
pub found_is_asked : (app : App) (words : List Text) (matches : ArgMatches) → app ≡ program → list_all is_plain words ≡ true
    → (is_simple_and_free app ≡ true → fault_of app words ≡ []) → HasMatchesOf app words matches
    → command_found (subcommand_rows_of matches) ≡ asked_command words
found_is_asked app words matches is texts takes has =
    let free : is_simple_and_free app ≡ true = ap is_simple_and_free is in
    let simple : is_simple app ≡ true = ap is_simple is in
    ap command_found ((has simple).1 ∙ ap (λ a. subcommand_of a words) is)
    ∙ read_as_asked words texts (subst (λ a. fault_of a words ≡ []) is (takes free))

-- words that the program refuses ask nothing
pub none_refused : (app : App) (words : List Text) (error : Error) → app ≡ program
    → (is_simple_and_free app ≡ true → HasKind (fault_of app words) error) → (kind_of error ≡ kind.OutOfMemory → ⊥)
    → asked_command words ≡ None
none_refused app words error is refused no_memory = go (asked_command words) refl
  where
    go : (o : Option Command) → asked_command words ≡ o → asked_command words ≡ None
    go None same = same
    go (Some command) same =
        let passes : fault_of app words ≡ [] = ap (λ a. fault_of a words) is ∙ asked_passes words command same in
        let h = subst (λ kinds. HasKind kinds error) passes (refused (ap is_simple_and_free is)) in
        absurd (elim h [ inl memory ↦ no_memory memory | inr none ↦ none ])

abbrev pair : Text → List Row → Text × List Row
pair name rows = (name, rows)

both_read : {A : Type 0} (n : A → Text) (r : A → List Row) (o : Option A) (name : Text) (rows : List Row)
    → Some name ≡ option_map n o → Some rows ≡ option_map (λ (p : Text × List Row). p.1) (option_map (λ b. pair (n b) (r b)) o)
    → Some (pair name rows) ≡ option_map (λ b. pair (n b) (r b)) o
both_read n r None name rows e f = cc
both_read n r (Some b) name rows e f =
    ap₂ (λ x y. Some (pair x y)) (ap (λ o. unwrap_or o name) e) (ap (λ o. unwrap_or o rows) f)

-- the command of a subcommand by what is read of it
pub named_is_found : (matches : ArgMatches) (name : Text) (found : Found) (number : Option Text)
    → Some name ≡ subcommand_name_of matches → Some (rows_of found) ≡ option_map (λ (p : Text × List Row). p.1) (subcommand_rows_of matches)
    → number ≡ first_value found (codes "number") → command_named name number ≡ command_found (subcommand_rows_of matches)
named_is_found matches name found number is_name is_rows is_number =
    ap (command_named name) (is_number ∙ first_value-rows found (codes "number"))
    ∙ ap command_found (both_read (λ b. (out-SubCommand (box_value b)).name.now)
    (λ b. rows_of (found_of (out-SubCommand (box_value b)).matches)) (out-ArgMatches matches).subcommand name (rows_of found)
    is_name is_rows)
