-- A first cut, and the lines or pieces that follow it.
use Rattle.std.proofs.Common.{◌≡◌, ℕ, suc, ◌+◌, ◌-◌, ◌<◌, ◌≤◌, ◌==◌, ◌&&◌, not, Bool, true, false, cond, nat_lt, List, [], ◌∷◌, ◌++◌, length, take, drop, Option, Some, None, Ok, refl, sym, ap, ◌∙◌, arith}
use Rattle.std.specs.List.{position, position_or_len, list_all}
use Rattle.text_grammar.specs.Lines.{are_ascii}
use Rattle.std.specs.Option.{option_map}
use Rattle.std.proofs.lemmas.Grind.{common_steps}
use Rattle.std.proofs.lemmas.Bool.Decides.{nat_tests}
use Rattle.text_grammar.specs.Readings.{cut_at, onto_front, ends_line, next_of}
use Rattle.text_grammar.specs.Cuts.{lines_of, onto_line, at_feed, without_return, at_space, onto_word, words_of, starts_word}
use Rattle.text_grammar.proofs.Numerals.{both_true}

-- what stands before and behind a place, as slices of it
behind_slice : (bytes : List ℕ) (at : ℕ) → take (length bytes - (at + 1)) (drop (at + 1) bytes) ≡ drop (at + 1) bytes
behind_slice bytes at = grind (arith, common_steps)

abbrev pub around : List ℕ → ℕ → List ℕ × List ℕ
around bytes at = (take at bytes, drop (at + 1) bytes)

around_suc : (b : ℕ) (bytes : List ℕ) (p : ℕ) → around (b ∷ bytes) (1 + p) ≡ (b ∷ take p bytes, drop (p + 1) bytes)
around_suc b bytes p =
    let e : 1 + p ≡ suc p = omega arith in
    let f : p + 1 ≡ suc p = omega arith in
    let g : suc p + 1 ≡ suc (suc p) = omega arith in
    rw (e, f, g) refl

suc_lt : (n p : ℕ) → nat_lt (1 + p) (suc n) ≡ nat_lt p n
suc_lt n p = grind (arith, nat_tests)

around_more : (b : ℕ) (bytes : List ℕ) (p : ℕ) → onto_front b (option_map (around bytes) (cond (nat_lt p (length bytes)) (Some p) None)) ≡ option_map (around (b ∷ bytes)) (cond (nat_lt (1 + p) (suc (length bytes))) (Some (1 + p)) None)
around_more b bytes p =
    rw (suc_lt (length bytes) p)
    (elim (nat_lt p (length bytes)) as (λ t. onto_front b (option_map (around bytes) (cond t (Some p) None)) ≡ option_map (around (b ∷ bytes)) (cond t (Some (1 + p)) None))
    [ true ↦ ap Some (sym (around_suc b bytes p)) | false ↦ refl ])

first_lt : (n : ℕ) → nat_lt 0 (suc n) ≡ true
first_lt n = grind (arith, nat_tests)

pub cut-position : (separator : ℕ) (bytes : List ℕ) → option_map (around bytes) (position (λ b. b == separator) bytes) ≡ cut_at separator bytes
cut-position separator [] = refl
cut-position separator (b ∷ bytes) =
    let p : ℕ = position_or_len (λ b. b == separator) bytes in
    elim (b == separator) as (λ t. option_map (around (b ∷ bytes)) (cond (nat_lt (cond (not t) (1 + p) 0) (length (b ∷ bytes))) (Some (cond (not t) (1 + p) 0)) None) ≡ cond t (Some ([], bytes)) (onto_front b (cut_at separator bytes))) [
      | true ↦ rw (first_lt (length bytes)) refl
      | false ↦ rw (← (cut-position separator bytes)) (sym (around_more b bytes p))
    ]

pub some_cut : (separator : ℕ) (bytes : List ℕ) (at : ℕ) → Some at ≡ position (λ b. b == separator) bytes → Some (take at bytes, take (length bytes - (at + 1)) (drop (at + 1) bytes)) ≡ cut_at separator bytes
some_cut separator bytes at e =
    rw (behind_slice bytes at)
    (ap (option_map (around bytes)) e ∙ cut-position separator bytes)

pub no_cut : (separator : ℕ) (bytes : List ℕ) → None ≡ position (λ b. b == separator) bytes → None ≡ cut_at separator bytes
no_cut separator bytes e = ap (option_map (around bytes)) e ∙ cut-position separator bytes

-- ---- words

-- the words, by the first space
words_by : List ℕ → Option (List ℕ × List ℕ) → List (List ℕ)
words_by word None = word ∷ []
words_by word (Some cut) = cut.0 ∷ words_of cut.1

onto_words : (b : ℕ) (word : List ℕ) (cut : Option (List ℕ × List ℕ)) → onto_word b false (words_by word cut) ≡ words_by (b ∷ word) (onto_front b cut)
unfolding words_by
onto_words b word None = refl
onto_words b word (Some cut) = refl

words_cut : (b : ℕ) (bytes : List ℕ) → (b == 32) ≡ false → words_of (b ∷ bytes) ≡ words_by (b ∷ bytes) (cut_at 32 (b ∷ bytes))
unfolding words_by
words_cut b [] other = rw other refl
words_cut b (c ∷ bytes) other =
    rw other
    (elim (c == 32) as (λ (t : Bool). (c == 32) ≡ t → onto_word b t (words_of (c ∷ bytes)) ≡ words_by (b ∷ c ∷ bytes) (onto_front b (cut_at 32 (c ∷ bytes)))) [
      | true ↦ λ e. rw e refl
      | false ↦ λ e. ap (onto_word b false) (words_cut c bytes e) ∙ onto_words b (c ∷ bytes) (cut_at 32 (c ∷ bytes))
    ] refl)

pub first_word_of : (rest word behind : List ℕ) → starts_word rest → 0 < length rest → Some (word, behind) ≡ cut_at 32 rest → words_of rest ≡ word ∷ words_of behind
unfolding words_by
first_word_of [] word behind starts some e = absurd (omega arith)
first_word_of (b ∷ bytes) word behind starts some e = words_cut b bytes starts ∙ ap (words_by (b ∷ bytes)) (sym e)

pub one_word_of : (rest : List ℕ) → starts_word rest → 0 < length rest → None ≡ cut_at 32 rest → words_of rest ≡ rest ∷ []
unfolding words_by
one_word_of [] starts some e = absurd (omega arith)
one_word_of (b ∷ bytes) starts some e = words_cut b bytes starts ∙ ap (words_by (b ∷ bytes)) (sym e)

some_words : (b : ℕ) (t : Bool) (words : List (List ℕ)) → ends_line (onto_word b t words) ≡ false
some_words b true words = refl
some_words b false [] = refl
some_words b false (word ∷ words) = refl

some_length : (b : ℕ) (bytes : List ℕ) → (length (b ∷ bytes) == 0) ≡ false
some_length b bytes = grind (arith, nat_tests)

pub no_words : (rest : List ℕ) → starts_word rest → ends_line (words_of rest) ≡ (length rest == 0)
no_words [] starts = refl
no_words (b ∷ bytes) starts = rw starts (some_words b (at_space bytes) (words_of bytes) ∙ sym (some_length b bytes))

not_empty : (rest : List ℕ) → (length rest == 0) ≡ false → 0 < length rest
not_empty rest h = grind (arith, nat_tests)

pub next_alone : (rest line : List ℕ) → words_of rest ≡ words_of line → starts_word rest → (length rest == 0) ≡ false → None ≡ cut_at 32 rest → Ok (rest, []) ≡ next_of (words_of line)
next_alone rest line same starts some none = ap next_of (sym (one_word_of rest starts (not_empty rest some) none) ∙ same)

pub next_before : (rest line word behind : List ℕ) → words_of rest ≡ words_of line → starts_word rest → (length rest == 0) ≡ false → Some (word, behind) ≡ cut_at 32 rest → Ok (word, words_of behind) ≡ next_of (words_of line)
next_before rest line word behind same starts some cut = ap next_of (sym (first_word_of rest word behind starts (not_empty rest some) cut) ∙ same)

same_test : (a b : ℕ) → (a == b) ≡ true → a ≡ b
same_test a b h = grind (arith, nat_tests)

and_and : (x y z : Bool) → ((x && y) && z) ≡ (x && (y && z))
and_and true y z = refl
and_and false y z = refl

onto_ascii : (b : ℕ) (t : Bool) (words : List (List ℕ)) → are_ascii (onto_word b t words) ≡ (nat_lt b 128 && are_ascii words)
onto_ascii b true words = and_and (nat_lt b 128) true (are_ascii words)
onto_ascii b false [] = and_and (nat_lt b 128) true true
onto_ascii b false (word ∷ words) = and_and (nat_lt b 128) (list_all (λ x. nat_lt x 128) word) (are_ascii words)

space_ascii : (rest : Bool) → (nat_lt 32 128 && rest) ≡ rest
space_ascii rest = refl

pub ascii_line : (line : List ℕ) → list_all (λ b. nat_lt b 128) line ≡ are_ascii (words_of line)
ascii_line [] = refl
ascii_line (b ∷ bytes) =
    ap (λ (r : Bool). nat_lt b 128 && r) (ascii_line bytes)
    ∙ elim (b == 32) as (λ (t : Bool). (b == 32) ≡ t → (nat_lt b 128 && are_ascii (words_of bytes)) ≡ are_ascii (cond t (words_of bytes) (onto_word b (at_space bytes) (words_of bytes)))) [
      | true ↦ λ e. ap (λ (n : ℕ). nat_lt n 128 && are_ascii (words_of bytes)) (same_test b 32 e)
      | false ↦ λ e. sym (onto_ascii b (at_space bytes) (words_of bytes))
    ] refl

-- ---- lines

lines_by : List ℕ → Option (List ℕ × List ℕ) → List (List ℕ)
lines_by bytes None = bytes ∷ []
lines_by bytes (Some cut) = without_return cut.0 ∷ lines_of cut.1

-- a byte before a line that LF ends, where the byte is no CR or the line is not empty
longer : (b : ℕ) (front : List ℕ) → ((b == 13) && (length front == 0)) ≡ false → b ∷ without_return front ≡ without_return (b ∷ front)
longer b [] other =
    elim (b == 13) as (λ (t : Bool). (t && true) ≡ false → b ∷ [] ≡ cond t [] (b ∷ [])) [ true ↦ λ e. absurd (cc) | false ↦ λ e. refl ] other
longer b (c ∷ front) other = refl

-- the first cut of a text that does not begin with LF is not at its start
abbrev IsInside : Option (List ℕ × List ℕ) → Bool → Type 0
IsInside None feed = Unit {0}
IsInside (Some cut) feed = (length cut.0 == 0) ≡ feed

onto_inside : (b : ℕ) (cut : Option (List ℕ × List ℕ)) → IsInside (onto_front b cut) false
onto_inside b None = tt
onto_inside b (Some cut) = some_length b cut.0

feed_inside : (bytes : List ℕ) → IsInside (cut_at 10 bytes) (at_feed bytes)
feed_inside [] = tt
feed_inside (b ∷ bytes) =
    elim (b == 10) as (λ (t : Bool). IsInside (cond t (Some ([], bytes)) (onto_front b (cut_at 10 bytes))) t)
    [ true ↦ refl | false ↦ onto_inside b (cut_at 10 bytes) ]

onto_lines : (b : ℕ) (bytes : List ℕ) (feed : Bool) (cut : Option (List ℕ × List ℕ)) → IsInside cut feed → ((b == 13) && feed) ≡ false → onto_line b (lines_by bytes cut) ≡ lines_by (b ∷ bytes) (onto_front b cut)
unfolding lines_by
onto_lines b bytes feed None inside other = refl
onto_lines b bytes feed (Some cut) inside other = ap (λ (line : List ℕ). line ∷ lines_of cut.1) (longer b cut.0 (ap (λ (t : Bool). (b == 13) && t) inside ∙ other))

-- CR directly before LF
return_feed : (b c : ℕ) (bytes : List ℕ) → (b == 13) ≡ true → (c == 10) ≡ true → [] ∷ lines_of bytes ≡ lines_by (b ∷ c ∷ bytes) (onto_front b (cut_at 10 (c ∷ bytes)))
unfolding lines_by
return_feed b c bytes is feed = rw (feed, is) refl

lines_cut : (b : ℕ) (bytes : List ℕ) → lines_of (b ∷ bytes) ≡ lines_by (b ∷ bytes) (cut_at 10 (b ∷ bytes))
unfolding lines_by
lines_cut b [] =
    elim (b == 10) as (λ (t : Bool). cond t ([] ∷ []) (cond ((b == 13) && false) [] ((b ∷ []) ∷ [])) ≡ lines_by (b ∷ []) (cond t (Some ([], [])) None)) [
      | true ↦ refl
      | false ↦ elim (b == 13) as (λ (t : Bool). cond (t && false) [] ((b ∷ []) ∷ []) ≡ (b ∷ []) ∷ []) [ true ↦ refl | false ↦ refl ]
    ]
lines_cut b (c ∷ bytes) =
    elim (b == 10) as (λ (t : Bool). cond t ([] ∷ lines_of (c ∷ bytes)) (cond ((b == 13) && (c == 10)) (lines_of (c ∷ bytes)) (onto_line b (lines_of (c ∷ bytes)))) ≡ lines_by (b ∷ c ∷ bytes) (cond t (Some ([], c ∷ bytes)) (onto_front b (cut_at 10 (c ∷ bytes))))) [
      | true ↦ refl
      | false ↦ elim ((b == 13) && (c == 10)) as (λ (t : Bool). ((b == 13) && (c == 10)) ≡ t → cond t (lines_of (c ∷ bytes)) (onto_line b (lines_of (c ∷ bytes))) ≡ lines_by (b ∷ c ∷ bytes) (onto_front b (cut_at 10 (c ∷ bytes)))) [
        | true ↦ λ e. let is = both_true (b == 13) (c == 10) e in
            let feed : lines_of (c ∷ bytes) ≡ [] ∷ lines_of bytes = ap (λ (t : Bool). cond t ([] ∷ lines_of bytes) (cond ((c == 13) && at_feed bytes) (lines_of bytes) (onto_line c (lines_of bytes)))) is.1 in
            feed ∙ return_feed b c bytes is.0 is.1
        | false ↦ λ e. ap (onto_line b) (lines_cut c bytes) ∙ onto_lines b (c ∷ bytes) (c == 10) (cut_at 10 (c ∷ bytes)) (feed_inside (c ∷ bytes)) e
      ] refl
    ]

pub last_line : (bytes : List ℕ) → 0 < length bytes → None ≡ cut_at 10 bytes → bytes ∷ [] ≡ lines_of bytes
unfolding lines_by
last_line [] some e = absurd (omega arith)
last_line (b ∷ bytes) some e = ap (lines_by (b ∷ bytes)) e ∙ sym (lines_cut b bytes)

pub one_line : (bytes line behind : List ℕ) → 0 < length bytes → Some (line, behind) ≡ cut_at 10 bytes → without_return line ∷ lines_of behind ≡ lines_of bytes
unfolding lines_by
one_line [] line behind some e = absurd (omega arith)
one_line (b ∷ bytes) line behind some e = ap (lines_by (b ∷ bytes)) e ∙ sym (lines_cut b bytes)

onto_few : (b : ℕ) (lines : List (List ℕ)) → length (onto_line b lines) ≤ length lines + 1
onto_few b [] = omega arith
onto_few b (line ∷ lines) = omega arith

pub few_lines : (bytes : List ℕ) → length (lines_of bytes) ≤ length bytes
few_lines [] = omega arith
few_lines (b ∷ bytes) =
    let few : length (lines_of bytes) ≤ length bytes = few_lines bytes in
    let onto : length (onto_line b (lines_of bytes)) ≤ length (lines_of bytes) + 1 = onto_few b (lines_of bytes) in
    elim (b == 10) as (λ (t : Bool). length (cond t ([] ∷ lines_of bytes) (cond ((b == 13) && at_feed bytes) (lines_of bytes) (onto_line b (lines_of bytes)))) ≤ suc (length bytes)) [
      | true ↦ omega arith
      | false ↦ elim ((b == 13) && at_feed bytes) as (λ (t : Bool). length (cond t (lines_of bytes) (onto_line b (lines_of bytes))) ≤ suc (length bytes))
          [ true ↦ omega arith | false ↦ omega arith ]
    ]

-- ---- CR at a line's end

pub return_passed : (front line : List ℕ) → line ≡ front ++ 13 ∷ [] → without_return line ≡ front
return_passed [] line e = ap without_return e
return_passed (b ∷ []) line e = ap without_return e
return_passed (b ∷ c ∷ front) line e = ap without_return e ∙ ap (λ (x : List ℕ). b ∷ x) (return_passed (c ∷ front) ((c ∷ front) ++ 13 ∷ []) refl)

is_return : (b : ℕ) → (b == 13) ≡ true → b ≡ 13
is_return b h = grind (arith, nat_tests)

pub return_none : (line : List ℕ) → ((front : List ℕ) → line ≡ front ++ 13 ∷ [] → ⊥) → without_return line ≡ line
return_none [] none = refl
return_none (b ∷ []) none =
    elim (b == 13) as (λ (t : Bool). (b == 13) ≡ t → cond t [] (b ∷ []) ≡ b ∷ []) [
      | true ↦ λ e. absurd (none [] (ap (λ (x : ℕ). x ∷ []) (is_return b e)))
      | false ↦ λ e. refl
    ] refl
return_none (b ∷ c ∷ line) none = ap (λ (x : List ℕ). b ∷ x) (return_none (c ∷ line) (λ front e. none (b ∷ front) (ap (λ (x : List ℕ). b ∷ x) e)))
