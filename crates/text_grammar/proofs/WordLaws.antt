-- A line has the words that it is cut into, and no others.
use Rattle.std.proofs.Common.{◌≡◌, ◌≢◌, ℕ, ◌≤◌, ◌==◌, Bool, true, false, cond, List, [], ◌∷◌, ◌++◌, length, refl, sym, ap, subst, ◌∙◌, arith}
use Rattle.std.proofs.lemmas.Bool.Decides.{nat_tests}
use Rattle.text_grammar.specs.Words.{IsFree, IsSpaces, EndsWord, StartsWith, AreWords}
use Rattle.text_grammar.specs.Cuts.{at_space, onto_word, words_of}

is_space : (b : ℕ) → b ≡ 32 → (b == 32) ≡ true
is_space b h = grind (arith, nat_tests)

no_space : (b : ℕ) → b ≢ 32 → (b == 32) ≡ false
no_space b h = grind (arith, nat_tests)

space_is : (b : ℕ) → (b == 32) ≡ true → b ≡ 32
space_is b h = grind (arith, nat_tests)

differs : (b : ℕ) → (b == 32) ≡ false → b ≢ 32
differs b h = λ e. grind (arith, nat_tests)

-- ---- the words are found again

all_spaces : (line : List ℕ) → IsSpaces line → words_of line ≡ []
all_spaces [] are = refl
all_spaces (b ∷ line) are = rw (is_space b are.0) (all_spaces line are.1)

skipped : (spaces line : List ℕ) → IsSpaces spaces → words_of (spaces ++ line) ≡ words_of line
skipped [] line are = refl
skipped (b ∷ spaces) line are = rw (is_space b are.0) (skipped spaces line are.1)

ends_at : (behind : List ℕ) → EndsWord behind → at_space behind ≡ true
ends_at [] ends = refl
ends_at (b ∷ behind) ends = is_space b ends

first_again : (word behind : List ℕ) → 1 ≤ length word → IsFree 32 word → EndsWord behind → words_of (word ++ behind) ≡ word ∷ words_of behind
first_again [] behind some free ends = absurd (omega arith)
first_again (b ∷ []) behind some free ends = rw (no_space b free.0, ends_at behind ends) refl
first_again (b ∷ c ∷ word) behind some free ends =
    let more : words_of ((c ∷ word) ++ behind) ≡ (c ∷ word) ∷ words_of behind = first_again (c ∷ word) behind (omega arith) free.1 ends in
    rw (no_space b free.0) (ap (λ t. onto_word b t (words_of ((c ∷ word) ++ behind))) (no_space c free.1.0) ∙ ap (onto_word b false) more)

pub words_again : (line : List ℕ) (words : List (List ℕ)) → AreWords line words → words_of line ≡ words
words_again line [] are = all_spaces line are
words_again line (word ∷ words) are =
    let s : StartsWith line word are.0 = are.1 in
    ap words_of s.spelt ∙ skipped s.spaces (word ++ are.0) s.are_spaces ∙ first_again word are.0 s.some s.free s.ends ∙ ap (λ ws. word ∷ ws) (words_again are.0 words are.2)

-- ---- what a line is cut into are its words

one_space : (bytes : List ℕ) (words : List (List ℕ)) → AreWords bytes words → AreWords (32 ∷ bytes) words
one_space bytes [] are = (refl, are)
one_space bytes (word ∷ words) are =
    let s : StartsWith bytes word are.0 = are.1 in
    let made : StartsWith (32 ∷ bytes) word are.0 = record { spaces = 32 ∷ s.spaces; spelt = ap (λ (x : List ℕ). 32 ∷ x) s.spelt; are_spaces = (refl, s.are_spaces); some = s.some; free = s.free; ends = s.ends } in
    (are.0, made, are.2)

ended_here : (bytes : List ℕ) → at_space bytes ≡ true → EndsWord bytes
ended_here [] e = tt
ended_here (b ∷ bytes) e = space_is b e

longer : (b : ℕ) (bytes word behind : List ℕ) → (b == 32) ≡ false → at_space bytes ≡ false → 1 ≤ length word → IsFree 32 word → EndsWord behind → (spaces : List ℕ) → bytes ≡ spaces ++ (word ++ behind) → IsSpaces spaces → StartsWith (b ∷ bytes) (b ∷ word) behind
longer b bytes word behind other inside some free ends [] spelt are = record { spaces = []; spelt = ap (λ (x : List ℕ). b ∷ x) spelt; are_spaces = tt; some = omega arith; free = (differs b other, free); ends = ends }
longer b bytes word behind other inside some free ends (s ∷ spaces) spelt are =
    let e : at_space bytes ≡ true = ap at_space spelt ∙ is_space s are.0 in absurd (cc)

none_inside : (bytes : List ℕ) → at_space bytes ≡ false → IsSpaces bytes → ⊥
none_inside [] e are = cc
none_inside (b ∷ bytes) e are = let f : (b == 32) ≡ true = is_space b are.0 in cc

one_byte : (b : ℕ) (bytes : List ℕ) → (b == 32) ≡ false → (t : Bool) → at_space bytes ≡ t → (words : List (List ℕ)) → AreWords bytes words → AreWords (b ∷ bytes) (onto_word b t words)
one_byte b bytes other true e words are =
    let made : StartsWith (b ∷ bytes) (b ∷ []) bytes = record { spaces = []; spelt = refl; are_spaces = tt; some = omega arith; free = (differs b other, tt); ends = ended_here bytes e } in
    (bytes, made, are)
one_byte b bytes other false e [] are = absurd (none_inside bytes e are)
one_byte b bytes other false e (word ∷ words) are =
    let s : StartsWith bytes word are.0 = are.1 in
    (are.0, longer b bytes word are.0 other e s.some s.free s.ends s.spaces s.spelt s.are_spaces, are.2)

pub are_words : (line : List ℕ) → AreWords line (words_of line)
are_words [] = tt
are_words (b ∷ bytes) =
    elim (b == 32) as (λ (t : Bool). (b == 32) ≡ t → AreWords (b ∷ bytes) (cond t (words_of bytes) (onto_word b (at_space bytes) (words_of bytes)))) [
      | true ↦ λ e. subst (λ (x : ℕ). AreWords (x ∷ bytes) (words_of bytes)) (sym (space_is b e)) (one_space bytes (words_of bytes) (are_words bytes))
      | false ↦ λ e. one_byte b bytes e (at_space bytes) refl (words_of bytes) (are_words bytes)
    ] refl
