-- A text has the lines that it is cut into, and no others; and so has each line its words.
use Rattle.std.proofs.Common.{◌≡◌, ◌≢◌, ℕ, ◌<◌, ◌==◌, ◌&&◌, inl, inr, Bool, true, false, cond, List, [], ◌∷◌, ◌++◌, length, map, refl, sym, ap, subst, ◌∙◌, arith}
use Rattle.std.proofs.lemmas.Bool.Decides.{nat_tests}
use Rattle.text_grammar.specs.Words.{IsFree, HaveWords, IsWithReturn, BeginsWithLine, IsLastLine, AreLines, HasLines}
use Rattle.text_grammar.specs.Cuts.{words_of, lines_of, onto_line, at_feed, without_return, words_in}
use Rattle.text_grammar.proofs.Numerals.{both_true, cut_back, cut_none}
use Rattle.text_grammar.proofs.CutLemmas.{last_line, one_line, return_passed, return_none}
use Rattle.text_grammar.proofs.WordLaws.{words_again, are_words}

-- ---- the lines are found again

line_again : (before line : List ℕ) → IsWithReturn before line → without_return before ≡ line
line_again before line (inl e) = return_passed line before e
line_again before line (inr (e, none)) = return_none before none ∙ e

some_bytes : (before behind : List ℕ) → 0 < length (before ++ 10 ∷ behind)
some_bytes [] behind = omega arith
some_bytes (b ∷ before) behind = omega arith

pub lines_again : (bytes : List ℕ) (lines : List (List ℕ)) → AreLines bytes lines → lines_of bytes ≡ lines
lines_again bytes [] are = ap lines_of are
lines_again bytes (line ∷ lines) (inl (behind, first, more)) =
    ap lines_of first.spelt
    ∙ sym (one_line (first.before ++ 10 ∷ behind) first.before behind (some_bytes first.before behind) (sym (cut_back 10 first.before behind first.free)))
    ∙ ap (λ (x : List ℕ). x ∷ lines_of behind) (line_again first.before line first.passed)
    ∙ ap (λ (x : List (List ℕ)). line ∷ x) (lines_again behind lines more)
lines_again bytes (line ∷ lines) (inr (last, none)) =
    ap lines_of last.spelt ∙ sym (last_line line last.some (sym (cut_none 10 line last.free))) ∙ ap (λ (x : List (List ℕ)). line ∷ x) (sym none)

-- ---- what a text is cut into are its lines

no_return : (front : List ℕ) → [] ≡ front ++ 13 ∷ [] → ⊥
no_return [] e = absurd (cc)
no_return (b ∷ front) e = absurd (cc)

differs : (b s : ℕ) → (b == s) ≡ false → b ≢ s
differs b s h = λ e. grind (arith, nat_tests)

is_feed : (b s : ℕ) → (b == s) ≡ true → b ≡ s
is_feed b s h = grind (arith, nat_tests)

at_once : (behind : List ℕ) → BeginsWithLine (10 ∷ behind) [] behind
at_once behind = record { before = []; spelt = refl; free = tt; passed = inr (refl, no_return) }

behind_return : (behind : List ℕ) → BeginsWithLine (13 ∷ 10 ∷ behind) [] behind
behind_return behind = record { before = 13 ∷ []; spelt = refl; free = ((λ e. grind (arith, nat_tests)), tt); passed = inl refl }

same_head : (a b : ℕ) (x y : List ℕ) → a ∷ x ≡ b ∷ y → (a ≡ b) × (x ≡ y)
same_head a b x y e = (cc, cc)

-- a byte before what LF ends makes no CR directly before LF
still_none : (b : ℕ) (before : List ℕ) → ((b == 13) && (length before == 0)) ≡ false → ((front : List ℕ) → before ≡ front ++ 13 ∷ [] → ⊥) → (front : List ℕ) → b ∷ before ≡ front ++ 13 ∷ [] → ⊥
still_none b before other none [] e =
    let p = same_head b 13 before [] e in
    let test : ((b == 13) && (length before == 0)) ≡ true = rw (p.0, p.1) refl in
    absurd (cc)
still_none b before other none (x ∷ front) e = none front (same_head b x before (front ++ 13 ∷ []) e).1

one_longer : (b : ℕ) (before line : List ℕ) → ((b == 13) && (length before == 0)) ≡ false → IsWithReturn before line → IsWithReturn (b ∷ before) (b ∷ line)
one_longer b before line other (inl e) = inl (ap (λ (x : List ℕ). b ∷ x) e)
one_longer b before line other (inr (e, none)) = inr (ap (λ (x : List ℕ). b ∷ x) e, still_none b before other none)

-- LF comes first exactly where nothing stands before it
feed_first : (before behind : List ℕ) → IsFree 10 before → at_feed (before ++ 10 ∷ behind) ≡ (length before == 0)
feed_first [] behind free = refl
feed_first (b ∷ before) behind free =
    let other : (b == 10) ≡ false = let h : b ≢ 10 = free.0 in grind (arith, nat_tests) in
    let some : (length (b ∷ before) == 0) ≡ false = grind (arith, nat_tests) in
    other ∙ sym some

onto_lines : (b : ℕ) (bytes : List ℕ) (lines : List (List ℕ)) → (b == 10) ≡ false → ((b == 13) && at_feed bytes) ≡ false → AreLines bytes lines → AreLines (b ∷ bytes) (onto_line b lines)
onto_lines b bytes [] other apart are = inr (record { spelt = ap (λ (x : List ℕ). b ∷ x) are; free = (differs b 10 other, tt); some = omega arith }, refl)
onto_lines b bytes (line ∷ lines) other apart (inl (behind, first, more)) =
    let feed : at_feed bytes ≡ (length first.before == 0) = ap at_feed first.spelt ∙ feed_first first.before behind first.free in
    let inside : ((b == 13) && (length first.before == 0)) ≡ false = ap (λ (t : Bool). (b == 13) && t) (sym feed) ∙ apart in
    let made : BeginsWithLine (b ∷ bytes) (b ∷ line) behind = record { before = b ∷ first.before; spelt = ap (λ (x : List ℕ). b ∷ x) first.spelt; free = (differs b 10 other, first.free); passed = one_longer b first.before line inside first.passed } in
    inl (behind, made, more)
onto_lines b bytes (line ∷ lines) other apart (inr (last, none)) =
    inr (record { spelt = ap (λ (x : List ℕ). b ∷ x) last.spelt; free = (differs b 10 other, last.free); some = omega arith }, none)

-- what follows LF
after_feed : (bytes behind before : List ℕ) → 10 ∷ bytes ≡ before ++ 10 ∷ behind → IsFree 10 before → behind ≡ bytes
after_feed bytes behind [] spelt free = sym (same_head 10 10 bytes behind spelt).1
after_feed bytes behind (b ∷ before) spelt free = absurd (free.0 (sym (same_head 10 b bytes (before ++ 10 ∷ behind) spelt).0))

no_last : (bytes : List ℕ) → IsLastLine (10 ∷ bytes) [] → ⊥
no_last bytes last = absurd (let e : 10 ∷ bytes ≡ [] = last.spelt in cc)

behind_feed : (bytes : List ℕ) (lines : List (List ℕ)) → AreLines (10 ∷ bytes) ([] ∷ lines) → AreLines bytes lines
behind_feed bytes lines (inl (behind, first, more)) = subst (λ (x : List ℕ). AreLines x lines) (after_feed bytes behind first.before first.spelt first.free) more
behind_feed bytes lines (inr (last, none)) = absurd (no_last bytes last)

-- CR directly before LF is passed over
return_lines : (b : ℕ) (bytes : List ℕ) → (b == 13) ≡ true → at_feed bytes ≡ true → AreLines bytes (lines_of bytes) → AreLines (b ∷ bytes) (lines_of bytes)
return_lines b [] is feed are = absurd (cc)
return_lines b (c ∷ bytes) is feed are =
    let found : AreLines (10 ∷ bytes) (lines_of (10 ∷ bytes)) = subst (λ (x : ℕ). AreLines (x ∷ bytes) (lines_of (x ∷ bytes))) (is_feed c 10 feed) are in
    let made : AreLines (13 ∷ 10 ∷ bytes) (lines_of (10 ∷ bytes)) = inl (bytes, behind_return bytes, behind_feed bytes (lines_of bytes) found) in
    subst (λ (x : ℕ). AreLines (b ∷ x ∷ bytes) (lines_of (x ∷ bytes))) (sym (is_feed c 10 feed))
    (subst (λ (x : ℕ). AreLines (x ∷ 10 ∷ bytes) (lines_of (10 ∷ bytes))) (sym (is_feed b 13 is)) made)

pub are_lines : (bytes : List ℕ) → AreLines bytes (lines_of bytes)
are_lines [] = refl
are_lines (b ∷ bytes) =
    elim (b == 10) as (λ (t : Bool). (b == 10) ≡ t → AreLines (b ∷ bytes) (cond t ([] ∷ lines_of bytes) (cond ((b == 13) && at_feed bytes) (lines_of bytes) (onto_line b (lines_of bytes))))) [
      | true ↦ λ e. inl (bytes, subst (λ (x : ℕ). BeginsWithLine (x ∷ bytes) [] bytes) (sym (is_feed b 10 e)) (at_once bytes), are_lines bytes)
      | false ↦ λ e. elim ((b == 13) && at_feed bytes) as (λ (t : Bool). ((b == 13) && at_feed bytes) ≡ t → AreLines (b ∷ bytes) (cond t (lines_of bytes) (onto_line b (lines_of bytes)))) [
        | true ↦ λ f. let is = both_true (b == 13) (at_feed bytes) f in return_lines b bytes is.0 is.1 (are_lines bytes)
        | false ↦ λ f. onto_lines b bytes (lines_of bytes) e f (are_lines bytes)
      ] refl
    ] refl

-- ---- the lines and their words

all_words : (lines : List (List ℕ)) → HaveWords lines (map words_of lines)
all_words [] = tt
all_words (line ∷ lines) = (are_words line, all_words lines)

all_again : (lines : List (List ℕ)) (words : List (List (List ℕ))) → HaveWords lines words → map words_of lines ≡ words
all_again [] [] have = refl
all_again [] (x ∷ words) have = absurd have
all_again (line ∷ lines) [] have = absurd have
all_again (line ∷ lines) (x ∷ words) have = ap (λ (w : List (List ℕ)). w ∷ map words_of lines) (words_again line x have.0) ∙ ap (λ (w : List (List (List ℕ))). x ∷ w) (all_again lines words have.1)

pub has_lines : (bytes : List ℕ) → HasLines bytes (words_in bytes)
has_lines bytes = record { spelt = lines_of bytes; are_lines = are_lines bytes; have_words = all_words (lines_of bytes) }

pub lines_found : (bytes : List ℕ) (lines : List (List (List ℕ))) → HasLines bytes lines → words_in bytes ≡ lines
lines_found bytes lines has = ap (map words_of) (lines_again bytes has.spelt has.are_lines) ∙ all_again has.spelt lines has.have_words
