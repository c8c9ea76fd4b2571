-- What is read as digits is spelt so, also in base sixteen, and a word is cut where it has its first separator.
use Rattle.std.proofs.Common.{◌≡◌, ◌≢◌, ℕ, suc, ◌+◌, ◌-◌, ◌*◌, ◌^◌, ◌≤◌, ◌==◌, ◌&&◌, ◌⊎◌, inl, inr, Bool, true, false, cond, nat_le, List, [], ◌∷◌, ◌++◌, length, Option, Some, None, refl, sym, ap, subst, ◌∙◌, eq-eqb, arith}
use Rattle.std.specs.List.{AllByRecursion}
use Rattle.std.proofs.Math.Nat.{pow-suc}
use Rattle.std.proofs.lemmas.Bool.Decides.{nat_tests}
use Rattle.std.proofs.lemmas.Option.{cond_some, same_Some}
use Rattle.text_grammar.specs.Words.{IsFree, IsDigit, worth, AreDigits, IsHexDigit, AreHex, IsCut}
use Rattle.text_grammar.specs.Readings.{digit_of, behind_digit, with_digits, unsigned_of, hex_digit_of, onto_bytes, hex_bytes_of, onto_front, cut_at}

pub both_true : (a b : Bool) → (a && b) ≡ true → (a ≡ true) × (b ≡ true)
both_true true b e = (refl, e)
both_true false b e = absurd (cc)

which : {X : Type 0} (test : Bool) (a b c : X) → cond test a b ≡ c → ((test ≡ true) × (a ≡ c)) ⊎ ((test ≡ false) × (b ≡ c))
which true a b c e = inl (refl, e)
which false a b c e = inr (refl, e)

within : (low b high : ℕ) → (nat_le low b && nat_le b high) ≡ true → (low ≤ b) × (b ≤ high)
within low b high e =
    let p = both_true (nat_le low b) (nat_le b high) e in
    let p0 : nat_le low b ≡ true = p.0 in
    let p1 : nat_le b high ≡ true = p.1 in
    (grind (arith, nat_tests), grind (arith, nat_tests))

is_within : (low b high : ℕ) → low ≤ b → b ≤ high → (nat_le low b && nat_le b high) ≡ true
is_within low b high l h = grind (arith, nat_tests)

digit_there : (b d : ℕ) → digit_of b ≡ Some d → IsDigit b × (b - 48 ≡ d)
digit_there b d e =
    let p : ((nat_le 48 b && nat_le b 57) ≡ true) × (b - 48 ≡ d) = cond_some (nat_le 48 b && nat_le b 57) (b - 48) d e in
    (within 48 b 57 p.0, p.1)

digit_back : (b : ℕ) → IsDigit b → digit_of b ≡ Some (b - 48)
digit_back b d = rw (is_within 48 b 57 d.0 d.1) refl

moved : (n d s q : ℕ) → (n * 10 + d) * q + s ≡ n * (q * 10) + (d * q + s)
moved n d s q = grind arith

one_digit : (n d s k : ℕ) → (n * 10 + d) * 10 ^ k + s ≡ n * 10 ^ suc k + (d * 10 ^ k + s)
one_digit n d s k = rw (pow-suc 10 k) (moved n d s (10 ^ k))

record Makes (n : ℕ) (word : List ℕ) (m : ℕ) : Type 0 where
  pub digits : AllByRecursion IsDigit word
  pub value : m ≡ n * 10 ^ length word + worth word

none_yet : (n : ℕ) → n ≡ n * 1 + 0
none_yet n = omega arith

some_digit : (more : ℕ → Option ℕ) (m : ℕ) (o : Option ℕ) → behind_digit more o ≡ Some m → (d : ℕ) × (o ≡ Some d) × (more d ≡ Some m)
some_digit more m None e = absurd (cc)
some_digit more m (Some d) e = (d, refl, e)

digits_there : (n : ℕ) (word : List ℕ) (m : ℕ) → with_digits n word ≡ Some m → Makes n word m
digits_there n [] m e = record { digits = tt; value = sym (same_Some n m e) ∙ none_yet n }
digits_there n (b ∷ word) m e =
    let a = some_digit (λ digit. with_digits (n * 10 + digit) word) m (digit_of b) e in
    let d : IsDigit b × (b - 48 ≡ a.0) = digit_there b a.0 a.1 in
    let f : Makes (n * 10 + a.0) word m = digits_there (n * 10 + a.0) word m a.2 in
    let g : Makes (n * 10 + (b - 48)) word m = subst (λ (x : ℕ). Makes (n * 10 + x) word m) (sym d.1) f in
    record { digits = (d.0, f.digits); value = g.value ∙ one_digit n (b - 48) (worth word) (length word) }

digits_back : (n : ℕ) (word : List ℕ) → AllByRecursion IsDigit word → with_digits n word ≡ Some (n * 10 ^ length word + worth word)
digits_back n [] d = ap Some (none_yet n)
digits_back n (b ∷ word) d =
    rw (digit_back b d.0) (digits_back (n * 10 + (b - 48)) word d.1 ∙ ap Some (one_digit n (b - 48) (worth word) (length word)))

no_front : (k w : ℕ) → 0 * k + w ≡ w
no_front k w = omega arith

pub number_told : (word : List ℕ) (n : ℕ) → unsigned_of word ≡ Some n → AreDigits word n
unfolding unsigned_of
number_told word n e =
    elim (which (nat_le 1 (length word) && nat_le (length word) 20) (with_digits 0 word) None (Some n) e) [
      | inl p ↦
          let size = within 1 (length word) 20 p.0 in
          let d : Makes 0 word n = digits_there 0 word n p.1 in
          record { some = size.0; few = size.1; digits = d.digits; value = d.value ∙ no_front (10 ^ length word) (worth word) }
      | inr p ↦ absurd (cc)
    ]

pub number_read : (word : List ℕ) (n : ℕ) → AreDigits word n → unsigned_of word ≡ Some n
unfolding unsigned_of
number_read word n is =
    let d : with_digits 0 word ≡ Some n = digits_back 0 word is.digits ∙ ap Some (no_front (10 ^ length word) (worth word) ∙ sym is.value) in
    rw (is_within 1 (length word) 20 is.some is.few, d) refl

-- ---- hexadecimal digits

hex_there : (b digit : ℕ) → hex_digit_of b ≡ Some digit → IsHexDigit b digit
hex_there b digit e =
    elim (which (nat_le 48 b && nat_le b 57) (Some (b - 48)) _ (Some digit) e) [
      | inl p ↦ inl (within 48 b 57 p.0, sym (same_Some (b - 48) digit p.1))
      | inr p ↦ elim (which (nat_le 97 b && nat_le b 102) (Some (b - 87)) _ (Some digit) p.1) [
        | inl q ↦ let low = within 97 b 102 q.0 in inr (inl (low.0, low.1, sym (same_Some (b - 87) digit q.1)))
        | inr q ↦ let last : ((nat_le 65 b && nat_le b 70) ≡ true) × (b - 55 ≡ digit) = cond_some (nat_le 65 b && nat_le b 70) (b - 55) digit q.1 in
            let high = within 65 b 70 last.0 in inr (inr (high.0, high.1, sym last.1))
      ]
    ]

hex_back : (b digit : ℕ) → IsHexDigit b digit → hex_digit_of b ≡ Some digit
hex_back b digit (inl (is, e)) = rw (is_within 48 b 57 is.0 is.1) (ap Some (sym e))
hex_back b digit (inr (inl (low, high, e))) =
    let other : (nat_le 48 b && nat_le b 57) ≡ false = grind (arith, nat_tests) in
    rw (other, is_within 97 b 102 low high) (ap Some (sym e))
hex_back b digit (inr (inr (low, high, e))) =
    let other : (nat_le 48 b && nat_le b 57) ≡ false = grind (arith, nat_tests) in
    let small : (nat_le 97 b && nat_le b 102) ≡ false = grind (arith, nat_tests) in
    rw (other, small, is_within 65 b 70 low high) (ap Some (sym e))

onto_there : (a b : ℕ) (word bytes : List ℕ) (one other : Option ℕ) (more : Option (List ℕ)) → ((digit : ℕ) → one ≡ Some digit → IsHexDigit a digit) → ((digit : ℕ) → other ≡ Some digit → IsHexDigit b digit) → ((rest : List ℕ) → more ≡ Some rest → AreHex word rest) → onto_bytes one other more ≡ Some bytes → AreHex (a ∷ b ∷ word) bytes
onto_there a b word bytes (Some high) (Some low) (Some rest) on_one on_other on_more e = (high, low, rest, on_one high refl, on_other low refl, on_more rest refl, sym (same_Some ((high * 16 + low) ∷ rest) bytes e))
onto_there a b word bytes None other more on_one on_other on_more e = absurd (cc)
onto_there a b word bytes (Some high) None more on_one on_other on_more e = absurd (cc)
onto_there a b word bytes (Some high) (Some low) None on_one on_other on_more e = absurd (cc)

pub hex_told : (word bytes : List ℕ) → hex_bytes_of word ≡ Some bytes → AreHex word bytes
hex_told [] bytes e = sym (same_Some [] bytes e)
hex_told (a ∷ []) bytes e = absurd (cc)
hex_told (a ∷ b ∷ word) bytes e = onto_there a b word bytes (hex_digit_of a) (hex_digit_of b) (hex_bytes_of word) (hex_there a) (hex_there b) (λ rest f. hex_told word rest f) e

pub hex_read : (word bytes : List ℕ) → AreHex word bytes → hex_bytes_of word ≡ Some bytes
hex_read [] bytes is = ap Some (sym is)
hex_read (a ∷ []) bytes is = absurd is
hex_read (a ∷ b ∷ word) bytes (high, low, rest, one, other, more, e) = rw (hex_back a high one, hex_back b low other, hex_read word rest more) (ap Some (sym e))

-- ---- cuts

not_equal : (a b : ℕ) → a ≢ b → (a == b) ≡ false
not_equal a b h = grind (arith, nat_tests)

differ : (a b : ℕ) → (a == b) ≡ false → a ≢ b
differ a b h = λ e. grind (arith, nat_tests)

same_test : (a b : ℕ) → (a == b) ≡ true → a ≡ b
same_test a b h = grind (arith, nat_tests)

front_there : (s b : ℕ) (word : List ℕ) (cut : List ℕ × List ℕ) → (b == s) ≡ false
    → (found : Option (List ℕ × List ℕ)) → ((c : List ℕ × List ℕ) → found ≡ Some c → IsCut s word c.0 c.1) → onto_front b found ≡ Some cut → IsCut s (b ∷ word) cut.0 cut.1
front_there s b word cut other None before e = absurd (cc)
front_there s b word cut other (Some c) before e =
    let a : IsCut s word c.0 c.1 = before c refl in
    let made : IsCut s (b ∷ word) (b ∷ c.0) c.1 = record { spelt = ap (λ (x : List ℕ). b ∷ x) a.spelt; free = (differ b s other, a.free) } in
    let same : (b ∷ c.0, c.1) ≡ cut = same_Some (b ∷ c.0, c.1) cut e in
    subst (λ (x : List ℕ × List ℕ). IsCut s (b ∷ word) x.0 x.1) same made

pub cut_told : (s : ℕ) (word : List ℕ) (cut : List ℕ × List ℕ) → cut_at s word ≡ Some cut → IsCut s word cut.0 cut.1
cut_told s [] cut e = absurd (cc)
cut_told s (b ∷ word) cut e =
    elim (b == s) as (λ (t : Bool). (b == s) ≡ t → cond t (Some ([], word)) (onto_front b (cut_at s word)) ≡ Some cut → IsCut s (b ∷ word) cut.0 cut.1) [
      | true ↦ λ is f.
          let same : ([], word) ≡ cut = same_Some ([], word) cut f in
          let made : IsCut s (s ∷ word) [] word = record { spelt = refl; free = tt } in
          let moved_to : IsCut s (b ∷ word) [] word = subst (λ (x : ℕ). IsCut s (x ∷ word) [] word) (sym (same_test b s is)) made in
          subst (λ (x : List ℕ × List ℕ). IsCut s (b ∷ word) x.0 x.1) same moved_to
      | false ↦ λ is f. front_there s b word cut is (cut_at s word) (λ c g. cut_told s word c g) f
    ] refl e

pub cut_back : (s : ℕ) (front back : List ℕ) → IsFree s front → cut_at s (front ++ s ∷ back) ≡ Some (front, back)
cut_back s [] back f = rw (eq-eqb s s refl) refl
cut_back s (b ∷ front) back f = rw (not_equal b s f.0, cut_back s front back f.1) refl

pub cut_read : (s : ℕ) (word front back : List ℕ) → IsCut s word front back → cut_at s word ≡ Some (front, back)
cut_read s word front back is = ap (cut_at s) is.spelt ∙ cut_back s front back is.free

pub cut_none : (s : ℕ) (word : List ℕ) → IsFree s word → cut_at s word ≡ None
cut_none s [] free = refl
cut_none s (b ∷ word) free = rw (not_equal b s free.0, cut_none s word free.1) refl
