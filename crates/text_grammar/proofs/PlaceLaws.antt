-- A word is read at a place exactly as the place says.
use Rattle.std.proofs.Common.{◌≡◌, ℕ, ◌==◌, inl, inr, Bool, true, false, cond, List, Option, Some, None, Result, Ok, Err, refl, sym, ap, subst, ◌∙◌}
use Rattle.text_grammar.specs.declared.faults.TextRule.{TextRule}
use Rattle.text_grammar.specs.declared.faults.Fault.{Fault}
use Rattle.text_grammar.specs.declared.faults.Fault.TheVariants.{Refused}
use Rattle.text_grammar.specs.Words.{AreDigits, AreHex, IsCut}
use Rattle.text_grammar.specs.Shapes.{Place, Digits, Hex, Known, Judged, Cut, ByFirst, Behind, begins_with, tail, Either, Is, At}
use Rattle.text_grammar.specs.Readings.{◌>>=◌, or_rule, unsigned_of, hex_bytes_of, cut_at, read}
use Rattle.text_grammar.proofs.Numerals.{number_told, number_read, hex_told, hex_read, cut_told, cut_read}

-- what a reading tells: the place's word, or its fault
abbrev pub Told : {A : Type 0} → Place A → List ℕ → Result A Fault → Type 0
Told place word (Ok a) = Is place word a
Told place word (Err r) = At place word r

digits_told : (rule : TextRule) (word : List ℕ) (found : Option ℕ) → unsigned_of word ≡ found → Told (Digits rule) word (or_rule rule found)
digits_told rule word (Some n) e = number_told word n e
digits_told rule word None e = (refl, λ n is. cc (number_read word n is))

bytes_told : (rule : TextRule) (word : List ℕ) (found : Option (List ℕ)) → hex_bytes_of word ≡ found → Told (Hex rule) word (or_rule rule found)
bytes_told rule word (Some bytes) e = hex_told word bytes e
bytes_told rule word None e = (refl, λ bytes is. cc (hex_read word bytes is))

judged_told : {A B : Type 0} (place : Place A) (judge : A → Result B Fault) (word : List ℕ) (found : Result A Fault) → Told place word found → Told (Judged place judge) word (found >>= judge)
judged_told {A} {B} place judge word (Ok a) is =
    elim (judge a) as (λ (j : Result B Fault). judge a ≡ j → Told (Judged place judge) word j) [
      | Ok b ↦ λ e. (a, is, e)
      | Err r ↦ λ e. inr (a, is, e)
    ] refl
judged_told place judge word (Err r) is = inl is

last_told : {A B : Type 0} (s : ℕ) (rule : TextRule) (first : Place A) (last : A → Place B) (word front back : List ℕ) (a : A) → IsCut s word front back → Is first front a → (found : Result B Fault) → Told (last a) back found → Told (Cut s rule first last) word found
last_told s rule first last word front back a cut is (Ok b) told = (front, back, a, cut, is, told)
last_told s rule first last word front back a cut is (Err r) told = inr (front, back, cut, inr (a, is, told))

parts_told : {A B : Type 0} (s : ℕ) (rule : TextRule) (first : Place A) (last : A → Place B) (word front back : List ℕ) → IsCut s word front back → ((a : A) → Told (last a) back (read (last a) back)) → (found : Result A Fault) → Told first front found → Told (Cut s rule first last) word (found >>= λ a. read (last a) back)
parts_told s rule first last word front back cut more (Ok a) is = last_told s rule first last word front back a cut is (read (last a) back) (more a)
parts_told s rule first last word front back cut more (Err r) is = inr (front, back, cut, inl is)

cut_or : {A B : Type 0} (s : ℕ) (rule : TextRule) (first : Place A) (last : A → Place B) (word : List ℕ) → ((w : List ℕ) → Told first w (read first w)) → ((a : A) (w : List ℕ) → Told (last a) w (read (last a) w)) → (found : Option (List ℕ × List ℕ)) → cut_at s word ≡ found → Told (Cut s rule first last) word (or_rule rule found >>= λ cut. read first cut.0 >>= λ a. read (last a) cut.1)
cut_or s rule first last word on_first on_last (Some cut) e = parts_told s rule first last word cut.0 cut.1 (cut_told s word cut e) (λ a. on_last a cut.1) (read first cut.0) (on_first cut.0)
cut_or s rule first last word on_first on_last None e = inl (refl, λ front back is. cc (cut_read s word front back is))

first_told : {A : Type 0} (test : ℕ → Bool) (one other : Place A) (word : List ℕ) → (t : Bool) → begins_with test word ≡ t → (found : Result A Fault) → Either t (Told one word found) (Told other word found) → Told (ByFirst test one other) word found
first_told test one other word true e (Ok a) told = subst (λ (t : Bool). Either t (Is one word a) (Is other word a)) (sym e) told
first_told test one other word false e (Ok a) told = subst (λ (t : Bool). Either t (Is one word a) (Is other word a)) (sym e) told
first_told test one other word true e (Err r) told = subst (λ (t : Bool). Either t (At one word r) (At other word r)) (sym e) told
first_told test one other word false e (Err r) told = subst (λ (t : Bool). Either t (At one word r) (At other word r)) (sym e) told

behind_told : {A : Type 0} (byte : ℕ) (one other : Place A) (word : List ℕ) → (t : Bool) → begins_with (λ b. b == byte) word ≡ t → (found : Result A Fault) → Either t (Told one (tail word) found) (Told other word found) → Told (Behind byte one other) word found
behind_told byte one other word true e (Ok a) told = subst (λ (t : Bool). Either t (Is one (tail word) a) (Is other word a)) (sym e) told
behind_told byte one other word false e (Ok a) told = subst (λ (t : Bool). Either t (Is one (tail word) a) (Is other word a)) (sym e) told
behind_told byte one other word true e (Err r) told = subst (λ (t : Bool). Either t (At one (tail word) r) (At other word r)) (sym e) told
behind_told byte one other word false e (Err r) told = subst (λ (t : Bool). Either t (At one (tail word) r) (At other word r)) (sym e) told

-- what is read is so
pub told : {A : Type 0} (place : Place A) (word : List ℕ) → Told place word (read place word)
told (Digits rule) word = digits_told rule word (unsigned_of word) refl
told (Hex rule) word = bytes_told rule word (hex_bytes_of word) refl
told {A} (Known table) word =
    elim (table word) as (λ (f : Result A Fault). table word ≡ f → Told (Known table) word f) [
      | Ok a ↦ λ e. e
      | Err r ↦ λ e. e
    ] refl
told (Judged place judge) word = judged_told place judge word (read place word) (told place word)
told (Cut s rule first last) word = cut_or s rule first last word (λ w. told first w) (λ a w. told (last a) w) (cut_at s word) refl
told {A} (ByFirst test one other) word =
    elim (begins_with test word) as (λ (t : Bool). begins_with test word ≡ t → Told (ByFirst test one other) word (cond t (read one word) (read other word))) [
      | true ↦ λ e. first_told test one other word true e (read one word) (told one word)
      | false ↦ λ e. first_told test one other word false e (read other word) (told other word)
    ] refl
told {A} (Behind byte one other) word =
    elim (begins_with (λ b. b == byte) word) as (λ (t : Bool). begins_with (λ b. b == byte) word ≡ t → Told (Behind byte one other) word (cond t (read one (tail word)) (read other word))) [
      | true ↦ λ e. behind_told byte one other word true e (read one (tail word)) (told one (tail word))
      | false ↦ λ e. behind_told byte one other word false e (read other word) (told other word)
    ] refl

-- what is so is read
either_read : {A : Type 0} (x : Result A Fault) (one other : Result A Fault) (P Q : Type 0) (t : Bool) → (P → one ≡ x) → (Q → other ≡ x) → Either t P Q → cond t one other ≡ x
either_read x one other P Q true p q is = p is
either_read x one other P Q false p q is = q is

pub reads : {A : Type 0} (place : Place A) (word : List ℕ) (a : A) → Is place word a → read place word ≡ Ok a
reads (Digits rule) word n is = ap (or_rule rule) (number_read word n is)
reads (Hex rule) word bytes is = ap (or_rule rule) (hex_read word bytes is)
reads (Known table) word a is = is
reads (Judged place judge) word b is = ap (λ r. r >>= judge) (reads place word is.0 is.1) ∙ is.2
reads (Cut s rule first last) word b is =
    ap (λ o. or_rule rule o >>= λ cut. read first cut.0 >>= λ a. read (last a) cut.1) (cut_read s word is.0 is.1 is.3)
    ∙ ap (λ r. r >>= λ a. read (last a) is.1) (reads first is.0 is.2 is.4)
    ∙ reads (last is.2) is.1 b is.5
reads (ByFirst test one other) word a is = either_read (Ok a) (read one word) (read other word) (Is one word a) (Is other word a) (begins_with test word) (λ h. reads one word a h) (λ h. reads other word a h) is
reads (Behind byte one other) word a is = either_read (Ok a) (read one (tail word)) (read other word) (Is one (tail word) a) (Is other word a) (begins_with (λ b. b == byte) word) (λ h. reads one (tail word) a h) (λ h. reads other word a h) is

not_digits : (rule : TextRule) (word : List ℕ) → ((n : ℕ) → AreDigits word n → ⊥) → (found : Option ℕ) → unsigned_of word ≡ found → or_rule rule found ≡ Err (Refused rule)
not_digits rule word none (Some n) e = absurd (none n (number_told word n e))
not_digits rule word none None e = refl

not_hex : (rule : TextRule) (word : List ℕ) → ((bytes : List ℕ) → AreHex word bytes → ⊥) → (found : Option (List ℕ)) → hex_bytes_of word ≡ found → or_rule rule found ≡ Err (Refused rule)
not_hex rule word none (Some bytes) e = absurd (none bytes (hex_told word bytes e))
not_hex rule word none None e = refl

no_cut : (s : ℕ) (rule : TextRule) (word : List ℕ) → ((front back : List ℕ) → IsCut s word front back → ⊥) → (found : Option (List ℕ × List ℕ)) → cut_at s word ≡ found → or_rule rule found ≡ Err (Refused rule)
no_cut s rule word none (Some cut) e = absurd (none cut.0 cut.1 (cut_told s word cut e))
no_cut s rule word none None e = refl

pub faults : {A : Type 0} (place : Place A) (word : List ℕ) (r : Fault) → At place word r → read place word ≡ Err r
faults (Digits rule) word r at = not_digits rule word at.1 (unsigned_of word) refl ∙ ap Err (sym at.0)
faults (Hex rule) word r at = not_hex rule word at.1 (hex_bytes_of word) refl ∙ ap Err (sym at.0)
faults (Known table) word r at = at
faults (Judged place judge) word r (inl at) = ap (λ x. x >>= judge) (faults place word r at)
faults (Judged place judge) word r (inr at) = ap (λ x. x >>= judge) (reads place word at.0 at.1) ∙ at.2
faults (Cut s rule first last) word r (inl at) =
    ap (λ x. x >>= λ cut. read first cut.0 >>= λ a. read (last a) cut.1) (no_cut s rule word at.1 (cut_at s word) refl) ∙ ap Err (sym at.0)
faults (Cut s rule first last) word r (inr (front, back, cut, inl at)) =
    ap (λ o. or_rule rule o >>= λ c. read first c.0 >>= λ a. read (last a) c.1) (cut_read s word front back cut)
    ∙ ap (λ x. x >>= λ a. read (last a) back) (faults first front r at)
faults (Cut s rule first last) word r (inr (front, back, cut, inr at)) =
    ap (λ o. or_rule rule o >>= λ c. read first c.0 >>= λ a. read (last a) c.1) (cut_read s word front back cut)
    ∙ ap (λ x. x >>= λ a. read (last a) back) (reads first front at.0 at.1)
    ∙ faults (last at.0) back r at.2
faults {A} (ByFirst test one other) word r at = either_read (Err r) (read one word) (read other word) (At one word r) (At other word r) (begins_with test word) (λ h. faults one word r h) (λ h. faults other word r h) at
faults {A} (Behind byte one other) word r at = either_read (Err r) (read one (tail word)) (read other word) (At one (tail word) r) (At other word r) (begins_with (λ b. b == byte) word) (λ h. faults one (tail word) r h) (λ h. faults other word r h) at
