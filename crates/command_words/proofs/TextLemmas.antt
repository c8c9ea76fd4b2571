-- Words that are plain text.
use Rattle.std.proofs.Common.{◌≡◌, ◌∙◌, Bool, List, None, Option, Some, ap, codes, false, option_map, refl, sym, true, ℕ}
use Rattle.std.proofs.lemmas.Slice.Eq.{bytes_eq-Decides}
use Rattle.std.proofs.lemmas.Str.{IsUtf8-from_is_utf8, is_utf8-from_IsUtf8}
use Rattle.std.specs.Str.{IsUtf8, bytes_eq, is_utf8}
use Rattle.command_words.specs.Program.{plain_text}

-- text other than `--` is plain
pub text_is_plain : (text word : List ℕ) → text ≡ word → IsUtf8 word → (text ≡ codes "--" → ⊥) → Some text ≡ plain_text word
text_is_plain text word same utf8 unmarked = go (bytes_eq word (codes "--")) refl
  where
    go : (t : Bool) → bytes_eq word (codes "--") ≡ t → Some text ≡ plain_text word
    go true e = absurd (unmarked (same ∙ (bytes_eq-Decides word (codes "--")).0 e))
    go false e = rw (is_utf8-from_IsUtf8 word utf8, e) (ap Some same)

-- bytes that are no text are not
pub other_is_none : (word : List ℕ) → (IsUtf8 word → ⊥) → None ≡ plain_text word
other_is_none word no_text = go (is_utf8 word) refl
  where
    go : (t : Bool) → is_utf8 word ≡ t → None ≡ plain_text word
    go true e = absurd (no_text (IsUtf8-from_is_utf8 word e))
    go false e = rw e refl

-- what shows as an answer is none where the answer is
pub none_shown : {X Y : Type 0} (f : X → Y) (o : Option X) (v : Option Y) → option_map f o ≡ v → o ≡ None → v ≡ None
none_shown f o v shown none = sym shown ∙ ap (option_map f) none
