-- Pieces of bytes that follow one another.
use Rattle.std.proofs.Common.{◌≡◌, ℕ, ◌+◌, ◌≤◌, List, ◌++◌, length, take, drop, Option, None, Some, refl, ap, sym, ◌∙◌, arith, append_assoc, length-append, length-take-le}
use Rattle.std.proofs.Math.Seq.{take-add}
use Rattle.std.proofs.lemmas.List.{take_at, take-append-drop, drop-drop}
use Rattle.fault_io.specs.Counts.{raised_by, SourceAccount}
use Rattle.fault_io.specs.Given.{before_left, TakesBytes}
use Rattle.fault_io.specs.Written.{content_after}

-- a piece that was copied to the front of a buffer, and what follows it, are what was left before
pub piece-given : (bytes copied behind : List ℕ) (at n : ℕ) → copied ≡ take n (drop at bytes) → n ≤ length (drop at bytes)
    → take n (copied ++ behind) ++ drop (at + n) bytes ≡ drop at bytes
piece-given bytes copied behind at n same within =
    let front : take n (copied ++ behind) ≡ take n (drop at bytes) =
    rw same (take_at (take n (drop at bytes)) behind n (length-take-le n (drop at bytes) within))
    in rw (front, ← drop-drop n at bytes) (take-append-drop n (drop at bytes))

-- two pieces in front of what is left, one after the other, are one piece
pub before_left-append : (xs ys : List ℕ) (left : Option (List ℕ)) → before_left xs (before_left ys left) ≡ before_left (xs ++ ys) left
before_left-append xs ys None = refl
before_left-append xs ys (Some zs) = ap Some (sym (append_assoc xs ys zs))

-- what is taken after other bytes is taken with them
pub TakesBytes-append : (a b c : SourceAccount) (xs ys : List ℕ) → a.left ≡ before_left xs b.left
    → b.given ≡ raised_by a.given (length xs) → b.calls ≤ raised_by a.calls (length xs)
    → b.left ≡ before_left ys c.left → c.given ≡ raised_by b.given (length ys) → c.calls ≡ raised_by b.calls 1
    → TakesBytes a c (xs ++ ys)
TakesBytes-append a b c xs ys left given calls more count called = record {
  content = left ∙ ap (before_left xs) more ∙ before_left-append xs ys c.left;
  given = omega (arith, length-append xs ys, given, count);
  calls = omega (arith, length-append xs ys, calls, called);
}

-- a piece that is put behind a content, and one behind that, are one piece
pub content_after-append : (content : Option (List ℕ)) (xs ys : List ℕ) → content_after (content_after content xs) ys ≡ content_after content (xs ++ ys)
content_after-append None xs ys = refl
content_after-append (Some content) xs ys = ap Some (append_assoc content xs ys)

-- after the first bytes were taken, and a piece of the rest, the first bytes with that piece were taken
pub content_after-take : (content0 content1 content2 : Option (List ℕ)) (bytes piece : List ℕ) (at n : ℕ) → content1 ≡ content_after content0 (take at bytes)
    → content2 ≡ content_after content1 (take n piece) → piece ≡ drop at bytes → content2 ≡ content_after content0 (take (at + n) bytes)
content_after-take content0 content1 content2 bytes piece at n first then same =
    let pieces : take at bytes ++ take n piece ≡ take (at + n) bytes = rw (same, take-add at n bytes)
    in then
    ∙ ap (λ content. content_after content (take n piece)) first
    ∙ content_after-append content0 (take at bytes) (take n piece)
    ∙ ap (content_after content0) pieces
