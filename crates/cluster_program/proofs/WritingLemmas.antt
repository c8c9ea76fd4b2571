-- Lines that are written one after the other.
use Rattle.std.proofs.Common.{◌≡◌, ℕ, ◌+◌, ◌<◌, ◌≤◌, List, [], ◌∷◌, ◌++◌, length, Option, take, drop, get_or, ap, sym, ◌∙◌, append-nil, length-append, arith, suc, add-one, Result, Ok, Err}
use Rattle.std.proofs.Math.Seq.{drop-cons, take-append-add}
use Rattle.std.proofs.lemmas.List.{take-append-drop, take-append-le, take_more}
use Rattle.std.proofs.lemmas.List.Folds.{concat-append}
use Rattle.std.specs.List.{concat}
use Rattle.std.specs.Result.{OnErr}
use Rattle.fault_io.specs.Counts.{SinkAccount}
use Rattle.fault_io.specs.Written.{content_after, AddsPart}
use Rattle.fault_io.proofs.Pieces.{content_after-append}

-- the lines are those before this one, this one, and those after it
pub around : (lines : List (List ℕ)) (i : ℕ) (line : List ℕ) → i < length lines → line ≡ get_or lines i line
    → lines ≡ take i lines ++ line ∷ drop (i + 1) lines
around lines i line within is =
    let left : drop i lines ≡ line ∷ drop (suc i) lines = drop-cons lines i line within ∙ ap (λ l. l ∷ drop (suc i) lines) (sym is) in
    rw (add-one) (sym (take-append-drop i lines) ∙ ap (λ ls. take i lines ++ ls) left)

-- the lines up to this one
pub take-around : (lines : List (List ℕ)) (i : ℕ) (line : List ℕ) → i < length lines → line ≡ get_or lines i line
    → take (i + 1) lines ≡ take i lines ++ line ∷ []
take-around lines i line within is = take_more lines i line within ∙ ap (λ l. take i lines ++ l ∷ []) (sym is)

-- after the lines before this one, and this one, those up to it were written
pub content_after-line : (content0 content1 content2 : Option (List ℕ)) (lines : List (List ℕ)) (i : ℕ) (line : List ℕ) → i < length lines → line ≡ get_or lines i line
    → content1 ≡ content_after content0 (concat (take i lines)) → content2 ≡ content_after content1 line → content2 ≡ content_after content0 (concat (take (i + 1) lines))
content_after-line content0 content1 content2 lines i line within is first then =
    let pieces : concat (take i lines) ++ line ≡ concat (take (i + 1) lines) =
    rw (take-around lines i line within is, concat-append (take i lines) (line ∷ [])) (ap (λ l. concat (take i lines) ++ l) (sym (append-nil line)))
    in then
    ∙ ap (λ content. content_after content line) first
    ∙ content_after-append content0 (concat (take i lines)) line
    ∙ ap (content_after content0) pieces

-- a part of this line after the lines before it is a part of all lines
pub part-of-lines : (a b c : SinkAccount) (lines : List (List ℕ)) (i : ℕ) (line : List ℕ) → i < length lines → line ≡ get_or lines i line
    → b.content ≡ content_after a.content (concat (take i lines)) → AddsPart b c line → AddsPart a c (concat lines)
part-of-lines a b c lines i line within is first part =
    let before = concat (take i lines) in
    let behind = concat (drop (i + 1) lines) in
    let n = part.0 in
    let all : concat lines ≡ before ++ (line ++ behind) = ap concat (around lines i line within is) ∙ concat-append (take i lines) (line ∷ drop (i + 1) lines) in
    let fits : n ≤ length line = omega (arith, part.1) in
    let taken : take (length before + n) (concat lines) ≡ before ++ take n line =
    ap (take (length before + n)) all ∙ take-append-add before (line ++ behind) n ∙ ap (λ l. before ++ l) (take-append-le n line behind fits)
    in (
      length before + n,
      rw all (omega (arith, part.1, length-append before (line ++ behind), length-append line behind)),
      part.2 ∙ ap (λ content. content_after content (take n line)) first ∙ content_after-append a.content before (take n line) ∙ ap (content_after a.content) (sym taken),
    )

pub on-err : {T E : Type 0} (result : Result T E) {P : Type 0} → P → OnErr result P
on-err (Ok value) holds = tt
on-err (Err error) holds = holds
