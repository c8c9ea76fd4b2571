-- A text is read exactly as its lines say, and the fault that is named is the first one.
use Rattle.std.proofs.Common.{◌≡◌, ℕ, ◌+◌, inl, inr, Bool, true, false, cond, List, [], ◌∷◌, ◌++◌, length, Result, Ok, Err, refl, sym, ap, subst, ◌∙◌, arith}
use Rattle.text_grammar.specs.declared.faults.Fault.{Fault}
use Rattle.text_grammar.specs.Rules.{bad_word}
use Rattle.text_grammar.specs.Shapes.{Either, Spells, Fails}
use Rattle.text_grammar.specs.Lines.{Line, Language, is_comment, are_ascii, Makes, Breaks, Leads, IsText, IsFault}
use Rattle.text_grammar.specs.Readings.{◌>>=◌, reading}
use Rattle.text_grammar.specs.Folds.{LineFault, is_passed_over, told_or, at_line, and_then, line_reading, lines_reading, text_reading}
use Rattle.text_grammar.proofs.ShapeLaws.{ToldLine, line_told, line_reads, line_faults}

abbrev pub Said : {S X Y : Type 0} → Language S X Y → ℕ → S → Line → Result S Fault → Type 0
Said language number before line (Ok next) = Makes language number before line next
Said language number before line (Err r) = Breaks language before line r

comment_said : {S X Y : Type 0} (l : Language S X Y) (number : ℕ) (before : S) (word : List ℕ) (words : Line) → is_comment word ≡ true → (t : Bool) → are_ascii (word ∷ words) ≡ t → Said l number before (word ∷ words) (cond t (Ok before) (Err bad_word))
comment_said {S} {X} l number before word words is true e = subst (λ (t : Bool). Either t ((are_ascii (word ∷ words) ≡ true) × (before ≡ before)) ((x : X) × Spells (l.shape before) (word ∷ words) x × (before ≡ l.after number before x))) (sym is) (e, refl)
comment_said l number before word words is false e = subst (λ (t : Bool). Either t ((are_ascii (word ∷ words) ≡ false) × (bad_word ≡ bad_word)) (Fails (l.shape before) (word ∷ words) bad_word)) (sym is) (e, refl)

shape_said : {S X Y : Type 0} (l : Language S X Y) (number : ℕ) (before : S) (word : List ℕ) (words : Line) → is_comment word ≡ false → (found : Result X Fault) → ToldLine (l.shape before) (word ∷ words) found → Said l number before (word ∷ words) (found >>= λ x. Ok (l.after number before x))
shape_said {S} {X} l number before word words is (Ok a) line = subst (λ (t : Bool). Either t ((are_ascii (word ∷ words) ≡ true) × (l.after number before a ≡ before)) ((x : X) × Spells (l.shape before) (word ∷ words) x × (l.after number before a ≡ l.after number before x))) (sym is) (a, line, refl)
shape_said l number before word words is (Err r) line = subst (λ (t : Bool). Either t ((are_ascii (word ∷ words) ≡ false) × (r ≡ bad_word)) (Fails (l.shape before) (word ∷ words) r)) (sym is) line

pub said : {S X Y : Type 0} (l : Language S X Y) (number : ℕ) (before : S) (line : Line) → Said l number before line (line_reading l number before line)
said l number before [] = refl
said {S} l number before (word ∷ words) =
    elim (is_comment word) as (λ (t : Bool). is_comment word ≡ t → Said l number before (word ∷ words) (cond t (cond (are_ascii (word ∷ words)) (Ok before) (Err bad_word)) (reading (l.shape before) (word ∷ words) >>= λ x. Ok (l.after number before x)))) [
      | true ↦ λ e. comment_said l number before word words e (are_ascii (word ∷ words)) refl
      | false ↦ λ e. shape_said l number before word words e (reading (l.shape before) (word ∷ words)) (line_told (l.shape before) (word ∷ words))
    ] refl

either_read : {A : Type 0} (x one other : Result A Fault) (P Q : Type 0) (t : Bool) → (P → one ≡ x) → (Q → other ≡ x) → Either t P Q → cond t one other ≡ x
either_read x one other P Q true p q is = p is
either_read x one other P Q false p q is = q is

pub makes_read : {S X Y : Type 0} (l : Language S X Y) (number : ℕ) (before : S) (line : Line) (next : S) → Makes l number before line next → line_reading l number before line ≡ Ok next
makes_read l number before [] next is = ap Ok (sym is)
makes_read {S} {X} l number before (word ∷ words) next is =
    either_read (Ok next) _ _ ((are_ascii (word ∷ words) ≡ true) × (next ≡ before)) ((x : X) × Spells (l.shape before) (word ∷ words) x × (next ≡ l.after number before x)) (is_comment word)
    (λ p. let e : are_ascii (word ∷ words) ≡ true = p.0 in rw e (ap Ok (sym p.1)))
    (λ p. ap (λ r. r >>= λ x. Ok (l.after number before x)) (line_reads (l.shape before) (word ∷ words) p.0 p.1) ∙ ap Ok (sym p.2)) is

pub breaks_read : {S X Y : Type 0} (l : Language S X Y) (number : ℕ) (before : S) (line : Line) (r : Fault) → Breaks l before line r → line_reading l number before line ≡ Err r
breaks_read l number before [] r at = absurd at
breaks_read {S} {X} l number before (word ∷ words) r at =
    either_read (Err r) _ _ ((are_ascii (word ∷ words) ≡ false) × (r ≡ bad_word)) (Fails (l.shape before) (word ∷ words) r) (is_comment word)
    (λ p. let e : are_ascii (word ∷ words) ≡ false = p.0 in rw e (ap Err (sym p.1)))
    (λ p. ap (λ x. x >>= λ y. Ok (l.after number before y)) (line_faults (l.shape before) (word ∷ words) r p)) at

-- a line that is not passed over makes what it tells
pub passed_or_told : {S X Y : Type 0} (l : Language S X Y) (number : ℕ) (before : S) (line : Line) → line_reading l number before line ≡ (is_passed_over line >>= told_or l number before line)
passed_or_told l number before [] = refl
passed_or_told {S} l number before (word ∷ words) =
    elim (is_comment word) as (λ (t : Bool). cond t (cond (are_ascii (word ∷ words)) (Ok before) (Err bad_word)) (reading (l.shape before) (word ∷ words) >>= λ x. Ok (l.after number before x)) ≡ (cond t (cond (are_ascii (word ∷ words)) (Ok true) (Err bad_word)) (Ok false) >>= told_or l number before (word ∷ words))) [
      | true ↦ elim (are_ascii (word ∷ words)) as (λ (t : Bool). cond t (Ok before) (Err bad_word) ≡ (cond t (Ok true) (Err bad_word) >>= told_or l number before (word ∷ words))) [ true ↦ refl | false ↦ refl ]
      | false ↦ refl
    ]

-- ---- many lines

-- the line of this number is the first at fault among lines of which the first has a number
record FaultFrom {S X Y : Type 0} (l : Language S X Y) (from : ℕ) (first : S) (lines : List Line) (number : ℕ) (fault : Fault) : Type 0 where
  pub earlier : List Line
  pub line : Line
  pub later : List Line
  pub spelt : lines ≡ earlier ++ line ∷ later
  pub count : number ≡ from + length earlier
  pub before : S
  pub leads : Leads l from first earlier before
  pub breaks : Breaks l before line fault

abbrev SaidAll : {S X Y : Type 0} → Language S X Y → ℕ → S → List Line → Result S LineFault → Type 0
SaidAll l from first lines (Ok last) = Leads l from first lines last
SaidAll l from first lines (Err fault) = FaultFrom l from first lines fault.line fault.fault

one_more : {S X Y : Type 0} (l : Language S X Y) (from : ℕ) (first : S) (line : Line) (lines : List Line) (next : S) → Makes l from first line next → (found : Result S LineFault) → SaidAll l (from + 1) next lines found → SaidAll l from first (line ∷ lines) found
one_more l from first line lines next makes (Ok last) more = (next, makes, more)
one_more l from first line lines next makes (Err fault) more = record {
  earlier = line ∷ more.earlier;
  line = more.line;
  later = more.later;
  spelt = ap (λ (x : List Line). line ∷ x) more.spelt;
  count = let e : fault.line ≡ from + 1 + length more.earlier = more.count in omega arith;
  before = more.before;
  leads = (next, makes, more.leads);
  breaks = more.breaks;
}

step_said : {S X Y : Type 0} (l : Language S X Y) (from : ℕ) (first : S) (line : Line) (lines : List Line) → ((next : S) → SaidAll l (from + 1) next lines (lines_reading l (from + 1) next lines)) → (found : Result S Fault) → Said l from first line found → SaidAll l from first (line ∷ lines) (and_then (at_line from found) (λ next. lines_reading l (from + 1) next lines))
step_said l from first line lines more (Ok next) is = one_more l from first line lines next is (lines_reading l (from + 1) next lines) (more next)
step_said l from first line lines more (Err r) is = record {
  earlier = [];
  line = line;
  later = lines;
  spelt = refl;
  count = omega arith;
  before = first;
  leads = refl;
  breaks = is;
}

all_said : {S X Y : Type 0} (l : Language S X Y) (from : ℕ) (first : S) (lines : List Line) → SaidAll l from first lines (lines_reading l from first lines)
all_said l from first [] = refl
all_said l from first (line ∷ lines) = step_said l from first line lines (λ next. all_said l (from + 1) next lines) (line_reading l from first line) (said l from first line)

leads_read : {S X Y : Type 0} (l : Language S X Y) (from : ℕ) (first : S) (lines : List Line) (last : S) → Leads l from first lines last → lines_reading l from first lines ≡ Ok last
leads_read l from first [] last leads = ap Ok (sym leads)
leads_read l from first (line ∷ lines) last leads =
    ap (λ r. and_then (at_line from r) (λ next. lines_reading l (from + 1) next lines)) (makes_read l from first line leads.0 leads.1) ∙ leads_read l (from + 1) leads.0 lines last leads.2

fault_read : {S X Y : Type 0} (l : Language S X Y) (from : ℕ) (first : S) (earlier : List Line) (line : Line) (later : List Line) (before : S) (r : Fault) (number : ℕ) → number ≡ from + length earlier → Leads l from first earlier before → Breaks l before line r → lines_reading l from first (earlier ++ line ∷ later) ≡ Err (record { line = number; fault = r })
fault_read l from first [] line later before r number count leads breaks =
    let here : Breaks l first line r = subst (λ s. Breaks l s line r) leads breaks in
    let same : from ≡ number = omega arith in
    ap (λ x. and_then (at_line from x) (λ next. lines_reading l (from + 1) next later)) (breaks_read l from first line r here) ∙ ap (λ (n : ℕ). Err (record { line = n; fault = r })) same
fault_read l from first (x ∷ earlier) line later before r number count leads breaks =
    ap (λ y. and_then (at_line from y) (λ next. lines_reading l (from + 1) next (earlier ++ line ∷ later))) (makes_read l from first x leads.0 leads.1)
    ∙ fault_read l (from + 1) leads.0 earlier line later before r number (omega arith) leads.2 breaks

-- ---- the text

abbrev pub Tells : {S X Y : Type 0} → Language S X Y → S → List Line → Result Y LineFault → Type 0
Tells l first lines (Ok y) = IsText l first lines y
Tells l first lines (Err fault) = IsFault l first lines fault.line fault.fault

ended : {S X Y : Type 0} (l : Language S X Y) (first : S) (lines : List Line) (last : S) → Leads l 1 first lines last → (found : Result Y Fault) → l.finish last ≡ found → Tells l first lines (at_line (length lines + 1) found)
ended l first lines last leads (Ok y) e = record { last = last; leads = leads; says = e }
ended l first lines last leads (Err r) e = inr (record { last = last; leads = leads; count = refl; breaks = e })

closed : {S X Y : Type 0} (l : Language S X Y) (first : S) (lines : List Line) → (found : Result S LineFault) → SaidAll l 1 first lines found → Tells l first lines (and_then found (λ last. at_line (length lines + 1) (l.finish last)))
closed l first lines (Ok last) leads = ended l first lines last leads (l.finish last) refl
closed l first lines (Err fault) f = inl (record {
  earlier = f.earlier;
  line = f.line;
  later = f.later;
  spelt = f.spelt;
  count = let e : fault.line ≡ 1 + length f.earlier = f.count in omega arith;
  before = f.before;
  leads = f.leads;
  breaks = f.breaks;
})

-- what is read is said, and the fault that is named is the first
pub text_told : {S X Y : Type 0} (l : Language S X Y) (first : S) (lines : List Line) → Tells l first lines (text_reading l first lines)
text_told l first lines = closed l first lines (lines_reading l 1 first lines) (all_said l 1 first lines)

-- what is said is read
pub text_reads : {S X Y : Type 0} (l : Language S X Y) (first : S) (lines : List Line) (y : Y) → IsText l first lines y → text_reading l first lines ≡ Ok y
text_reads l first lines y is =
    ap (λ r. and_then r (λ last. at_line (length lines + 1) (l.finish last))) (leads_read l 1 first lines is.last is.leads) ∙ ap (at_line (length lines + 1)) is.says

-- the first fault is named
pub text_faults : {S X Y : Type 0} (l : Language S X Y) (first : S) (lines : List Line) (number : ℕ) (r : Fault) → IsFault l first lines number r → text_reading l first lines ≡ Err (record { line = number; fault = r })
text_faults l first lines number r (inl f) =
    let count : number ≡ length f.earlier + 1 = f.count in
    ap (text_reading l first) f.spelt
    ∙ ap (λ x. and_then x (λ last. at_line (length (f.earlier ++ f.line ∷ f.later) + 1) (l.finish last))) (fault_read l 1 first f.earlier f.line f.later f.before r number (omega arith) f.leads f.breaks)
text_faults l first lines number r (inr f) =
    ap (λ x. and_then x (λ last. at_line (length lines + 1) (l.finish last))) (leads_read l 1 first lines f.last f.leads)
    ∙ ap (at_line (length lines + 1)) f.breaks ∙ ap (λ (n : ℕ). Err (record { line = n; fault = r })) (sym f.count)
