-- The runs of a table, one after another, are its cells in order, and a token's cell lies in the run of its tablet.
use Rattle.std.proofs.Common.{◌≡◌, ◌≢◌, ℕ, zero, suc, ◌+◌, ◌*◌, ◌/◌, ◌^◌, ◌<◌, ◌≤◌, ◌==◌, nat_lt, Bool, true, false, cond, not, Some, None, List, [], ◌∷◌, ◌++◌, length, get_or, set, filter, refl, ap, sym, subst, ◌∙◌, arith, append_assoc, inl, inr}
use Rattle.std.proofs.Math.ListN.{length-set}
use Rattle.std.specs.Ordering.{is_lt}
use Rattle.std.proofs.lemmas.Bool.{cases_lt}
use Rattle.std.proofs.lemmas.Bool.Decides.{nat_tests}
use Rattle.std.proofs.lemmas.Nat.{le-div}
use Rattle.std.proofs.Math.Nat.{div-mul-le_self}
use Rattle.base_ids.specs.declared.ids.TableId.{TableId}
use Rattle.cell_merge.specs.Cell.{cell_order}
use Rattle.token_ring.specs.Ring.{offset, width, tablet_at}
use Rattle.token_ring.proofs.Offsets.{width_pos}
use Rattle.token_ring.specs.declared.token.Token.{Token}
use Rattle.token_ring.specs.declared.ring.TokenRange.{TokenRange}
use Rattle.replica_store.specs.declared.store.Stored.{Stored}
use Rattle.replica_store.specs.Cells.{Cells, IsOrdered, IsAfter, rank, rank_of, is_same, is_inside, cell_at, outside}
use Rattle.replica_store.specs.Columns.{put_at}
use Rattle.replica_store.proofs.RankLemmas.{is_same-rank}
use Rattle.replica_store.proofs.PutLemmas.{IsOrdered-put_at}
use Rattle.replica_store.proofs.RangeLemmas.{IsOrdered-filter}
use Rattle.run_store.specs.Runs.{Filled, of_table, run_cells, IsOfTablet, IsRun, AreRuns, IsGrouped, least_spare}

-- a lower offset has no higher tablet
pub tablet_mono : (log2 a b : ℕ) → a ≤ b → a / width log2 ≤ b / width log2
tablet_mono log2 a b below = le-div (a / width log2) b (width log2) (width_pos log2) (let at_most : a / width log2 * width log2 ≤ a = div-mul-le_self a (width log2) in omega arith)

-- of one table, the lower tablet comes first
pub lower_first : (t : TableId) (log2 : ℕ) (a b : Token) → tablet_at log2 a.value < tablet_at log2 b.value → rank t a < rank t b
lower_first t log2 a b lower =
    elim (cases_lt (offset a.value) (offset b.value)) [
      | inl below ↦ omega arith
      | inr above ↦ absurd (let back = tablet_mono log2 (offset b.value) (offset a.value) (omega arith) in omega arith)
    ]

IsAfter-append : (first : ℕ) (xs ys : Cells) → IsAfter first xs → IsAfter first ys → IsAfter first (xs ++ ys)
IsAfter-append first [] ys left right = right
IsAfter-append first (x ∷ xs) ys left right = (left.0, IsAfter-append first xs ys left.1 right)

-- a token of a lower tablet stands before a run
before_run : (t : TableId) (log2 tablet : ℕ) (a : Token) (stored : List Stored) → tablet_at log2 a.value < tablet → IsOfTablet log2 tablet (of_table t stored) → IsAfter (rank t a) (of_table t stored)
before_run t log2 tablet a [] lower own = tt
before_run t log2 tablet a (s ∷ rest) lower own = (lower_first t log2 a s.token (let same = own.0 in omega arith), before_run t log2 tablet a rest lower own.1)

-- and before all later ones
before_runs : (t : TableId) (log2 first : ℕ) (a : Token) (runs : List Filled) → tablet_at log2 a.value < first → AreRuns t log2 first runs → IsAfter (rank t a) (run_cells t runs)
before_runs t log2 first a [] lower are = tt
before_runs t log2 first a (run ∷ runs) lower are =
    IsAfter-append (rank t a) (of_table t run.stored) (run_cells t runs) (before_run t log2 first a run.stored lower are.0.own) (before_runs t log2 (first + 1) a runs (omega arith) are.1)

pub IsOrdered-append : (t : TableId) (log2 first : ℕ) (stored : List Stored) (runs : List Filled) → IsOrdered (of_table t stored) → IsOfTablet log2 first (of_table t stored) → AreRuns t log2 (first + 1) runs → IsOrdered (run_cells t runs) → IsOrdered (of_table t stored ++ run_cells t runs)
IsOrdered-append t log2 first [] runs ordered own are later = later
IsOrdered-append t log2 first (s ∷ rest) runs ordered own are later =
    (IsAfter-append (rank t s.token) (of_table t rest) (run_cells t runs) ordered.0 (before_runs t log2 (first + 1) s.token runs (let same = own.0 in omega arith) are), IsOrdered-append t log2 first rest runs ordered.1 own.1 are later)

pub IsOrdered-run_cells : (t : TableId) (log2 first : ℕ) (runs : List Filled) → AreRuns t log2 first runs → IsOrdered (run_cells t runs)
IsOrdered-run_cells t log2 first [] are = tt
IsOrdered-run_cells t log2 first (run ∷ runs) are = IsOrdered-append t log2 first run.stored runs are.0.ordered are.0.own are.1 (IsOrdered-run_cells t log2 (first + 1) runs are.1)

-- the run at an index
pub run_at : (t : TableId) (log2 first : ℕ) (runs : List Filled) (i : ℕ) (d : Filled) → AreRuns t log2 first runs → i < length runs → IsRun log2 (first + i) (of_table t (get_or runs i d).stored)
run_at t log2 first [] i d are within = absurd (omega arith)
run_at t log2 first (run ∷ runs) zero d are within = let e : first + 0 ≡ first = omega arith in rw e are.0
run_at t log2 first (run ∷ runs) (suc i) d are within = let e : first + suc i ≡ first + 1 + i = omega arith in rw e (run_at t log2 (first + 1) runs i d are.1 (omega arith))

pub AreRuns-set : (t : TableId) (log2 first : ℕ) (runs : List Filled) (i : ℕ) (run : Filled) → AreRuns t log2 first runs → IsRun log2 (first + i) (of_table t run.stored) → AreRuns t log2 first (set runs i run)
AreRuns-set t log2 first [] i run are here = tt
AreRuns-set t log2 first (r ∷ runs) zero run are here = let e : first + 0 ≡ first = omega arith in ((rw e at here), are.1)
AreRuns-set t log2 first (r ∷ runs) (suc i) run are here = let e : first + suc i ≡ first + 1 + i = omega arith in (are.0, AreRuns-set t log2 (first + 1) runs i run are.1 (rw e at here))

-- tokens of one offset have one tablet
same_tablet : (t : TableId) (log2 : ℕ) (a b : Token) → is_same t a t b ≡ true → tablet_at log2 a.value ≡ tablet_at log2 b.value
same_tablet t log2 a b same =
    let tests : (rank t a == rank t b) ≡ true = sym (is_same-rank t a t b) ∙ same in
    let places : offset a.value ≡ offset b.value = grind (arith, nat_tests) in
    ap (λ p. p / width log2) places

-- what has another tablet is not in a run
cell_at-other_run : (t : TableId) (log2 tablet : ℕ) (k : Token) (stored : List Stored) (ys : Cells) → IsOfTablet log2 tablet (of_table t stored) → tablet_at log2 k.value ≢ tablet → cell_at (of_table t stored ++ ys) t k ≡ cell_at ys t k
cell_at-other_run t log2 tablet k [] ys own other = refl
cell_at-other_run t log2 tablet k (s ∷ rest) ys own other =
    elim (is_same t s.token t k) as (λ b. is_same t s.token t k ≡ b → cond b (Some s.cell) (cell_at (of_table t rest ++ ys) t k) ≡ cell_at ys t k) [
      | true ↦ λ same. absurd (other (sym (same_tablet t log2 s.token k same) ∙ own.0))
      | false ↦ λ _. cell_at-other_run t log2 tablet k rest ys own.1 other
    ] refl

cell_at-later_runs : (t : TableId) (log2 first : ℕ) (k : Token) (runs : List Filled) → AreRuns t log2 first runs → tablet_at log2 k.value < first → cell_at (run_cells t runs) t k ≡ None
cell_at-later_runs t log2 first k [] are lower = refl
cell_at-later_runs t log2 first k (run ∷ runs) are lower =
    let other : tablet_at log2 k.value ≢ first = omega arith in
    cell_at-other_run t log2 first k run.stored (run_cells t runs) are.0.own other ∙ cell_at-later_runs t log2 (first + 1) k runs are.1 (omega arith)

pub cell_at-append_none : (xs ys : Cells) (t : TableId) (k : Token) → cell_at ys t k ≡ None → cell_at (xs ++ ys) t k ≡ cell_at xs t k
cell_at-append_none [] ys t k none = none
cell_at-append_none (x ∷ xs) ys t k none = ap (cond (is_same x.0 x.1.token t k) (Some x.1.cell)) (cell_at-append_none xs ys t k none)

-- a token's cell lies in the run of its tablet
pub cell_at-run_cells : (t : TableId) (log2 first : ℕ) (k : Token) (runs : List Filled) (i : ℕ) (d : Filled) → AreRuns t log2 first runs → i < length runs → tablet_at log2 k.value ≡ first + i → cell_at (run_cells t runs) t k ≡ cell_at (of_table t (get_or runs i d).stored) t k
cell_at-run_cells t log2 first k [] i d are within tablet = absurd (omega arith)
cell_at-run_cells t log2 first k (run ∷ runs) zero d are within tablet =
    cell_at-append_none (of_table t run.stored) (run_cells t runs) t k (cell_at-later_runs t log2 (first + 1) k runs are.1 (omega arith))
cell_at-run_cells t log2 first k (run ∷ runs) (suc i) d are within tablet =
    let other : tablet_at log2 k.value ≢ first = omega arith in
    cell_at-other_run t log2 first k run.stored (run_cells t runs) are.0.own other ∙ cell_at-run_cells t log2 (first + 1) k runs i d are.1 (omega arith) (omega arith)

-- a cell that is put before some
put_at-front : (xs ys : Cells) (p : TableId × Stored) → IsAfter (rank_of p) ys → put_at (xs ++ ys) p ≡ put_at xs p ++ ys
put_at-front [] [] p after = refl
put_at-front [] (y ∷ ys) p after =
    let before : nat_lt (rank_of y) (rank_of p) ≡ false = grind (arith, nat_tests, after.0) in
    let other : (rank_of y == rank_of p) ≡ false = grind (arith, nat_tests, after.0) in
    rw (before, other)
put_at-front (x ∷ xs) ys p after =
    elim (nat_lt (rank_of x) (rank_of p)) as (λ b. cond b (x ∷ put_at (xs ++ ys) p) (cond (rank_of x == rank_of p) (cond (is_lt (cell_order x.1.cell p.1.cell)) ((x.0, record x.1 { cell = p.1.cell }) ∷ (xs ++ ys)) (x ∷ (xs ++ ys))) (p ∷ x ∷ (xs ++ ys)))
    ≡ cond b (x ∷ put_at xs p) (cond (rank_of x == rank_of p) (cond (is_lt (cell_order x.1.cell p.1.cell)) ((x.0, record x.1 { cell = p.1.cell }) ∷ xs) (x ∷ xs)) (p ∷ x ∷ xs)) ++ ys) [
      | true ↦ ap (λ es. x ∷ es) (put_at-front xs ys p after)
      | false ↦ elim (rank_of x == rank_of p) as (λ b. cond b (cond (is_lt (cell_order x.1.cell p.1.cell)) ((x.0, record x.1 { cell = p.1.cell }) ∷ (xs ++ ys)) (x ∷ (xs ++ ys))) (p ∷ x ∷ (xs ++ ys)) ≡ cond b (cond (is_lt (cell_order x.1.cell p.1.cell)) ((x.0, record x.1 { cell = p.1.cell }) ∷ xs) (x ∷ xs)) (p ∷ x ∷ xs) ++ ys) [
        | true ↦ elim (is_lt (cell_order x.1.cell p.1.cell)) as (λ b. cond b ((x.0, record x.1 { cell = p.1.cell }) ∷ (xs ++ ys)) (x ∷ (xs ++ ys)) ≡ cond b ((x.0, record x.1 { cell = p.1.cell }) ∷ xs) (x ∷ xs) ++ ys) [ true ↦ refl | false ↦ refl ]
        | false ↦ refl
      ]
    ]

-- and one that is put behind a run of a lower tablet
put_at-behind : (t : TableId) (log2 tablet : ℕ) (stored : List Stored) (ys : Cells) (s : Stored) → IsOfTablet log2 tablet (of_table t stored) → tablet < tablet_at log2 s.token.value → put_at (of_table t stored ++ ys) (t, s) ≡ of_table t stored ++ put_at ys (t, s)
put_at-behind t log2 tablet [] ys s own lower = refl
put_at-behind t log2 tablet (x ∷ rest) ys s own lower =
    let first : rank t x.token < rank t s.token = lower_first t log2 x.token s.token (let same = own.0 in omega arith) in
    let before : nat_lt (rank t x.token) (rank t s.token) ≡ true = grind (arith, nat_tests) in
    rw before (ap (λ es. (t, x) ∷ es) (put_at-behind t log2 tablet rest ys s own.1 lower))

-- to put a cell into the run of its tablet is to put it into the table's cells
pub put_at-run_cells : (t : TableId) (log2 first : ℕ) (runs : List Filled) (i : ℕ) (s : Stored) (old new : Filled) → AreRuns t log2 first runs → i < length runs → old ≡ get_or runs i old → tablet_at log2 s.token.value ≡ first + i → of_table t new.stored ≡ put_at (of_table t old.stored) (t, s) → run_cells t (set runs i new) ≡ put_at (run_cells t runs) (t, s)
put_at-run_cells t log2 first [] i s old new are within is tablet changed = absurd (omega arith)
put_at-run_cells t log2 first (run ∷ runs) zero s old new are within is tablet changed =
    rw changed (ap (λ (r : Filled). put_at (of_table t r.stored) (t, s) ++ run_cells t runs) is)
    ∙ sym (put_at-front (of_table t run.stored) (run_cells t runs) (t, s) (before_runs t log2 (first + 1) s.token runs (omega arith) are.1))
put_at-run_cells t log2 first (run ∷ runs) (suc i) s old new are within is tablet changed =
    ap (λ es. of_table t run.stored ++ es) (put_at-run_cells t log2 (first + 1) runs i s old new are.1 (omega arith) is (omega arith) changed)
    ∙ sym (put_at-behind t log2 first run.stored (run_cells t runs) s are.0.own (omega arith))

IsOfTablet-put_at : (log2 tablet : ℕ) (xs : Cells) (p : TableId × Stored) → IsOfTablet log2 tablet xs → tablet_at log2 p.1.token.value ≡ tablet → IsOfTablet log2 tablet (put_at xs p)
IsOfTablet-put_at log2 tablet [] p own here = (here, tt)
IsOfTablet-put_at log2 tablet (x ∷ xs) p own here =
    elim (nat_lt (rank_of x) (rank_of p)) as (λ b. IsOfTablet log2 tablet (cond b (x ∷ put_at xs p) (cond (rank_of x == rank_of p) (cond (is_lt (cell_order x.1.cell p.1.cell)) ((x.0, record x.1 { cell = p.1.cell }) ∷ xs) (x ∷ xs)) (p ∷ x ∷ xs)))) [
      | true ↦ (own.0, IsOfTablet-put_at log2 tablet xs p own.1 here)
      | false ↦ elim (rank_of x == rank_of p) as (λ b. IsOfTablet log2 tablet (cond b (cond (is_lt (cell_order x.1.cell p.1.cell)) ((x.0, record x.1 { cell = p.1.cell }) ∷ xs) (x ∷ xs)) (p ∷ x ∷ xs))) [
        | true ↦ elim (is_lt (cell_order x.1.cell p.1.cell)) as (λ b. IsOfTablet log2 tablet (cond b ((x.0, record x.1 { cell = p.1.cell }) ∷ xs) (x ∷ xs))) [ true ↦ own | false ↦ own ]
        | false ↦ (here, own)
      ]
    ]

pub IsRun-put_at : (log2 tablet : ℕ) (xs : Cells) (p : TableId × Stored) → IsRun log2 tablet xs → tablet_at log2 p.1.token.value ≡ tablet → IsRun log2 tablet (put_at xs p)
IsRun-put_at log2 tablet xs p is here = record { ordered = IsOrdered-put_at xs p is.ordered; own = IsOfTablet-put_at log2 tablet xs p is.own here }

IsOfTablet-filter : (log2 tablet : ℕ) (p : TableId × Stored → Bool) (xs : Cells) → IsOfTablet log2 tablet xs → IsOfTablet log2 tablet (filter p xs)
IsOfTablet-filter log2 tablet p [] own = tt
IsOfTablet-filter log2 tablet p (x ∷ xs) own =
    elim (p x) as (λ b. IsOfTablet log2 tablet (cond b (x ∷ filter p xs) (filter p xs))) [
      | true ↦ (own.0, IsOfTablet-filter log2 tablet p xs own.1)
      | false ↦ IsOfTablet-filter log2 tablet p xs own.1
    ]

pub IsRun-outside : (log2 tablet : ℕ) (xs : Cells) (t : TableId) (range : TokenRange) → IsRun log2 tablet xs → IsRun log2 tablet (outside xs t range)
IsRun-outside log2 tablet xs t range is = record {
  ordered = IsOrdered-filter (λ e. not (is_inside t range e)) xs is.ordered;
  own = IsOfTablet-filter log2 tablet (λ e. not (is_inside t range e)) xs is.own;
}

-- what room is left where one run has changed
pub least_spare-set : (runs : List Filled) (i gone : ℕ) (old new : Filled) → old ≡ get_or runs i old → old.spare ≤ new.spare + gone → least_spare runs ≤ least_spare (set runs i new) + gone
least_spare-set [] i gone old new is room = omega arith
least_spare-set (run ∷ runs) zero gone old new is room = let same : old.spare ≡ run.spare = ap (λ (r : Filled). r.spare) is in omega arith
least_spare-set (run ∷ runs) (suc i) gone old new is room = let rest = least_spare-set runs i gone old new is room in omega arith

pub least_spare-le : (runs : List Filled) (i : ℕ) (run : Filled) → i < length runs → run ≡ get_or runs i run → least_spare runs ≤ run.spare
least_spare-le [] i run within is = absurd (omega arith)
least_spare-le (r ∷ runs) zero run within is = let same : run.spare ≡ r.spare = ap (λ (x : Filled). x.spare) is in omega arith
least_spare-le (r ∷ runs) (suc i) run within is = let rest = least_spare-le runs i run (omega arith) is in omega arith

pub run_cells-append : (t : TableId) (first second : List Filled) → run_cells t (first ++ second) ≡ run_cells t first ++ run_cells t second
run_cells-append t [] second = refl
run_cells-append t (run ∷ runs) second = ap (λ es. of_table t run.stored ++ es) (run_cells-append t runs second) ∙ sym (append_assoc (of_table t run.stored) (run_cells t runs) (run_cells t second))

-- the run that was read at an index
pub run_read : (t : TableId) (log2 : ℕ) (runs : List Filled) (i : ℕ) (run : Filled) → IsGrouped t log2 runs → i < 2 ^ log2 → run ≡ get_or runs i run → IsRun log2 i (of_table t run.stored)
run_read t log2 runs i run is within read =
    let e : 0 + i ≡ i = omega arith in
    let here = rw e at (run_at t log2 0 runs i run is.each (omega (arith, is.count))) in
    let P : Filled → Type 0 = λ r. IsRun log2 i (of_table t r.stored) in subst P (sym read) here

pub IsGrouped-set : (t : TableId) (log2 : ℕ) (runs : List Filled) (i : ℕ) (run : Filled) → IsGrouped t log2 runs → IsRun log2 i (of_table t run.stored) → IsGrouped t log2 (set runs i run)
IsGrouped-set t log2 runs i run is here = record {
  few = is.few;
  count = simp length-set is.count;
  each = AreRuns-set t log2 0 runs i run is.each (let e : 0 + i ≡ i = omega arith in rw e here);
}

pub find_read : (t : TableId) (log2 : ℕ) (runs : List Filled) (i : ℕ) (run : Filled) (k : Token) → IsGrouped t log2 runs → i < 2 ^ log2 → run ≡ get_or runs i run → i ≡ tablet_at log2 k.value → cell_at (of_table t run.stored) t k ≡ cell_at (run_cells t runs) t k
find_read t log2 runs i run k is within read tablet =
    ap (λ (r : Filled). cell_at (of_table t r.stored) t k) read ∙ sym (cell_at-run_cells t log2 0 k runs i run is.each (omega (arith, is.count)) (omega arith))

pub put_read : (t : TableId) (log2 : ℕ) (runs : List Filled) (i : ℕ) (s : Stored) (old new : Filled) → IsGrouped t log2 runs → i < 2 ^ log2 → old ≡ get_or runs i old → i ≡ tablet_at log2 s.token.value → of_table t new.stored ≡ put_at (of_table t old.stored) (t, s) → IsGrouped t log2 (set runs i new)
put_read t log2 runs i s old new is within read tablet changed =
    IsGrouped-set t log2 runs i new is (rw changed (IsRun-put_at log2 i (of_table t old.stored) (t, s) (run_read t log2 runs i old is within read) (sym tablet)))
