-- A run cut into those of its tablet's children, and two runs joined into that of their tablets' parent.
use Rattle.std.proofs.Common.{◌≡◌, ℕ, zero, suc, ◌+◌, ◌*◌, ◌/◌, ◌^◌, ◌<◌, ◌≤◌, nat_lt, max, true, false, cond, List, [], ◌∷◌, ◌++◌, length, take, drop, get_or, refl, ap, sym, ◌∙◌, arith, append-nil, append_assoc, length-append}
use Rattle.std.proofs.lemmas.Bool.Decides.{nat_tests}
use Rattle.std.proofs.lemmas.List.{take_more, take_all}
use Rattle.base_ids.specs.declared.ids.TableId.{TableId}
use Rattle.token_ring.specs.Ring.{offset, width, first_offset}
use Rattle.token_ring.proofs.Offsets.{width_pos, width_half, in_tablet, tablet_low, tablet_high, parent_tablet, few_tablets}
use Rattle.std.proofs.Math.Nat.{pow-suc}
use Rattle.replica_store.specs.declared.store.Stored.{Stored}
use Rattle.replica_store.specs.Cells.{Cells, IsOrdered, IsAfter, rank, rank_of}
use Rattle.replica_store.specs.Columns.{first_from}
use Rattle.run_store.specs.Runs.{Filled, of_table, run_cells, IsOfTablet, IsRun, AreRuns, IsGrouped}
use Rattle.run_store.proofs.RunLemmas.{of_table-append, of_table-take, IsOrdered-behind}
use Rattle.run_store.proofs.GroupLemmas.{IsOrdered-append, run_cells-append, run_read}

-- below the boundary lies the left child, from it on the right one
child_left : (w v at b : ℕ) → 0 < w → v / (2 * w) ≡ at → b ≡ max 1 ((2 * at + 1) * w) → v < b → v / w ≡ 2 * at
child_left w v at b positive parent b_is below =
    let low : at * (2 * w) ≤ v = tablet_low (2 * w) v at parent in
    let some : 1 ≤ (2 * at + 1) * w = omega arith in
    in_tablet w v (2 * at) positive (omega arith) (omega arith)

child_right : (w v at b : ℕ) → 0 < w → v / (2 * w) ≡ at → b ≡ max 1 ((2 * at + 1) * w) → b ≤ v → v / w ≡ 2 * at + 1
child_right w v at b positive parent b_is above =
    let high : v < at * (2 * w) + 2 * w = tablet_high (2 * w) v at (omega arith) parent in
    in_tablet w v (2 * at + 1) positive (omega arith) (omega arith)

tablet_left : (log2 v at b : ℕ) → log2 < 64 → v / width log2 ≡ at → b ≡ first_offset (log2 + 1) (2 * at + 1) → v < b → v / width (log2 + 1) ≡ 2 * at
tablet_left log2 v at b few parent b_is below = child_left (width (log2 + 1)) v at b (width_pos (log2 + 1)) (ap (λ w. v / w) (sym (width_half log2 few)) ∙ parent) b_is below

tablet_right : (log2 v at b : ℕ) → log2 < 64 → v / width log2 ≡ at → b ≡ first_offset (log2 + 1) (2 * at + 1) → b ≤ v → v / width (log2 + 1) ≡ 2 * at + 1
tablet_right log2 v at b few parent b_is above = child_right (width (log2 + 1)) v at b (width_pos (log2 + 1)) (ap (λ w. v / w) (sym (width_half log2 few)) ∙ parent) b_is above

left_own : (t : TableId) (log2 at : ℕ) (b : ℕ) (stored : List Stored) → log2 < 64 → b ≡ first_offset (log2 + 1) (2 * at + 1) → IsOfTablet log2 at (of_table t stored) → IsOfTablet (log2 + 1) (2 * at) (of_table t (take (first_from (of_table t stored) (t.0 * 2 ^ 64 + b)) stored))
left_own t log2 at b [] few b_is own = tt
left_own t log2 at b (s ∷ rest) few b_is own =
    elim (nat_lt (rank t s.token) (t.0 * 2 ^ 64 + b)) as (λ c. nat_lt (rank t s.token) (t.0 * 2 ^ 64 + b) ≡ c → IsOfTablet (log2 + 1) (2 * at) (of_table t (take (cond c (suc (first_from (of_table t rest) (t.0 * 2 ^ 64 + b))) 0) (s ∷ rest)))) [
      | true ↦ λ before. (tablet_left log2 (offset s.token.value) at b few own.0 b_is (grind (arith, nat_tests)), left_own t log2 at b rest few b_is own.1)
      | false ↦ λ behind. tt
    ] refl

right_all : (t : TableId) (log2 at first : ℕ) (b : ℕ) (stored : List Stored) → log2 < 64 → b ≡ first_offset (log2 + 1) (2 * at + 1) → t.0 * 2 ^ 64 + b ≤ first → IsAfter first (of_table t stored) → IsOfTablet log2 at (of_table t stored) → IsOfTablet (log2 + 1) (2 * at + 1) (of_table t stored)
right_all t log2 at first b [] few b_is reached after own = tt
right_all t log2 at first b (s ∷ rest) few b_is reached after own =
    (tablet_right log2 (offset s.token.value) at b few own.0 b_is (omega (arith, after.0)), right_all t log2 at first b rest few b_is reached after.1 own.1)

right_own : (t : TableId) (log2 at : ℕ) (b : ℕ) (stored : List Stored) → log2 < 64 → b ≡ first_offset (log2 + 1) (2 * at + 1) → IsOrdered (of_table t stored) → IsOfTablet log2 at (of_table t stored) → IsOfTablet (log2 + 1) (2 * at + 1) (of_table t (drop (first_from (of_table t stored) (t.0 * 2 ^ 64 + b)) stored))
right_own t log2 at b [] few b_is ordered own = tt
right_own t log2 at b (s ∷ rest) few b_is ordered own =
    elim (nat_lt (rank t s.token) (t.0 * 2 ^ 64 + b)) as (λ c. nat_lt (rank t s.token) (t.0 * 2 ^ 64 + b) ≡ c → IsOfTablet (log2 + 1) (2 * at + 1) (of_table t (drop (cond c (suc (first_from (of_table t rest) (t.0 * 2 ^ 64 + b))) 0) (s ∷ rest)))) [
      | true ↦ λ before. right_own t log2 at b rest few b_is ordered.1 own.1
      | false ↦ λ behind. (tablet_right log2 (offset s.token.value) at b few own.0 b_is (grind (arith, nat_tests)), right_all t log2 at (rank t s.token) b rest few b_is (grind (arith, nat_tests)) ordered.0 own.1)
    ] refl

IsAfter-take : (first n : ℕ) (xs : Cells) → IsAfter first xs → IsAfter first (take n xs)
IsAfter-take first zero xs after = tt
IsAfter-take first (suc n) [] after = tt
IsAfter-take first (suc n) (x ∷ xs) after = (after.0, IsAfter-take first n xs after.1)

IsOrdered-take : (n : ℕ) (xs : Cells) → IsOrdered xs → IsOrdered (take n xs)
IsOrdered-take zero xs ordered = tt
IsOrdered-take (suc n) [] ordered = tt
IsOrdered-take (suc n) (x ∷ xs) ordered = (IsAfter-take (rank_of x) n xs ordered.0, IsOrdered-take n xs ordered.1)

pub left_run : (t : TableId) (log2 at cut : ℕ) (stored : List Stored) → log2 < 10 → cut ≡ first_from (of_table t stored) (t.0 * 2 ^ 64 + first_offset (log2 + 1) (2 * at + 1)) → IsRun log2 at (of_table t stored) → IsRun (log2 + 1) (2 * at) (of_table t (take cut stored))
left_run t log2 at cut stored few cut_is run = record {
  ordered = rw (of_table-take t cut stored) (IsOrdered-take cut (of_table t stored) run.ordered);
  own = rw cut_is (left_own t log2 at (first_offset (log2 + 1) (2 * at + 1)) stored (omega arith) refl run.own);
}

pub right_run : (t : TableId) (log2 at cut : ℕ) (stored : List Stored) → log2 < 10 → cut ≡ first_from (of_table t stored) (t.0 * 2 ^ 64 + first_offset (log2 + 1) (2 * at + 1)) → IsRun log2 at (of_table t stored) → IsRun (log2 + 1) (2 * at + 1) (of_table t (drop cut stored))
right_run t log2 at cut stored few cut_is run = record {
  ordered = IsOrdered-behind t stored cut run.ordered;
  own = rw cut_is (right_own t log2 at (first_offset (log2 + 1) (2 * at + 1)) stored (omega arith) refl run.ordered run.own);
}

pub AreRuns-push : (t : TableId) (log2 first : ℕ) (runs : List Filled) (run : Filled) → AreRuns t log2 first runs → IsRun log2 (first + length runs) (of_table t run.stored) → AreRuns t log2 first (runs ++ run ∷ [])
AreRuns-push t log2 first [] run are here = let e : first + 0 ≡ first = omega arith in ((rw e at here), tt)
AreRuns-push t log2 first (r ∷ runs) run are here = let e : first + suc (length runs) ≡ first + 1 + length runs = omega arith in (are.0, AreRuns-push t log2 (first + 1) runs run are.1 (rw e at here))

-- the cells of runs with one more
pub cells_push : (t : TableId) (runs : List Filled) (run : Filled) → run_cells t (runs ++ run ∷ []) ≡ run_cells t runs ++ of_table t run.stored
cells_push t runs run = run_cells-append t runs (run ∷ []) ∙ ap (λ (es : Cells). run_cells t runs ++ es) (append-nil (of_table t run.stored))

pub cells_more : (t : TableId) (runs : List Filled) (i : ℕ) (run : Filled) → i < length runs → run ≡ get_or runs i run → run_cells t (take (i + 1) runs) ≡ run_cells t (take i runs) ++ of_table t run.stored
cells_more t runs i run within read =
    ap (run_cells t) (take_more runs i run within) ∙ cells_push t (take i runs) (get_or runs i run) ∙ ap (λ (r : Filled). run_cells t (take i runs) ++ of_table t r.stored) (sym read)

-- one run more, in two halves
pub halves_more : (t : TableId) (runs halves : List Filled) (i : ℕ) (run left right : Filled) → i < length runs → run ≡ get_or runs i run → left.stored ++ right.stored ≡ run.stored → run_cells t halves ≡ run_cells t (take i runs) → run_cells t (halves ++ left ∷ [] ++ right ∷ []) ≡ run_cells t (take (i + 1) runs)
halves_more t runs halves i run left right within read all same =
    cells_push t (halves ++ left ∷ []) right
    ∙ rw (cells_push t halves left, same) (append_assoc (run_cells t (take i runs)) (of_table t left.stored) (of_table t right.stored)
    ∙ ap (λ (es : Cells). run_cells t (take i runs) ++ es) (sym (of_table-append t left.stored right.stored) ∙ ap (of_table t) all))
    ∙ sym (cells_more t runs i run within read)

-- one pair more
pub pairs_more : (t : TableId) (runs pairs : List Filled) (i : ℕ) (left right joined : Filled) → 2 * i + 1 < length runs → left ≡ get_or runs (2 * i) left → right ≡ get_or runs (2 * i + 1) right → joined.stored ≡ left.stored ++ right.stored → run_cells t pairs ≡ run_cells t (take (2 * i) runs) → run_cells t (pairs ++ joined ∷ []) ≡ run_cells t (take (2 * (i + 1)) runs)
pairs_more t runs pairs i left right joined within left_read right_read both same =
    let e : 2 * (i + 1) ≡ 2 * i + 1 + 1 = omega arith in
    cells_push t pairs joined
    ∙ rw (same, both, of_table-append t left.stored right.stored) (sym (append_assoc (run_cells t (take (2 * i) runs)) (of_table t left.stored) (of_table t right.stored)))
    ∙ ap (λ (es : Cells). es ++ of_table t right.stored) (sym (cells_more t runs (2 * i) left (omega arith) left_read))
    ∙ sym (cells_more t runs (2 * i + 1) right within right_read)
    ∙ ap (λ n. run_cells t (take n runs)) (sym e)

IsOfTablet-parent : (t : TableId) (log2 at child : ℕ) (stored : List Stored) → log2 < 64 → child / 2 ≡ at → IsOfTablet (log2 + 1) child (of_table t stored) → IsOfTablet log2 at (of_table t stored)
IsOfTablet-parent t log2 at child [] few parent own = tt
IsOfTablet-parent t log2 at child (s ∷ rest) few parent own =
    (sym (parent_tablet log2 (offset s.token.value) few) ∙ ap (λ n. n / 2) own.0 ∙ parent, IsOfTablet-parent t log2 at child rest few parent own.1)

IsOfTablet-append : (log2 tablet : ℕ) (xs ys : Cells) → IsOfTablet log2 tablet xs → IsOfTablet log2 tablet ys → IsOfTablet log2 tablet (xs ++ ys)
IsOfTablet-append log2 tablet [] ys left right = right
IsOfTablet-append log2 tablet (x ∷ xs) ys left right = (left.0, IsOfTablet-append log2 tablet xs ys left.1 right)

pub pair_run : (t : TableId) (log2 at : ℕ) (left right joined : Filled) → log2 < 64 → joined.stored ≡ left.stored ++ right.stored → IsRun (log2 + 1) (2 * at) (of_table t left.stored) → IsRun (log2 + 1) (2 * at + 1) (of_table t right.stored) → IsRun log2 at (of_table t joined.stored)
pair_run t log2 at left right joined few both first second =
    let e : of_table t joined.stored ≡ of_table t left.stored ++ of_table t right.stored = ap (of_table t) both ∙ of_table-append t left.stored right.stored in
    let last : of_table t right.stored ++ [] ≡ of_table t right.stored = append-nil (of_table t right.stored) in
    let in_order = IsOrdered-append t (log2 + 1) (2 * at) left.stored (right ∷ []) first.ordered first.own (second, tt) (rw last second.ordered) in
    rw e (record {
      ordered = rw last at in_order;
      own = IsOfTablet-append log2 at (of_table t left.stored) (of_table t right.stored) (IsOfTablet-parent t log2 at (2 * at) left.stored few (omega arith) first.own) (IsOfTablet-parent t log2 at (2 * at + 1) right.stored few (omega arith) second.own);
    })

pub twice : (log2 : ℕ) → 2 ^ (log2 + 1) ≡ 2 * 2 ^ log2
twice log2 = let e : log2 + 1 ≡ suc log2 = omega arith in ap (λ n. 2 ^ n) e ∙ pow-suc 2 log2 ∙ omega arith

pub few_runs : (log2 at : ℕ) → log2 < 10 → at < 2 ^ log2 → at < 1024
few_runs log2 at few below = let most : 2 ^ log2 ≤ 2 ^ 10 = few_tablets log2 (omega arith) in omega arith

-- two more runs, of the tablets that follow
pub halves_runs : (t : TableId) (log2 at : ℕ) (halves : List Filled) (left right : Filled) → length halves ≡ 2 * at → AreRuns t log2 0 halves → IsRun log2 (2 * at) (of_table t left.stored) → IsRun log2 (2 * at + 1) (of_table t right.stored) → AreRuns t log2 0 (halves ++ left ∷ [] ++ right ∷ [])
halves_runs t log2 at halves left right count are first second =
    let e : 0 + length halves ≡ 2 * at = omega arith in
    let f : 0 + length (halves ++ left ∷ []) ≡ 2 * at + 1 = omega (arith, length-append halves (left ∷ [])) in
    AreRuns-push t log2 0 (halves ++ left ∷ []) right (AreRuns-push t log2 0 halves left are (rw e first)) (rw f second)

pub halves_grouped : (t : TableId) (log2 at : ℕ) (runs halves : List Filled) → IsGrouped t log2 runs → log2 < 10 → length runs ≤ at → at ≤ length runs → length halves ≡ 2 * at → AreRuns t (log2 + 1) 0 halves → IsGrouped t (log2 + 1) halves
halves_grouped t log2 at runs halves is few done within count are = record {
  few = omega arith;
  count = omega (arith, is.count, twice log2);
  each = are;
}

pub pairs_count : (t : TableId) (log2 : ℕ) (runs : List Filled) → IsGrouped t (log2 + 1) runs → length runs / 2 ≡ 2 ^ log2
pairs_count t log2 runs is = omega (arith, is.count, twice log2)

pub pairs_grouped : (t : TableId) (log2 : ℕ) (runs pairs : List Filled) → IsGrouped t (log2 + 1) runs → length pairs ≡ length runs / 2 → AreRuns t log2 0 pairs → IsGrouped t log2 pairs
pairs_grouped t log2 runs pairs is count are = record { few = omega (arith, is.few); count = count ∙ pairs_count t log2 runs is; each = are }

pub pairs_runs : (t : TableId) (log2 at : ℕ) (runs pairs : List Filled) (left right joined : Filled) → IsGrouped t (log2 + 1) runs → at < length runs / 2 → left ≡ get_or runs (2 * at) left → right ≡ get_or runs (2 * at + 1) right → joined.stored ≡ left.stored ++ right.stored → length pairs ≡ at → AreRuns t log2 0 pairs → AreRuns t log2 0 (pairs ++ joined ∷ [])
pairs_runs t log2 at runs pairs left right joined is below left_read right_read both count are =
    let e : 0 + length pairs ≡ at = omega arith in
    let first = run_read t (log2 + 1) runs (2 * at) left is (omega (arith, is.count)) left_read in
    let second = run_read t (log2 + 1) runs (2 * at + 1) right is (omega (arith, is.count)) right_read in
    AreRuns-push t log2 0 pairs joined are (rw e (pair_run t log2 at left right joined (omega (arith, is.few)) both first second))

pub pairs_all : (t : TableId) (log2 : ℕ) (runs : List Filled) → IsGrouped t (log2 + 1) runs → take (2 * (length runs / 2)) runs ≡ runs
pairs_all t log2 runs is = take_all (2 * (length runs / 2)) runs (omega (arith, is.count, twice log2))
