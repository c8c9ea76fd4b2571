-- The cells of a store are for each table those that lie in its runs, or among the rest.
use Rattle.std.proofs.Common.{◌≡◌, ℕ, zero, suc, ◌+◌, ◌<◌, ◌≤◌, ◌==◌, ◌&&◌, nat_lt, not, Bool, true, false, cond, Option, Some, None, List, [], ◌∷◌, length, get_or, set, map, filter, refl, ap, sym, subst, ◌∙◌, arith}
use Rattle.std.specs.Ordering.{is_lt}
use Rattle.std.proofs.lemmas.Bool.Decides.{nat_tests}
use Rattle.base_ids.specs.declared.ids.TableId.{TableId}
use Rattle.cell_merge.specs.Cell.{greater_cell, cell_order}
use Rattle.cell_merge.specs.declared.cell.Cell.{Cell}
use Rattle.token_ring.specs.declared.token.Token.{Token}
use Rattle.token_ring.specs.declared.ring.TokenRange.{TokenRange}
use Rattle.token_ring.specs.Ring.{tablet_at}
use Rattle.replica_store.specs.declared.store.Stored.{Stored}
use Rattle.replica_store.specs.Cells.{Cells, IsOrdered, rank, rank_of, is_same, is_within, is_inside, is_above, cell_at, only_at, range_cells, outside}
use Rattle.replica_store.specs.Columns.{put_at}
use Rattle.replica_store.proofs.RankLemmas.{is_same-rank}
use Rattle.replica_store.proofs.PutLemmas.{IsOrdered-put_at, cell_at-put_at}
use Rattle.replica_store.proofs.RangeLemmas.{IsOrdered-filter}
use Rattle.replica_store.proofs.MapLemmas.{cell_at-after, one_list}
use Rattle.run_store.specs.Runs.{tablet_cells}
use Rattle.run_store.specs.Tables.{Grouped, IsOfTable, IsGrouped, AreTables, put_all, without, store_cells, cells_of, index_of, log2s_of, least_room}

pub one_table : (t u : TableId) → (t.0 == u.0) ≡ true → t ≡ u
one_table t u same = let number : t.0 ≡ u.0 = grind (arith, nat_tests) in λ i. record { 0 = number i }

greater_cell-none : (a : Option Cell) → greater_cell a None ≡ a
greater_cell-none None = refl
greater_cell-none (Some a) = refl

none-greater_cell : (a : Option Cell) → greater_cell None a ≡ a
none-greater_cell None = refl
none-greater_cell (Some a) = refl

IsOrdered-put_all : (es xs : Cells) → IsOrdered xs → IsOrdered (put_all es xs)
IsOrdered-put_all [] xs ordered = ordered
IsOrdered-put_all (e ∷ es) xs ordered = IsOrdered-put_at (put_all es xs) e (IsOrdered-put_all es xs ordered)

-- where all are put in, each place has the greater one of the two
cell_at-put_all : (es xs : Cells) (t : TableId) (k : Token) → IsOrdered es → IsOrdered xs → cell_at (put_all es xs) t k ≡ greater_cell (cell_at xs t k) (cell_at es t k)
cell_at-put_all [] xs t k in_order ordered = sym (greater_cell-none (cell_at xs t k))
cell_at-put_all (e ∷ es) xs t k in_order ordered =
    cell_at-put_at (put_all es xs) e t k (IsOrdered-put_all es xs ordered)
    ∙ rw (cell_at-put_all es xs t k in_order.1 ordered) (
    elim (is_same e.0 e.1.token t k) as (λ b. is_same e.0 e.1.token t k ≡ b → greater_cell (greater_cell (cell_at xs t k) (cell_at es t k)) (cond b (Some e.1.cell) None) ≡ greater_cell (cell_at xs t k) (cond b (Some e.1.cell) (cell_at es t k))) [
      | true ↦ λ same.
          let tests : (rank_of e == rank t k) ≡ true = sym (is_same-rank e.0 e.1.token t k) ∙ same in
          let none : cell_at es t k ≡ None = cell_at-after es t k (rank_of e) in_order.0 (grind (arith, nat_tests)) in
          rw (none, greater_cell-none (cell_at xs t k))
      | false ↦ λ other. greater_cell-none (greater_cell (cell_at xs t k) (cell_at es t k))
    ] refl)

cell_at-without : (table : TableId) (xs : Cells) (t : TableId) (k : Token) → cell_at (without table xs) t k ≡ cond (table.0 == t.0) None (cell_at xs t k)
cell_at-without table [] t k = elim (table.0 == t.0) as (λ b. (let missing : Option Cell = None in missing) ≡ cond b None None) [ true ↦ refl | false ↦ refl ]
cell_at-without table (x ∷ xs) t k =
    elim (x.0.0 == table.0) as (λ b. (x.0.0 == table.0) ≡ b → cell_at (cond (not b) (x ∷ without table xs) (without table xs)) t k ≡ cond (table.0 == t.0) None (cell_at (x ∷ xs) t k)) [
      | true ↦ λ own. cell_at-without table xs t k ∙ elim (table.0 == t.0) as (λ b. (table.0 == t.0) ≡ b → cond b None (cell_at xs t k) ≡ cond b None (cond (is_same x.0 x.1.token t k) (Some x.1.cell) (cell_at xs t k))) [
        | true ↦ λ _. refl
        | false ↦ λ apart. let other : (x.0.0 == t.0) ≡ false = grind (arith, nat_tests) in rw other
      ] refl
      | false ↦ λ stays. elim (table.0 == t.0) as (λ b. (table.0 == t.0) ≡ b → cond (is_same x.0 x.1.token t k) (Some x.1.cell) (cell_at (without table xs) t k) ≡ cond b None (cond (is_same x.0 x.1.token t k) (Some x.1.cell) (cell_at xs t k))) [
        | true ↦ λ same. let other : (x.0.0 == t.0) ≡ false = grind (arith, nat_tests) in rw other (cell_at-without table xs t k ∙ rw same)
        | false ↦ λ apart. let rest : cell_at (without table xs) t k ≡ cell_at xs t k = cell_at-without table xs t k ∙ rw apart in rw rest
      ] refl
    ] refl

cell_at-other_table : (table : TableId) (xs : Cells) (t : TableId) (k : Token) → IsOfTable table xs → (table.0 == t.0) ≡ false → cell_at xs t k ≡ None
cell_at-other_table table [] t k own apart = refl
cell_at-other_table table (x ∷ xs) t k own apart =
    let other : (x.0.0 == t.0) ≡ false = grind (arith, nat_tests, own.0) in
    rw other (cell_at-other_table table xs t k own.1 apart)

pub IsOrdered-store_cells : (gs : List Grouped) (rest : Cells) → IsOrdered rest → IsOrdered (store_cells gs rest)
IsOrdered-store_cells [] rest ordered = ordered
IsOrdered-store_cells (g ∷ gs) rest ordered =
    IsOrdered-put_all g.cells (without g.table (store_cells gs rest)) (IsOrdered-filter (λ e. not (e.0.0 == g.table.0)) (store_cells gs rest) (IsOrdered-store_cells gs rest ordered))

-- the cell of a token lies where those of its table do
pub cell_at-store_cells : (gs : List Grouped) (rest : Cells) (t : TableId) (k : Token) → AreTables gs → IsOrdered rest → cell_at (store_cells gs rest) t k ≡ cell_at (cells_of gs rest t) t k
cell_at-store_cells [] rest t k are ordered = refl
cell_at-store_cells (g ∷ gs) rest t k are ordered =
    cell_at-put_all g.cells (without g.table (store_cells gs rest)) t k are.0.ordered (IsOrdered-filter (λ e. not (e.0.0 == g.table.0)) (store_cells gs rest) (IsOrdered-store_cells gs rest ordered))
    ∙ rw (cell_at-without g.table (store_cells gs rest) t k) (
    elim (g.table.0 == t.0) as (λ b. (g.table.0 == t.0) ≡ b → greater_cell (cond b None (cell_at (store_cells gs rest) t k)) (cell_at g.cells t k) ≡ cell_at (cond b g.cells (cells_of gs rest t)) t k) [
      | true ↦ λ same. none-greater_cell (cell_at g.cells t k)
      | false ↦ λ apart. rw (cell_at-other_table g.table g.cells t k are.0.own apart, greater_cell-none (cell_at (store_cells gs rest) t k)) (cell_at-store_cells gs rest t k are.1 ordered)
    ] refl)

pub cells_of-ordered : (gs : List Grouped) (rest : Cells) (t : TableId) → AreTables gs → IsOrdered rest → IsOrdered (cells_of gs rest t)
cells_of-ordered [] rest t are ordered = ordered
cells_of-ordered (g ∷ gs) rest t are ordered =
    elim (g.table.0 == t.0) as (λ b. IsOrdered (cond b g.cells (cells_of gs rest t))) [
      | true ↦ are.0.ordered
      | false ↦ cells_of-ordered gs rest t are.1 ordered
    ]

-- the cells of one table
abbrev pub of_one : TableId → Cells → Cells
of_one t xs = filter (λ e. e.0.0 == t.0) xs

pub cell_at-of_one : (table : TableId) (xs : Cells) (t : TableId) (k : Token) → cell_at (of_one table xs) t k ≡ cond (table.0 == t.0) (cell_at xs t k) None
cell_at-of_one table [] t k = elim (table.0 == t.0) as (λ b. (let missing : Option Cell = None in missing) ≡ cond b None None) [ true ↦ refl | false ↦ refl ]
cell_at-of_one table (x ∷ xs) t k =
    elim (x.0.0 == table.0) as (λ b. (x.0.0 == table.0) ≡ b → cell_at (cond b (x ∷ of_one table xs) (of_one table xs)) t k ≡ cond (table.0 == t.0) (cell_at (x ∷ xs) t k) None) [
      | true ↦ λ own. elim (table.0 == t.0) as (λ b. (table.0 == t.0) ≡ b → cond (is_same x.0 x.1.token t k) (Some x.1.cell) (cell_at (of_one table xs) t k) ≡ cond b (cond (is_same x.0 x.1.token t k) (Some x.1.cell) (cell_at xs t k)) None) [
        | true ↦ λ same. let rest : cell_at (of_one table xs) t k ≡ cell_at xs t k = cell_at-of_one table xs t k ∙ rw same in rw rest
        | false ↦ λ apart. let other : (x.0.0 == t.0) ≡ false = grind (arith, nat_tests) in rw other (cell_at-of_one table xs t k ∙ rw apart)
      ] refl
      | false ↦ λ goes. cell_at-of_one table xs t k ∙ elim (table.0 == t.0) as (λ b. (table.0 == t.0) ≡ b → cond b (cell_at xs t k) None ≡ cond b (cond (is_same x.0 x.1.token t k) (Some x.1.cell) (cell_at xs t k)) None) [
        | true ↦ λ same. let other : (x.0.0 == t.0) ≡ false = grind (arith, nat_tests) in rw other
        | false ↦ λ _. refl
      ] refl
    ] refl

-- lists in order that have the same cells of a table
pub of_one-same : (t : TableId) (xs ys : Cells) → IsOrdered xs → IsOrdered ys → ((k : Token) → cell_at xs t k ≡ cell_at ys t k) → of_one t xs ≡ of_one t ys
of_one-same t xs ys left right same =
    one_list (of_one t xs) (of_one t ys) (IsOrdered-filter (λ e. e.0.0 == t.0) xs left) (IsOrdered-filter (λ e. e.0.0 == t.0) ys right)
    (λ u k. cell_at-of_one t xs u k ∙ elim (t.0 == u.0) as (λ b. (t.0 == u.0) ≡ b → cond b (cell_at xs u k) None ≡ cond b (cell_at ys u k) None) [
      | true ↦ λ e. let P : TableId → Type 0 = λ v. cell_at xs v k ≡ cell_at ys v k in subst P (one_table t u e) (same k)
      | false ↦ λ _. refl
    ] refl ∙ sym (cell_at-of_one t ys u k))

-- a test on the cells of one table
filter-of_one : (t : TableId) (p : TableId × Stored → Bool) (xs : Cells) → ((e : TableId × Stored) → (e.0.0 == t.0) ≡ false → p e ≡ false) → filter p xs ≡ filter p (of_one t xs)
filter-of_one t p [] none = refl
filter-of_one t p (x ∷ xs) none =
    elim (x.0.0 == t.0) as (λ b. (x.0.0 == t.0) ≡ b → cond (p x) (x ∷ filter p xs) (filter p xs) ≡ filter p (cond b (x ∷ of_one t xs) (of_one t xs))) [
      | true ↦ λ _. rw (filter-of_one t p xs none)
      | false ↦ λ apart. rw (none x apart) (filter-of_one t p xs none)
    ] refl

same_of_table : (t : TableId) (p : TableId × Stored → Bool) (xs ys : Cells) → IsOrdered xs → IsOrdered ys → ((k : Token) → cell_at xs t k ≡ cell_at ys t k) → ((e : TableId × Stored) → (e.0.0 == t.0) ≡ false → p e ≡ false) → filter p xs ≡ filter p ys
same_of_table t p xs ys left right same none = filter-of_one t p xs none ∙ ap (filter p) (of_one-same t xs ys left right same) ∙ sym (filter-of_one t p ys none)

pub range_cells-store_cells : (gs : List Grouped) (rest : Cells) (t : TableId) (range : TokenRange) (after : Option Token) → AreTables gs → IsOrdered rest → range_cells (cells_of gs rest t) t range after ≡ range_cells (store_cells gs rest) t range after
range_cells-store_cells gs rest t range after are ordered =
    ap (map (λ (e : TableId × Stored). e.1)) (same_of_table t (λ e. is_inside t range e && is_above after e.1.token) (cells_of gs rest t) (store_cells gs rest) (cells_of-ordered gs rest t are ordered) (IsOrdered-store_cells gs rest ordered) (λ k. sym (cell_at-store_cells gs rest t k are ordered)) (λ e apart. rw apart))

pub tablet_cells-store_cells : (gs : List Grouped) (rest : Cells) (t : TableId) (log2 tablet : ℕ) → AreTables gs → IsOrdered rest → tablet_cells (cells_of gs rest t) t log2 tablet ≡ tablet_cells (store_cells gs rest) t log2 tablet
tablet_cells-store_cells gs rest t log2 tablet are ordered =
    ap (map (λ (e : TableId × Stored). e.1)) (same_of_table t (λ e. (e.0.0 == t.0) && (tablet_at log2 e.1.token.value == tablet)) (cells_of gs rest t) (store_cells gs rest) (cells_of-ordered gs rest t are ordered) (IsOrdered-store_cells gs rest ordered) (λ k. sym (cell_at-store_cells gs rest t k are ordered)) (λ e apart. rw apart))

-- the table that was found at its index
pub found_table : (gs : List Grouped) (t : TableId) (at : ℕ) (g : Grouped) → at ≡ index_of gs t → at < length gs → g ≡ get_or gs at g → g.table ≡ t
found_table [] t at g at_is within read = absurd (omega arith)
found_table (x ∷ gs) t at g at_is within read =
    elim (x.table.0 == t.0) as (λ b. (x.table.0 == t.0) ≡ b → at ≡ cond b 0 (suc (index_of gs t)) → g.table ≡ t) [
      | true ↦ λ same at_here. ap (λ (y : Grouped). y.table) (read ∙ ap (λ n. get_or (x ∷ gs) n g) at_here) ∙ one_table x.table t same
      | false ↦ λ _ at_later. found_table gs t (index_of gs t) g refl (omega arith) (read ∙ ap (λ n. get_or (x ∷ gs) n g) at_later)
    ] refl at_is

pub found_cells : (gs : List Grouped) (rest : Cells) (t : TableId) (at : ℕ) (g : Grouped) → at ≡ index_of gs t → at < length gs → g ≡ get_or gs at g → cells_of gs rest t ≡ g.cells
found_cells [] rest t at g at_is within read = absurd (omega arith)
found_cells (x ∷ gs) rest t at g at_is within read =
    elim (x.table.0 == t.0) as (λ b. at ≡ cond b 0 (suc (index_of gs t)) → cond b x.cells (cells_of gs rest t) ≡ g.cells) [
      | true ↦ λ at_here. ap (λ (y : Grouped). y.cells) (sym (read ∙ ap (λ n. get_or (x ∷ gs) n g) at_here))
      | false ↦ λ at_later. found_cells gs rest t (index_of gs t) g refl (omega arith) (read ∙ ap (λ n. get_or (x ∷ gs) n g) at_later)
    ] at_is

pub found_is : (gs : List Grouped) (at : ℕ) (g : Grouped) → AreTables gs → at < length gs → g ≡ get_or gs at g → IsGrouped g
found_is [] at g are within read = absurd (omega arith)
found_is (x ∷ gs) zero g are within read = subst IsGrouped (sym read) are.0
found_is (x ∷ gs) (suc at) g are within read = found_is gs at g are.1 (omega arith) read

pub missing_cells : (gs : List Grouped) (rest : Cells) (t : TableId) → length gs ≤ index_of gs t → cells_of gs rest t ≡ rest
missing_cells [] rest t missing = refl
missing_cells (x ∷ gs) rest t missing =
    elim (x.table.0 == t.0) as (λ b. suc (length gs) ≤ cond b 0 (suc (index_of gs t)) → cond b x.cells (cells_of gs rest t) ≡ rest) [
      | true ↦ λ none. absurd (omega arith)
      | false ↦ λ none. missing_cells gs rest t (omega arith)
    ] missing

pub AreTables-set : (gs : List Grouped) (at : ℕ) (g : Grouped) → AreTables gs → IsGrouped g → AreTables (set gs at g)
AreTables-set [] at g are here = tt
AreTables-set (x ∷ gs) zero g are here = (here, are.1)
AreTables-set (x ∷ gs) (suc at) g are here = (are.0, AreTables-set gs at g are.1 here)

-- where the cells of a table lie, once the one at an index has changed
cells_of-set : (gs : List Grouped) (rest : Cells) (t : TableId) (at : ℕ) (g : Grouped) → at ≡ index_of gs t → at < length gs → g.table ≡ t → (u : TableId) → cells_of (set gs at g) rest u ≡ cond (t.0 == u.0) g.cells (cells_of gs rest u)
cells_of-set [] rest t at g at_is within table u = absurd (omega arith)
cells_of-set (x ∷ gs) rest t at g at_is within table u =
    elim (x.table.0 == t.0) as (λ b. (x.table.0 == t.0) ≡ b → at ≡ cond b 0 (suc (index_of gs t)) → cells_of (set (x ∷ gs) at g) rest u ≡ cond (t.0 == u.0) g.cells (cells_of (x ∷ gs) rest u)) [
      | true ↦ λ same at_here.
          ap (λ n. cells_of (set (x ∷ gs) n g) rest u) at_here
          ∙ ap (λ (v : TableId). cond (v.0 == u.0) g.cells (cells_of gs rest u)) table
          ∙ elim (t.0 == u.0) as (λ b. (t.0 == u.0) ≡ b → cond b g.cells (cells_of gs rest u) ≡ cond b g.cells (cond (x.table.0 == u.0) x.cells (cells_of gs rest u))) [
            | true ↦ λ _. refl
            | false ↦ λ apart. let other : (x.table.0 == u.0) ≡ false = grind (arith, nat_tests) in rw other
          ] refl
      | false ↦ λ apart at_later.
          ap (λ n. cells_of (set (x ∷ gs) n g) rest u) at_later
          ∙ rw (cells_of-set gs rest t (index_of gs t) g refl (omega arith) table u) (
          elim (t.0 == u.0) as (λ b. (t.0 == u.0) ≡ b → cond (x.table.0 == u.0) x.cells (cond b g.cells (cells_of gs rest u)) ≡ cond b g.cells (cond (x.table.0 == u.0) x.cells (cells_of gs rest u))) [
            | true ↦ λ here. let other : (x.table.0 == u.0) ≡ false = grind (arith, nat_tests) in rw other
            | false ↦ λ _. refl
          ] refl)
    ] refl at_is

-- a change of what a table has at each token, in its runs
pub found_changed : (change : TableId → Token → Option Cell → Option Cell) (gs : List Grouped) (rest : Cells) (t : TableId) (at : ℕ) (old new : Grouped) → AreTables gs → IsOrdered rest → at ≡ index_of gs t → at < length gs → old ≡ get_or gs at old → new.table ≡ t → IsGrouped new → ((u : TableId) (k : Token) (found : Option Cell) → (t.0 == u.0) ≡ false → change u k found ≡ found) → ((k : Token) → cell_at new.cells t k ≡ change t k (cell_at old.cells t k)) → (u : TableId) (k : Token) → cell_at (store_cells (set gs at new) rest) u k ≡ change u k (cell_at (store_cells gs rest) u k)
found_changed change gs rest t at old new are ordered at_is within read table is others here u k =
    cell_at-store_cells (set gs at new) rest u k (AreTables-set gs at new are is) ordered
    ∙ rw (cells_of-set gs rest t at new at_is within table u, cell_at-store_cells gs rest u k are ordered) (
    elim (t.0 == u.0) as (λ b. (t.0 == u.0) ≡ b → cell_at (cond b new.cells (cells_of gs rest u)) u k ≡ change u k (cell_at (cells_of gs rest u) u k)) [
      | true ↦ λ same.
          let P : TableId → Type 0 = λ v. cell_at new.cells v k ≡ change v k (cell_at (cells_of gs rest v) v k) in
          subst P (one_table t u same) (here k ∙ ap (λ (xs : Cells). change t k (cell_at xs t k)) (sym (found_cells gs rest t at old at_is within read)))
      | false ↦ λ apart. sym (others u k (cell_at (cells_of gs rest u) u k) apart)
    ] refl)

-- the same among the rest
rest_changes : (change : TableId → Token → Option Cell → Option Cell) (gs : List Grouped) (old new : Cells) (t : TableId) → length gs ≤ index_of gs t → ((u : TableId) (k : Token) (found : Option Cell) → (t.0 == u.0) ≡ false → change u k found ≡ found) → ((u : TableId) (k : Token) → cell_at new u k ≡ change u k (cell_at old u k)) → (u : TableId) (k : Token) → cell_at (cells_of gs new u) u k ≡ change u k (cell_at (cells_of gs old u) u k)
rest_changes change [] old new t missing others here u k = here u k
rest_changes change (x ∷ gs) old new t missing others here u k =
    elim (x.table.0 == t.0) as (λ b. (x.table.0 == t.0) ≡ b → suc (length gs) ≤ cond b 0 (suc (index_of gs t)) → cell_at (cells_of (x ∷ gs) new u) u k ≡ change u k (cell_at (cells_of (x ∷ gs) old u) u k)) [
      | true ↦ λ _ none. absurd (omega arith)
      | false ↦ λ apart none. elim (x.table.0 == u.0) as (λ b. (x.table.0 == u.0) ≡ b → cell_at (cond b x.cells (cells_of gs new u)) u k ≡ change u k (cell_at (cond b x.cells (cells_of gs old u)) u k)) [
        | true ↦ λ own. let other : (t.0 == u.0) ≡ false = grind (arith, nat_tests) in sym (others u k (cell_at x.cells u k) other)
        | false ↦ λ _. rest_changes change gs old new t (omega arith) others here u k
      ] refl
    ] refl missing

pub rest_changed : (change : TableId → Token → Option Cell → Option Cell) (gs : List Grouped) (old new : Cells) (t : TableId) → AreTables gs → IsOrdered old → IsOrdered new → length gs ≤ index_of gs t → ((u : TableId) (k : Token) (found : Option Cell) → (t.0 == u.0) ≡ false → change u k found ≡ found) → ((u : TableId) (k : Token) → cell_at new u k ≡ change u k (cell_at old u k)) → (u : TableId) (k : Token) → cell_at (store_cells gs new) u k ≡ change u k (cell_at (store_cells gs old) u k)
rest_changed change gs old new t are ordered ordered_new missing others here u k =
    cell_at-store_cells gs new u k are ordered_new ∙ rw (cell_at-store_cells gs old u k are ordered) (rest_changes change gs old new t missing others here u k)

-- a put, as a change
abbrev pub with_put : TableId → Token → Cell → TableId → Token → Option Cell → Option Cell
with_put t token cell u k found = greater_cell found (only_at t token cell u k)

pub put_elsewhere : (t : TableId) (token : Token) (cell : Cell) (u : TableId) (k : Token) (found : Option Cell) → (t.0 == u.0) ≡ false → with_put t token cell u k found ≡ found
put_elsewhere t token cell u k found apart = rw (apart, greater_cell-none found)

-- a dropped range, as a change
abbrev pub without_range : TableId → TokenRange → TableId → Token → Option Cell → Option Cell
without_range t range u k found = cond (is_within t range u k) None found

pub drop_elsewhere : (t : TableId) (range : TokenRange) (u : TableId) (k : Token) (found : Option Cell) → (t.0 == u.0) ≡ false → without_range t range u k found ≡ found
drop_elsewhere t range u k found apart = let other : (u.0 == t.0) ≡ false = grind (arith, nat_tests) in rw other

IsOfTable-put_at : (t : TableId) (xs : Cells) (s : Stored) → IsOfTable t xs → IsOfTable t (put_at xs (t, s))
IsOfTable-put_at t [] s own = (refl, tt)
IsOfTable-put_at t (x ∷ xs) s own =
    elim (nat_lt (rank_of x) (rank t s.token)) as (λ b. IsOfTable t (cond b (x ∷ put_at xs (t, s)) (cond (rank_of x == rank t s.token) (cond (is_lt (cell_order x.1.cell s.cell)) ((x.0, record x.1 { cell = s.cell }) ∷ xs) (x ∷ xs)) ((t, s) ∷ x ∷ xs)))) [
      | true ↦ (own.0, IsOfTable-put_at t xs s own.1)
      | false ↦ elim (rank_of x == rank t s.token) as (λ b. IsOfTable t (cond b (cond (is_lt (cell_order x.1.cell s.cell)) ((x.0, record x.1 { cell = s.cell }) ∷ xs) (x ∷ xs)) ((t, s) ∷ x ∷ xs))) [
        | true ↦ elim (is_lt (cell_order x.1.cell s.cell)) as (λ b. IsOfTable t (cond b ((x.0, record x.1 { cell = s.cell }) ∷ xs) (x ∷ xs))) [ true ↦ own | false ↦ own ]
        | false ↦ (refl, own)
      ]
    ]

pub put_is : (old new : Grouped) (s : Stored) → IsGrouped old → new.table ≡ old.table → new.log2 ≡ old.log2 → new.cells ≡ put_at old.cells (old.table, s) → IsGrouped new
put_is old new s is table log2 cells = record {
  few = omega (arith, is.few);
  ordered = rw cells (IsOrdered-put_at old.cells (old.table, s) is.ordered);
  own = rw (table, cells) (IsOfTable-put_at old.table old.cells s is.own);
}

IsOfTable-filter : (t : TableId) (p : TableId × Stored → Bool) (xs : Cells) → IsOfTable t xs → IsOfTable t (filter p xs)
IsOfTable-filter t p [] own = tt
IsOfTable-filter t p (x ∷ xs) own = elim (p x) as (λ b. IsOfTable t (cond b (x ∷ filter p xs) (filter p xs))) [ true ↦ (own.0, IsOfTable-filter t p xs own.1) | false ↦ IsOfTable-filter t p xs own.1 ]

pub drop_is : (old new : Grouped) (range : TokenRange) → IsGrouped old → new.table ≡ old.table → new.log2 ≡ old.log2 → new.cells ≡ outside old.cells old.table range → IsGrouped new
drop_is old new range is table log2 cells = record {
  few = omega (arith, is.few);
  ordered = rw cells (IsOrdered-filter (λ e. not (is_inside old.table range e)) old.cells is.ordered);
  own = rw (table, cells) (IsOfTable-filter old.table (λ e. not (is_inside old.table range e)) old.cells is.own);
}

pub same_is : (old new : Grouped) → IsGrouped old → new.table ≡ old.table → new.log2 ≤ 10 → new.cells ≡ old.cells → IsGrouped new
same_is old new is table few cells = record { few = few; ordered = rw cells is.ordered; own = rw (table, cells) is.own }

pub least_room-set : (gs : List Grouped) (i gone : ℕ) (old new : Grouped) → old ≡ get_or gs i old → old.spare ≤ new.spare + gone → least_room gs ≤ least_room (set gs i new) + gone
least_room-set [] i gone old new read room = omega arith
least_room-set (g ∷ gs) zero gone old new read room = let same : old.spare ≡ g.spare = ap (λ (x : Grouped). x.spare) read in omega arith
least_room-set (g ∷ gs) (suc i) gone old new read room = let rest = least_room-set gs i gone old new read room in omega arith

pub least_room-le : (gs : List Grouped) (i : ℕ) (g : Grouped) → i < length gs → g ≡ get_or gs i g → least_room gs ≤ g.spare
least_room-le [] i g within read = absurd (omega arith)
least_room-le (x ∷ gs) zero g within read = let same : g.spare ≡ x.spare = ap (λ (y : Grouped). y.spare) read in omega arith
least_room-le (x ∷ gs) (suc i) g within read = let rest = least_room-le gs i g (omega arith) read in omega arith

-- the logarithms stay where only cells and room change
pub log2s_of-set : (gs : List Grouped) (i : ℕ) (old new : Grouped) → old ≡ get_or gs i old → new.table ≡ old.table → new.log2 ≡ old.log2 → log2s_of (set gs i new) ≡ log2s_of gs
log2s_of-set [] i old new read table log2 = refl
log2s_of-set (g ∷ gs) zero old new read table log2 =
    let here : (new.table, new.log2) ≡ (g.table, g.log2) = λ i. ((table ∙ ap (λ (x : Grouped). x.table) read) i, (log2 ∙ ap (λ (x : Grouped). x.log2) read) i) in
    ap (λ (p : TableId × ℕ). p ∷ log2s_of gs) here
log2s_of-set (g ∷ gs) (suc i) old new read table log2 = ap (λ (ps : List (TableId × ℕ)). (g.table, g.log2) ∷ ps) (log2s_of-set gs i old new read table log2)
