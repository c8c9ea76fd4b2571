-- Cells that are put one after the other, and the cells of a chunk.
use Rattle.std.proofs.Common.{◌≡◌, ◌+◌, ◌<◌, ◌≤◌, ◌==◌, ◌&&◌, ℕ, zero, suc, nat_lt, Bool, true, false, cond, not, Option, Some, None, List, [], ◌∷◌, map, filter, take, length, arith, refl, ap, sym, subst, ◌∙◌}
use Rattle.std.specs.Ordering.{int_eq}
use Rattle.std.proofs.lemmas.Bool.{cases_lt}
use Rattle.std.proofs.lemmas.Bool.Decides.{nat_tests}
use Rattle.base_ids.specs.declared.ids.TableId.{TableId}
use Rattle.token_ring.specs.declared.token.Token.{Token}
use Rattle.token_ring.specs.declared.ring.TokenRange.{TokenRange}
use Rattle.cell_merge.proofs.CellOrder.{greater-first, greater-second, greater-least, not_below}
use Rattle.cell_merge.specs.Cell.{greater_cell, IsNotBelow}
use Rattle.cell_merge.specs.declared.cell.Cell.{Cell}
use Rattle.replica_store.specs.declared.store.Stored.{Stored}
use Rattle.replica_store.specs.Cells.{Cells, IsOrdered, IsAfter, rank, rank_of, cell_at, only_at, stored_at, is_same, is_within, is_inside, is_above, range_cells}
use Rattle.replica_store.specs.Columns.{put_at}
use Rattle.replica_store.specs.Puts.{cells_with}
use Rattle.replica_store.proofs.PutLemmas.{IsOrdered-put_at, cell_at-put_at, IsAfter-below}
use Rattle.replica_store.proofs.RankLemmas.{is_same-rank}
use Rattle.stream_core.specs.Pulls.{most_cells}

pub ordered_with : (cells : Cells) (table : TableId) (list : List Stored) → IsOrdered cells → IsOrdered (cells_with cells table list)
ordered_with cells table [] ordered = ordered
ordered_with cells table (s ∷ rest) ordered = ordered_with (put_at cells (table, s)) table rest (IsOrdered-put_at cells (table, s) ordered)

pub put_grows : (cells : Cells) (p : TableId × Stored) (t : TableId) (k : Token) → IsOrdered cells → IsNotBelow (cell_at (put_at cells p) t k) (cell_at cells t k)
put_grows cells p t k ordered =
    let P : Option Cell → Type 0 = λ c. IsNotBelow c (cell_at cells t k) in
    subst P (sym (cell_at-put_at cells p t k ordered)) (greater-first (cell_at cells t k) (only_at p.0 p.1.token p.1.cell t k))

pub with_grows : (cells : Cells) (table : TableId) (list : List Stored) (t : TableId) (k : Token) → IsOrdered cells → IsNotBelow (cell_at (cells_with cells table list) t k) (cell_at cells t k)
with_grows cells table [] t k ordered = not_below.reflexive (cell_at cells t k)
with_grows cells table (s ∷ rest) t k ordered =
    not_below.transitive (cell_at (cells_with (put_at cells (table, s)) table rest) t k) (cell_at (put_at cells (table, s)) t k) (cell_at cells t k)
    (with_grows (put_at cells (table, s)) table rest t k (IsOrdered-put_at cells (table, s) ordered))
    (put_grows cells (table, s) t k ordered)

table_same : (table : TableId) → (table.0 == table.0) ≡ true
table_same table = grind (arith, nat_tests)

-- what is put is there, or a greater cell
pub with_has : (cells : Cells) (table : TableId) (list : List Stored) (k : Token) → IsOrdered cells → IsNotBelow (cell_at (cells_with cells table list) table k) (stored_at list k)
with_has cells table [] k ordered = none_below (cell_at cells table k)
  where
    none_below : (c : Option Cell) → IsNotBelow c None
    none_below None = refl
    none_below (Some c) = refl
with_has cells table (s ∷ rest) k ordered =
    let now = put_at cells (table, s) in
    let ordered_now : IsOrdered now = IsOrdered-put_at cells (table, s) ordered in
    elim (int_eq s.token.value k.value) as (λ v. int_eq s.token.value k.value ≡ v → IsNotBelow (cell_at (cells_with now table rest) table k) (cond v (Some s.cell) (stored_at rest k))) [
      | true ↦ λ e.
          let only : only_at table s.token s.cell table k ≡ Some s.cell = rw (table_same table, e) refl in
          let P : Option Cell → Type 0 = λ c. IsNotBelow (cell_at now table k) c in
          let Q : Option Cell → Type 0 = λ c. IsNotBelow c (only_at table s.token s.cell table k) in
          let here : IsNotBelow (cell_at now table k) (Some s.cell) =
          subst P only (subst Q (sym (cell_at-put_at cells (table, s) table k ordered)) (greater-second (cell_at cells table k) (only_at table s.token s.cell table k))) in
          not_below.transitive (cell_at (cells_with now table rest) table k) (cell_at now table k) (Some s.cell) (with_grows now table rest table k ordered_now) here
      | false ↦ λ _. with_has now table rest k ordered_now
    ] refl

-- ---- of each

abbrev pub EachOf : (Stored → Type 0) → List Stored → Type 0
EachOf P [] = Unit {0}
EachOf P (s ∷ rest) = P s × EachOf P rest

pub each_weaker : (P Q : Stored → Type 0) → ((s : Stored) → P s → Q s) → (list : List Stored) → EachOf P list → EachOf Q list
each_weaker P Q weaker [] each = tt
each_weaker P Q weaker (s ∷ rest) each = (weaker s each.0, each_weaker P Q weaker rest each.1)

each_front : (P : Stored → Type 0) (n : ℕ) (list : List Stored) → EachOf P list → EachOf P (take n list)
each_front P zero [] each = tt
each_front P zero (s ∷ rest) each = tt
each_front P (suc n) [] each = tt
each_front P (suc n) (s ∷ rest) each = (each.0, each_front P n rest each.1)

-- what bounds the cells that are put, and the old one, bounds the new one
pub with_bounded : (most : Option Cell) (cells : Cells) (table : TableId) (list : List Stored) (t : TableId) (k : Token) → IsOrdered cells → IsNotBelow most (cell_at cells t k) → EachOf (λ s. IsNotBelow most (only_at table s.token s.cell t k)) list → IsNotBelow most (cell_at (cells_with cells table list) t k)
with_bounded most cells table [] t k ordered old each = old
with_bounded most cells table (s ∷ rest) t k ordered old each =
    let now = put_at cells (table, s) in
    let P : Option Cell → Type 0 = λ c. IsNotBelow most c in
    let here : IsNotBelow most (cell_at now t k) =
    subst P (sym (cell_at-put_at cells (table, s) t k ordered)) (greater-least (cell_at cells t k) (only_at table s.token s.cell t k) most old each.0) in
    with_bounded most now table rest t k (IsOrdered-put_at cells (table, s) ordered) here each.1

greater_none : (a : Option Cell) → greater_cell a None ≡ a
greater_none None = refl
greater_none (Some a) = refl

-- what is put elsewhere changes nothing here
pub with_elsewhere : (cells : Cells) (table : TableId) (list : List Stored) (t : TableId) (k : Token) → IsOrdered cells → EachOf (λ s. is_same table s.token t k ≡ false) list → cell_at (cells_with cells table list) t k ≡ cell_at cells t k
with_elsewhere cells table [] t k ordered each = refl
with_elsewhere cells table (s ∷ rest) t k ordered each =
    let now = put_at cells (table, s) in
    let only : only_at table s.token s.cell t k ≡ None = rw each.0 refl in
    with_elsewhere now table rest t k (IsOrdered-put_at cells (table, s) ordered) each.1
    ∙ (cell_at-put_at cells (table, s) t k ordered ∙ (ap (greater_cell (cell_at cells t k)) only ∙ greater_none (cell_at cells t k)))

-- ---- the cells of a chunk are the source's, and in the range

abbrev Tells : Cells → TableId × Stored → Type 0
Tells source e = cell_at source e.0 e.1.token ≡ Some e.1.cell

abbrev EachEntry : (TableId × Stored → Type 0) → Cells → Type 0
EachEntry P [] = Unit {0}
EachEntry P (e ∷ rest) = P e × EachEntry P rest

-- a list that is put behind a first entry tells the same of its own entries
told_behind : (x : TableId × Stored) (all xs : Cells) → IsAfter (rank_of x) xs → EachEntry (Tells all) xs → EachEntry (Tells (x ∷ all)) xs
told_behind x all [] after each = tt
told_behind x all (e ∷ rest) after each =
    let before : rank_of x < rank_of e = after.0 in
    let other : is_same x.0 x.1.token e.0 e.1.token ≡ false = is_same-rank x.0 x.1.token e.0 e.1.token ∙ grind (arith, nat_tests) in
    (rw other each.0, told_behind x all rest after.1 each.1)

entries_told : (xs : Cells) → IsOrdered xs → EachEntry (Tells xs) xs
entries_told [] ordered = tt
entries_told (x ∷ xs) ordered =
    let here : is_same x.0 x.1.token x.0 x.1.token ≡ true = is_same-rank x.0 x.1.token x.0 x.1.token ∙ grind (arith, nat_tests) in
    (rw here refl, told_behind x xs xs ordered.0 (entries_told xs ordered.1))

both_true : (a b : Bool) → (a && b) ≡ true → (a ≡ true) × (b ≡ true)
both_true true true both = (refl, refl)
both_true true false both = cc
both_true false b both = cc

-- a cell of the range, as the source has it
pub record IsOf (source : Cells) (table : TableId) (range : TokenRange) (s : Stored) : Type 0 where
  pub told : cell_at source table s.token ≡ Some s.cell
  pub within : is_within table range table s.token ≡ true

table_is : (a b : TableId) → (a.0 == b.0) ≡ true → a ≡ b
table_is a b e = (let n : a.0 ≡ b.0 = grind (arith, nat_tests) in ap (λ (x : ℕ). let r : TableId = record { 0 = x } in r) n)

cells_of : (source : Cells) (table : TableId) (range : TokenRange) (after : Option Token) (xs : Cells) → EachEntry (Tells source) xs → EachOf (IsOf source table range) (range_cells xs table range after)
cells_of source table range after [] each = tt
cells_of source table range after (e ∷ rest) each =
    elim (is_inside table range e && is_above after e.1.token) as (λ v. (is_inside table range e && is_above after e.1.token) ≡ v → EachOf (IsOf source table range) (map (λ (x : TableId × Stored). x.1) (cond v (e ∷ filter (λ x. is_inside table range x && is_above after x.1.token) rest) (filter (λ x. is_inside table range x && is_above after x.1.token) rest)))) [
      | true ↦ λ asked.
          let inside : is_inside table range e ≡ true = (both_true (is_inside table range e) (is_above after e.1.token) asked).0 in
          let same : e.0 ≡ table = table_is e.0 table (both_true (e.0.0 == table.0) _ inside).0 in
          let P : TableId → Type 0 = λ t. cell_at source t e.1.token ≡ Some e.1.cell in
          let Q : TableId → Type 0 = λ t. is_within table range t e.1.token ≡ true in
          (record { told = subst P same each.0; within = subst Q same inside }, cells_of source table range after rest each.1)
      | false ↦ λ _. cells_of source table range after rest each.1
    ] refl

pub range_cells_of : (source : Cells) (table : TableId) (range : TokenRange) (after : Option Token) → IsOrdered source → EachOf (IsOf source table range) (range_cells source table range after)
range_cells_of source table range after ordered = cells_of source table range after source (entries_told source ordered)

pub chunk_cells_of : (source : Cells) (table : TableId) (range : TokenRange) (after : Option Token) → IsOrdered source → EachOf (IsOf source table range) (take most_cells (range_cells source table range after))
chunk_cells_of source table range after ordered =
    each_front (IsOf source table range) most_cells (range_cells source table range after) (range_cells_of source table range after ordered)
