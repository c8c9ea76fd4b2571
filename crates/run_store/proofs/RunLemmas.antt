-- What the searches and changes in one run are to the list of its cells with their table.
use Rattle.std.proofs.Common.{◌≡◌, ℕ, zero, suc, ◌+◌, ◌<◌, ◌≤◌, true, false, Some, List, [], ◌∷◌, ◌++◌, length, take, drop, get_or, set, insert, map, refl, ap, sym, ◌∙◌, arith, ◌==◌}
use Rattle.std.proofs.lemmas.List.{drop-drop}
use Rattle.base_ids.specs.declared.ids.TableId.{TableId}
use Rattle.cell_merge.specs.declared.cell.Cell.{Cell}
use Rattle.token_ring.specs.declared.token.Token.{Token}
use Rattle.token_ring.specs.declared.ring.TokenRange.{TokenRange}
use Rattle.replica_store.specs.declared.store.Stored.{Stored}
use Rattle.replica_store.specs.Cells.{Cells, IsOrdered, rank, rank_of, cell_at, range_cells, outside}
use Rattle.replica_store.specs.Columns.{first_from, begins_at, start_of, end_of, put_at}
use Rattle.replica_store.proofs.OrderLemmas.{first_from-le, before_first, from_first}
use Rattle.replica_store.proofs.ColumnLemmas.{IsOrdered-drop, begins_at-index, begins_at-past, begins_at-within}
use Rattle.replica_store.proofs.PutLemmas.{cell_at-found, greater, put_at-found, put_at-missing}
use Rattle.replica_store.proofs.RangeLemmas.{wanted-run, outside-run}
use Rattle.run_store.specs.Runs.{of_table}

pub length-of_table : (table : TableId) (stored : List Stored) → length (of_table table stored) ≡ length stored
length-of_table table [] = refl
length-of_table table (s ∷ rest) = ap suc (length-of_table table rest)

pub of_table-drop : (table : TableId) (n : ℕ) (stored : List Stored) → of_table table (drop n stored) ≡ drop n (of_table table stored)
of_table-drop table zero stored = refl
of_table-drop table (suc n) [] = refl
of_table-drop table (suc n) (s ∷ rest) = of_table-drop table n rest

pub of_table-take : (table : TableId) (n : ℕ) (stored : List Stored) → of_table table (take n stored) ≡ take n (of_table table stored)
of_table-take table zero stored = refl
of_table-take table (suc n) [] = refl
of_table-take table (suc n) (s ∷ rest) = ap (λ es. (table, s) ∷ es) (of_table-take table n rest)

pub of_table-append : (table : TableId) (first second : List Stored) → of_table table (first ++ second) ≡ of_table table first ++ of_table table second
of_table-append table [] second = refl
of_table-append table (s ∷ rest) second = ap (λ es. (table, s) ∷ es) (of_table-append table rest second)

of_table-set : (table : TableId) (stored : List Stored) (n : ℕ) (s : Stored) → of_table table (set stored n s) ≡ set (of_table table stored) n (table, s)
of_table-set table [] n s = refl
of_table-set table (x ∷ rest) zero s = refl
of_table-set table (x ∷ rest) (suc n) s = ap (λ es. (table, x) ∷ es) (of_table-set table rest n s)

of_table-insert : (table : TableId) (stored : List Stored) (n : ℕ) (s : Stored) → of_table table (insert stored n s) ≡ insert (of_table table stored) n (table, s)
of_table-insert table stored n s = of_table-append table (take n stored) (s ∷ drop n stored) ∙ rw (of_table-take table n stored, of_table-drop table n stored)

-- the pair at an index, with what a read gave
pub get_or-of_table : (table : TableId) (stored : List Stored) (i : ℕ) (s : Stored) → i < length stored → s ≡ get_or stored i s → get_or (of_table table stored) i (table, s) ≡ (table, s)
get_or-of_table table stored i s within is = at table stored i s ∙ ap (λ (x : Stored). (table, x)) (sym is)
  where
    at : (table : TableId) (stored : List Stored) (i : ℕ) (s : Stored) → get_or (of_table table stored) i (table, s) ≡ (table, get_or stored i s)
    at table [] i s = refl
    at table (x ∷ rest) zero s = refl
    at table (x ∷ rest) (suc i) s = at table rest i s

pub IsOrdered-behind : (table : TableId) (stored : List Stored) (n : ℕ) → IsOrdered (of_table table stored) → IsOrdered (of_table table (drop n stored))
IsOrdered-behind table stored n ordered = rw (of_table-drop table n stored) (IsOrdered-drop n (of_table table stored) ordered)

-- halving: the cell in the middle stands before the place, or not
pub lies_before : (table : TableId) (stored : List Stored) (from i : ℕ) (s : Stored) → IsOrdered (of_table table stored) → i < length stored → s ≡ get_or stored i s → rank table s.token < from → i < first_from (of_table table stored) from
lies_before table stored from i s ordered within is before =
    let long = length-of_table table stored in
    let pair = get_or-of_table table stored i s within is in
    let below : rank_of (get_or (of_table table stored) i (table, s)) < from = rw pair before in
    before_first (of_table table stored) from i (table, s) ordered (omega arith) below

pub lies_behind : (table : TableId) (stored : List Stored) (from i : ℕ) (s : Stored) → i < length stored → s ≡ get_or stored i s → from ≤ rank table s.token → first_from (of_table table stored) from ≤ i
lies_behind table stored from i s within is behind =
    let long = length-of_table table stored in
    let pair = get_or-of_table table stored i s within is in
    let above : from ≤ rank_of (get_or (of_table table stored) i (table, s)) = rw pair behind in
    from_first (of_table table stored) from i (table, s) (omega arith) above

pub first_from-within : (table : TableId) (stored : List Stored) (from : ℕ) → first_from (of_table table stored) from ≤ length stored
first_from-within table stored from = omega (arith, length-of_table table stored, first_from-le (of_table table stored) from)

pub begins_at-read : (table : TableId) (stored : List Stored) (i place : ℕ) (s : Stored) → i < length stored → s ≡ get_or stored i s → begins_at (drop i (of_table table stored)) place ≡ (rank table s.token == place)
begins_at-read table stored i place s within is =
    let long = length-of_table table stored in
    begins_at-index (of_table table stored) i place (table, s) (omega arith) ∙ ap (λ (e : TableId × Stored). rank_of e == place) (get_or-of_table table stored i s within is)

pub begins_at-none : (table : TableId) (stored : List Stored) (i place : ℕ) → length stored ≤ i → begins_at (drop i (of_table table stored)) place ≡ false
begins_at-none table stored i place past = begins_at-past (of_table table stored) i place (omega (arith, length-of_table table stored))

pub begins_within : (table : TableId) (stored : List Stored) (i place : ℕ) → begins_at (drop i (of_table table stored)) place ≡ true → i < length stored
begins_within table stored i place begins = omega (arith, length-of_table table stored, begins_at-within (of_table table stored) i place begins)

pub find_found : (table : TableId) (stored : List Stored) (token : Token) (at place : ℕ) (s : Stored) → IsOrdered (of_table table stored) → place ≡ rank table token → at ≡ first_from (of_table table stored) place → begins_at (drop at (of_table table stored)) place ≡ true → s ≡ get_or stored at s → cell_at (of_table table stored) table token ≡ Some s.cell
find_found table stored token at place s ordered place_is at_is begins is =
    let xs = of_table table stored in
    let pair = get_or-of_table table stored at s (begins_within table stored at place begins) is in
    let at_rank : at ≡ first_from xs (rank table token) = at_is ∙ ap (first_from xs) place_is in
    let begins_there : begins_at (drop (first_from xs (rank table token)) xs) (rank table token) ≡ true = rw (← at_rank, ← place_is) begins in
    cell_at-found xs table token (table, s) ordered begins_there ∙ rw (← at_rank) (ap (λ (y : TableId × Stored). Some y.1.cell) pair)

seconds : (table : TableId) (stored : List Stored) → map (λ (e : TableId × Stored). e.1) (of_table table stored) ≡ stored
seconds table [] = refl
seconds table (s ∷ rest) = ap (λ es. s ∷ es) (seconds table rest)

pub range_run : (table : TableId) (stored : List Stored) (range : TokenRange) (after : _) (start count : ℕ) → IsOrdered (of_table table stored) → start ≡ first_from (of_table table stored) (start_of table range after) → count ≡ first_from (drop start (of_table table stored)) (end_of table range) → take count (drop start stored) ≡ range_cells (of_table table stored) table range after
range_run table stored range after start count ordered start_is count_is =
    let xs = of_table table stored in
    let run : take count (drop start xs) ≡ of_table table (take count (drop start stored)) = ap (take count) (sym (of_table-drop table start stored)) ∙ sym (of_table-take table count (drop start stored)) in
    let wanted = rw (← start_is, ← count_is) at (wanted-run xs table range after ordered) in
    sym (ap (map (λ (e : TableId × Stored). e.1)) (wanted ∙ run) ∙ seconds table (take count (drop start stored)))

pub put_found : (table : TableId) (stored : List Stored) (put : Stored) (at place : ℕ) (s : Stored) (cell : Cell) → place ≡ rank table put.token → at ≡ first_from (of_table table stored) place → begins_at (drop at (of_table table stored)) place ≡ true → s ≡ get_or stored at s → cell ≡ greater s.cell put.cell → of_table table (set stored at (record { token = s.token; cell = cell })) ≡ put_at (of_table table stored) (table, put)
put_found table stored put at place s cell place_is at_is begins is cell_is =
    let xs = of_table table stored in
    let pair = get_or-of_table table stored at s (begins_within table stored at place begins) is in
    let at_rank : at ≡ first_from xs (rank table put.token) = at_is ∙ ap (first_from xs) place_is in
    let begins_there : begins_at (drop (first_from xs (rank table put.token)) xs) (rank table put.token) ≡ true = rw (← at_rank, ← place_is) begins in
    let found = rw (← at_rank) at (put_at-found xs (table, put) (table, s) begins_there) in
    of_table-set table stored at (record { token = s.token; cell = cell })
    ∙ ap (λ (c : Cell). set xs at (table, record { token = s.token; cell = c })) cell_is
    ∙ ap (λ (y : TableId × Stored). set xs at (y.0, record { token = y.1.token; cell = greater y.1.cell put.cell })) (sym pair)
    ∙ sym found

pub put_missing : (table : TableId) (stored : List Stored) (put : Stored) (at place : ℕ) → place ≡ rank table put.token → at ≡ first_from (of_table table stored) place → begins_at (drop at (of_table table stored)) place ≡ false → of_table table (insert stored at put) ≡ put_at (of_table table stored) (table, put)
put_missing table stored put at place place_is at_is begins =
    let xs = of_table table stored in
    let at_rank : at ≡ first_from xs (rank table put.token) = at_is ∙ ap (first_from xs) place_is in
    let begins_there : begins_at (drop (first_from xs (rank table put.token)) xs) (rank table put.token) ≡ false = rw (← at_rank, ← place_is) begins in
    of_table-insert table stored at put ∙ rw at_rank (sym (put_at-missing xs (table, put) begins_there))

pub drop_run : (table : TableId) (stored : List Stored) (range : TokenRange) (start count : ℕ) → IsOrdered (of_table table stored) → start ≡ first_from (of_table table stored) (rank table range.first) → count ≡ first_from (drop start (of_table table stored)) (end_of table range) → of_table table (take start stored ++ drop (start + count) stored) ≡ outside (of_table table stored) table range
drop_run table stored range start count ordered start_is count_is =
    let xs = of_table table stored in
    let others = rw (← start_is, ← count_is) at (outside-run xs table range ordered) in
    of_table-append table (take start stored) (drop (start + count) stored)
    ∙ rw (of_table-take table start stored, of_table-drop table (start + count) stored) (ap (λ (es : Cells). take start xs ++ es) (sym (drop-drop count start xs)))
    ∙ sym others
