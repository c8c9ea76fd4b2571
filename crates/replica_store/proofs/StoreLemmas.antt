-- What the searches and changes in two columns are to the list of pairs.
use Rattle.std.proofs.Common.{◌≡◌, ℕ, ◌+◌, true, false, Some, List, ◌++◌, length, take, drop, get_or, set, insert, map, ap, sym, ◌∙◌, length-append, length-take, length-drop}
use Rattle.std.specs.List.{zip}
use Rattle.std.proofs.lemmas.Slice.Zip.{seconds-zip}
use Rattle.std.proofs.lemmas.List.{drop-drop}
use Rattle.base_ids.specs.declared.ids.TableId.{TableId}
use Rattle.cell_merge.specs.declared.cell.Cell.{Cell}
use Rattle.token_ring.specs.declared.token.Token.{Token}
use Rattle.token_ring.specs.declared.ring.TokenRange.{TokenRange}
use Rattle.replica_store.specs.declared.store.Stored.{Stored}
use Rattle.replica_store.specs.Cells.{Cells, IsOrdered, rank, cell_at, range_cells, outside}
use Rattle.replica_store.specs.Columns.{AreColumns, first_from, begins_at, start_of, end_of, put_at}
use Rattle.replica_store.proofs.ColumnLemmas.{zip-drop, zip-take, zip-cut, zip-insert, zip-set, begins_at-within, get_or-columns}
use Rattle.replica_store.proofs.PutLemmas.{cell_at-found, greater, put_at-found, put_at-missing, IsOrdered-put_at}
use Rattle.replica_store.proofs.RangeLemmas.{wanted-run, outside-run, IsOrdered-outside}

pub find_found : (tables : List TableId) (stored : List Stored) (table : TableId) (token : Token) (at place : ℕ) (e : Stored) → AreColumns tables stored → place ≡ rank table token → at ≡ first_from (zip tables stored) place → begins_at (drop at (zip tables stored)) place ≡ true → e ≡ get_or stored at e → cell_at (zip tables stored) table token ≡ Some e.cell
find_found tables stored table token at place e columns place_is at_is begins e_is =
    let xs = zip tables stored in
    let d : TableId = record { 0 = 0 } in
    let pair = get_or-columns tables stored at d e columns.one_length (begins_at-within xs at place begins) e_is in
    let at_rank : at ≡ first_from xs (rank table token) = at_is ∙ ap (first_from xs) place_is in
    let begins_there : begins_at (drop (first_from xs (rank table token)) xs) (rank table token) ≡ true = rw (← at_rank, ← place_is) begins in
    cell_at-found xs table token (d, e) columns.ordered begins_there ∙ rw (← at_rank) (ap (λ (y : TableId × Stored). Some y.1.cell) pair)

pub range_run : (tables : List TableId) (stored : List Stored) (table : TableId) (range : TokenRange) (after : _) (start count : ℕ) → AreColumns tables stored → start ≡ first_from (zip tables stored) (start_of table range after) → count ≡ first_from (drop start (zip tables stored)) (end_of table range) → take count (drop start stored) ≡ range_cells (zip tables stored) table range after
range_run tables stored table range after start count columns start_is count_is =
    let xs = zip tables stored in
    let lengths : length (take count (drop start stored)) ≡ length (take count (drop start tables)) = simp (length-take, length-drop, columns.one_length) in
    let run : take count (drop start xs) ≡ zip (take count (drop start tables)) (take count (drop start stored)) = ap (take count) (sym (zip-drop start tables stored)) ∙ sym (zip-take count (drop start tables) (drop start stored)) in
    let wanted = rw (← start_is, ← count_is) at (wanted-run xs table range after columns.ordered) in
    sym (ap (map (λ (e : TableId × Stored). e.1)) (wanted ∙ run) ∙ seconds-zip (take count (drop start tables)) (take count (drop start stored)) lengths)

pub put_found : (tables : List TableId) (stored : List Stored) (table : TableId) (put : Stored) (at place : ℕ) (e : Stored) (cell : Cell) → AreColumns tables stored → place ≡ rank table put.token → at ≡ first_from (zip tables stored) place → begins_at (drop at (zip tables stored)) place ≡ true → e ≡ get_or stored at e → cell ≡ greater e.cell put.cell → zip tables (set stored at (record { token = e.token; cell = cell })) ≡ put_at (zip tables stored) (table, put)
put_found tables stored table put at place e cell columns place_is at_is begins e_is cell_is =
    let xs = zip tables stored in
    let d : TableId = record { 0 = 0 } in
    let pair = get_or-columns tables stored at d e columns.one_length (begins_at-within xs at place begins) e_is in
    let at_rank : at ≡ first_from xs (rank table put.token) = at_is ∙ ap (first_from xs) place_is in
    let begins_there : begins_at (drop (first_from xs (rank table put.token)) xs) (rank table put.token) ≡ true = rw (← at_rank, ← place_is) begins in
    let found = rw (← at_rank) at (put_at-found xs (table, put) (d, e) begins_there) in
    zip-set tables stored at d (record { token = e.token; cell = cell })
    ∙ ap (λ (c : Cell). set xs at (get_or tables at d, record { token = e.token; cell = c })) cell_is
    ∙ ap (λ (y : TableId × Stored). set xs at (y.0, record { token = y.1.token; cell = greater y.1.cell put.cell })) (sym pair)
    ∙ sym found

pub put_missing : (tables : List TableId) (stored : List Stored) (table : TableId) (put : Stored) (at place : ℕ) → AreColumns tables stored → place ≡ rank table put.token → at ≡ first_from (zip tables stored) place → begins_at (drop at (zip tables stored)) place ≡ false → zip (insert tables at table) (insert stored at put) ≡ put_at (zip tables stored) (table, put)
put_missing tables stored table put at place columns place_is at_is begins =
    let xs = zip tables stored in
    let at_rank : at ≡ first_from xs (rank table put.token) = at_is ∙ ap (first_from xs) place_is in
    let begins_there : begins_at (drop (first_from xs (rank table put.token)) xs) (rank table put.token) ≡ false = rw (← at_rank, ← place_is) begins in
    zip-insert at tables stored table put columns.one_length ∙ rw at_rank (sym (put_at-missing xs (table, put) begins_there))

-- columns that show a list with one more cell in its place
pub AreColumns-put : (tables : List TableId) (stored : List Stored) (xs : Cells) (p : TableId × Stored) → length stored ≡ length tables → zip tables stored ≡ put_at xs p → IsOrdered xs → AreColumns tables stored
AreColumns-put tables stored xs p same shown ordered = record { one_length = same; ordered = rw shown (IsOrdered-put_at xs p ordered) }

pub drop_run : (tables : List TableId) (stored : List Stored) (table : TableId) (range : TokenRange) (start count : ℕ) → AreColumns tables stored → start ≡ first_from (zip tables stored) (rank table range.first) → count ≡ first_from (drop start (zip tables stored)) (end_of table range) → zip (take start tables ++ drop (start + count) tables) (take start stored ++ drop (start + count) stored) ≡ outside (zip tables stored) table range
drop_run tables stored table range start count columns start_is count_is =
    let xs = zip tables stored in
    let others = rw (← start_is, ← count_is) at (outside-run xs table range columns.ordered) in
    zip-cut start tables (drop (start + count) tables) stored (drop (start + count) stored) columns.one_length
    ∙ ap (λ (es : Cells). take start xs ++ es) (zip-drop (start + count) tables stored ∙ sym (drop-drop count start xs)) ∙ sym others

pub AreColumns-drop_run : (tables : List TableId) (stored : List Stored) (xs : Cells) (table : TableId) (range : TokenRange) → length stored ≡ length tables → zip tables stored ≡ outside xs table range → IsOrdered xs → AreColumns tables stored
AreColumns-drop_run tables stored xs table range same shown ordered = record { one_length = same; ordered = rw shown (IsOrdered-outside xs table range ordered) }

pub length-cut : {X Y : Type 0} (xs : List X) (ys : List Y) (start end : ℕ) → length ys ≡ length xs → length (take start ys ++ drop end ys) ≡ length (take start xs ++ drop end xs)
length-cut xs ys start end same = simp (length-append, length-take, length-drop, same)

pub length-insert : {X Y : Type 0} (xs : List X) (ys : List Y) (at : ℕ) (x : X) (y : Y) → length ys ≡ length xs → length (insert ys at y) ≡ length (insert xs at x)
length-insert xs ys at x y same = simp (length-append, length-take, length-drop, same)
