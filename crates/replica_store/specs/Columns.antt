-- A store in two columns of one length: the tables, and beside each its stored cell.
use Rattle.std.specs.Prelude.{◌≡◌, ℕ, suc, ◌+◌, ◌==◌, Bool, false, List, [], ◌∷◌, length, nat_lt, max, Option, None, Some, if◌then◌else◌}
use Rattle.std.specs.List.{zip}
use Rattle.std.specs.Ordering.{is_lt}
use Rattle.base_ids.specs.declared.ids.TableId.{TableId}
use Rattle.cell_merge.specs.Cell.{cell_order}
use Rattle.token_ring.specs.declared.token.Token.{Token}
use Rattle.token_ring.specs.declared.ring.TokenRange.{TokenRange}
use Rattle.replica_store.specs.declared.store.Stored.{Stored}
use Rattle.replica_store.specs.Cells.{Cells, IsOrdered, rank, rank_of}

-- what callers see of a store: the map, and how many cells can be put without taking memory
pub record Content : Type 0 where
  pub cells : Cells
  pub spare : ℕ

-- both columns have one length, and their pairs stand in order
pub record AreColumns (tables : List TableId) (stored : List Stored) : Type 0 where
  pub one_length : length stored ≡ length tables
  pub ordered : IsOrdered (zip tables stored)

-- the index of the first cell that does not stand before a place, or the length
abbrev pub first_from : Cells → ℕ → ℕ
first_from [] from = 0
first_from (e ∷ es) from = if nat_lt (rank_of e) from then suc (first_from es from) else 0

-- the first cell stands at this place
abbrev pub begins_at : Cells → ℕ → Bool
begins_at [] place = false
begins_at (e ∷ es) place = rank_of e == place

-- the first place of a range above `after`, and the first place behind the range
abbrev pub start_of : TableId → TokenRange → Option Token → ℕ
start_of table range None = rank table range.first
start_of table range (Some after) = max (rank table range.first) (rank table after + 1)

abbrev pub end_of : TableId → TokenRange → ℕ
end_of table range = rank table range.last + 1

-- the list with one more cell in its place, or with the greater one of the two where a cell stands there
abbrev pub put_at : Cells → TableId × Stored → Cells
put_at [] p = p ∷ []
put_at (e ∷ es) p =
    if nat_lt (rank_of e) (rank_of p) then e ∷ put_at es p else if rank_of e == rank_of p
    then (if is_lt (cell_order e.1.cell p.1.cell) then (e.0, record e.1 { cell = p.1.cell }) ∷ es else e ∷ es)
    else p ∷ e ∷ es
