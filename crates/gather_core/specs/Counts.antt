-- How many cells a range has, and how many of them are new.
use Rattle.std.specs.Prelude.{◌≡◌, ◌≤ℤ◌, ◌||◌, ℕ, Bool, true, false, not, int_lt, List, [], ◌∷◌, length, Option, Some, None}
use Rattle.std.specs.List.{count_by}
use Rattle.std.specs.Ordering.{is_eq}
use Rattle.base_ids.specs.declared.ids.TableId.{TableId}
use Rattle.cell_merge.specs.Cell.{cell_order}
use Rattle.cell_merge.specs.declared.cell.Cell.{Cell}
use Rattle.token_ring.specs.declared.ring.TokenRange.{TokenRange}
use Rattle.token_ring.specs.declared.token.Token.{Token}
use Rattle.replica_store.specs.Cells.{Cells, cell_at, range_cells, stored_at}
use Rattle.replica_store.specs.declared.store.Stored.{Stored}

-- how many cells a range has
abbrev pub cells_held : Cells → TableId → TokenRange → ℕ
cells_held cells table range = length (range_cells cells table range None)

-- a cell that was not there before
abbrev pub is_new : Option Cell → Cell → Bool
is_new None cell = true
is_new (Some before) cell = not (is_eq (cell_order before cell))

-- how many tokens of a range have a cell that they had not before
abbrev pub cells_new : Cells → Cells → TableId → TokenRange → ℕ
cells_new before now table range =
    count_by (λ (s : Stored). is_new (cell_at before table s.token) s.cell) (range_cells now table range None)

-- how many cells of a list are not in one that was there before
abbrev pub new_in : List Stored → List Stored → ℕ
new_in before now = count_by (λ (s : Stored). is_new (stored_at before s.token) s.cell) now

-- a cell has a greater token than one before, or is another one
abbrev pub is_other : Stored → Stored → Bool
is_other before stored =
    int_lt stored.token.value before.token.value || not (is_eq (cell_order before.cell stored.cell))

-- the first of these cells is below the token
abbrev pub starts_below : Token → List Stored → Bool
starts_below token [] = false
starts_below token (s ∷ rest) = int_lt s.token.value token.value

-- the first of these cells is not below the token
abbrev pub IsFrom : Token → List Stored → Type 0
IsFrom token [] = Unit {0}
IsFrom token (s ∷ rest) = token.value ≤ℤ s.token.value
