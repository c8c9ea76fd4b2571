-- What a store holds: cells, in the order of their tables and within a table of their tokens.
use Rattle.std.specs.Prelude.{◌≡◌, ℕ, ◌+◌, ◌*◌, ◌^◌, ◌<◌, ◌≤◌, ◌<ℤ◌, ◌==◌, ◌&&◌, Bool, true, not, int_le, int_lt, List, [], ◌∷◌, map, filter, Option, Some, None, option_map, if◌then◌else◌}
use Rattle.std.specs.Ordering.{int_eq}
use Rattle.base_ids.specs.declared.ids.TableId.{TableId}
use Rattle.cell_merge.specs.declared.cell.Cell.{Cell}
use Rattle.token_ring.specs.Ring.{offset}
use Rattle.token_ring.specs.declared.token.Token.{Token}
use Rattle.token_ring.specs.declared.ring.TokenRange.{TokenRange}
use Rattle.replica_store.specs.declared.store.Stored.{Stored}

-- the stored cells, each with its table
abbrev pub Cells : Type 0
Cells = List (TableId × Stored)

-- the place of a token of a table among the places of all tables: they follow those of the tables below it
abbrev pub rank : TableId → Token → ℕ
rank table token = table.0 * 2 ^ 64 + offset token.value

-- the place of a stored cell
abbrev pub rank_of : TableId × Stored → ℕ
rank_of e = rank e.0 e.1.token

-- all stand after this place
abbrev pub IsAfter : ℕ → Cells → Type 0
IsAfter first [] = Unit {0}
IsAfter first (e ∷ es) = (first < rank_of e) × IsAfter first es

-- each stands before those that follow it
abbrev pub IsOrdered : Cells → Type 0
IsOrdered [] = Unit {0}
IsOrdered (e ∷ es) = IsAfter (rank_of e) es × IsOrdered es

-- the token of the table
abbrev pub is_same : TableId → Token → TableId → Token → Bool
is_same table token other_table other = (table.0 == other_table.0) && int_eq token.value other.value

-- the cell that is stored for a token of a table
abbrev pub cell_at : Cells → TableId → Token → Option Cell
cell_at [] table token = None
cell_at (e ∷ es) table token = if is_same e.0 e.1.token table token then Some e.1.cell else cell_at es table token

-- the map with one cell alone
abbrev pub only_at : TableId → Token → Cell → TableId → Token → Option Cell
only_at table token cell other_table other = if is_same table token other_table other then Some cell else None

-- a token of a table lies in a range of a table, whose ends are both in it
abbrev pub is_within : TableId → TokenRange → TableId → Token → Bool
is_within table range other_table token = (other_table.0 == table.0) &&
    (int_le range.first.value token.value && int_le token.value range.last.value)

-- the stored cell lies in the range of the table
abbrev pub is_inside : TableId → TokenRange → TableId × Stored → Bool
is_inside table range e = is_within table range e.0 e.1.token

-- every token is above none
abbrev pub is_above : Option Token → Token → Bool
is_above None token = true
is_above (Some after) token = int_lt after.value token.value

-- the stored cells of a range of a table above `after`, in the order of their tokens
abbrev pub range_cells : Cells → TableId → TokenRange → Option Token → List Stored
range_cells cells table range after = map (λ e. e.1) (filter (λ e. is_inside table range e &&
    is_above after e.1.token) cells)

-- all but the cells of a range of a table
abbrev pub outside : Cells → TableId → TokenRange → Cells
outside cells table range = filter (λ e. not (is_inside table range e)) cells

-- the cell of a token in a list of cells of one table
abbrev pub stored_at : List Stored → Token → Option Cell
stored_at [] token = None
stored_at (s ∷ rest) token = if int_eq s.token.value token.value then Some s.cell else stored_at rest token

-- all tokens are above this one
abbrev pub IsAllAbove : Token → List Stored → Type 0
IsAllAbove token [] = Unit {0}
IsAllAbove token (s ∷ rest) = (token.value <ℤ s.token.value) × IsAllAbove token rest

-- each token is below those that follow it
abbrev pub IsAscending : List Stored → Type 0
IsAscending [] = Unit {0}
IsAscending (s ∷ rest) = IsAllAbove s.token rest × IsAscending rest

-- the run count of a table that was to be regrouped: told where it was told before, and a power of two up to 1024
abbrev pub IsRegrouped : Option ℕ → Option ℕ → Type 0
IsRegrouped before now = (log2 : ℕ) × (log2 ≤ 10) × (now ≡ option_map (λ _. 2 ^ log2) before)
