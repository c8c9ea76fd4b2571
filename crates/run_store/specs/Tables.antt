-- A store of tables that have runs of their own, and of one sorted list for the rest.
use Rattle.std.specs.Prelude.{◌≡◌, ℕ, suc, ◌≤◌, ◌==◌, ◌||◌, ◌^◌, Bool, false, not, List, [], ◌∷◌, map, filter, min, if◌then◌else◌}
use Rattle.base_ids.specs.declared.ids.TableId.{TableId}
use Rattle.replica_store.specs.Cells.{Cells, IsOrdered}
use Rattle.replica_store.specs.Columns.{put_at}

-- a table with runs of its own: 2^log2 of them, with these cells, and how many more each takes without taking memory
pub record Grouped : Type 0 where
  pub table : TableId
  pub log2 : ℕ
  pub cells : Cells
  pub spare : ℕ

-- what callers see of a store: the map, how many cells can be put without taking memory, and of each table that has
-- runs of its own the logarithm of their count
pub record Laid : Type 0 where
  pub cells : Cells
  pub spare : ℕ
  pub log2s : List (TableId × ℕ)

-- all are cells of this table
abbrev pub IsOfTable : TableId → Cells → Type 0
IsOfTable table [] = Unit {0}
IsOfTable table (e ∷ es) = (e.0.0 ≡ table.0) × IsOfTable table es

-- at most 1024 runs, and cells of this table, in order
pub record IsGrouped (grouped : Grouped) : Type 0 where
  pub few : grouped.log2 ≤ 10
  pub ordered : IsOrdered grouped.cells
  pub own : IsOfTable grouped.table grouped.cells

abbrev pub AreTables : List Grouped → Type 0
AreTables [] = Unit {0}
AreTables (g ∷ gs) = IsGrouped g × AreTables gs

-- the list with all these cells put in
abbrev pub put_all : Cells → Cells → Cells
put_all [] cells = cells
put_all (e ∷ es) cells = put_at (put_all es cells) e

-- the cells of the other tables
abbrev pub without : TableId → Cells → Cells
without table cells = filter (λ e. not (e.0.0 == table.0)) cells

-- the cells of a store: a table's own where it has runs of its own, else those among the rest
abbrev pub store_cells : List Grouped → Cells → Cells
store_cells [] rest = rest
store_cells (g ∷ gs) rest = put_all g.cells (without g.table (store_cells gs rest))

-- where the cells of a table lie
abbrev pub cells_of : List Grouped → Cells → TableId → Cells
cells_of [] rest table = rest
cells_of (g ∷ gs) rest table = if g.table.0 == table.0 then g.cells else cells_of gs rest table

-- the index of a table among those with runs of their own, or their count
abbrev pub index_of : List Grouped → TableId → ℕ
index_of [] table = 0
index_of (g ∷ gs) table = if g.table.0 == table.0 then 0 else suc (index_of gs table)

-- the logarithm of a table's run count: 0 for one without runs of its own
abbrev pub log2_of : List (TableId × ℕ) → TableId → ℕ
log2_of [] table = 0
log2_of (p ∷ ps) table = if p.0.0 == table.0 then p.1 else log2_of ps table

-- the table has runs of its own
abbrev pub has_own : List (TableId × ℕ) → TableId → Bool
has_own [] table = false
has_own (p ∷ ps) table = (p.0.0 == table.0) || has_own ps table

-- how many cells each table takes without taking memory, and 2^64 where there is none
abbrev pub least_room : List Grouped → ℕ
least_room [] = 2 ^ 64
least_room (g ∷ gs) = min g.spare (least_room gs)

-- what is in the parts of a store: tables with runs, and the rest in order
pub record IsLaid (tables : List Grouped) (others : Cells) : Type 0 where
  pub each : AreTables tables
  pub rest : IsOrdered others

-- the logarithms of the run counts of tables with runs of their own
abbrev pub log2s_of : List Grouped → List (TableId × ℕ)
log2s_of tables = map (λ g. (g.table, g.log2)) tables
