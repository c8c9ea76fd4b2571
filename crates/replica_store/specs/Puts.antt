-- Cells that are put into a map one after the other.
use Rattle.std.specs.Prelude.{List, [], ◌∷◌}
use Rattle.base_ids.specs.declared.ids.TableId.{TableId}
use Rattle.replica_store.specs.declared.store.Stored.{Stored}
use Rattle.replica_store.specs.Cells.{Cells}
use Rattle.replica_store.specs.Columns.{put_at}

-- the map with these cells of a table put in, one after the other
abbrev pub cells_with : Cells → TableId → List Stored → Cells
cells_with cells table [] = cells
cells_with cells table (stored ∷ rest) = cells_with (put_at cells (table, stored)) table rest
