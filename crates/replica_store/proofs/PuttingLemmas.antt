-- Cells that are put one after the other.
use Rattle.std.proofs.Common.{◌≡◌, ℕ, ◌+◌, ◌≤◌, List, length, drop, Option}
use Rattle.base_ids.specs.declared.ids.TableId.{TableId}
use Rattle.replica_store.specs.declared.store.Stored.{Stored}
use Rattle.replica_store.specs.Cells.{Cells, IsOrdered}
use Rattle.replica_store.specs.Puts.{cells_with}

-- there is room for the cells from an index on, no run count has changed, and the cells before it are put
pub record IsPutting (first now : Cells) (first_runs runs : TableId → Option ℕ) (table : TableId) (cells : List Stored) (index spare : ℕ) : Type 0 where
  pub enough : length cells ≤ spare + index
  pub same_runs : (t : TableId) → runs t ≡ first_runs t
  pub ordered : IsOrdered first → IsOrdered now
  pub done : IsOrdered first → cells_with now table (drop index cells) ≡ cells_with first table cells
