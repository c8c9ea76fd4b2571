-- The runs of a table: for each of its tablets the stored cells, in the order of their tokens.
use Rattle.std.specs.Prelude.{◌≡◌, ℕ, ◌+◌, ◌^◌, ◌≤◌, ◌==◌, ◌&&◌, List, [], ◌∷◌, ◌++◌, length, map, filter, min}
use Rattle.base_ids.specs.declared.ids.TableId.{TableId}
use Rattle.token_ring.specs.Ring.{tablet_at}
use Rattle.replica_store.specs.declared.store.Stored.{Stored}
use Rattle.replica_store.specs.Cells.{Cells, IsOrdered}

-- a run: its stored cells, and how many more it takes without taking memory
pub record Filled : Type 0 where
  pub stored : List Stored
  pub spare : ℕ

-- stored cells, each with their table
abbrev pub of_table : TableId → List Stored → Cells
of_table table stored = map (λ s. (table, s)) stored

-- the cells of a table, run after run
abbrev pub run_cells : TableId → List Filled → Cells
run_cells table [] = []
run_cells table (run ∷ runs) = of_table table run.stored ++ run_cells table runs

-- all tokens have this tablet, of 2^log2
abbrev pub IsOfTablet : ℕ → ℕ → Cells → Type 0
IsOfTablet log2 tablet [] = Unit {0}
IsOfTablet log2 tablet (e ∷ es) = (tablet_at log2 e.1.token.value ≡ tablet) × IsOfTablet log2 tablet es

-- cells in order, all of one tablet
pub record IsRun (log2 : ℕ) (tablet : ℕ) (cells : Cells) : Type 0 where
  pub ordered : IsOrdered cells
  pub own : IsOfTablet log2 tablet cells

-- one run for each tablet from the first on
abbrev pub AreRuns : TableId → ℕ → ℕ → List Filled → Type 0
AreRuns table log2 first [] = Unit {0}
AreRuns table log2 first (run ∷ runs) =
    IsRun log2 first (of_table table run.stored) × AreRuns table log2 (first + 1) runs

-- one run for each of 2^log2 tablets
pub record IsGrouped (table : TableId) (log2 : ℕ) (runs : List Filled) : Type 0 where
  pub few : log2 ≤ 10
  pub count : length runs ≡ 2 ^ log2
  pub each : AreRuns table log2 0 runs

-- of stored cells in the order of their tokens those that lie in the run of the first one, of 2^log2 runs
abbrev pub first_run_cells : ℕ → List Stored → List Stored
first_run_cells log2 [] = []
first_run_cells log2 (first ∷ rest) =
    filter (λ s. tablet_at log2 s.token.value == tablet_at log2 first.token.value) (first ∷ rest)

-- each run is in order
abbrev pub AreOrdered : TableId → List Filled → Type 0
AreOrdered table [] = Unit {0}
AreOrdered table (run ∷ runs) = IsOrdered (of_table table run.stored) × AreOrdered table runs

-- how many cells each run takes without taking memory, and 2^64 where there is no run
abbrev pub least_spare : List Filled → ℕ
least_spare [] = 2 ^ 64
least_spare (run ∷ runs) = min run.spare (least_spare runs)

-- the stored cells of a table's tablet, of 2^log2, in the order of their tokens
abbrev pub tablet_cells : Cells → TableId → ℕ → ℕ → List Stored
tablet_cells cells table log2 tablet =
    map (λ e. e.1) (filter (λ e. (e.0.0 == table.0) && (tablet_at log2 e.1.token.value == tablet)) cells)
