use Rattle.std.proofs.Common.{◌≡◌, ℕ, ◌<◌, ◌≤◌, get_or, length}
use Rattle.replica_store.specs.Cells.{Cells}
use Rattle.run_store.specs.Tables.{Grouped, IsLaid, store_cells, log2s_of, least_room}
use Rattle.run_store.proofs.tables.reserve.Given as goal

abbrev pub invariant-loop-at : goal.invariant-loop-at
invariant-loop-at l = record {
  laid : (rest : Cells) → IsLaid l.initial.tables.items rest → IsLaid l.tables.items rest;
  cells : (rest : Cells) → store_cells l.tables.items rest ≡ store_cells l.initial.tables.items rest;
  log2s : log2s_of l.tables.items ≡ log2s_of l.initial.tables.items;
  count : length l.tables.items ≡ length l.initial.tables.items;
  room : least_room l.initial.tables.items ≤ least_room l.tables.items;
  each : (k : ℕ) (d : Grouped) → k < l.at → l.n ≤ (get_or l.tables.items k d).spare;
}
