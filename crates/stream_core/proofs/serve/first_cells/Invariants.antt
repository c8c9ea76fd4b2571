use Rattle.std.proofs.Common.{length}
use Rattle.replica_store.specs.Cells.{range_cells}
use Rattle.stream_core.proofs.ChunkLemmas.{IsGathering}
use Rattle.stream_core.proofs.serve.first_cells.Given as goal

abbrev pub invariant-gathering : goal.invariant-gathering
invariant-gathering g l = IsGathering (range_cells (g.S.Store.cells l.store) l.ask.table l.ask.range l.ask.after) l.list (range_cells (g.S.Store.cells l.store) l.ask.table l.ask.range l.after) l.room

abbrev pub decreases-gathering : goal.decreases-gathering
decreases-gathering g l = length (range_cells (g.S.Store.cells l.store) l.ask.table l.ask.range l.after)
