-- The chunk that a host serves, said of what it holds.
use Rattle.std.proofs.Common.{ap, ◌∙◌}
use Rattle.std.specs.Prelude.{None, cond}
use Rattle.cluster_history.proofs.HeldLemmas.{cell_at-held_cells, held_cells-ordered}
use Rattle.cluster_history.specs.Held.{held_cell, held_cells}
use Rattle.cluster_history.specs.Outputs.{serve_outputs}
use Rattle.cluster_history.specs.Topology.{fence_of}
use Rattle.replica_store.proofs.MapLemmas.{IsAscending-range_cells, stored_at-range_cells}
use Rattle.replica_store.specs.Cells.{range_cells}
use Rattle.stream_law.specs.Chunks.{ChunksHaveHeldCells, is_asked}

pub chunks_have_held_cells : ChunksHaveHeldCells
chunks_have_held_cells opening history host at ask asked =
    record {
      all = range_cells (held_cells opening history host) ask.table ask.range ask.after;
      ascending = IsAscending-range_cells (held_cells opening history host) ask.table ask.range ask.after (held_cells-ordered opening history host);
      held = λ token.
          stored_at-range_cells (held_cells opening history host) ask.table ask.range ask.after token
          ∙ ap (λ cell. cond (is_asked ask token) cell None) (cell_at-held_cells opening history host (record { table = ask.table; token = token }));
      sends = ap (serve_outputs (fence_of opening history host) (held_cell opening history host) (held_cells opening history host)) asked;
    }
