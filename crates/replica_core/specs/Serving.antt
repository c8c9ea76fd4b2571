-- What a replica answers to a request, and what it stores. A request below the fence is refused: ScyllaDB's stale
-- topology exception.
use Rattle.std.specs.Prelude.{Bool, nat_lt, Option, if◌then◌else◌}
use Rattle.base_ids.specs.declared.ids.Version.{Version}
use Rattle.quorum_ops.specs.declared.data.Answer.{Answer}
use Rattle.quorum_ops.specs.declared.data.ReadAsk.{ReadAsk}
use Rattle.quorum_ops.specs.declared.data.Said.{Said}
use Rattle.quorum_ops.specs.declared.data.Said.TheVariants.{Written, Found, Stale}
use Rattle.quorum_ops.specs.declared.data.WriteAsk.{WriteAsk}
use Rattle.replica_store.specs.Cells.{Cells, cell_at}
use Rattle.replica_store.specs.Columns.{put_at}

abbrev pub is_stale : Version → Version → Bool
is_stale version fence = nat_lt version.0 fence.0

-- what is said to a request of this version, where a request that is not refused is told `said`
abbrev pub said_by_fence : Version → Version → Said → Said
said_by_fence version fence said = if is_stale version fence then Stale fence else said

abbrev pub write_answer : Version → WriteAsk → Answer
write_answer fence ask =
    record { lane = ask.lane; op = ask.op; from = ask.to; said = said_by_fence ask.version fence Written }

abbrev pub read_answer : Version → Cells → ReadAsk → Answer
read_answer fence cells ask =
    record {
      lane = ask.lane;
      op = ask.op;
      from = ask.to;
      said = said_by_fence ask.version fence (Found (cell_at cells ask.table ask.token));
    }

-- the cells of a replica after a write: a refused one stores nothing
abbrev pub written_cells : Version → Cells → WriteAsk → Cells
written_cells fence cells ask =
    if is_stale ask.version fence then cells else put_at cells (
      ask.table,
      record { token = ask.token; cell = ask.cell },
    )
