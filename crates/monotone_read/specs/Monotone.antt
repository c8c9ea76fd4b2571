-- Reads never go back behind a repaired one.
use Rattle.std.specs.Prelude.{◌<◌, ℕ, Option}
use Rattle.base_ids.specs.declared.ids.LaneId.{LaneId}
use Rattle.base_ids.specs.declared.ids.OpId.{OpId}
use Rattle.base_ids.specs.declared.ids.TableId.{TableId}
use Rattle.cell_merge.specs.Cell.{IsNotBelow}
use Rattle.cell_merge.specs.declared.cell.Cell.{Cell}
use Rattle.token_ring.specs.declared.token.Token.{Token}
use Rattle.stage_graph.specs.declared.level.Level.TheVariants.{Quorum}
use Rattle.quorum_ops.specs.declared.data.Reply.TheVariants.{Read}
use Rattle.cluster_history.specs.History.{History}
use Rattle.cluster_history.specs.declared.data.Operation.TheVariants.{Read as ReadOf}
use Rattle.answer_law.specs.Told.{IsBegunAt, IsToldAt}
use Rattle.monotone_read.specs.Repaired.{IsRepaired}

-- a quorum read of the same key that began after a repaired read was answered returns no cell below the one that the
-- repaired read returned
abbrev pub NeverBack : History → Type 0
NeverBack history =
    (place begin told : ℕ) (lane reader : LaneId) (op read : OpId) (table : TableId) (token : Token)
    (cell found : Option Cell)
    → IsRepaired history place lane op table token cell
    → place < begin
    → IsBegunAt history begin reader read (ReadOf table token Quorum)
    → IsToldAt history told reader read (Read found)
    → IsNotBelow found cell
