-- Reads that are repaired: what a quorum read found was written back by quorum, and the write was acknowledged. A read
-- that found none needs no write.
use Rattle.std.specs.Prelude.{◌≡◌, ◌+◌, ◌<◌, ℕ, Option, Some, None}
use Rattle.base_ids.specs.declared.ids.LaneId.{LaneId}
use Rattle.base_ids.specs.declared.ids.OpId.{OpId}
use Rattle.base_ids.specs.declared.ids.TableId.{TableId}
use Rattle.cell_merge.specs.declared.cell.Cell.{Cell}
use Rattle.token_ring.specs.declared.token.Token.{Token}
use Rattle.stage_graph.specs.declared.level.Level.TheVariants.{Quorum}
use Rattle.quorum_ops.specs.declared.data.Reply.TheVariants.{Ok, Read}
use Rattle.cluster_history.specs.History.{History}
use Rattle.cluster_history.specs.declared.data.Operation.TheVariants.{Read as ReadOf, Write as WriteOf}
use Rattle.answer_law.specs.Told.{IsBegunAt, IsToldAt}

-- the lane's next request
abbrev pub next_of : OpId → OpId
next_of op = record { 0 = op.0 + 1 }

-- the cell was written back by quorum: by the lane's next request, which began after the read's reply, and which was
-- acknowledged at this place
pub record IsWrittenBack
    (history : History) (told place : ℕ) (lane : LaneId) (op : OpId) (table : TableId) (token : Token) (cell : Cell)
    : Type 0 where
  pub wrote : ℕ
  pub later : told < wrote
  pub begins : IsBegunAt history wrote lane (next_of op) (WriteOf table token cell Quorum)
  pub acked : IsToldAt history place lane (next_of op) Ok

-- where a read that was told at an entry is answered: a read of none there, else where the write was acknowledged
abbrev pub IsAnswered : History → ℕ → ℕ → LaneId → OpId → TableId → Token → Option Cell → Type 0
IsAnswered history told place lane op table token None = place ≡ told
IsAnswered history told place lane op table token (Some cell) =
    IsWrittenBack history told place lane op table token cell

-- a repaired read: it began as a quorum read, was told what it found, and is answered at this place
pub record IsRepaired
    (history : History) (place : ℕ) (lane : LaneId) (op : OpId) (table : TableId) (token : Token) (cell : Option Cell)
    : Type 0 where
  pub begin : ℕ
  pub told : ℕ
  pub begins : IsBegunAt history begin lane op (ReadOf table token Quorum)
  pub reads : IsToldAt history told lane op (Read cell)
  pub answered : IsAnswered history told place lane op table token cell
