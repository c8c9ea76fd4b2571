-- Reads never go back behind a repaired one, since no quorum read goes back behind an acknowledged quorum write.
use Rattle.std.proofs.Common.{◌<◌, ℕ, Option, Some, None, refl}
use Rattle.base_ids.specs.declared.ids.LaneId.{LaneId}
use Rattle.base_ids.specs.declared.ids.OpId.{OpId}
use Rattle.base_ids.specs.declared.ids.TableId.{TableId}
use Rattle.cell_merge.specs.Cell.{IsNotBelow}
use Rattle.cell_merge.specs.declared.cell.Cell.{Cell}
use Rattle.token_ring.specs.declared.token.Token.{Token}
use Rattle.stage_graph.specs.declared.level.Level.TheVariants.{Quorum}
use Rattle.quorum_ops.specs.declared.data.Reply.TheVariants.{Read}
use Rattle.cluster_history.specs.History.{History}
use Rattle.cluster_history.specs.Legal.{history_of}
use Rattle.cluster_history.specs.declared.data.Journal.{Journal}
use Rattle.cluster_history.specs.declared.data.Operation.TheVariants.{Read as ReadOf}
use Rattle.answer_law.specs.Told.{IsBegunAt, IsToldAt}
use Rattle.overlap_law.specs.Headline.{QuorumReadsAreNotBelow}
use Rattle.monotone_read.specs.Monotone.{NeverBack}
use Rattle.monotone_read.specs.Repaired.{IsAnswered, IsRepaired, next_of}

above_none : (found : Option Cell) → IsNotBelow found None
above_none None = refl
above_none (Some found) = refl

answered_by : (history : History) → QuorumReadsAreNotBelow history → (answered begin told place : ℕ) (lane reader : LaneId) (op read : OpId) (table : TableId) (token : Token) (cell found : Option Cell) → IsAnswered history answered place lane op table token cell → place < begin → IsBegunAt history begin reader read (ReadOf table token Quorum) → IsToldAt history told reader read (Read found) → IsNotBelow found cell
answered_by history bound answered begin told place lane reader op read table token None found at later begins reads = above_none found
answered_by history bound answered begin told place lane reader op read table token (Some cell) found at later begins reads =
    bound at.wrote place begin told lane reader (next_of op) read table token cell found at.begins at.acked later begins reads

pub never_back : (journal : Journal) → QuorumReadsAreNotBelow (history_of journal) → NeverBack (history_of journal)
never_back journal bound place begin told lane reader op read table token cell found repaired later begins reads =
    answered_by (history_of journal) bound repaired.told begin told place lane reader op read table token cell found repaired.answered later begins reads
