-- What every client of the cluster may rely on, of each legal run: stated over the entries of its journal and the
-- replies among their outputs. Entries are numbered from 1, the oldest first, and a request is named by its lane and
-- its number there. That a request began at an entry, and that its client was told a reply by one, are words of
-- answer_law.
use Rattle.std.specs.Prelude.{Option, Some, length, ℕ, ◌+◌, ◌<◌, ◌≡◌}
use Rattle.answer_law.specs.Answers.{StaleBelowFences, TimeoutShort}
use Rattle.answer_law.specs.Told.{IsBegunAt, IsToldAt, ReadsAreWritten}
use Rattle.base_ids.specs.declared.ids.LaneId.{LaneId}
use Rattle.base_ids.specs.declared.ids.OpId.{OpId}
use Rattle.base_ids.specs.declared.ids.TableId.{TableId}
use Rattle.base_ids.specs.declared.ids.Version.{Version}
use Rattle.cell_merge.specs.Cell.{IsNotBelow}
use Rattle.cell_merge.specs.declared.cell.Cell.{Cell}
use Rattle.cluster_history.specs.History.{History}
use Rattle.cluster_history.specs.Legal.{history_of}
use Rattle.cluster_history.specs.declared.data.Journal.{Journal}
use Rattle.cluster_history.specs.declared.data.Opening.{Opening}
use Rattle.cluster_history.specs.declared.data.Operation.TheVariants.{Read as ReadOf, Write as WriteOf}
use Rattle.quorum_ops.specs.declared.data.Reply.TheVariants.{Ok, Read}
use Rattle.register_model.specs.Register.{IsRegisterRun}
use Rattle.register_model.specs.declared.data.Key.{Key}
use Rattle.stage_graph.specs.Needs.{base_need}
use Rattle.stage_graph.specs.declared.level.Level.{Level}
use Rattle.stage_graph.specs.declared.level.Level.TheVariants.{Quorum}
use Rattle.tablet_map.specs.declared.tablet.Tablet.{Tablet}
use Rattle.token_ring.specs.declared.token.Token.{Token}
use Rattle.overlap_law.specs.ClientEvents.{client_events}
use Rattle.overlap_law.specs.Covered.{view_at}

-- ---- the case that is met most

-- No quorum read returns less than a quorum write of its key that was acknowledged before the read began. None is below
-- every cell, so a read returns none only where no quorum write of its key was acknowledged before it began. It is a
-- case of the clause below, since two quorums overlap, however many replicas the tablet has.
abbrev pub QuorumReadsAreNotBelow : History → Type 0
QuorumReadsAreNotBelow history =
    (wrote acked begin told : ℕ) (writer reader : LaneId) (write read : OpId)
    (table : TableId) (token : Token) (written : Cell) (cell : Option Cell) →
    IsBegunAt history wrote writer write (WriteOf table token written Quorum) →
    IsToldAt history acked writer write Ok →
    acked < begin →
    IsBegunAt history begin reader read (ReadOf table token Quorum) →
    IsToldAt history told reader read (Read cell) →
    IsNotBelow cell (Some written)

-- ---- operations of any level

-- A write and a read of a key overlap: what their levels ask for is together more than the key's tablet has replicas.
-- No command changes how many it has, so it is one number at all versions at which the table is there.
pub record Overlap (opening : Opening) (history : History) (key : Key) (write read : Level) : Type 0 where
  pub version : Version
  pub tablet : Tablet
  pub shown : view_at opening history version key ≡ Some tablet
  pub over : length tablet.replicas < base_need write (length tablet.replicas) + base_need read (length tablet.replicas)

-- No read returns less than an overlapping write of its key that was acknowledged before the read began. None is below
-- every cell, so a read returns none only where no overlapping write of its key was acknowledged before it began.
abbrev pub ReadsAreNotBelow : Opening → History → Type 0
ReadsAreNotBelow opening history =
    (wrote acked begin told : ℕ) (writer reader : LaneId) (write read : OpId)
    (table : TableId) (token : Token) (written : Cell) (cell : Option Cell) (writes reads : Level) →
    Overlap opening history (record { table = table; token = token }) writes reads →
    IsBegunAt history wrote writer write (WriteOf table token written writes) →
    IsToldAt history acked writer write Ok →
    acked < begin →
    IsBegunAt history begin reader read (ReadOf table token reads) →
    IsToldAt history told reader read (Read cell) →
    IsNotBelow cell (Some written)

-- The headline. Of every legal run:
--   no read returns less than an overlapping write of its key that was acknowledged before the read began;
--   a read returns none or a cell that a write of its key began with;
--   a request is refused as stale only below fences, each above the request's version;
--   it is given up only where fewer replicas than it needs had answered;
--   what clients see is a run of the register machine, which knows no replica, tablet or version.
pub record IsHeadline (journal : Journal) : Type 0 where
  pub not_below : ReadsAreNotBelow journal.opening (history_of journal)
  pub written : ReadsAreWritten (history_of journal)
  pub stale : StaleBelowFences journal.opening (history_of journal)
  pub timeout : TimeoutShort journal.opening (history_of journal)
  pub register_run : IsRegisterRun (client_events journal)
