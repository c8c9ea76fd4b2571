-- What a waiting read or write is seen as, and what an answer changes.
use Rattle.std.specs.Prelude.{ℕ, ◌≡◌, List, Option, None, if◌then◌else◌, nat_le, nat_lt}
use Rattle.base_ids.specs.declared.ids.LaneId.{LaneId}
use Rattle.base_ids.specs.declared.ids.OpId.{OpId}
use Rattle.base_ids.specs.declared.ids.Replica.{Replica}
use Rattle.base_ids.specs.declared.ids.Version.{Version}
use Rattle.cell_merge.specs.declared.cell.Cell.{Cell}
use Rattle.cell_merge.specs.Cell.{greater_cell}
use Rattle.quorum_tally.specs.declared.tally.Mark.{Mark}
use Rattle.quorum_tally.specs.declared.tally.Mark.TheVariants.{Fresh, Repeat, Stranger}
use Rattle.quorum_tally.specs.declared.tally.Standing.TheVariants.{Answered, Refused}
use Rattle.quorum_tally.specs.declared.tally.Verdict.TheVariants.{Open}
use Rattle.quorum_tally.specs.Standings.{Standings, unmarked_standings, mark_of, marked_standings, answered_places, refused_places, hopeful_count, verdict_of}
use Rattle.quorum_ops.specs.declared.data.WriteAsk.{WriteAsk}
use Rattle.quorum_ops.specs.declared.data.ReadAsk.{ReadAsk}
use Rattle.quorum_ops.specs.declared.data.Answer.{Answer}
use Rattle.quorum_ops.specs.declared.data.Said.{Said}
use Rattle.quorum_ops.specs.declared.data.Said.TheVariants.{Written, Found, Stale}
use Rattle.quorum_ops.specs.declared.data.Reply.{Reply}
use Rattle.quorum_ops.specs.declared.data.Reply.TheVariants.{Ok as OkReply, Read as ReadReply, Stale as StaleReply, Timeout}
use Rattle.quorum_ops.specs.declared.taking.Taking.{Taking}
use Rattle.quorum_ops.specs.declared.taking.Taking.TheVariants.{Decided, Waiting}

-- a request that waits for answers: its name, its targets with how each stands, and its need
pub record Pending : Type 0 where
  pub lane : LaneId
  pub op : OpId
  pub tally : Standings

-- a read that waits also has the greatest cell of the answers that count
pub record PendingRead : Type 0 where
  pub request : Pending
  pub greatest : Option Cell

abbrev pub pending_of : LaneId → OpId → List Replica → ℕ → Pending
pending_of lane op targets need = record { lane = lane; op = op; tally = unmarked_standings targets need }

abbrev pub pending_read_of : LaneId → OpId → List Replica → ℕ → PendingRead
pending_read_of lane op targets need = record { request = pending_of lane op targets need; greatest = None }

-- the answer is one to this request
pub record NamesRequest (pending : Pending) (answer : Answer) : Type 0 where
  pub lane : answer.lane ≡ pending.lane
  pub op : answer.op ≡ pending.op

-- nothing is decided yet
abbrev pub IsUndecided : Pending → Type 0
IsUndecided pending = verdict_of pending.tally ≡ Open

-- ---- an answer that is taken

abbrev pub marked_by : Standings → Replica → Said → Standings
marked_by tally from Written = marked_standings tally from Answered
marked_by tally from (Found cell) = marked_standings tally from Answered
marked_by tally from (Stale fence) = marked_standings tally from Refused

abbrev pub after_answer : Pending → Answer → Pending
after_answer pending answer = record pending { tally = marked_by pending.tally answer.from answer.said }

abbrev pub found_cell : Said → Option Cell
found_cell Written = None
found_cell (Found cell) = cell
found_cell (Stale fence) = None

-- the cell of an answer is looked at where the answer counts
abbrev pub greatest_after : Mark → Option Cell → Said → Option Cell
greatest_after Fresh greatest said = greater_cell greatest (found_cell said)
greatest_after Repeat greatest said = greatest
greatest_after Stranger greatest said = greatest

abbrev pub read_after_answer : PendingRead → Answer → PendingRead
read_after_answer read answer =
    record {
      request = after_answer read.request answer;
      greatest = greatest_after (mark_of read.request.tally answer.from) read.greatest answer.said;
    }

-- ---- what is decided then

-- data decides once enough have answered, with the reply that is given
abbrev pub data_taking : Standings → Reply → Taking
data_taking tally reply = if nat_le tally.need (answered_places tally) then Decided reply else Waiting

-- a refusal decides once those that are left are fewer than needed, with its own fence
abbrev pub refusal_taking : Standings → Version → Taking
refusal_taking tally fence =
    if nat_lt (hopeful_count tally) tally.need then Decided (StaleReply (refused_places tally) fence) else Waiting

abbrev pub taking_after : Standings → Said → Reply → Taking
taking_after tally Written reply = data_taking tally reply
taking_after tally (Found cell) reply = data_taking tally reply
taking_after tally (Stale fence) reply = refusal_taking tally fence

abbrev pub write_taking : Pending → Answer → Taking
write_taking write answer = taking_after (after_answer write answer).tally answer.said OkReply

abbrev pub read_taking : PendingRead → Answer → Taking
read_taking read answer =
    taking_after (after_answer read.request answer).tally answer.said
    (ReadReply (read_after_answer read answer).greatest)

abbrev pub timeout_of : Pending → Reply
timeout_of pending = Timeout (answered_places pending.tally) pending.tally.need

-- ---- the asks

abbrev pub write_to : WriteAsk → Replica → WriteAsk
write_to ask to = record ask { to = to }

abbrev pub read_to : ReadAsk → Replica → ReadAsk
read_to ask to = record ask { to = to }
