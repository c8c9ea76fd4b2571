-- What a shorthand has still to do, as tasks one after the other. Each task chooses its events from the journal so far.
use Rattle.std.specs.Prelude.{Bool, List, None, Option, Some, [], if◌then◌else◌, length, nat_lt, option_to_list, ◌++◌, ◌+◌, ◌∷◌}
use Rattle.base_ids.specs.declared.ids.HostId.{HostId}
use Rattle.base_ids.specs.declared.ids.LaneId.{LaneId}
use Rattle.base_ids.specs.declared.ids.MsgRef.{MsgRef}
use Rattle.base_ids.specs.declared.ids.OpId.{OpId}
use Rattle.cell_merge.specs.declared.cell.Cell.{Cell}
use Rattle.cluster_history.specs.Held.{has_done}
use Rattle.cluster_history.specs.History.{output_at}
use Rattle.cluster_history.specs.Legal.{history_of}
use Rattle.cluster_history.specs.Requests.{is_live}
use Rattle.cluster_history.specs.Topology.{applied_count, log_of, version_of}
use Rattle.cluster_history.specs.declared.data.Event.{Event}
use Rattle.cluster_history.specs.declared.data.Event.TheVariants.{Answer, Apply, Begin, Clean, Hear, Pull, Serve, Take, TakeChunk}
use Rattle.cluster_history.specs.declared.data.Journal.{Journal}
use Rattle.cluster_history.specs.declared.data.Message.{Message}
use Rattle.cluster_history.specs.declared.data.Message.TheVariants.{Read as ReadSent, Write as WriteSent}
use Rattle.cluster_history.specs.declared.data.Operation.{Operation}
use Rattle.cluster_history.specs.declared.data.Operation.TheVariants.{Write}
use Rattle.cluster_history.specs.declared.data.Output.{Output}
use Rattle.cluster_history.specs.declared.data.Output.TheVariants.{Reply as Replied, Sent}
use Rattle.quorum_ops.specs.Follows.{follow_up}
use Rattle.quorum_ops.specs.declared.follow.Follow.{Follow}
use Rattle.quorum_ops.specs.declared.follow.Follow.TheVariants.{Answered, Ended, WriteBack as ToWriteBack}
use Rattle.schedule_play.specs.declared.tasks.RepairedRead.{RepairedRead}
use Rattle.schedule_play.specs.declared.tasks.Task.{Task}
use Rattle.schedule_play.specs.declared.tasks.Target.{Target}
use Rattle.schedule_play.specs.declared.tasks.Task.TheVariants.{AnswerNewest, CatchUp, CleanNewest, HearNewest, Play, PullOn, ServeChunk, ServeTarget, TakeAnswer, TakeNewestChunk, WriteBack}
use Rattle.stage_graph.specs.declared.level.Level.TheVariants.{Quorum}

-- the message that the newest entry sent first
abbrev pub newest : Journal → MsgRef
newest journal = record { event = length journal.entries; out = 0 }

-- the host has not applied the whole log
abbrev pub is_behind : Journal → HostId → Bool
is_behind journal host = nat_lt (applied_count (history_of journal) host) (length (log_of (history_of journal)))

-- the number of the request that a message asks for, and the host that it asks
abbrev pub asked_in : Message → Option (OpId × HostId)
asked_in (WriteSent ask) = Some (ask.op, ask.to.host)
asked_in (ReadSent ask) = Some (ask.op, ask.to.host)
asked_in message = None

-- the same of an output, where it is a message
abbrev pub asked_by : Option Output → Option (OpId × HostId)
asked_by (Some (Sent message)) = asked_in message
asked_by output = None

-- that host, as long as the request is live
abbrev pub live_target : Journal → LaneId → Option (OpId × HostId) → Option HostId
live_target journal lane None = None
live_target journal lane (Some asked) = if is_live (history_of journal) lane asked.0 then Some asked.1 else None

-- the ask of a target: the begin has one for each target, in their order
abbrev pub ask_at : Target → MsgRef
ask_at target = record { event = target.begun; out = target.place }

-- the next target of the same begin
abbrev pub behind : Target → Target
behind target = record target { place = target.place + 1 }

-- the host of a target, where there is such a target and the request is not decided
abbrev pub target_of : Journal → Target → Option HostId
target_of journal target =
    live_target journal target.lane (asked_by (output_at (history_of journal) (ask_at target)))

-- an event, and what is then left of the task, if anything
abbrev pub Turn : Type 0
Turn = Event × Option Task

-- where that host is to serve: it serves the ask, and the answer is taken
abbrev pub serve_turn : Target → Option HostId → Option Turn
serve_turn target None = None
serve_turn target (Some host) = Some (Serve host (ask_at target), Some (TakeAnswer target))

-- what follows an output of a read: nothing where it is no reply
abbrev pub follow_of : Option Output → Follow
follow_of (Some (Replied op version kind reply)) = follow_up reply
follow_of output = Ended

-- the write of the cell that a read found
abbrev pub written_back : RepairedRead → Cell → Operation
written_back read cell = Write read.table read.token cell Quorum

-- where a cell is to be written back: the next entry is the begin of that write at the version that the host is at, and
-- its targets follow
abbrev pub write_back_turn : Journal → RepairedRead → Follow → Option Turn
write_back_turn journal read (ToWriteBack cell) = Some (
  Begin read.lane (written_back read cell) (version_of journal.opening (history_of journal) read.lane.host),
  Some (ServeTarget (record { lane = read.lane; begun = length journal.entries + 1; place = 0 })),
)
write_back_turn journal read Answered = None
write_back_turn journal read Ended = None

-- The next event of a task after a journal, or none where nothing is left of it.
abbrev pub turn : Journal → Task → Option Turn
-- this event
turn journal (Play event) = Some (event, None)
-- the host applies until it has applied the whole log
turn journal (CatchUp host) = if is_behind journal host then Some (Apply host, Some (CatchUp host)) else None
-- the newest message is answered, served by a cleanup, or heard
turn journal (AnswerNewest host) = Some (Answer host (newest journal), None)
turn journal (CleanNewest host) = Some (Clean host (newest journal), None)
turn journal (HearNewest topo) = Some (Hear topo (newest journal), None)
-- from this target on, as long as the request is not decided: the target serves its ask, and the lane takes the answer
turn journal (ServeTarget target) = serve_turn target (target_of journal target)
turn journal (TakeAnswer target) = Some (Take target.lane (newest journal), Some (ServeTarget (behind target)))
-- the newest entry has the read's reply as its first output: it says whether a cell is written back
turn journal (WriteBack read) =
    write_back_turn journal read (follow_of (output_at (history_of journal) (newest journal)))
-- as long as the host has no done pull of the session: it pulls, the other host serves, and it takes the chunk
turn journal (PullOn pull) =
    if has_done journal.opening (history_of journal) pull.host pull.session
    then None
    else Some (Pull pull.host pull.session, Some (ServeChunk pull))
turn journal (ServeChunk pull) = Some (Serve pull.from (newest journal), Some (TakeNewestChunk pull))
turn journal (TakeNewestChunk pull) = Some (TakeChunk pull.host (newest journal), Some (PullOn pull))

-- the next event of a task, where it has one, or else of the tasks behind it
abbrev pub turn_or : Option Turn → List Task → Option (Event × List Task) → Option (Event × List Task)
turn_or None tasks later = later
turn_or (Some turn) tasks later = Some (turn.0, option_to_list turn.1 ++ tasks)

-- the next event of tasks one after the other, and what is then left of them, or none where nothing is left
abbrev pub next : Journal → List Task → Option (Event × List Task)
next journal [] = None
next journal (task ∷ tasks) = turn_or (turn journal task) tasks (next journal tasks)
