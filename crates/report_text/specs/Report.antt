-- The report of a journal: replies, what became of proposals, pulls that are done, and what cleanups came to, one on a
-- line and ordered as the journal has them; a last line counts.
use Rattle.std.specs.Fmt.{decimal}
use Rattle.std.specs.List.{count_by, flat_map}
use Rattle.std.specs.Prelude.{Bool, List, None, Option, Some, [], codes, false, if◌then◌else◌, length, option_to_list, true, ℕ, ◌++◌, ◌+◌, ◌∷◌}
use Rattle.barrier_core.specs.declared.data.What.{What}
use Rattle.barrier_core.specs.declared.data.What.TheVariants.{Clean as CleanOf}
use Rattle.base_ids.specs.declared.ids.HostId.{HostId}
use Rattle.base_ids.specs.declared.ids.LaneId.{LaneId}
use Rattle.base_ids.specs.declared.ids.OpId.{OpId}
use Rattle.base_ids.specs.declared.ids.Session.{Session}
use Rattle.base_ids.specs.declared.ids.Version.{Version}
use Rattle.base_ids.specs.declared.rules.Appended.{Appended}
use Rattle.base_ids.specs.declared.rules.Appended.TheVariants.{Accepted, Conflict, Illegal}
use Rattle.cell_merge.specs.declared.cell.Cell.{Cell}
use Rattle.quorum_ops.specs.declared.data.Reply.{Reply}
use Rattle.quorum_ops.specs.declared.data.Reply.TheVariants.{NoTable, NotMember as NoMember, Ok as Acknowledged, Read as Found, Stale, Timeout as TimedOut}
use Rattle.schedule_words.specs.Texts.{cell_text}
use Rattle.stage_graph.specs.declared.kind.Kind.{Kind}
use Rattle.stage_graph.specs.declared.kind.Kind.TheVariants.{Read as ReadKind, Write as WriteKind}
use Rattle.topo_state.specs.declared.command.Rule.{Rule}
use Rattle.topo_state.specs.declared.command.Rule.TheVariants.{AlreadyMember, BadFence, BadReplicas, BadResize, BadStage, Moving, NoSuchSession, NoSuchTable, NotColocated, NotMember, StillHolds, TableExists, TooMany, UnknownHost}
use Rattle.cluster_history.specs.History.{History}
use Rattle.cluster_history.specs.Legal.{history_of}
use Rattle.cluster_history.specs.Topology.{last_state, log_of}
use Rattle.cluster_history.specs.declared.data.Entry.{Entry}
use Rattle.cluster_history.specs.declared.data.Event.{Event}
use Rattle.cluster_history.specs.declared.data.Event.TheVariants.{Begin, Clean, Propose, Take, TakeChunk, Timeout}
use Rattle.cluster_history.specs.declared.data.Journal.{Journal}
use Rattle.cluster_history.specs.declared.data.Message.{Message}
use Rattle.cluster_history.specs.declared.data.Message.TheVariants.{Fact as FactSent, NotMine}
use Rattle.cluster_history.specs.declared.data.Opening.{Opening}
use Rattle.cluster_history.specs.declared.data.Output.{Output}
use Rattle.cluster_history.specs.declared.data.Output.TheVariants.{Proposed, Pulled, Reply as Replied, Sent}

-- ---- replies

-- what a read found
abbrev pub found_text : Option Cell → List ℕ
found_text None = codes "none"
found_text (Some cell) = cell_text cell

-- what a client is told
abbrev pub result_text : Reply → List ℕ
result_text Acknowledged = codes "ok"
result_text (Found cell) = codes "ok " ++ found_text cell
result_text (Stale refused fence) = codes "stale " ++ (decimal refused ++ (codes " fence " ++ decimal fence.0))
result_text (TimedOut answered required) = codes "timeout " ++ (decimal answered ++ (codes " of " ++ decimal required))
result_text NoTable = codes "notable"
result_text NoMember = codes "notmember"

-- whether the request reads or writes
abbrev pub kind_text : Kind → List ℕ
kind_text ReadKind = codes "read"
kind_text WriteKind = codes "write"

-- a request: its lane, its number in that lane, and its version
abbrev pub request_text : LaneId → OpId → Version → List ℕ
request_text lane op version =
    decimal lane.host.0
    ++ (codes "." ++ (decimal lane.lane ++ (codes " " ++ (decimal op.0 ++ (codes " v" ++ decimal version.0)))))

-- the line of a reply: the request, its kind, and what the client is told
abbrev pub reply_line : LaneId → OpId → Version → Kind → Reply → List ℕ
reply_line lane op version kind reply =
    codes "reply "
    ++ (request_text lane op version
    ++ (codes " " ++ (kind_text kind ++ (codes " " ++ (result_text reply ++ codes "\n")))))

-- ---- proposals

-- the word of a rule of the topology
abbrev pub rule_word : Rule → List ℕ
rule_word UnknownHost = codes "UnknownHost"
rule_word NotMember = codes "NotMember"
rule_word AlreadyMember = codes "AlreadyMember"
rule_word StillHolds = codes "StillHolds"
rule_word TableExists = codes "TableExists"
rule_word NoSuchTable = codes "NoSuchTable"
rule_word BadReplicas = codes "BadReplicas"
rule_word TooMany = codes "TooMany"
rule_word Moving = codes "Moving"
rule_word NoSuchSession = codes "NoSuchSession"
rule_word BadStage = codes "BadStage"
rule_word BadFence = codes "BadFence"
rule_word BadResize = codes "BadResize"
rule_word NotColocated = codes "NotColocated"

-- what became of a proposal: the index of its entry and the version after it, or the id of the log's last state, or
-- the first rule that the command breaks
abbrev pub outcome_text : Version → Appended Rule → List ℕ
outcome_text version (Accepted index) = codes "accepted " ++ (decimal index ++ (codes " v" ++ decimal version.0))
outcome_text version (Conflict last) = codes "conflict " ++ decimal last.0
outcome_text version (Illegal rule) = codes "illegal " ++ rule_word rule

-- the line of a proposal: the coordinator, and what became of it
abbrev pub proposal_line : HostId → Version → Appended Rule → List ℕ
proposal_line topo version outcome =
    codes "topo " ++ (decimal topo.0 ++ (codes " " ++ (outcome_text version outcome ++ codes "\n")))

-- ---- pulls and cleanups

-- the line of a pull that is done: the host that pulled, and the session
abbrev pub pull_line : HostId → Session → List ℕ
pull_line host session = codes "pull " ++ (decimal host.0 ++ (codes " " ++ (decimal session.0 ++ codes " done\n")))

-- the line of a cleanup that was done: the host, and the session
abbrev pub cleaned_line : HostId → Session → List ℕ
cleaned_line host session =
    codes "clean " ++ (decimal host.0 ++ (codes " " ++ (decimal session.0 ++ codes " cleaned\n")))

-- the line of a cleanup that was asked of a host which the session does not clean
abbrev pub not_mine_line : HostId → Session → List ℕ
not_mine_line host session =
    codes "clean " ++ (decimal host.0 ++ (codes " " ++ (decimal session.0 ++ codes " notmine\n")))

-- ---- the line of an output, if it has one

-- of a lane: a reply
abbrev pub lane_line : LaneId → Output → Option (List ℕ)
lane_line lane (Replied op version kind reply) = Some (reply_line lane op version kind reply)
lane_line lane output = None

-- of a proposal, with the version after it
abbrev pub topo_line : HostId → Version → Output → Option (List ℕ)
topo_line topo version (Proposed outcome) = Some (proposal_line topo version outcome)
topo_line topo version output = None

-- of a host that takes a chunk: its pull is done
abbrev pub chunk_line : HostId → Output → Option (List ℕ)
chunk_line host (Pulled session) = Some (pull_line host session)
chunk_line host output = None

-- of a fact that a cleanup tells: the range is clean
abbrev pub fact_line : HostId → What → Option (List ℕ)
fact_line host (CleanOf session) = Some (cleaned_line host session)
fact_line host what = None

-- of a message that a cleanup sends: the range is clean, or the session cleans nothing there
abbrev pub told_line : HostId → Message → Option (List ℕ)
told_line host (FactSent fact) = fact_line host fact.what
told_line host (NotMine from to session) = Some (not_mine_line host session)
told_line host message = None

-- of a host that cleans
abbrev pub clean_line : HostId → Output → Option (List ℕ)
clean_line host (Sent message) = told_line host message
clean_line host output = None

-- of an event, by the version after it
abbrev pub output_line : Version → Event → Output → Option (List ℕ)
output_line version (Begin lane operation at) output = lane_line lane output
output_line version (Take lane at) output = lane_line lane output
output_line version (Timeout lane op) output = lane_line lane output
output_line version (Propose topo command) output = topo_line topo version output
output_line version (TakeChunk host at) output = chunk_line host output
output_line version (Clean host at) output = clean_line host output
output_line version event output = None

-- ---- the report

-- the lines of an entry, by the version after it
abbrev pub entry_lines : Version → Entry → List (List ℕ)
entry_lines version entry = flat_map (λ output. option_to_list (output_line version entry.event output)) entry.outputs

-- the version of the log's state
abbrev pub log_version : Opening → History → Version
log_version opening history = (last_state opening history).version

-- the lines of a history, the oldest first
abbrev pub history_lines : Opening → History → List (List ℕ)
history_lines opening [] = []
history_lines opening (entry ∷ history) =
    history_lines opening history ++ entry_lines (log_version opening (entry ∷ history)) entry

-- an event of a lane: its outputs are asks and replies
abbrev pub is_of_lane : Event → Bool
is_of_lane (Begin lane operation version) = true
is_of_lane (Take lane at) = true
is_of_lane (Timeout lane op) = true
is_of_lane event = false

-- an output is what a client is told
abbrev pub is_reply : Output → Bool
is_reply (Replied op version kind reply) = true
is_reply output = false

-- how many replies an entry has: those of a lane, and none of others
abbrev pub entry_replies : Entry → ℕ
entry_replies entry = if is_of_lane entry.event then count_by is_reply entry.outputs else 0

-- how many replies the entries of a history have
abbrev pub reply_count : History → ℕ
reply_count [] = 0
reply_count (entry ∷ history) = reply_count history + entry_replies entry

-- the end line: how many replies and accepted commands there are, and the version and the fence of the last state
abbrev pub end_line : ℕ → ℕ → Version → Version → List ℕ
end_line replies log version fence =
    codes "end replies "
    ++ (decimal replies
    ++ (codes " log " ++ (decimal log
    ++ (codes " version " ++ (decimal version.0 ++ (codes " fence " ++ (decimal fence.0 ++ codes "\n")))))))

-- the end line of a history
abbrev pub history_end : Opening → History → List ℕ
history_end opening history =
    end_line
    (reply_count history)
    (length (log_of history))
    (last_state opening history).version
    (last_state opening history).fence

-- the lines of a journal without the end line, each with its line feed
abbrev pub report_lines : Journal → List (List ℕ)
report_lines journal = history_lines journal.opening (history_of journal)

-- the whole report of a journal: those lines, and the end line
abbrev pub report : Journal → List (List ℕ)
report journal = report_lines journal ++ history_end journal.opening (history_of journal) ∷ []
