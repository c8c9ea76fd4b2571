-- The outputs of the events, over the values that each speaks of.
use Rattle.std.specs.Prelude.{Bool, List, None, Option, Some, [], false, if◌then◌else◌, length, map, nat_lt, not, ℕ, ◌&&◌, ◌+◌, ◌==◌, ◌∷◌}
use Rattle.barrier_core.specs.declared.data.Ask.{Ask}
use Rattle.barrier_core.specs.declared.data.What.{What}
use Rattle.base_ids.specs.declared.ids.HostId.{HostId}
use Rattle.base_ids.specs.declared.ids.LaneId.{LaneId}
use Rattle.base_ids.specs.declared.ids.OpId.{OpId}
use Rattle.base_ids.specs.declared.ids.Replica.{Replica}
use Rattle.base_ids.specs.declared.ids.Session.{Session}
use Rattle.base_ids.specs.declared.ids.Version.{Version}
use Rattle.cell_merge.specs.declared.cell.Cell.{Cell}
use Rattle.base_ids.specs.Outcomes.{outcome_of}
use Rattle.quorum_ops.specs.Decision.{decision, timeout_reply}
use Rattle.quorum_ops.specs.declared.data.Answer.{Answer}
use Rattle.quorum_ops.specs.declared.data.Reply.{Reply}
use Rattle.quorum_ops.specs.declared.data.Said.{Said}
use Rattle.quorum_ops.specs.declared.data.Said.TheVariants.{Found, Stale as Refused, Written}
use Rattle.register_model.specs.declared.data.Key.{Key}
use Rattle.replica_store.specs.Cells.{Cells}
use Rattle.stream_core.specs.Pulls.{Pulling, is_next, next_ask, served_chunk}
use Rattle.stream_core.specs.declared.data.ChunkMsg.{ChunkMsg}
use Rattle.topo_state.specs.declared.command.Rule.{Rule}
use Rattle.cluster_history.specs.Held.{session_of}
use Rattle.cluster_history.specs.Messages.{kind_of, read_key}
use Rattle.cluster_history.specs.Requests.{Request, Way}
use Rattle.cluster_history.specs.Requests.Way.{Ends, Goes}
use Rattle.cluster_history.specs.declared.data.Message.{Message}
use Rattle.cluster_history.specs.declared.data.Message.TheVariants.{Answer as AnswerSent, Ask as AskSent, Chunk as ChunkSent, ChunkAsk as ChunkAskSent, Fact as FactSent, NotMine, Read as ReadSent, Write as WriteSent}
use Rattle.cluster_history.specs.declared.data.Operation.{Operation}
use Rattle.cluster_history.specs.declared.data.Operation.TheVariants.{Read as ReadOf, Write as WriteOf}
use Rattle.cluster_history.specs.declared.data.Output.{Output}
use Rattle.cluster_history.specs.declared.data.Output.TheVariants.{Proposed, Pulled, Reply as Replied, Sent}

-- ---- lanes

-- what a lane sends to a target
abbrev pub ask_of : LaneId → OpId → Version → Operation → Replica → Message
ask_of lane op version (WriteOf table token cell level) to =
    WriteSent (record { lane = lane; op = op; version = version; table = table; token = token; cell = cell; to = to })
ask_of lane op version (ReadOf table token level) to =
    ReadSent (record { lane = lane; op = op; version = version; table = table; token = token; to = to })

-- that ask, as an output
abbrev pub sent_ask : LaneId → OpId → Version → Operation → Replica → Output
sent_ask lane op version operation to = Sent (ask_of lane op version operation to)

-- a begin: one ask for each target, in their order; or a reply at once
abbrev pub begin_outputs : LaneId → OpId → Version → Operation → Way → List Output
begin_outputs lane op version operation (Ends reply) = Replied op version (kind_of operation) reply ∷ []
begin_outputs lane op version operation (Goes route) = map (sent_ask lane op version operation) route.targets

-- the reply to a request, where there is one
abbrev pub reply_list : OpId → Request → Option Reply → List Output
reply_list op request None = []
reply_list op request (Some reply) = Replied op request.version (kind_of request.operation) reply ∷ []

-- the reply to a live request that the newest of its answers brings, where that one decides it
abbrev pub decided_by : OpId → List Answer → Option Request → List Output
decided_by op answers None = []
decided_by op answers (Some request) =
    reply_list op request (decision (kind_of request.operation) request.targets request.need answers)

-- a take, by the lane's live requests and the answers that each took: an answer counts where its request is live
abbrev pub take_outputs : (OpId → Option Request) → (OpId → List Answer) → Option Message → List Output
take_outputs live_at answers_at (Some (AnswerSent answer)) =
    decided_by answer.op (answer ∷ answers_at answer.op) (live_at answer.op)
take_outputs live_at answers_at message = []

-- a timeout: the reply to a live request, by the answers that it took
abbrev pub timeout_outputs : OpId → Option Request → List Answer → List Output
timeout_outputs op None answers = []
timeout_outputs op (Some request) answers =
    reply_list op request (Some (timeout_reply request.targets request.need answers))

-- ---- hosts

-- a request below the fence is refused
abbrev pub said_to : Version → Version → Said → Said
said_to version fence said = if nat_lt version.0 fence.0 then Refused fence else said

-- the answer of a replica to a request, as an output: it goes to the lane of the request
abbrev pub answer_of : LaneId → OpId → Replica → Said → Output
answer_of lane op from said = Sent (AnswerSent (record { lane = lane; op = op; from = from; said = said }))

-- a serve, by the host's fence, by what it holds at each key, and by that as a list: a write is stored, a read finds
-- what is held, and a chunk has the next cells of its range
abbrev pub serve_outputs : Version → (Key → Option Cell) → Cells → Option Message → List Output
serve_outputs fence held_at cells (Some (WriteSent ask)) =
    answer_of ask.lane ask.op ask.to (said_to ask.version fence Written) ∷ []
serve_outputs fence held_at cells (Some (ReadSent ask)) =
    answer_of ask.lane ask.op ask.to (said_to ask.version fence (Found (held_at (read_key ask)))) ∷ []
serve_outputs fence held_at cells (Some (ChunkAskSent ask)) = Sent (ChunkSent (served_chunk cells ask)) ∷ []
serve_outputs fence held_at cells message = []

-- the fact that was asked for, to the coordinator that asked
abbrev pub fact_for : Ask → Output
fact_for ask = Sent (FactSent (record { from = ask.to; to = ask.by; what = ask.what }))

-- an answer to a coordinator
abbrev pub answer_outputs : Option Message → List Output
answer_outputs (Some (AskSent ask)) = fact_for ask ∷ []
answer_outputs message = []

-- an asked cleanup: the fact that it is done where the session cleans this host, else that it is not this host's
abbrev pub clean_output : (Session → Bool) → Ask → Session → Output
clean_output is_mine ask session =
    if is_mine session then fact_for ask else Sent (NotMine ask.to ask.by session)

-- that for the session of the ask, where it asks for a cleanup
abbrev pub cleaned_outputs : (Session → Bool) → Ask → Option Session → List Output
cleaned_outputs is_mine ask None = []
cleaned_outputs is_mine ask (Some session) = clean_output is_mine ask session ∷ []

-- a cleanup, by which sessions clean the host: the fact, or that it is not this host's
abbrev pub clean_outputs : (Session → Bool) → Option Message → List Output
clean_outputs is_mine (Some (AskSent ask)) = cleaned_outputs is_mine ask (session_of ask.what)
clean_outputs is_mine message = []

-- a pull: the ask for its next chunk
abbrev pub pull_outputs : Option Pulling → List Output
pull_outputs None = []
pull_outputs (Some pull) = Sent (ChunkAskSent (next_ask pull)) ∷ []

-- the chunk is the pull's next one and its last
abbrev pub is_last : Option Pulling → ChunkMsg → Bool
is_last None chunk = false
is_last (Some pull) chunk = is_next pull chunk && not chunk.more

-- a taken chunk, by the host's pulls: whether its pull is done by it
abbrev pub chunk_outputs : (Session → Option Pulling) → Option Message → List Output
chunk_outputs pull_at (Some (ChunkSent chunk)) =
    if is_last (pull_at chunk.session) chunk then Pulled chunk.session ∷ [] else []
chunk_outputs pull_at message = []

-- ---- coordinators

-- an ask: one message from the coordinator to the host
abbrev pub ask_outputs : HostId → HostId → What → List Output
ask_outputs topo host what = Sent (AskSent (record { by = topo; to = host; what = what })) ∷ []

-- what becomes of a proposal, by the look, the length of the log, and the rule that the command breaks in its state
abbrev pub propose_outputs : ℕ → ℕ → Option Rule → List Output
propose_outputs look length broken = Proposed (outcome_of look length broken) ∷ []
