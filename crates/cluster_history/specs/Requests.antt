-- Requests: where they go, when they are live, and which answers they took. A request is named by its lane and its
-- number, which counts the lane's begins from 1.
use Rattle.std.specs.List.{list_any}
use Rattle.std.specs.Prelude.{Bool, List, None, Option, Some, [], false, filter, if◌then◌else◌, length, map, nat_lt, not, suc, zero, ℕ, ◌&&◌, ◌++◌, ◌+◌, ◌==◌, ◌||◌, ◌∷◌}
use Rattle.base_ids.specs.Names.{same_lane, same_op}
use Rattle.base_ids.specs.declared.ids.Actor.TheVariants.{Lane as ByLane}
use Rattle.base_ids.specs.declared.ids.HostId.{HostId}
use Rattle.base_ids.specs.declared.ids.LaneId.{LaneId}
use Rattle.base_ids.specs.declared.ids.OpId.{OpId}
use Rattle.base_ids.specs.declared.ids.Replica.{Replica}
use Rattle.base_ids.specs.declared.ids.Version.{Version}
use Rattle.quorum_ops.specs.declared.data.Answer.{Answer}
use Rattle.quorum_ops.specs.declared.data.Reply.{Reply}
use Rattle.quorum_ops.specs.declared.data.Reply.TheVariants.{NoTable, NotMember}
use Rattle.stage_graph.specs.Needs.{needed}
use Rattle.stage_graph.specs.declared.level.Level.{Level}
use Rattle.stage_graph.specs.declared.kind.Kind.{Kind}
use Rattle.stage_graph.specs.declared.kind.Kind.TheVariants.{Read as ReadKind, Write as WriteKind}
use Rattle.tablet_map.specs.declared.tablet.Tablet.{Tablet}
use Rattle.topo_state.specs.Lists.{reads_of, stage_in, writes_of}
use Rattle.topo_state.specs.State.{Topology, is_member}
use Rattle.topo_state.specs.Views.{view}
use Rattle.cluster_history.specs.History.{History, is_restart_of, message_at}
use Rattle.cluster_history.specs.Messages.{key_of, kind_of, level_of}
use Rattle.cluster_history.specs.Topology.{state_of_version}
use Rattle.cluster_history.specs.declared.data.Entry.{Entry}
use Rattle.cluster_history.specs.declared.data.Event.{Event}
use Rattle.cluster_history.specs.declared.data.Event.TheVariants.{Begin, Take, Timeout}
use Rattle.cluster_history.specs.declared.data.Message.{Message}
use Rattle.cluster_history.specs.declared.data.Message.TheVariants.{Answer as AnswerSent}
use Rattle.cluster_history.specs.declared.data.Opening.{Opening}
use Rattle.cluster_history.specs.declared.data.Operation.{Operation}
use Rattle.cluster_history.specs.declared.data.Output.{Output}
use Rattle.cluster_history.specs.declared.data.Output.TheVariants.{Reply as Replied}

-- ---- where a request goes

-- whom a request asks, in order, and how many of them it needs
pub record Route : Type 0 where
  pub targets : List Replica
  pub need : ℕ

-- a request goes to replicas, or is answered at once
pub data Way : Type 0 where
  Goes : Route → Way
  Ends : Reply → Way

-- the replicas that a request of this kind asks, by the stage of the tablet
abbrev pub targets_of : Kind → Tablet → List Replica
targets_of ReadKind tablet = reads_of tablet
targets_of WriteKind tablet = writes_of tablet

-- by the tablet of the operation's key, where the table is there
abbrev pub way_by : Kind → Level → Option Tablet → Way
way_by kind level None = Ends NoTable
way_by kind level (Some tablet) =
    Goes (record {
      targets = targets_of kind tablet;
      need = needed kind level (length tablet.replicas) (stage_in tablet);
    })

-- in a state: the lane's host must be a member, and the table there; no enabled begin is at a version without a state
abbrev pub way_in : Option Topology → HostId → Operation → Way
way_in None host operation = Ends NotMember
way_in (Some state) host operation =
    if is_member state.members host
    then
    way_by (kind_of operation) (level_of operation)
    (view state (key_of operation).table (key_of operation).token.value)
    else Ends NotMember

-- at a version: in the first state that has it
abbrev pub way_of : Opening → History → LaneId → Operation → Version → Way
way_of opening history lane operation version = way_in (state_of_version opening history version) lane.host operation

-- ---- begins

-- the event begins a request of the lane
abbrev pub is_begin_of : LaneId → Event → Bool
is_begin_of lane (Begin by operation version) = same_lane by lane
is_begin_of lane event = false

-- how many requests the lane has begun; a restart does not change it
abbrev pub begun_count : History → LaneId → ℕ
begun_count [] lane = 0
begun_count (entry ∷ history) lane =
    if is_begin_of lane entry.event then begun_count history lane + 1 else begun_count history lane

-- the number of the lane's next request
abbrev pub next_op : History → LaneId → OpId
next_op history lane = record { 0 = begun_count history lane + 1 }

-- the numbers of the requests that the lane has begun, in the order of their begins
abbrev pub begun_ops : History → LaneId → List OpId
begun_ops [] lane = []
begun_ops (entry ∷ history) lane =
    if is_begin_of lane entry.event then begun_ops history lane ++ next_op history lane ∷ [] else begun_ops history lane

-- a request as its begin made it
pub record Request : Type 0 where
  pub operation : Operation
  pub version : Version
  pub targets : List Replica
  pub need : ℕ

-- the request that goes this way; none where it is answered at once
abbrev pub request_on : Operation → Version → Way → Option Request
request_on operation version (Ends reply) = None
request_on operation version (Goes route) =
    Some (record { operation = operation; version = version; targets = route.targets; need = route.need })

-- the request that an event begins, where it is not answered at once
abbrev pub started_request : Opening → History → Event → Option Request
started_request opening history (Begin lane operation version) =
    request_on operation version (way_of opening history lane operation version)
started_request opening history event = None

-- the event begins this request
abbrev pub begins_request : History → Event → LaneId → OpId → Bool
begins_request history event lane op = is_begin_of lane event && (op.0 == begun_count history lane + 1)

-- the request of this name, where it was begun and not answered at once
abbrev pub request_at : Opening → History → LaneId → OpId → Option Request
request_at opening [] lane op = None
request_at opening (entry ∷ history) lane op =
    if begins_request history entry.event lane op then started_request opening history entry.event
    else request_at opening history lane op

-- ---- live requests

-- the output is a reply to the request of this number
abbrev pub is_reply_to : OpId → Output → Bool
is_reply_to op (Replied number version kind reply) = same_op number op
is_reply_to op output = false

-- the event is one of those by which the lane may reply to a client: a begin, a take or a timeout
abbrev pub is_event_of : LaneId → Event → Bool
is_event_of lane (Begin by operation version) = same_lane by lane
is_event_of lane (Take by at) = same_lane by lane
is_event_of lane (Timeout by op) = same_lane by lane
is_event_of lane event = false

-- the entry replies to the request
abbrev pub replies_to : Entry → LaneId → OpId → Bool
replies_to entry lane op = is_event_of lane entry.event && list_any (is_reply_to op) entry.outputs

-- the request is live: it has begun, and from then on neither a reply to it nor a restart of its lane has come
abbrev pub is_live : History → LaneId → OpId → Bool
is_live [] lane op = false
is_live (entry ∷ history) lane op =
    (begins_request history entry.event lane op || is_live history lane op)
    && not (replies_to entry lane op || is_restart_of (ByLane lane) entry.event)

-- the numbers of the lane's live requests, in the order of their begins
abbrev pub live_ops : History → LaneId → List OpId
live_ops history lane = filter (is_live history lane) (begun_ops history lane)

-- how many live requests the lane has
abbrev pub live_count : History → LaneId → ℕ
live_count history lane = length (live_ops history lane)

-- a live request as its begin made it
abbrev pub live_request : Opening → History → LaneId → OpId → Option Request
live_request opening history lane op = if is_live history lane op then request_at opening history lane op else None

-- there is such a request, and its version is below this one
abbrev pub is_below : Version → Option Request → Bool
is_below version None = false
is_below version (Some request) = nat_lt request.version.0 version.0

-- the lane has a live request below the version
abbrev pub lags : Opening → History → Version → LaneId → Bool
lags opening history version lane =
    list_any (λ op. is_below version (request_at opening history lane op)) (live_ops history lane)

-- the numbers below this one
abbrev pub numbers_below : ℕ → List ℕ
numbers_below zero = []
numbers_below (suc n) = numbers_below n ++ n ∷ []

-- the lanes of a host, by number: each host has as many, numbered from 0
abbrev pub lanes_of : Opening → HostId → List LaneId
lanes_of opening host = map (λ lane. record { host = host; lane = lane }) (numbers_below opening.lanes)

-- some lane of the host lags: one of its live requests is below the version
abbrev pub has_live_below : Opening → History → HostId → Version → Bool
has_live_below opening history host version = list_any (lags opening history version) (lanes_of opening host)

-- ---- answers

-- the message where it is an answer to the request
abbrev pub answer_to : LaneId → OpId → Option Message → Option Answer
answer_to lane op (Some (AnswerSent answer)) =
    if same_lane answer.lane lane && same_op answer.op op then Some answer else None
answer_to lane op message = None

-- the answer to the request that an event of its lane takes
abbrev pub taken_answer : History → Event → LaneId → OpId → Option Answer
taken_answer history (Take by at) lane op =
    if same_lane by lane then answer_to lane op (message_at history at) else None
taken_answer history event lane op = None

-- the answers with a newer one, where there is one
abbrev pub with_answer : Option Answer → List Answer → List Answer
with_answer None answers = answers
with_answer (Some answer) answers = answer ∷ answers

-- the answers to the request, each taken by its lane while it was live, the newest first
abbrev pub answers_of : History → LaneId → OpId → List Answer
answers_of [] lane op = []
answers_of (entry ∷ history) lane op =
    if is_live history lane op
    then with_answer (taken_answer history entry.event lane op) (answers_of history lane op)
    else answers_of history lane op
