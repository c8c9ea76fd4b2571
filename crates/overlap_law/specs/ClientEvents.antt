-- What is seen of a history from outside: requests that begin, and what clients are told of them.
use Rattle.std.specs.Prelude.{ℕ, List, [], ◌∷◌, ◌++◌, ◌-◌, length, Option, Some, None, if◌then◌else◌}
use Rattle.base_ids.specs.declared.ids.HostId.{HostId}
use Rattle.base_ids.specs.declared.ids.Version.{Version}
use Rattle.base_ids.specs.declared.ids.LaneId.{LaneId}
use Rattle.base_ids.specs.declared.ids.OpId.{OpId}
use Rattle.quorum_ops.specs.declared.data.Reply.{Reply}
use Rattle.quorum_ops.specs.declared.data.Reply.TheVariants.{Ok, Read, Stale, Timeout as TimedOut, NoTable, NotMember}
use Rattle.register_model.specs.declared.data.ClientEvent.{ClientEvent}
use Rattle.register_model.specs.declared.data.ClientEvent.TheVariants.{WriteBegun, WriteAcked, ReadBegun, ReadOk, Ended}
use Rattle.register_model.specs.declared.data.Request.{Request}
use Rattle.cluster_history.specs.History.{History}
use Rattle.cluster_history.specs.Legal.{history_of}
use Rattle.cluster_history.specs.Messages.{key_of}
use Rattle.cluster_history.specs.Requests.{next_op}
use Rattle.cluster_history.specs.Topology.{state_of_version}
use Rattle.cluster_history.specs.declared.data.Event.{Event}
use Rattle.cluster_history.specs.declared.data.Event.TheVariants.{Begin, Take, Timeout}
use Rattle.cluster_history.specs.declared.data.Journal.{Journal}
use Rattle.cluster_history.specs.declared.data.Opening.{Opening}
use Rattle.cluster_history.specs.declared.data.Operation.{Operation}
use Rattle.cluster_history.specs.declared.data.Operation.TheVariants.{Write as WriteOf, Read as ReadOf}
use Rattle.cluster_history.specs.declared.data.Output.{Output}
use Rattle.cluster_history.specs.declared.data.Output.TheVariants.{Reply as Replied}
use Rattle.stage_graph.specs.Needs.{base_need}
use Rattle.stage_graph.specs.declared.level.Level.{Level}
use Rattle.tablet_map.specs.declared.tablet.Tablet.{Tablet}
use Rattle.topo_state.specs.State.{Topology, is_member}
use Rattle.topo_state.specs.Views.{view}

-- the request of this lane and this number, as clients name it
abbrev pub named_request : LaneId → OpId → Request
named_request lane op = record { lane = lane; op = op }

-- the tablet of the key of an operation, in a state where it is sent to replicas: its lane's host is a member there,
-- and the table is there; none where it is answered at once
abbrev pub asked_in : Option Topology → HostId → Operation → Option Tablet
asked_in None host operation = None
asked_in (Some state) host operation =
    if is_member state.members host
    then view state (key_of operation).table (key_of operation).token.value
    else None

-- at a version: in the first state that has it
abbrev pub asked_at : Opening → History → LaneId → Operation → Version → Option Tablet
asked_at opening history lane operation version =
    asked_in (state_of_version opening history version) lane.host operation

-- how strong a write of the level is: what it asks for of its tablet's replicas; 0 where it is answered at once
abbrev pub strength_of : Level → Option Tablet → ℕ
strength_of level None = 0
strength_of level (Some tablet) = base_need level (length tablet.replicas)

-- what a read of the level is blind to: how many of its tablet's replicas it does not ask for; 0 where it is answered
-- at once
abbrev pub blind_of : Level → Option Tablet → ℕ
blind_of level None = 0
blind_of level (Some tablet) = length tablet.replicas - base_need level (length tablet.replicas)

-- a request begins
abbrev pub begin_event : Request → Operation → Option Tablet → ClientEvent
begin_event request (WriteOf table token cell level) asked =
    WriteBegun request (key_of (WriteOf table token cell level)) cell (strength_of level asked)
begin_event request (ReadOf table token level) asked =
    ReadBegun request (key_of (ReadOf table token level)) (blind_of level asked)

-- what a reply means to its client
abbrev pub reply_event : Request → Reply → ClientEvent
reply_event request Ok = WriteAcked request
reply_event request (Read cell) = ReadOk request cell
reply_event request (Stale refused fence) = Ended request
reply_event request (TimedOut answered required) = Ended request
reply_event request NoTable = Ended request
reply_event request NotMember = Ended request

-- the replies of a lane; its other outputs say nothing to clients
abbrev pub reply_events : LaneId → List Output → List ClientEvent
reply_events lane [] = []
reply_events lane (Replied op version kind reply ∷ outputs) =
    reply_event (named_request lane op) reply ∷ reply_events lane outputs
reply_events lane (output ∷ outputs) = reply_events lane outputs

-- what clients see of an event with its outputs: nothing of the events of hosts and coordinators, nor of restarts
abbrev pub seen_of : Opening → History → Event → List Output → List ClientEvent
seen_of opening history (Begin lane operation version) outputs =
    begin_event
    (named_request lane (next_op history lane))
    operation
    (asked_at opening history lane operation version)
    ∷ reply_events lane outputs
seen_of opening history (Take lane at) outputs = reply_events lane outputs
seen_of opening history (Timeout lane op) outputs = reply_events lane outputs
seen_of opening history event outputs = []

-- what clients saw, in order
abbrev pub seen_in : Opening → History → List ClientEvent
seen_in opening [] = []
seen_in opening (entry ∷ history) = seen_in opening history ++ seen_of opening history entry.event entry.outputs

-- the client events of a journal
abbrev pub client_events : Journal → List ClientEvent
client_events journal = seen_in journal.opening (history_of journal)
