-- What of a history is an actor's own.
use Rattle.std.specs.Prelude.{Bool, List, None, Option, Some, [], false, if◌then◌else◌, nat_le, true, ℕ, ◌&&◌, ◌+◌, ◌==◌, ◌∷◌}
use Rattle.barrier_core.specs.Facts.{same_what}
use Rattle.barrier_core.specs.declared.data.What.{What}
use Rattle.base_ids.specs.Names.{same_host, same_lane, same_session}
use Rattle.base_ids.specs.declared.ids.Actor.{Actor}
use Rattle.base_ids.specs.declared.ids.HostId.{HostId}
use Rattle.base_ids.specs.declared.ids.LaneId.{LaneId}
use Rattle.base_ids.specs.declared.ids.MsgRef.{MsgRef}
use Rattle.base_ids.specs.declared.ids.Session.{Session}
use Rattle.base_ids.specs.declared.rules.Appended.TheVariants.{Accepted}
use Rattle.stream_core.specs.declared.data.ChunkMsg.{ChunkMsg}
use Rattle.topo_state.specs.declared.command.Command.{Command}
use Rattle.topo_state.specs.declared.command.Command.TheVariants.{Resize, SetFence, Start}
use Rattle.cluster_history.specs.Held.{is_pull_of, taken_chunk}
use Rattle.cluster_history.specs.History.{History, is_by}
use Rattle.cluster_history.specs.Topology.{is_look_of}
use Rattle.cluster_history.specs.declared.data.Event.{Event}
use Rattle.cluster_history.specs.declared.data.Event.TheVariants.{Answer, Ask, Clean, Hear, Propose, Serve, Take, TakeChunk, Timeout}
use Rattle.cluster_history.specs.declared.data.Output.{Output}
use Rattle.cluster_history.specs.declared.data.Output.TheVariants.{Proposed}

abbrev pub same_ref : MsgRef → MsgRef → Bool
same_ref a b = (a.event == b.event) && (a.out == b.out)

-- ---- takes

-- the message that an event takes
abbrev pub taken_ref : Event → Option MsgRef
taken_ref (Take lane at) = Some at
taken_ref (Serve host at) = Some at
taken_ref (Answer host at) = Some at
taken_ref (Clean host at) = Some at
taken_ref (TakeChunk host at) = Some at
taken_ref (Hear topo at) = Some at
taken_ref event = None

abbrev pub is_that_ref : MsgRef → Option MsgRef → Bool
is_that_ref at None = false
is_that_ref at (Some other) = same_ref other at

-- the event takes this message
abbrev pub takes_ref : MsgRef → Event → Bool
takes_ref at event = is_that_ref at (taken_ref event)

-- how many entries of the actor there are, and how many of them take a message
abbrev pub own_count : Actor → History → ℕ
own_count actor [] = 0
own_count actor (entry ∷ history) =
    if is_by actor entry.event then own_count actor history + 1 else own_count actor history

abbrev pub taken_count : Actor → History → MsgRef → ℕ
taken_count actor [] at = 0
taken_count actor (entry ∷ history) at =
    if is_by actor entry.event && takes_ref at entry.event then taken_count actor history at + 1
    else taken_count actor history at

-- the history up to the actor's entry of this number, counted from 1
abbrev pub own_past : Actor → ℕ → History → History
own_past actor count [] = []
own_past actor count (entry ∷ history) =
    if is_by actor entry.event && nat_le (own_count actor history + 1) count then entry ∷ history
    else own_past actor count history

-- ---- pulls

-- how many pull events of the session the host has
abbrev pub pull_count : History → HostId → Session → ℕ
pull_count [] host session = 0
pull_count (entry ∷ history) host session =
    if is_pull_of host session entry.event then pull_count history host session + 1 else pull_count history host session

abbrev pub is_chunk_of : Session → Option ChunkMsg → Bool
is_chunk_of session None = false
is_chunk_of session (Some chunk) = same_session chunk.session session

-- how many chunks of the session it has taken
abbrev pub chunk_count : History → HostId → Session → ℕ
chunk_count [] host session = 0
chunk_count (entry ∷ history) host session =
    if is_chunk_of session (taken_chunk history host entry.event) then chunk_count history host session + 1
    else chunk_count history host session

-- ---- looks

abbrev pub is_proposal_of : HostId → Event → Bool
is_proposal_of topo (Propose by command) = same_host by topo
is_proposal_of topo event = false

abbrev pub is_ask_of : HostId → Event → Bool
is_ask_of topo (Ask by host what) = same_host by topo
is_ask_of topo event = false

-- the coordinator has looked since its last proposal
abbrev pub has_looked : History → HostId → Bool
has_looked [] topo = false
has_looked (entry ∷ history) topo =
    if is_look_of topo entry.event then true
    else if is_proposal_of topo entry.event then false
    else has_looked history topo

-- it has asked or proposed something since its last look, or has not looked yet
abbrev pub has_acted : History → HostId → Bool
has_acted [] topo = true
has_acted (entry ∷ history) topo =
    if is_look_of topo entry.event then false
    else if is_proposal_of topo entry.event then true
    else if is_ask_of topo entry.event then true
    else has_acted history topo

-- ---- asks

-- the event is the coordinator's ask of this to the host
abbrev pub asks_it : HostId → HostId → What → Event → Bool
asks_it topo host what (Ask by to asked) = same_host by topo && (same_host to host && same_what asked what)
asks_it topo host what event = false

-- the coordinator has asked this of some host
abbrev pub asks_of_any : HostId → What → Event → Bool
asks_of_any topo what (Ask by to asked) = same_host by topo && same_what asked what
asks_of_any topo what event = false

abbrev pub has_asked : History → HostId → What → Bool
has_asked [] topo what = false
has_asked (entry ∷ history) topo what =
    if asks_of_any topo what entry.event then true else has_asked history topo what

-- a command that raises the version
abbrev pub raises : Command → Bool
raises (SetFence version) = false
raises command = true

abbrev pub is_accepted : List Output → Bool
is_accepted (Proposed (Accepted index) ∷ outputs) = true
is_accepted outputs = false

-- the coordinator's proposal, no fence, was accepted
abbrev pub has_raised : HostId → Event → List Output → Bool
has_raised topo (Propose by command) outputs = same_host by topo && (raises command && is_accepted outputs)
has_raised topo event outputs = false

-- how often it has asked the host this since such a proposal
abbrev pub ask_count : History → HostId → HostId → What → ℕ
ask_count [] topo host what = 0
ask_count (entry ∷ history) topo host what =
    if has_raised topo entry.event entry.outputs then 0
    else if asks_it topo host what entry.event then ask_count history topo host what + 1
    else ask_count history topo host what

-- the number that an accepted start or resize has in the log, where the event is one of the coordinator
abbrev pub begun_by : Command → List Output → Option ℕ
begun_by (Start table tablet leaving pending) (Proposed (Accepted index) ∷ outputs) = Some index
begun_by (Resize table kind) (Proposed (Accepted index) ∷ outputs) = Some index
begun_by command outputs = None

abbrev pub begun_number : HostId → Event → List Output → Option ℕ
begun_number topo (Propose by command) outputs = if same_host by topo then begun_by command outputs else None
begun_number topo event outputs = None

abbrev pub newer_number : Option ℕ → Option ℕ → Option ℕ
newer_number None older = older
newer_number (Some index) older = Some index

-- the number of the coordinator's last accepted start or resize
abbrev pub last_begun : History → HostId → Option ℕ
last_begun [] topo = None
last_begun (entry ∷ history) topo =
    newer_number (begun_number topo entry.event entry.outputs) (last_begun history topo)

-- ---- timeouts

abbrev pub is_timeout_of : LaneId → Event → Bool
is_timeout_of lane (Timeout by op) = same_lane by lane
is_timeout_of lane event = false

-- how many requests the lane has given up
abbrev pub timeout_count : LaneId → History → ℕ
timeout_count lane [] = 0
timeout_count lane (entry ∷ history) =
    if is_timeout_of lane entry.event then timeout_count lane history + 1 else timeout_count lane history
