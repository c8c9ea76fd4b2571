-- A host as plain data is what the history says of it: at the opening, past the events of others, and at its own.
use Rattle.std.specs.Prelude.{IsSome, List, None, Option, Some, [], false, if◌then◌else◌, length, option_map, ◌+◌, ◌∷◌, ◌≡◌, ◌≤◌}
use Rattle.barrier_core.specs.declared.data.Ask.{Ask}
use Rattle.base_ids.specs.Names.{same_actor, same_host}
use Rattle.base_ids.specs.declared.ids.Actor.TheVariants.{Host as ByHost}
use Rattle.base_ids.specs.declared.ids.HostId.{HostId}
use Rattle.base_ids.specs.declared.ids.Session.{Session}
use Rattle.group0_log.specs.Log.{command_at}
use Rattle.host_core.specs.Host.{CanTake, HostView, begun_pull, chunk_pulls, first_host, host_after, host_out, host_rule, restarted_host, with_begun}
use Rattle.host_core.specs.Pulls.{Pulls, pull_in, without_pull}
use Rattle.host_core.specs.declared.data.HostInput.{HostInput}
use Rattle.host_core.specs.declared.data.HostInput.TheVariants.{Answer as AnswerInput, Apply as ApplyInput, Clean as CleanInput, Pull as PullInput, Quiet as QuietInput, Read as ReadInput, SendChunk, TakeChunk as ChunkInput, Write as WriteInput}
use Rattle.host_core.specs.declared.data.HostOut.{HostOut}
use Rattle.host_core.specs.declared.data.HostOut.TheVariants.{Answer as AnswerOut, Ask as AskOut, Chunk as ChunkOut, Fact as FactOut, NotMine as NotMineOut, Pulled as PulledOut}
use Rattle.stream_core.specs.declared.data.ChunkMsg.{ChunkMsg}
use Rattle.topo_state.specs.State.{Topology}
use Rattle.cluster_history.specs.Held.{chunk_in, cleaned_session, held_cells}
use Rattle.cluster_history.specs.History.{History, actor_of, is_by, is_restart_of, message_at}
use Rattle.cluster_history.specs.Legal.{IsLegalHistory, broken_rule, entry_of, outputs_of}
use Rattle.cluster_history.specs.Openings.{IsValidOpening, opening_state}
use Rattle.cluster_history.specs.Topology.{applied_count, applied_state, floor_of, log_of}
use Rattle.cluster_history.specs.declared.data.Entry.{Entry}
use Rattle.cluster_history.specs.declared.data.Event.{Event}
use Rattle.cluster_history.specs.declared.data.Event.TheVariants.{Answer, Apply, Clean, Pull, Quiet, Restart, Serve, TakeChunk}
use Rattle.cluster_history.specs.declared.data.Message.{Message}
use Rattle.cluster_history.specs.declared.data.Message.TheVariants.{Answer as AnswerSent, Ask as AskSent, Chunk as ChunkSent, ChunkAsk as ChunkAskSent, Fact as FactSent, NotMine as NotMineSent, Read as ReadSent, Write as WriteSent}
use Rattle.cluster_history.specs.declared.data.Opening.{Opening}
use Rattle.cluster_history.specs.declared.data.Output.{Output}
use Rattle.cluster_history.specs.declared.data.Output.TheVariants.{Pulled, Sent}

-- ---- a host's pulls as a list

-- the pulls after a chunk, where there is one: those of the pull that it is for
abbrev pub pulls_taken : Pulls → Option ChunkMsg → Pulls
pulls_taken pulls None = pulls
pulls_taken pulls (Some chunk) = chunk_pulls pulls chunk (pull_in pulls chunk.session)

-- the pulls after a cleanup for a session, where one was done
abbrev pub pulls_cleaned : Pulls → Option Session → Pulls
pulls_cleaned pulls None = pulls
pulls_cleaned pulls (Some session) = without_pull pulls session

-- the pulls after the host's first pull event of a session, which begins one, or after a later one
abbrev pub pulls_begun : Topology → HostId → Pulls → Session → Pulls
pulls_begun state host pulls session = with_begun pulls session (begun_pull state host pulls session)

-- the pulls of a host after an event, by those before it
abbrev pub pulls_after : Opening → History → HostId → Event → List Output → Pulls → Pulls
pulls_after opening history host (Pull by session) outputs pulls =
    if same_host by host then pulls_begun (applied_state opening history host) host pulls session else pulls
pulls_after opening history host (TakeChunk by at) outputs pulls =
    if same_host by host then pulls_taken pulls (chunk_in (message_at history at)) else pulls
pulls_after opening history host (Clean by at) outputs pulls =
    if same_host by host then pulls_cleaned pulls (cleaned_session outputs) else pulls
pulls_after opening history host (Restart actor) outputs pulls =
    if same_actor actor (ByHost host) then [] else pulls
pulls_after opening history host event outputs pulls = pulls

-- the pulls of a host, in the order in which they began
abbrev pub pulls_of : Opening → History → HostId → Pulls
pulls_of opening [] host = []
pulls_of opening (entry ∷ history) host =
    pulls_after opening history host entry.event entry.outputs (pulls_of opening history host)

-- ---- a host as plain data

abbrev pub host_view : Opening → History → HostId → HostView
host_view opening history host =
    record {
      host = host;
      applied = applied_count history host;
      state = applied_state opening history host;
      floor = floor_of history host;
      cells = held_cells opening history host;
      pulls = pulls_of opening history host;
    }

-- ---- what an event gives a host, and what the host puts out

-- the input of a message that a host serves
abbrev pub served_input : Option Message → Option HostInput
served_input (Some (WriteSent ask)) = Some (WriteInput ask)
served_input (Some (ReadSent ask)) = Some (ReadInput ask)
served_input (Some (ChunkAskSent ask)) = Some (SendChunk ask)
served_input message = None

-- the ask of a coordinator in a message
abbrev pub ask_in : Option Message → Option Ask
ask_in (Some (AskSent ask)) = Some ask
ask_in message = None

-- the input of an event of a host; an event of another actor and a restart have none
abbrev pub host_input : History → Event → Option HostInput
host_input history (Apply host) = option_map ApplyInput (command_at (log_of history) (applied_count history host + 1))
host_input history (Quiet host version) = Some (QuietInput version)
host_input history (Serve host at) = served_input (message_at history at)
host_input history (Answer host at) = option_map AnswerInput (ask_in (message_at history at))
host_input history (Clean host at) = option_map CleanInput (ask_in (message_at history at))
host_input history (Pull host session) = Some (PullInput session)
host_input history (TakeChunk host at) = option_map ChunkInput (chunk_in (message_at history at))
host_input history event = None

-- the outputs for what comes out of a host; that a pull goes on is no output
abbrev pub host_outputs : HostId → HostOut → List Output
host_outputs host (AnswerOut answer) = Sent (AnswerSent answer) ∷ []
host_outputs host (AskOut ask) = Sent (ChunkAskSent ask) ∷ []
host_outputs host (ChunkOut chunk) = Sent (ChunkSent chunk) ∷ []
host_outputs host (FactOut fact) = Sent (FactSent fact) ∷ []
host_outputs host (NotMineOut to session) = Sent (NotMineSent host to session) ∷ []
host_outputs host (PulledOut session) = Pulled session ∷ []
host_outputs host out = []

-- ---- the laws

-- the host's state breaks no rule of the input of the event, and the host can take it, and by it comes to what the
-- longer history says of it, with the outputs that the event must have
pub record IsHostPlay
    (opening : Opening) (history : History) (host : HostId) (event : Event) (input : HostInput) : Type 0 where
  pub rule : host_rule (host_view opening history host) input ≡ None
  pub fits : CanTake (host_view opening history host) input
  pub outputs : host_outputs host (host_out (host_view opening history host) input) ≡ outputs_of opening history event
  pub after :
      host_after (host_view opening history host) input
      ≡ host_view opening (entry_of opening history event ∷ history) host

-- so it is at each event of the host that breaks no rule and has an input, as long as the log is short
abbrev pub HostsPlay : Type 0
HostsPlay =
    (opening : Opening) (history : History) (event : Event) (host : HostId) (input : HostInput) →
    IsValidOpening opening →
    IsLegalHistory opening history →
    actor_of event ≡ ByHost host →
    broken_rule opening history event ≡ None →
    length (log_of history) ≤ 10000 →
    host_input history event ≡ Some input →
    IsHostPlay opening history host event input

-- each event of a host that breaks no rule has an input, but for a restart
abbrev pub HostsHaveInputs : Type 0
HostsHaveInputs =
    (opening : Opening) (history : History) (event : Event) (host : HostId) →
    actor_of event ≡ ByHost host →
    is_restart_of (ByHost host) event ≡ false →
    broken_rule opening history event ≡ None →
    IsSome (host_input history event)

-- an event of another actor leaves a host as it is
abbrev pub HostsStay : Type 0
HostsStay =
    (opening : Opening) (history : History) (entry : Entry) (host : HostId) →
    IsLegalHistory opening (entry ∷ history) →
    is_by (ByHost host) entry.event ≡ false →
    host_view opening (entry ∷ history) host ≡ host_view opening history host

-- a restart of a host loses its pulls
abbrev pub HostsRestart : Type 0
HostsRestart =
    (opening : Opening) (history : History) (host : HostId) →
    host_view opening (entry_of opening history (Restart (ByHost host)) ∷ history) host
    ≡ restarted_host (host_view opening history host)

-- a host at the opening
abbrev pub HostsBegin : Type 0
HostsBegin =
    (opening : Opening) (host : HostId) →
    host_view opening [] host ≡ first_host host (opening_state opening)
