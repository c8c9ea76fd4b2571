-- By which event a host takes a message, and what the message gives it.
use Rattle.std.specs.Prelude.{None, Option, Some, if◌then◌else◌, true, ◌≡◌}
use Rattle.barrier_core.specs.declared.data.Ask.{Ask}
use Rattle.barrier_core.specs.declared.data.What.{What}
use Rattle.barrier_core.specs.declared.data.What.TheVariants.{Clean as CleanOf, Done}
use Rattle.base_ids.specs.Names.{same_actor, same_host}
use Rattle.base_ids.specs.declared.ids.Actor.TheVariants.{Host as ByHost}
use Rattle.base_ids.specs.declared.ids.HostId.{HostId}
use Rattle.base_ids.specs.declared.ids.MsgRef.{MsgRef}
use Rattle.base_ids.specs.declared.ids.Session.{Session}
use Rattle.cluster_history.specs.Messages.{addressee}
use Rattle.cluster_history.specs.declared.data.Event.{Event}
use Rattle.cluster_history.specs.declared.data.Event.TheVariants.{Answer, Clean, Serve, TakeChunk}
use Rattle.cluster_history.specs.declared.data.Message.{Message}
use Rattle.cluster_history.specs.declared.data.Message.TheVariants.{Ask as AskSent, Chunk as ChunkSent, ChunkAsk as ChunkAskSent, Read as ReadSent, Write as WriteSent}
use Rattle.host_core.specs.declared.data.HostInput.{HostInput}
use Rattle.host_core.specs.declared.data.HostInput.TheVariants.{Answer as AnswerInput, Clean as CleanInput, Read as ReadInput, SendChunk, TakeChunk as ChunkInput, Write as WriteInput}
use Rattle.engine_hosts.specs.declared.way.Way.{Way}
use Rattle.engine_hosts.specs.declared.way.Way.TheVariants.{Answers, Cleans, Serves, TakesChunk}

-- an ask to clean is cleaned by, every other one is answered
abbrev pub asked_way : What → Way
asked_way (CleanOf session) = Cleans
asked_way what = Answers

abbrev pub asked_input : Ask → What → HostInput
asked_input ask (CleanOf session) = CleanInput ask
asked_input ask what = AnswerInput ask

-- what a host may take, and how
abbrev pub way_of : Message → Option Way
way_of (WriteSent ask) = Some Serves
way_of (ReadSent ask) = Some Serves
way_of (ChunkAskSent ask) = Some Serves
way_of (ChunkSent chunk) = Some TakesChunk
way_of (AskSent ask) = Some (asked_way ask.what)
way_of message = None

abbrev pub event_by : Way → HostId → MsgRef → Event
event_by Serves host at = Serve host at
event_by Answers host at = Answer host at
event_by Cleans host at = Clean host at
event_by TakesChunk host at = TakeChunk host at

abbrev pub input_in : Message → Option HostInput
input_in (WriteSent ask) = Some (WriteInput ask)
input_in (ReadSent ask) = Some (ReadInput ask)
input_in (ChunkAskSent ask) = Some (SendChunk ask)
input_in (ChunkSent chunk) = Some (ChunkInput chunk)
input_in (AskSent ask) = Some (asked_input ask ask.what)
input_in message = None

abbrev pub if_for : HostId → HostId → Way → Option Way
if_for to host way = if same_host to host then Some way else None

-- the host may take the message, this way
pub record IsWay (host : HostId) (message : Message) (way : Way) : Type 0 where
  pub is : way_of message ≡ Some way
  pub mine : same_actor (addressee message) (ByHost host) ≡ true

-- the session whose pull a message speaks of: that of a chunk, or of an ask whether the pull is done
abbrev pub asked_session : What → Option Session
asked_session (Done session) = Some session
asked_session what = None

abbrev pub pull_in_message : Message → Option Session
pull_in_message (ChunkSent chunk) = Some chunk.session
pull_in_message (AskSent ask) = asked_session ask.what
pull_in_message message = None
