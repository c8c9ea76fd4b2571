-- A host between its events, and what each of its calls leaves.
use Rattle.std.specs.Prelude.{Bool, Err, None, Ok, Option, Result, Some, [], false, true, ◌+◌, ◌∷◌, ◌≡◌, ◌≤◌, ◌<◌}
use Rattle.base_ids.specs.declared.ids.HostId.{HostId}
use Rattle.base_ids.specs.declared.ids.MsgRef.{MsgRef}
use Rattle.base_ids.specs.declared.ids.Session.{Session}
use Rattle.group0_log.specs.Log.{command_at}
use Rattle.cluster_history.specs.History.{History, message_at}
use Rattle.cluster_history.specs.Topology.{log_of}
use Rattle.cluster_history.specs.declared.data.Entry.{Entry}
use Rattle.cluster_history.specs.declared.data.Event.{Event}
use Rattle.cluster_history.specs.declared.data.Event.TheVariants.{Apply, Pull, Quiet}
use Rattle.cluster_history.specs.declared.data.Message.{Message}
use Rattle.host_core.specs.Host.{HostView, host_rule}
use Rattle.host_core.specs.declared.data.HostInput.{HostInput}
use Rattle.host_core.specs.declared.data.HostInput.TheVariants.{Pull as PullInput}
use Rattle.plan_facts.specs.Own.{chunk_count, pull_count}
use Rattle.plan_facts.specs.declared.skips.SkipCause.{SkipCause}
use Rattle.run_plan.specs.declared.plan.RunPlan.{RunPlan}
use Rattle.engine_desk.specs.Chairs.{IsLater, IsPublishing, Known}
use Rattle.engine_desk.specs.Desks.{DeskView, IsDesk, IsSameDesk, skip_of, taking}
use Rattle.engine_players.specs.Hosts.{IsHost, host_entry}
use Rattle.engine_hosts.specs.Notes.{IsNoted, NotesView, next_version}
use Rattle.engine_hosts.specs.Ways.{event_by, input_in, pull_in_message, way_of}
use Rattle.engine_hosts.specs.declared.log.Publishing.{Publishing}
use Rattle.engine_hosts.specs.declared.log.Publishing.TheVariants.{Newest, Pinned, Published}
use Rattle.engine_hosts.specs.declared.log.Quieting.{Quieting}
use Rattle.engine_hosts.specs.declared.log.Quieting.TheVariants.{Ahead, Older, Quieted, Reached}
use Rattle.engine_hosts.specs.declared.pulling.Pulling.{Pulling}
use Rattle.engine_hosts.specs.declared.pulling.Pulling.TheVariants.{Asked, Broken, Spent}
use Rattle.engine_hosts.specs.declared.taking.Taken.{Taken}
use Rattle.engine_hosts.specs.declared.way.Way.{Way}

-- the host of this name between its events
pub record IsAtHost
    (plan : RunPlan) (name : HostId) (desk : DeskView) (host : HostView) (notes : NotesView) : Type 0 where
  pub kept : IsDesk plan desk
  pub host_is : IsHost desk.known host
  pub named : name ≡ host.host
  pub noted : IsNoted desk.known name notes
  pub free : desk.held ≡ None

-- ---- what a call leaves

-- the desk is as it must be, the same actor's, and no message was asked for
pub record IsStill (plan : RunPlan) (old new : DeskView) : Type 0 where
  pub kept : IsDesk plan new
  pub same : IsSameDesk old new
  pub takes : new.takes ≡ old.takes

-- the actor has one entry more
pub record HasAdded (old : Known) (entry : Entry) (new : Known) : Type 0 where
  pub now : History
  pub later : IsLater old.opening old.actor old.seen now
  pub is : new.seen ≡ entry ∷ now

-- it has none more
abbrev pub HasNoMore : Known → Known → Type 0
HasNoMore old new = IsLater old.opening old.actor old.seen new.seen

-- an event by which nothing comes out
abbrev pub plain_entry : Event → Entry
plain_entry event = record { event = event; outputs = [] }

-- ---- a message

-- an entry took the message this way
pub record HasEntered (old : DeskView) (host : HostView) (at : MsgRef) (message : Message) (way : Way)
    (new : DeskView) : Type 0 where
  pub input : HostInput
  pub way_is : way_of message ≡ Some way
  pub input_is : input_in message ≡ Some input
  pub added : HasAdded old.known (host_entry host (event_by way host.host at) input) new.known

-- no entry took it, and its skip tells the cause
pub record HasSkipped (old : DeskView) (at : MsgRef) (cause : SkipCause) (new : DeskView) : Type 0 where
  pub none : HasNoMore old.known new.known
  pub skipped : new.skips ≡ skip_of cause new at ∷ old.skips

-- what became of the message
abbrev pub IsTaken : DeskView → HostView → MsgRef → Message → Result Way SkipCause → DeskView → Type 0
IsTaken old host at message (Ok way) new = HasEntered old host at message way new
IsTaken old host at message (Err cause) new = HasSkipped old at cause new

-- the message that was taken is there, and this became of it
pub record HasTaken (old : DeskView) (host : HostView) (taken : Taken) (new : DeskView) : Type 0 where
  pub message : Message
  pub found : message_at new.known.seen taken.at ≡ Some message
  pub session_is : taken.session ≡ pull_in_message message
  pub became : IsTaken old host taken.at message taken.became new

-- there was no message, or this one
abbrev pub IsTake : DeskView → HostView → Option Taken → DeskView → Type 0
IsTake old host None new = new ≡ taking None old
IsTake old host (Some taken) new = HasTaken old host taken new

-- ---- the log

-- the log had no next command
pub record HasNoCommand (old : Known) (host : HostView) (new : Known) : Type 0 where
  pub none : HasNoMore old new
  pub end : command_at (log_of new.seen) (host.applied + 1) ≡ None

-- the next command was applied, or the log had none
abbrev pub IsApplying : Known → HostView → Bool → Known → Type 0
IsApplying old host true new = HasAdded old (plain_entry (Apply host.host)) new
IsApplying old host false new = HasNoCommand old host new

-- the next version was published, or the newest one had been, or pins stood in the way
abbrev pub IsPublish : DeskView → HostView → Publishing → DeskView → Type 0
IsPublish old host Published new = IsPublishing old.known (next_version old.known.published) true new.known
IsPublish old host Newest new = (new ≡ old) × (host.state.version.0 ≤ old.known.published.0)
IsPublish old host Pinned new = IsPublishing old.known (next_version old.known.published) false new.known

-- the quiet entry is there, or there was a cause for none
abbrev pub IsQuiet : DeskView → HostView → Quieting → DeskView → Type 0
IsQuiet old host Quieted new = HasAdded old.known (plain_entry (Quiet host.host old.known.published)) new.known
IsQuiet old host Reached new = (new ≡ old) × (old.known.published.0 ≤ host.floor.0)
IsQuiet old host Ahead new = (new ≡ old) × (host.state.version.0 < old.known.published.0)
IsQuiet old host Older new = new.known ≡ record old.known { idle = None }

-- ---- pulls

-- the host began or repeated the pull, or had done so too often, or a rule stood in the way
abbrev pub IsPull : RunPlan → DeskView → HostView → Session → Pulling → DeskView → Type 0
IsPull plan old host session Asked new =
    HasAdded old.known (host_entry host (Pull host.host session) (PullInput session)) new.known
IsPull plan old host session Spent new =
    (new ≡ old)
    × (chunk_count old.known.seen host.host session + plan.patience ≤ pull_count old.known.seen host.host session)
IsPull plan old host session (Broken rule) new = (new ≡ old) × (host_rule host (PullInput session) ≡ Some rule)
