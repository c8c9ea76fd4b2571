-- One actor at its desk: what it knows, what it took, and what it skipped.
use Rattle.std.specs.Prelude.{Bool, Err, IsSome, List, None, Ok, Option, Result, Some, [], if◌then◌else◌, length, option_to_list, ℕ, ◌++◌, ◌+◌, ◌<◌, ◌∷◌, ◌≡◌, ◌⊎◌}
use Rattle.base_ids.specs.declared.ids.Actor.{Actor}
use Rattle.base_ids.specs.declared.ids.MsgRef.{MsgRef}
use Rattle.base_ids.specs.declared.memory.NoMemory.{NoMemory}
use Rattle.cluster_history.specs.History.{History, message_at}
use Rattle.cluster_history.specs.declared.data.Message.{Message}
use Rattle.cluster_history.specs.Openings.{HasPart, IsValidOpening}
use Rattle.cluster_history.specs.declared.data.Entry.{Entry}
use Rattle.cluster_history.specs.declared.data.Opening.{Opening}
use Rattle.cluster_history.specs.declared.data.Output.{Output}
use Rattle.plan_facts.specs.Own.{own_count, same_ref, taken_count}
use Rattle.plan_facts.specs.Skips.{AreCaused, took_of}
use Rattle.plan_facts.specs.Posts.{sent_by, with_sent}
use Rattle.plan_facts.specs.Suits.{Carries}
use Rattle.run_plan.specs.declared.plan.RunPlan.{RunPlan}
use Rattle.plan_facts.specs.declared.skips.Skip.{Skip}
use Rattle.plan_facts.specs.declared.skips.SkipCause.{SkipCause}
use Rattle.base_ids.specs.declared.ids.HostId.{HostId}
use Rattle.base_ids.specs.declared.rules.Appended.{Appended}
use Rattle.topo_state.specs.declared.command.Command.{Command}
use Rattle.topo_state.specs.declared.command.Rule.{Rule}
use Rattle.engine_desk.specs.Chairs.{HasCommitted, HasNoted, HasTurned, IsRun, Known, look_entry, propose_entry}
use Rattle.cluster_history.specs.Topology.{log_of}
use Rattle.engine_desk.specs.declared.chair.Refused.{Refused}

-- ---- desks

-- the skips and what was taken stand with the newest first; a message that was taken is held until it has an entry or
-- is skipped
pub record DeskView : Type 0 where
  pub known : Known
  pub took : List MsgRef
  pub takes : ℕ
  pub held : Option MsgRef
  pub skips : List Skip

-- at first nothing was taken
abbrev pub fresh : Known → ℕ → DeskView
fresh known takes = record { known = known; took = []; takes = takes; held = None; skips = [] }

-- how many entries the actor has
abbrev pub own_entries : DeskView → ℕ
own_entries desk = own_count desk.known.actor desk.known.seen

-- a message was asked for, and there was one or none
abbrev pub taking : Option MsgRef → DeskView → DeskView
taking None desk = record desk { takes = desk.takes + 1 }
taking (Some at) desk = record desk { held = Some at; took = at ∷ desk.took; takes = desk.takes + 1 }

abbrev pub skip_of : SkipCause → DeskView → MsgRef → Skip
skip_of cause desk at = record { at = at; after = own_entries desk; cause = cause }

-- the held message is skipped
abbrev pub skipping : SkipCause → DeskView → MsgRef → DeskView
skipping cause desk at = record desk { held = None; skips = skip_of cause desk at ∷ desk.skips }

pub record DeskTurned (old new : DeskView) : Type 0 where
  pub turned : HasTurned old.known new.known
  pub is : new ≡ record old { known = new.known }

-- the actor knows other pins, or has published or found something
pub record DeskNoted (old new : DeskView) : Type 0 where
  pub noted : HasNoted old.known new.known
  pub is : new ≡ record old { known = new.known }

pub record DeskCommitted (old : DeskView) (entry : Entry) (number : ℕ) (new : DeskView) : Type 0 where
  pub committed : HasCommitted old.known entry number new.known
  pub is : new ≡ record old { known = new.known; held = None }

abbrev pub IsDeskCommit : DeskView → Entry → Result ℕ Refused → DeskView → Type 0
IsDeskCommit old entry (Ok number) new = DeskCommitted old entry number new
IsDeskCommit old entry (Err refused) new = DeskTurned old new

-- a look has its entry, and the log has so many commands there
abbrev pub DeskLooked : DeskView → HostId → ℕ → DeskView → Type 0
DeskLooked old topo commands new =
    (number : ℕ) × DeskCommitted old (look_entry topo) number new × (commands ≡ length (log_of new.known.seen))

abbrev pub IsDeskLook : DeskView → HostId → Result ℕ Refused → DeskView → Type 0
IsDeskLook old topo (Ok commands) new = DeskLooked old topo commands new
IsDeskLook old topo (Err refused) new = DeskTurned old new

-- a proposal has its entry, with what became of it
abbrev pub DeskProposed : DeskView → HostId → Command → Appended Rule → DeskView → Type 0
DeskProposed old topo command outcome new =
    (number : ℕ) × DeskCommitted old (propose_entry topo command outcome) number new

abbrev pub IsDeskProposal : DeskView → HostId → Command → Result (Appended Rule) Refused → DeskView → Type 0
IsDeskProposal old topo command (Ok outcome) new = DeskProposed old topo command outcome new
IsDeskProposal old topo command (Err refused) new = DeskTurned old new

-- a message was asked for: there was none, or it is held and there; at an error one may be held
abbrev pub IsFetched : DeskView → Result (Option (MsgRef × Message)) NoMemory → DeskView → Type 0
IsFetched old (Ok None) new = new ≡ taking None old
IsFetched old (Ok (Some found)) new =
    DeskTurned (taking (Some found.0) old) new × (message_at new.known.seen found.0 ≡ Some found.1)
IsFetched old (Err refused) new = (new ≡ old) ⊎ ((at : MsgRef) × DeskTurned (taking (Some at) old) new)

-- the messages of one entry more came in front of those before it; its number is above all that was seen
pub record HasSent (old : Known) (number : ℕ) (outputs : List Output) (new : Known) : Type 0 where
  pub sent : sent_by old.actor new.seen ≡ with_sent old.actor number 0 outputs (sent_by old.actor old.seen)
  pub above : length old.seen < number

-- the desk is the same actor's, at the same table
pub record IsSameDesk (old new : DeskView) : Type 0 where
  pub table : new.known.table ≡ old.known.table
  pub opening : new.known.opening ≡ old.known.opening
  pub actor : new.known.actor ≡ old.known.actor

-- ---- what the desk counts of its entries

abbrev pub count_in : MsgRef → List MsgRef → ℕ
count_in at [] = 0
count_in at (other ∷ refs) = (if same_ref other at then 1 else 0) + count_in at refs

-- how many there are, and which messages they took
pub record IsFiled (known : Known) (own : ℕ) (refs : List MsgRef) : Type 0 where
  pub own_is : own ≡ own_count known.actor known.seen
  pub refs_are : (at : MsgRef) → count_in at refs ≡ taken_count known.actor known.seen at

-- ---- what holds of a desk at each moment

-- the actor is one of a valid opening, and has seen a run
pub record IsSeated (known : Known) : Type 0 where
  pub valid : IsValidOpening known.opening
  pub there : HasPart known.opening known.actor
  pub run : IsRun known.opening known.seen

pub record IsDesk (plan : RunPlan) (desk : DeskView) : Type 0 where
  pub seated : IsSeated desk.known
  pub took : desk.took ≡ option_to_list desk.held ++ took_of desk.known.actor desk.known.seen desk.skips
  pub skips : AreCaused plan desk.known.opening desk.known.actor desk.known.seen desk.skips
  pub carries : Carries plan desk.known.opening desk.known.actor desk.known.seen
