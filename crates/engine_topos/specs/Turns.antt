-- A coordinator's turn.
use Rattle.std.specs.Prelude.{Err, List, None, Ok, Option, Result, Some, [], length, true, ℕ, ◌<◌, ◌∷◌, ◌≡◌, ◌≤◌}
use Rattle.barrier_core.specs.declared.data.What.{What}
use Rattle.base_ids.specs.declared.ids.Actor.TheVariants.{Topo as ByTopo}
use Rattle.base_ids.specs.declared.ids.HostId.{HostId}
use Rattle.cluster_history.specs.History.{actor_of}
use Rattle.cluster_history.specs.Legal.{IsFitEvent, broken_rule}
use Rattle.cluster_history.specs.declared.data.Entry.{Entry}
use Rattle.cluster_history.specs.declared.data.Event.{Event}
use Rattle.cluster_history.specs.Messages.{is_for, is_report}
use Rattle.cluster_history.specs.declared.data.Message.{Message}
use Rattle.topo_ties.specs.TopoTies.{heard_input}
use Rattle.cluster_history.specs.declared.data.Message.TheVariants.{Ask as AskSent}
use Rattle.cluster_history.specs.declared.data.Output.{Output}
use Rattle.cluster_history.specs.declared.data.Output.TheVariants.{Sent}
use Rattle.topo_coord.specs.Topo.{TopoView, topo_out}
use Rattle.topo_coord.specs.declared.data.TopoInput.{TopoInput}
use Rattle.topo_coord.specs.declared.data.TopoInput.TheVariants.{Propose as ProposeInput}
use Rattle.topo_coord.specs.declared.data.TopoOut.{TopoOut}
use Rattle.topo_coord.specs.declared.data.TopoOut.TheVariants.{Ask as AskOut}
use Rattle.plan_facts.specs.Moves.{proposals_of}
use Rattle.plan_facts.specs.Posts.{sent_by}
use Rattle.plan_facts.specs.Own.{taken_ref}
use Rattle.run_plan.specs.declared.plan.RunPlan.{RunPlan}
use Rattle.engine_desk.specs.Chairs.{Holds, Known}
use Rattle.engine_desk.specs.Desks.{DeskCommitted, DeskTurned, DeskView, HasSent, IsDesk}
use Rattle.engine_desk.specs.declared.chair.Refused.{Refused}
use Rattle.engine_players.specs.Coordinators.{IsTopo}
use Rattle.engine_players.specs.Inputs.{kept_input}
use Rattle.engine_topos.specs.Notes.{IsNoted, NotesView, ask_noted, asked_in}
use Rattle.engine_topos.specs.declared.notes.Asked.{Asked}

-- what is given out that is no proposal
abbrev pub plain_outputs : TopoOut → List Output
plain_outputs (AskOut ask) = Sent (AskSent ask) ∷ []
plain_outputs out = []

abbrev pub ask_of : HostId → What → Asked
ask_of host what = record { to = host; what = what }

-- what an ask sends
abbrev pub ask_outputs : HostId → Asked → List Output
ask_outputs topo asked = Sent (AskSent (record { by = topo; to = asked.to; what = asked.what })) ∷ []

abbrev pub IsPlain : TopoInput → Type 0
IsPlain (ProposeInput command) = ⊥
IsPlain input = Unit {0}

-- the event, no proposal, is the coordinator's and enabled in what it has seen, this is its input, and it takes the
-- message that is held
pub record IsTopoDue (desk : DeskView) (topo : TopoView) (event : Event) (input : TopoInput) : Type 0 where
  pub author : actor_of event ≡ ByTopo topo.host
  pub enabled : broken_rule desk.known.opening desk.known.seen event ≡ None
  pub fit : IsFitEvent desk.known.opening event
  pub input_is : kept_input desk.known.opening desk.known.seen event ≡ Some input
  pub plain : IsPlain input
  pub holds : Holds desk.known event
  pub held : desk.held ≡ taken_ref event

abbrev pub topo_entry : TopoView → Event → TopoInput → Entry
topo_entry topo event input = record { event = event; outputs = plain_outputs (topo_out topo input) }

abbrev pub IsTopoPlayed : DeskView → TopoView → Event → TopoInput → Result ℕ Refused → DeskView → TopoView → Type 0
IsTopoPlayed desk topo event input (Ok number) after played =
    DeskCommitted desk (topo_entry topo event input) number after × IsTopo after.known played
IsTopoPlayed desk topo event input (Err refused) after played = DeskTurned desk after

-- a coordinator between its events
pub record IsAtTopo (plan : RunPlan) (desk : DeskView) (topo : TopoView) (notes : NotesView) : Type 0 where
  pub kept : IsDesk plan desk
  pub topo_is : IsTopo desk.known topo
  pub noted : IsNoted desk.known.seen topo.host notes
  pub free : desk.held ≡ None

-- the coordinator has proposed nothing meanwhile but fences
abbrev pub WaysStay : Known → HostId → Known → Type 0
WaysStay old topo new = proposals_of new.opening new.seen topo ≡ proposals_of old.opening old.seen topo

-- the coordinator has sent nothing meanwhile
pub record SentStays (old : Known) (topo : HostId) (new : Known) : Type 0 where
  pub sent : sent_by (ByTopo topo) new.seen ≡ sent_by (ByTopo topo) old.seen
  pub longer : length old.seen ≤ length new.seen

-- The ask has its entry, of this number, and is noted. None comes exactly where the host was asked this as often as it
-- may be, and nothing has changed then.
abbrev pub AskComes : ℕ → DeskView → HostId → NotesView → Asked → Option ℕ → DeskView → NotesView → Type 0
AskComes most desk topo notes asked None after noted =
    (most ≤ asked_in asked.to asked.what notes.asks) × (after ≡ desk) × (noted ≡ notes)
AskComes most desk topo notes asked (Some number) after noted =
    (asked_in asked.to asked.what notes.asks < most)
    × (noted ≡ ask_noted asked.to asked.what notes)
    × HasSent desk.known number (ask_outputs topo asked) after.known

-- hearing the message, which is for this coordinator, gives it this
pub record IsHeard (topo : HostId) (message : Message) (input : TopoInput) : Type 0 where
  pub gives : heard_input (Some message) ≡ Some input
  pub mine : is_for (ByTopo topo) is_report message ≡ true
  pub plain : IsPlain input
