-- A lane at its desk.
use Rattle.std.specs.Prelude.{Err, List, None, Ok, Option, Result, Some, [], false, map, nat_lt, true, ℕ, ◌*◌, ◌+◌, ◌∷◌, ◌≡◌, ◌≤◌}
use Rattle.base_ids.specs.declared.ids.Actor.TheVariants.{Lane as ByLane}
use Rattle.base_ids.specs.declared.ids.LaneId.{LaneId}
use Rattle.base_ids.specs.declared.ids.MsgRef.{MsgRef}
use Rattle.cluster_history.specs.History.{History, actor_of}
use Rattle.cluster_history.specs.Legal.{broken_rule}
use Rattle.cluster_history.specs.Openings.{HasPart, IsValidOpening}
use Rattle.cluster_history.specs.declared.data.Entry.{Entry}
use Rattle.cluster_history.specs.declared.data.Event.{Event}
use Rattle.cluster_history.specs.declared.data.Opening.{Opening}
use Rattle.lane_core.specs.Lane.{LaneView, lane_out}
use Rattle.lane_core.specs.declared.data.LaneInput.{LaneInput}
use Rattle.lane_ties.specs.LaneTies.{lane_input, lane_outputs, lane_view}
use Rattle.plan_facts.specs.Own.{is_timeout_of, taken_ref, timeout_count}
use Rattle.base_ids.specs.declared.ids.Version.{Version}
use Rattle.topo_state.specs.State.{Topology}
use Rattle.cluster_history.specs.Topology.{floor_of, state_of_version, version_of}
use Rattle.run_plan.specs.declared.plan.RunPlan.{RunPlan}
use Rattle.engine_desk.specs.Chairs.{Holds, IsRun, Known, pin_count}
use Rattle.engine_desk.specs.Desks.{DeskCommitted, DeskTurned, DeskView, IsSeated, taking}
use Rattle.engine_desk.specs.declared.chair.Refused.{Refused}

-- the lane is what its desk has seen
pub record IsLane (known : Known) (lane : LaneView) : Type 0 where
  pub actor : known.actor ≡ ByLane lane.lane
  pub view : lane ≡ lane_view known.opening known.seen lane.lane

-- the event is the lane's and enabled in what it has seen, this is its input, and it takes the message that is held
pub record IsLaneDue (desk : DeskView) (lane : LaneView) (event : Event) (input : LaneInput) : Type 0 where
  pub author : actor_of event ≡ ByLane lane.lane
  pub enabled : broken_rule desk.known.opening desk.known.seen event ≡ None
  pub input_is : lane_input desk.known.opening desk.known.seen event ≡ Some input
  pub holds : Holds desk.known event
  pub held : desk.held ≡ taken_ref event

-- the entry that the event makes
abbrev pub lane_entry : LaneView → Event → LaneInput → Entry
lane_entry lane event input = record { event = event; outputs = lane_outputs (lane_out lane input) }

-- the event has its entry and the lane has played it, or nothing has become of it
abbrev pub IsLanePlayed : DeskView → LaneView → Event → LaneInput → Result ℕ Refused → DeskView → LaneView → Type 0
IsLanePlayed desk lane event input (Ok number) after played =
    DeskCommitted desk (lane_entry lane event input) number after × IsLane after.known played
IsLanePlayed desk lane event input (Err refused) after played = DeskTurned desk after

-- ---- what a lane may begin

-- no request is live; the version is pinned, as the chair tells after a turn, and this is its first state
pub record MayBegin (desk : DeskView) (lane : LaneView) (version : Version) (state : Topology) : Type 0 where
  pub none : lane.live ≡ []
  pub above : (floor_of desk.known.seen lane.lane.host).0 ≤ version.0
  pub below : version.0 ≤ (version_of desk.known.opening desk.known.seen lane.lane.host).0
  pub pinned : nat_lt 0 (pin_count version desk.known.pins) ≡ true
  pub found : state_of_version desk.known.opening desk.known.seen version ≡ Some state
  pub free : desk.held ≡ None

-- ---- how often a lane gives up

-- for each request that it gave up it asked for messages as often as the plan's patience says, up to this count
pub record IsPatient (plan : RunPlan) (desk : DeskView) (lane : LaneId) (since : ℕ) : Type 0 where
  pub given_up : plan.patience * timeout_count lane desk.known.seen ≤ since
  pub asked : since ≤ desk.takes

-- it stays so at turns and takes, past each entry but a timeout, and past a timeout once the patience has run out since
pub record PatienceLasts (plan : RunPlan) (old new : DeskView) (lane : LaneId) (since : ℕ) : Type 0 where
  pub turned :
      old.known.actor ≡ ByLane lane →
      DeskTurned old new →
      IsPatient plan old lane since →
      IsPatient plan new lane since
  pub took :
      (at : Option MsgRef) →
      new ≡ taking at old →
      IsPatient plan old lane since →
      IsPatient plan new lane since
  pub committed :
      (entry : Entry) (number : ℕ) →
      old.known.actor ≡ ByLane lane →
      is_timeout_of lane entry.event ≡ false →
      DeskCommitted old entry number new →
      IsPatient plan old lane since →
      IsPatient plan new lane since
  pub given_up :
      (entry : Entry) (number : ℕ) →
      old.known.actor ≡ ByLane lane →
      since + plan.patience ≤ old.takes →
      DeskCommitted old entry number new →
      IsPatient plan old lane since →
      IsPatient plan new lane old.takes

abbrev pub LanesArePatient : Type 0
LanesArePatient =
    (plan : RunPlan) (old new : DeskView) (lane : LaneId) (since : ℕ) → PatienceLasts plan old new lane since
