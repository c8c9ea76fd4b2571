-- What an actor knows of the history that all actors share, and how it grows.
use Rattle.std.specs.Prelude.{Bool, Err, List, None, Ok, Option, Result, Some, [], false, filter, if◌then◌else◌, length, nat_lt, true, ℕ, ◌++◌, ◌+◌, ◌==◌, ◌∷◌, ◌≡◌, ◌≤◌}
use Rattle.atomic_table.specs.Seated.{TableId}
use Rattle.base_ids.specs.declared.ids.Actor.{Actor}
use Rattle.base_ids.specs.declared.ids.Actor.TheVariants.{Host as ByHost, Lane as ByLane, Topo as ByTopo}
use Rattle.base_ids.specs.declared.ids.HostId.{HostId}
use Rattle.base_ids.specs.declared.ids.LaneId.{LaneId}
use Rattle.base_ids.specs.declared.rules.Appended.{Appended}
use Rattle.cluster_history.specs.declared.data.Output.TheVariants.{Proposed}
use Rattle.topo_state.specs.Rules.{IsFit}
use Rattle.topo_state.specs.declared.command.Command.{Command}
use Rattle.topo_state.specs.declared.command.Rule.{Rule}
use Rattle.base_ids.specs.declared.ids.OpId.{OpId}
use Rattle.base_ids.specs.declared.ids.StateId.{StateId}
use Rattle.base_ids.specs.declared.ids.Version.{Version}
use Rattle.cluster_history.specs.History.{History, actor_of, is_by}
use Rattle.cluster_history.specs.Legal.{HasActor, IsFitEvent, IsLegalHistory, IsNext, broken_rule, outputs_of}
use Rattle.cluster_history.specs.Requests.{Request, live_ops, request_at}
use Rattle.cluster_history.specs.Topology.{floor_of, log_of, look_of, version_of}
use Rattle.cluster_history.specs.declared.data.Entry.{Entry}
use Rattle.cluster_history.specs.declared.data.Event.{Event}
use Rattle.cluster_history.specs.declared.data.Event.TheVariants.{Begin, Look, Propose, Quiet}
use Rattle.cluster_history.specs.declared.data.Opening.{Opening}
use Rattle.engine_desk.specs.declared.chair.Refused.{Refused}

-- an actor, the history that it has seen, the versions that it pins, the version that it has published, and the
-- version below which it found nothing pinned since
pub record Known : Type 0 where
  pub table : TableId
  pub opening : Opening
  pub actor : Actor
  pub seen : History
  pub pins : List Version
  pub published : Version
  pub idle : Option Version

-- the history is legal and within the limits
pub record IsRun (opening : Opening) (history : History) : Type 0 where
  pub legal : IsLegalHistory opening history
  pub entries : length history ≤ 1000000
  pub commands : length (log_of history) ≤ 10000

abbrev pub AreOthers : Actor → History → Type 0
AreOthers actor [] = Unit {0}
AreOthers actor (entry ∷ entries) = (is_by actor entry.event ≡ false) × AreOthers actor entries

-- entries of others came since
pub record IsLater (opening : Opening) (actor : Actor) (old new : History) : Type 0 where
  pub between : History
  pub is : new ≡ between ++ old
  pub others : AreOthers actor between
  pub run : IsRun opening new

-- the actor has seen more, and nothing else has changed
pub record HasTurned (old new : Known) : Type 0 where
  pub now : History
  pub later : IsLater old.opening old.actor old.seen now
  pub is : new ≡ record old { seen = now }

-- nothing has changed but what the actor pins, or has published and found
abbrev pub HasNoted : Known → Known → Type 0
HasNoted old new = new ≡ record old { pins = new.pins; published = new.published; idle = new.idle }

-- ---- pins

abbrev pub is_at : Version → Option Request → Bool
is_at version None = false
is_at version (Some request) = request.version.0 == version.0

-- how many live requests of the lane are of the version, and how many pins are
abbrev pub live_at : Opening → History → LaneId → Version → ℕ
live_at opening history lane version =
    length (filter (λ op. is_at version (request_at opening history lane op)) (live_ops history lane))

abbrev pub pin_count : Version → List Version → ℕ
pin_count version pins = length (filter (λ (pin : Version). pin.0 == version.0) pins)

abbrev pub with_pins : List Version → Known → Known
with_pins pins known = record known { pins = pins }

-- the versions, without one of these
abbrev pub without_pin : Version → List Version → List Version
without_pin version [] = []
without_pin version (pin ∷ pins) = if pin.0 == version.0 then pins else pin ∷ without_pin version pins

-- the actor is a lane
abbrev pub IsLaneSeat : Known → Type 0
IsLaneSeat known = (lane : LaneId) × (known.actor ≡ ByLane lane)

-- a lane pins the version more often than requests of it are live there
abbrev pub HasSpare : Known → Version → Type 0
HasSpare known version =
    (lane : LaneId)
    × (known.actor ≡ ByLane lane)
    × (nat_lt (live_at known.opening known.seen lane version) (pin_count version known.pins) ≡ true)

-- the answer of a pin: the version has one more, or the host published another one meanwhile
abbrev pub IsPinning : Known → Option Version → Known → Type 0
IsPinning old None new = new ≡ old
IsPinning old (Some version) new = new ≡ with_pins (version ∷ old.pins) old

-- a version is no older than the floor of a host, and no newer than the host
pub record IsPinnable (known : Known) (host : HostId) (version : Version) : Type 0 where
  pub low : (floor_of known.seen host).0 ≤ version.0
  pub high : version.0 ≤ (version_of known.opening known.seen host).0

-- a lane pins the version
abbrev pub HasPinned : Known → LaneId → Version → Type 0
HasPinned known lane version = (known.actor ≡ ByLane lane) × (nat_lt 0 (pin_count version known.pins) ≡ true)

-- each version that a lane pins is such a one
abbrev pub ArePinnable : Known → Type 0
ArePinnable known =
    (lane : LaneId) (version : Version) → HasPinned known lane version → IsPinnable known lane.host version

-- ---- what a host publishes

-- a host has reached the version, which is the next one to publish
abbrev pub IsNextVersion : Known → Version → Type 0
IsNextVersion known version =
    (version.0 ≡ known.published.0 + 1)
    × ((host : HostId) × (known.actor ≡ ByHost host) × (version.0 ≤ (version_of known.opening known.seen host).0))

-- the answer of a publish: pins may stand in its way
abbrev pub published_by : Bool → Version → Version → Version
published_by done version old = if done then version else old

abbrev pub IsPublishing : Known → Version → Bool → Known → Type 0
IsPublishing old version done new =
    new ≡ record old { published = published_by done version old.published; idle = None }

-- a host looks whether anything older than what it published is pinned
abbrev pub IsHostSeat : Known → Type 0
IsHostSeat known = (host : HostId) × (known.actor ≡ ByHost host)

abbrev pub found_idle : Bool → Version → Option Version
found_idle idle version = if idle then Some version else None

-- ---- commits

-- what an event needs beside being enabled: a begin a pin of its version more than there are live requests of it, a
-- quiet event that nothing older is pinned. A proposal is not committed but proposed.
abbrev pub Holds : Known → Event → Type 0
Holds known (Begin lane operation version) =
    nat_lt (live_at known.opening known.seen lane version) (pin_count version known.pins) ≡ true
Holds known (Quiet host version) = known.idle ≡ Some version
Holds known (Propose topo command) = ⊥
Holds known event = Unit {0}

-- The event is enabled in what the actor has seen. Of a quiet event only that its host has reached the version: whether
-- requests below it are live the host does not see, and that none are it knows by what it found pinned.
abbrev pub IsEnabled : Known → Event → Type 0
IsEnabled known (Quiet host version) = version.0 ≤ (version_of known.opening known.seen host).0
IsEnabled known event = broken_rule known.opening known.seen event ≡ None

pub record MayCommit (known : Known) (entry : Entry) : Type 0 where
  pub author : actor_of entry.event ≡ known.actor
  pub there : HasActor known.opening entry.event
  pub fit : IsFitEvent known.opening entry.event
  pub enabled : IsEnabled known entry.event
  pub outputs : entry.outputs ≡ outputs_of known.opening known.seen entry.event
  pub holds : Holds known entry.event

-- the entry has this number, and is the newest that the actor has seen
pub record HasCommitted (old : Known) (entry : Entry) (number : ℕ) (new : Known) : Type 0 where
  pub now : History
  pub later : IsLater old.opening old.actor old.seen now
  pub next : IsNext old.opening now entry
  pub run : IsRun old.opening (entry ∷ now)
  pub number_is : number ≡ length now + 1
  pub is : new ≡ record old { seen = entry ∷ now }

abbrev pub IsCommit : Known → Entry → Result ℕ Refused → Known → Type 0
IsCommit old entry (Ok number) new = HasCommitted old entry number new
IsCommit old entry (Err refused) new = HasTurned old new

-- ---- looks

abbrev pub look_entry : HostId → Entry
look_entry topo = record { event = Look topo; outputs = [] }

-- the look has its entry, and the log has so many commands there
abbrev pub HasLooked : Known → HostId → ℕ → Known → Type 0
HasLooked old topo commands new =
    (number : ℕ) × HasCommitted old (look_entry topo) number new × (commands ≡ length (log_of new.seen))

abbrev pub IsLook : Known → HostId → Result ℕ Refused → Known → Type 0
IsLook old topo (Ok commands) new = HasLooked old topo commands new
IsLook old topo (Err refused) new = HasTurned old new

-- ---- proposals

abbrev pub propose_entry : HostId → Command → Appended Rule → Entry
propose_entry topo command outcome = record { event = Propose topo command; outputs = Proposed outcome ∷ [] }

-- what the coordinator has read is the log up to its last look
pub record MayPropose (known : Known) (topo : HostId) (read : StateId) (command : Command) : Type 0 where
  pub author : known.actor ≡ ByTopo topo
  pub look : read.0 ≡ look_of known.seen topo
  pub fit : IsFit command
  pub enabled : broken_rule known.opening known.seen (Propose topo command) ≡ None

-- the proposal has its entry, with what became of it
abbrev pub HasProposed : Known → HostId → Command → Appended Rule → Known → Type 0
HasProposed old topo command outcome new =
    (number : ℕ) × HasCommitted old (propose_entry topo command outcome) number new

abbrev pub IsProposal : Known → HostId → Command → Result (Appended Rule) Refused → Known → Type 0
IsProposal old topo command (Ok outcome) new = HasProposed old topo command outcome new
IsProposal old topo command (Err refused) new = HasTurned old new
