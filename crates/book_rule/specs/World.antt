-- What entries mean after one another, and the laws of it. Histories have the newest entry first.
use Rattle.std.specs.Prelude.{List, Option, Some, [], false, filter, true, if◌then◌else◌, length, nat_lt, ℕ, ◌+◌, ◌<◌, ◌==◌, ◌∷◌, ◌≡◌, ◌≤◌}
use Rattle.base_ids.specs.Names.{first_version, same_actor, same_host}
use Rattle.base_ids.specs.Outcomes.{outcome_of}
use Rattle.base_ids.specs.declared.ids.Actor.{Actor}
use Rattle.base_ids.specs.declared.ids.Actor.TheVariants.{Host as ByHost, Lane as ByLane}
use Rattle.base_ids.specs.declared.ids.HostId.{HostId}
use Rattle.base_ids.specs.declared.ids.LaneId.{LaneId}
use Rattle.base_ids.specs.declared.ids.Version.{Version}
use Rattle.base_ids.specs.declared.rules.Appended.{Appended}
use Rattle.base_ids.specs.declared.rules.Appended.TheVariants.{Accepted}

-- what the book has to know of an entry: whether it begins a request at a version, is a quiet entry of a version, or
-- proposes a command
pub data Kind (C R : Type 0) : Type 0 where
  plain : Kind C R
  begins : Version → Kind C R
  quiets : Version → Kind C R
  proposes : C → Appended R → Kind C R

-- the meanings of a world: of its parts, of an opening, of an entry, of a history after an opening, and of a log
pub record Meaning (W O E C R M S : Type 0) : Type 1 where
  pub opening : W → O
  pub commands : W → List C
  pub no_opening : O
  pub is_in : O → Actor → Type 0
  pub author : E → Actor
  pub kind : E → Kind C R
  pub message : E → ℕ → Option M
  pub is_fit : C → Type 0
  pub proposal : Actor → C → Appended R → E
  pub enabled : O → List E → E → Type 0
  pub may_propose : O → List E → Actor → C → Type 0
  pub log : O → List E → List C
  pub look : O → List E → Actor → ℕ
  pub floor : O → List E → HostId → Version
  pub version : O → List E → HostId → Version
  pub live : O → List E → LaneId → Version → ℕ
  pub command_at : List C → ℕ → Option C
  pub snapshot_at : O → List C → Version → Option S
  pub broken : O → List C → C → Option R
  pub most_entries : ℕ
  pub most_commands : ℕ

-- the log with what an entry adds to it
abbrev pub added : {C R : Type 0} → Kind C R → List C → List C
added (proposes command (Accepted index)) log = command ∷ log
added kind log = log

-- an entry of the kind does not hinder a begin at the version: it is no quiet entry above that
abbrev pub IsBelow : {C R : Type 0} → Kind C R → Version → Type 0
IsBelow (quiets raised) version = raised.0 ≤ version.0
IsBelow kind version = Unit {0}

-- the greater one of two versions
abbrev pub later : Version → Version → Version
later a b = if nat_lt a.0 b.0 then b else a

-- the floor of a host after an entry of it
abbrev pub raised : {C R : Type 0} → Kind C R → Version → Version
raised (quiets version) floor = later floor version
raised kind floor = floor

-- how many live requests at a version an entry of the kind may add
abbrev pub begun : {C R : Type 0} → Kind C R → Version → ℕ
begun (begins version) at = if version.0 == at.0 then 1 else 0
begun kind at = 0

module _ {W O E C R M S : Type 0} (m : Meaning W O E C R M S) where
  -- what becomes of a proposal after a log, by the length read
  abbrev pub outcome_after : O → List C → ℕ → C → Appended R
  outcome_after opening log read command = outcome_of read (length log) (m.broken opening log command)

  -- an accepted proposal has the outcome that it has after the log
  abbrev pub IsJudged : O → List C → Kind C R → Type 0
  IsJudged opening log (proposes command (Accepted index)) =
      m.is_fit command × (outcome_after opening log (length log) command ≡ Accepted index)
  IsJudged opening log kind = Unit {0}

  -- each entry was enabled in its place
  abbrev pub IsLegal : O → List E → Type 0
  IsLegal opening [] = Unit {0}
  IsLegal opening (entry ∷ history) = m.enabled opening history entry × IsLegal opening history

  -- a history that a book may keep
  pub record IsKept (opening : O) (history : List E) : Type 0 where
    pub legal : IsLegal opening history
    pub entries : length history ≤ m.most_entries
    pub commands : length (m.log opening history) ≤ m.most_commands

  -- the entries of one actor
  abbrev pub own_of : Actor → List E → List E
  own_of actor history = filter (λ entry. same_actor (m.author entry) actor) history

  -- the entry comes next, and is not the actor's
  pub record IsForeign (opening : O) (history : List E) (entry : E) (actor : Actor) : Type 0 where
    pub legal : IsLegal opening history
    pub next : m.enabled opening history entry
    pub apart : same_actor (m.author entry) actor ≡ false

  -- no lane of the host has a live request below the version
  abbrev pub IsQuiet : O → List E → HostId → Version → Type 0
  IsQuiet opening history host version =
      (lane : LaneId) (at : Version) →
      same_host lane.host host ≡ true →
      at.0 < version.0 →
      m.live opening history lane at ≡ 0

  -- The laws of the meanings. Histories in them are legal.
  pub record Laws : Type 0 where
    -- a proposal's entry is that, of the one who proposes
    pub proposer :
        (opening : O) (history : List E) (topo : Actor) (command : C) (outcome : Appended R) →
        m.may_propose opening history topo command →
        m.author (m.proposal topo command outcome) ≡ topo
    pub fit :
        (opening : O) (history : List E) (topo : Actor) (command : C) →
        m.may_propose opening history topo command →
        m.is_fit command
    pub proposed :
        (topo : Actor) (command : C) (outcome : Appended R) →
        m.kind (m.proposal topo command outcome) ≡ proposes command outcome
    -- what is enabled stays so after an enabled entry of another actor
    pub stays :
        (opening : O) (history : List E) (entry mine : E) →
        IsForeign opening history entry (m.author mine) →
        m.kind mine ≡ plain →
        m.enabled opening history mine →
        m.enabled opening (entry ∷ history) mine
    -- and so does that a command may be proposed, whatever becomes of it
    pub proposal_stays :
        (opening : O) (history : List E) (entry : E) (topo : Actor) (command : C) →
        IsForeign opening history entry topo →
        m.may_propose opening history topo command →
        m.may_propose opening (entry ∷ history) topo command
    -- and so does a begin, where that is no quiet entry of its host above it
    pub begin_stays :
        (opening : O) (history : List E) (entry mine : E) (lane : LaneId) (version : Version) →
        IsForeign opening history entry (ByLane lane) →
        m.author mine ≡ ByLane lane →
        m.kind mine ≡ begins version →
        (m.author entry ≡ ByHost lane.host → IsBelow (m.kind entry) version) →
        m.enabled opening history mine →
        m.enabled opening (entry ∷ history) mine
    -- the log is empty at first, and an entry adds the command of an accepted proposal to it
    pub log_first : (opening : O) → m.log opening [] ≡ []
    pub log_next :
        (opening : O) (history : List E) (entry : E) →
        IsLegal opening history →
        m.enabled opening history entry →
        m.log opening (entry ∷ history) ≡ added (m.kind entry) (m.log opening history)
    -- entries of others leave what a topo has read of the log
    pub look_stays :
        (opening : O) (history : List E) (entry : E) (topo : Actor) →
        IsForeign opening history entry topo →
        m.look opening (entry ∷ history) topo ≡ m.look opening history topo
    -- what may be proposed is enabled, with the outcome that it has for what the topo has read
    pub proposal_next :
        (opening : O) (history : List E) (topo : Actor) (command : C) →
        IsLegal opening history →
        m.may_propose opening history topo command →
        let log : List C = m.log opening history in
        m.enabled opening history
        (m.proposal topo command (outcome_after opening log (m.look opening history topo) command))
    -- at first each host has the floor and the version 1, and no lane a live request
    pub floor_first : (opening : O) (host : HostId) → m.floor opening [] host ≡ first_version
    pub version_first : (opening : O) (host : HostId) → m.version opening [] host ≡ first_version
    pub live_first : (opening : O) (lane : LaneId) (at : Version) → m.live opening [] lane at ≡ 0
    -- entries of others leave a host's floor and version, and a lane's live requests
    pub floor_stays :
        (opening : O) (history : List E) (entry : E) (host : HostId) →
        IsForeign opening history entry (ByHost host) →
        m.floor opening (entry ∷ history) host ≡ m.floor opening history host
    pub version_stays :
        (opening : O) (history : List E) (entry : E) (host : HostId) →
        IsForeign opening history entry (ByHost host) →
        m.version opening (entry ∷ history) host ≡ m.version opening history host
    pub live_stays :
        (opening : O) (history : List E) (entry : E) (lane : LaneId) (at : Version) →
        IsForeign opening history entry (ByLane lane) →
        m.live opening (entry ∷ history) lane at ≡ m.live opening history lane at
    -- its own entries never lower a host's version, and only its quiet entries change its floor
    pub version_rises :
        (opening : O) (history : List E) (entry : E) (host : HostId) →
        IsLegal opening history →
        m.enabled opening history entry →
        m.author entry ≡ ByHost host →
        (m.version opening history host).0 ≤ (m.version opening (entry ∷ history) host).0
    pub floor_next :
        (opening : O) (history : List E) (entry : E) (host : HostId) →
        IsLegal opening history →
        m.enabled opening history entry →
        m.author entry ≡ ByHost host →
        m.floor opening (entry ∷ history) host ≡ raised (m.kind entry) (m.floor opening history host)
    -- an own entry of a lane adds a live request at most where it begins one
    pub live_next :
        (opening : O) (history : List E) (entry : E) (lane : LaneId) (at : Version) →
        IsLegal opening history →
        m.enabled opening history entry →
        m.author entry ≡ ByLane lane →
        m.live opening (entry ∷ history) lane at ≤ m.live opening history lane at + begun (m.kind entry) at
    -- a quiet entry is enabled where its host has reached the version and nothing below is live
    pub quiet_next :
        (opening : O) (history : List E) (entry : E) (host : HostId) (version : Version) →
        IsLegal opening history →
        m.is_in opening (ByHost host) →
        m.author entry ≡ ByHost host →
        m.kind entry ≡ quiets version →
        version.0 ≤ (m.version opening history host).0 →
        IsQuiet opening history host version →
        m.enabled opening history entry
    -- each version up to a host's has a snapshot
    pub snapshot_there :
        (opening : O) (history : List E) (host : HostId) (version : Version) →
        IsLegal opening history →
        1 ≤ version.0 →
        version.0 ≤ (m.version opening history host).0 →
        (snapshot : S) × (m.snapshot_at opening (m.log opening history) version ≡ Some snapshot)
