-- What actors know beside the journal: the pins of lanes, and what hosts have published. Each host has a version word
-- and eight pin words, and the version v uses the pin word v mod 8.
use Rattle.std.specs.Prelude.{Bool, List, [], false, if◌then◌else◌, length, max, slice_index, suc, true, zero, ℕ, ◌%◌, ◌*◌, ◌+◌, ◌-◌, ◌<◌, ◌==◌, ◌∷◌, ◌≡◌, ◌≤◌}
use mathlib.Core.Option.{some}
use lib.ListN.{get_elem?}
use Rattle.base_ids.specs.Names.{first_version, same_actor}
use Rattle.base_ids.specs.declared.ids.Actor.{Actor}
use Rattle.base_ids.specs.declared.ids.Actor.TheVariants.{Host as ByHost, Lane as ByLane, Topo as ByTopo}
use Rattle.base_ids.specs.declared.ids.HostId.{HostId}
use Rattle.base_ids.specs.declared.ids.LaneId.{LaneId}
use Rattle.base_ids.specs.declared.ids.Version.{Version}
use Rattle.book_rule.specs.World.{Meaning}
use Rattle.book_rule.specs.declared.view.Note.{Note}
use Rattle.book_rule.specs.declared.view.PinLook.{PinLook}

abbrev pub first_note : Note
first_note = record { pins = []; raised = []; saw = first_version; published = first_version; looks = [] }

-- the host that an actor is on
abbrev pub host_of : Actor → HostId
host_of (ByHost host) = host
host_of (ByLane lane) = lane.host
host_of (ByTopo host) = host

-- a function of actors, with another value at one of them
abbrev pub changed : {X : Type 0} → (Actor → X) → Actor → X → Actor → X
changed f actor x other = if same_actor other actor then x else f other

abbrev pub one_if : Bool → ℕ
one_if true = 1
one_if false = 0

-- how many of the versions use the word
abbrev pub on_word : ℕ → List Version → ℕ
on_word word [] = 0
on_word word (version ∷ versions) = one_if (version.0 % 8 == word) + on_word word versions

-- how often a version is among them
abbrev pub count_of : Version → List Version → ℕ
count_of sought [] = 0
count_of sought (version ∷ versions) = one_if (version.0 == sought.0) + count_of sought versions

-- the versions, without one of these
abbrev pub without : Version → List Version → List Version
without sought [] = []
without sought (version ∷ versions) =
    if version.0 == sought.0 then versions else version ∷ without sought versions

abbrev pub Every : (Version → Type 0) → List Version → Type 0
Every P [] = Unit {0}
Every P (version ∷ versions) = P version × Every P versions

abbrev pub total : (Actor → ℕ) → List Actor → ℕ
total f [] = 0
total f (actor ∷ actors) = f actor + total f actors

-- how many pins of an actor stand on a word of a host
abbrev pub pins_on : ℕ → ℕ → Actor → Note → ℕ
pins_on host word actor note =
    if (host_of actor).0 == host then on_word word note.pins + on_word word note.raised else 0

-- the place of a host's version word
abbrev pub version_word : ℕ → ℕ
version_word host = 2 + 9 * host

-- the place of one of its pin words
abbrev pub pin_word : ℕ → ℕ → ℕ
pin_word host word = 3 + 9 * host + word

abbrev pub published_of : (Actor → Note) → HostId → Version
published_of notes host = (notes (ByHost host)).published

-- the words of the table tell what the actors know
pub record AreWords (hosts : ℕ) (actors : List Actor) (notes : Actor → Note) (words : List ℕ) : Type 0 where
  pub wide : length words ≡ 2 + 9 * hosts
  pub versions :
      (host : HostId) →
      host.0 < hosts →
      slice_index words (version_word host.0) ≡ (published_of notes host).0
  pub pins :
      (host word : ℕ) →
      host < hosts →
      word < 8 →
      slice_index words (pin_word host word) ≡ total (λ actor. pins_on host word actor (notes actor)) actors
  pub eight : (actor : Actor) → length (notes actor).pins + length (notes actor).raised ≤ 8

-- a look at a pin word, and how many pins stood there
abbrev pub look_at : ℕ → ℕ → PinLook
look_at word count = record { word = word; count = count }

-- by one of these looks nothing stood on the word
abbrev pub SawEmpty : List PinLook → ℕ → Type 0
SawEmpty looks word = (place : ℕ) × (get_elem? looks place ≡ some (look_at word 0))

-- a confirmed pin, by its host's floor and published version and the looks at pin words since that was published
pub record IsPin (floor published : Version) (looks : List PinLook) (version : Version) : Type 0 where
  pub low : floor.0 ≤ version.0
  pub high : version.0 ≤ published.0
  pub near : published.0 ≤ version.0 + 7
  pub clear : (place : ℕ) → get_elem? looks place ≡ some (look_at (version.0 % 8) 0) → published.0 ≤ version.0

module _ {W O E C R M S : Type 0} (m : Meaning W O E C R M S) where
  -- the confirmed pins of a lane, by what its host knows
  abbrev pub ArePins : O → (Actor → Note) → List E → LaneId → Type 0
  ArePins opening notes history lane =
      Every
      (IsPin (m.floor opening history lane.host) (published_of notes lane.host) (notes (ByHost lane.host)).looks)
      (notes (ByLane lane)).pins

  -- what actors know fits the history
  pub record Matches (opening : O) (notes : Actor → Note) (history : List E) : Type 0 where
    pub one : (host : HostId) → 1 ≤ (m.floor opening history host).0
    pub low : (host : HostId) → (m.floor opening history host).0 ≤ (published_of notes host).0
    pub high : (host : HostId) → (published_of notes host).0 ≤ (m.version opening history host).0
    pub pins : (lane : LaneId) → ArePins opening notes history lane
    pub live :
        (lane : LaneId) (at : Version) →
        m.live opening history lane at ≤ count_of at (notes (ByLane lane)).pins

-- a host saw the words of the seven versions before the published one empty, as far as these are versions
abbrev pub IsIdle : Note → Version → Type 0
IsIdle note version =
    (note.published ≡ version) ×
    ((back : ℕ) → 0 < back → back < 8 → back < version.0 → SawEmpty note.looks ((version.0 - back) % 8))

-- by its last look, pins stood on the word of one of these seven versions
pub record IsBusy (note : Note) (version : Version) : Type 0 where
  pub back : ℕ
  pub count : ℕ
  pub before : List PinLook
  pub some_back : 0 < back
  pub near : back < 8
  pub there : back < version.0
  pub pinned : 0 < count
  pub last : note.looks ≡ look_at ((version.0 - back) % 8) count ∷ before

-- the words behind those of the turns at first: each host has published version 1 and has no pins
abbrev pub host_words : ℕ → List ℕ
host_words zero = []
host_words (suc hosts) = 1 ∷ 0 ∷ 0 ∷ 0 ∷ 0 ∷ 0 ∷ 0 ∷ 0 ∷ 0 ∷ host_words hosts

abbrev pub first_words : ℕ → List ℕ
first_words hosts = 0 ∷ 0 ∷ host_words hosts

-- the least bound of the numbers of hosts
abbrev pub hosts_of : List Actor → ℕ
hosts_of [] = 0
hosts_of (actor ∷ actors) = max ((host_of actor).0 + 1) (hosts_of actors)
