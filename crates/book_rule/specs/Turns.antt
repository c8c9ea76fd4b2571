-- The rule of the book: actors take turns by tickets, and who has the turn has the journal. Word 0 of the table counts
-- the tickets, and word 1 is the ticket that is served.
use Rattle.std.specs.Prelude.{All, Bool, List, [], false, length, not, slice_index, true, ℕ, ◌%◌, ◌&&◌, ◌++◌, ◌+◌, ◌<◌, ◌∷◌, ◌≡◌, ◌≢◌, ◌≤◌, ◌⊎◌}
use Rattle.std.specs.List.{list_any}
use mathlib.Core.Option.{none, some}
use lib.ListN.{get_elem?}
use Rattle.atomic_table.specs.Table.{Me, State, Step}
use Rattle.base_ids.specs.Names.{same_actor}
use Rattle.base_ids.specs.declared.ids.Actor.{Actor}
use Rattle.base_ids.specs.declared.ids.Actor.TheVariants.{Host as ByHost, Lane as ByLane}
use Rattle.base_ids.specs.declared.ids.HostId.{HostId}
use Rattle.base_ids.specs.declared.ids.LaneId.{LaneId}
use Rattle.base_ids.specs.declared.ids.Version.{Version}
use Rattle.book_rule.specs.Notes.{AreWords, IsIdle, Matches, count_of, first_note, host_of}
use Rattle.book_rule.specs.World.{IsKept, Kind, Meaning, begins, own_of, plain, proposes, quiets}
use Rattle.book_rule.specs.declared.view.About.{About}
use Rattle.book_rule.specs.declared.view.Known.{Known}
use Rattle.book_rule.specs.declared.view.Note.{Note}
use Rattle.book_rule.specs.declared.view.Stage.{Stage}
use Rattle.book_rule.specs.declared.view.Stage.TheVariants.{Idle, Turn, Waits}
use Rattle.book_rule.specs.declared.view.View.{View}
use Rattle.book_rule.specs.declared.view.View.TheVariants.{Keeper, Spent, Working}

-- a world with the history that it has the log of
pub record Written (W E : Type 0) : Type 0 where
  pub world : W
  pub history : List E

-- an actor is among these
abbrev pub has_actor : List Actor → Actor → Bool
has_actor actors sought = list_any (same_actor sought) actors

abbrev pub are_distinct : List Actor → Bool
are_distinct [] = true
are_distinct (actor ∷ rest) = not (has_actor rest actor) && are_distinct rest

abbrev pub ticket_of : Stage → ℕ
ticket_of Idle = 0
ticket_of (Waits ticket) = ticket
ticket_of (Turn ticket) = ticket

abbrev pub is_turn : Stage → ℕ
is_turn Idle = 0
is_turn (Waits ticket) = 0
is_turn (Turn ticket) = 1

abbrev pub has_ticket : Stage → ℕ
has_ticket Idle = 0
has_ticket (Waits ticket) = 1
has_ticket (Turn ticket) = 1

-- the seat's place in the queue
abbrev pub InQueue : {E : Type 0} → ℕ → List ℕ → List E → List E → ℕ → Stage → Type 0
InQueue serving queue history seen id Idle = Unit {0}
InQueue serving queue history seen id (Waits ticket) =
    (k : ℕ) × (get_elem? queue k ≡ some id) × (ticket ≡ (serving + k) % 18446744073709551616)
InQueue serving queue history seen id (Turn ticket) =
    (get_elem? queue 0 ≡ some id) × (ticket ≡ serving) × (seen ≡ history)

module _ {O E : Type 0} where
  -- an actor that has done and seen nothing
  abbrev pub fresh : O → Actor → Known O E
  fresh opening actor = record { opening = opening; actor = actor; own = []; seen = []; note = first_note }

  abbrev pub stage_of : View O E → Stage
  stage_of Spent = Idle
  stage_of (Keeper opening rest ended) = Idle
  stage_of (Working stage known) = stage

  -- what a view knows, for an actor's
  abbrev pub known_of : O → View O E → Known O E
  known_of none_known Spent = fresh none_known (ByHost (record { 0 = 0 }))
  known_of none_known (Keeper opening rest ended) = fresh opening (ByHost (record { 0 = 0 }))
  known_of none_known (Working stage known) = known

  abbrev pub at_stage : Stage → View O E → View O E
  at_stage stage Spent = Spent
  at_stage stage (Keeper opening rest ended) = Keeper opening rest ended
  at_stage stage (Working old known) = Working stage known

  -- the views of a keeper that hands out one part more, and of the seat that gets it
  abbrev pub handing : View O E → View O E
  handing (Keeper opening (actor ∷ rest) ended) = Keeper opening rest ended
  handing view = view

  abbrev pub handed : View O E → View O E
  handed (Keeper opening (actor ∷ rest) ended) = Working Idle (fresh opening actor)
  handed view = Spent

  -- the view of a keeper that takes a seat back
  abbrev pub taking : View O E → View O E → View O E
  taking (Keeper opening rest ended) (Working stage known) = Keeper opening rest (known ∷ ended)
  taking view other = view

  -- how many views have a ticket
  abbrev pub tickets : List (View O E) → ℕ
  tickets [] = 0
  tickets (view ∷ views) = has_ticket (stage_of view) + tickets views

  -- some seat has the turn
  abbrev pub HasHolder : List (View O E) → Type 0
  HasHolder views =
      (id : ℕ) × (ticket : ℕ) × (known : Known O E) × (get_elem? views id ≡ some (Working (Turn ticket) known))

  -- one of these is the actor's
  abbrev pub HasKnown : List (Known O E) → Actor → Type 0
  HasKnown knowns actor =
      (k : ℕ) × (known : Known O E) × (get_elem? knowns k ≡ some known) × (known.actor ≡ actor)

-- what the journal's holder has: a world with the opening, and the log of the history
abbrev pub IsSound : {W O E C R M S : Type 0} → Meaning W O E C R M S → O → Written W E → Type 0
IsSound m opening written =
    (m.opening written.world ≡ opening) × (m.commands written.world ≡ m.log opening written.history)

module _ {W O E C R M S : Type 0} (m : Meaning W O E C R M S) where
  -- a book of distinct actors, each in the opening and on a host below the bound
  pub record IsBook (about : About O) : Type 0 where
    pub distinct : are_distinct about.actors ≡ true
    pub few : length about.actors < 4294967295
    pub inside :
        (actor : Actor) →
        has_actor about.actors actor ≡ true →
        m.is_in about.opening actor × ((host_of actor).0 < about.hosts)

  -- What one actor knows fits the rest: its own entries are all of its entries, in what it has seen and in the history,
  -- which begins with that.
  pub record Fits
      (about : About O) (given : List Actor) (seat : Actor → ℕ) (notes : Actor → Note)
      (history : List E) (id : ℕ) (known : Known O E) : Type 0 where
    pub opening : known.opening ≡ about.opening
    pub handed : has_actor given known.actor ≡ true
    pub place : seat known.actor ≡ id
    pub note : notes known.actor ≡ known.note
    pub own : own_of m known.actor history ≡ known.own
    pub seen : own_of m known.actor known.seen ≡ known.own
    pub between : List E
    pub begins : history ≡ between ++ known.seen

  abbrev pub FitsView :
      About O → List Actor → (Actor → ℕ) → (Actor → Note) → ℕ → List ℕ → List E → ℕ → View O E → Type 0
  FitsView about given seat notes serving queue history id Spent = Unit {0}
  FitsView about given seat notes serving queue history id (Keeper opening rest ended) =
      (id ≡ 0) × (opening ≡ about.opening) × (about.actors ≡ given ++ rest) ×
      All (Fits about given seat notes history 0) ended
  FitsView about given seat notes serving queue history id (Working stage known) =
      Fits about given seat notes history id known × InQueue serving queue history known.seen id stage

  pub record Rule (about : About O) (s : State (Written W E) (View O E)) : Type 0 where
    pub serving : ℕ
    pub queue : List ℕ
    pub history : List E
    pub given : List Actor
    pub seat : Actor → ℕ
    pub notes : Actor → Note
    pub book : IsBook about
    pub small : serving < 18446744073709551616
    pub ticket : slice_index s.words 0 ≡ (serving + length queue) % 18446744073709551616
    pub served : slice_index s.words 1 ≡ serving
    pub counted : tickets s.views ≡ length queue
    pub few : length s.views ≤ length given + 1
    pub rest : List Actor
    pub parts : about.actors ≡ given ++ rest
    pub kept : IsKept m about.opening history
    pub unborn : (actor : Actor) → has_actor given actor ≡ false → own_of m actor history ≡ []
    pub blank : (actor : Actor) → has_actor given actor ≡ false → notes actor ≡ first_note
    pub slot :
        ((written : Written W E) × (s.homes ≡ some written ∷ []) × (written.history ≡ history) ×
        IsSound m about.opening written) ⊎
        ((s.homes ≡ none ∷ []) × HasHolder s.views)
    pub words : AreWords about.hosts about.actors notes s.words
    pub matched : Matches m about.opening notes history
    pub fits :
        (id : ℕ) (view : View O E) →
        get_elem? s.views id ≡ some view →
        FitsView about given seat notes serving queue history id view

  -- what a turn shows to an actor: the history begins with what it has seen, may be kept, and has no further entry of
  -- it
  pub record Shows (known : Known O E) (history : List E) : Type 0 where
    pub between : List E
    pub begins : history ≡ between ++ known.seen
    pub kept : IsKept m known.opening history
    pub own : own_of m known.actor history ≡ known.own
    pub seen : own_of m known.actor known.seen ≡ known.own
    pub inside : m.is_in known.opening known.actor
    pub notes : Actor → Note
    pub note : notes known.actor ≡ known.note
    pub matched : Matches m known.opening notes history

  -- what may be the history after an actor's turn
  pub record Follows (known : Known O E) (history : List E) : Type 0 where
    pub more : List E
    pub begins : history ≡ more ++ known.seen
    pub kept : IsKept m known.opening known.seen → IsKept m known.opening history
    pub others :
        (actor : Actor) →
        same_actor actor known.actor ≡ false →
        own_of m actor history ≡ own_of m actor known.seen
    pub matched :
        (notes : Actor → Note) →
        notes known.actor ≡ known.note →
        Matches m known.opening notes known.seen →
        Matches m known.opening notes history

  -- a lane has one confirmed pin more at a version than live requests
  abbrev pub HasSpare : Known O E → List E → Version → Type 0
  HasSpare known history version =
      (lane : LaneId) × (known.actor ≡ ByLane lane) ×
      (m.live known.opening history lane version < count_of version known.note.pins)

  -- a host saw that no older version than the published one is in use
  abbrev pub IsIdleHost : Known O E → Version → Type 0
  IsIdleHost known version = (host : HostId) × (known.actor ≡ ByHost host) × IsIdle known.note version

  -- an entry of an actor comes next after what it has seen, as far as others do not hinder it
  abbrev pub IsReadyKind : Known O E → E → Kind C R → Type 0
  IsReadyKind known entry plain = m.enabled known.opening known.seen entry
  IsReadyKind known entry (begins version) =
      m.enabled known.opening known.seen entry × HasSpare known known.seen version
  IsReadyKind known entry (quiets version) = IsIdleHost known version
  IsReadyKind known entry (proposes command outcome) = ⊥

  -- the same of one that comes next in any case, but for what the notes must match
  abbrev pub MayEnter : Known O E → List E → Kind C R → Type 0
  MayEnter known history (begins version) = HasSpare known history version
  MayEnter known history (quiets version) = IsIdleHost known version
  MayEnter known history kind = Unit {0}

  abbrev pub IsReady : Known O E → E → Type 0
  IsReady known entry = (m.author entry ≡ known.actor) × IsReadyKind known entry (m.kind entry)

  abbrev pub Doing : Type 0
  Doing = Me (Written W E) (View O E)

  -- an actor at its turn, with what it has seen and is in its hand
  abbrev pub turning : ℕ → Known O E → List E → View O E
  turning ticket known history = Working (Turn ticket) (record known { seen = history })

  -- an actor after its turn, when the history is this
  abbrev pub turned : Known O E → List E → Known O E
  turned known history = record known { own = own_of m known.actor history; seen = history }

  -- what each step of a turn tells
  abbrev pub Drew : Step (Written W E) → Doing → ℕ → Doing → Type 0
  Drew st v r w = w ≡ (at_stage (Waits r) v.0, v.1)

  abbrev pub Took : View O E → List (ℕ × Written W E) → ℕ → Doing → Type 0
  Took Spent hand ticket w = Unit {0}
  Took (Keeper opening rest ended) hand ticket w = Unit {0}
  Took (Working stage known) hand ticket w =
      (written : Written W E) × Shows known written.history × IsSound m known.opening written ×
      (w ≡ (turning ticket known written.history, (0, written) ∷ hand))

  abbrev pub Looked : Step (Written W E) → Doing → ℕ → Doing → Type 0
  Looked st v r w =
      (r ≡ ticket_of (stage_of v.0) → Took v.0 v.1 r w) ×
      (r ≢ ticket_of (stage_of v.0) → w ≡ v)

  -- the journal that was in hand is the history now
  abbrev pub turn_ended : Doing → Doing
  turn_ended (Working stage known, (slot, written) ∷ hand) = (Working Idle (turned known written.history), hand)
  turn_ended v = v

  abbrev pub Passed : Step (Written W E) → Doing → ℕ → Doing → Type 0
  Passed st v r w = w ≡ turn_ended v

  -- the closed journal has just the actor's own entries of it, and begins with what it had seen
  pub record Ends (known : Known O E) (history : List E) : Type 0 where
    pub own : own_of m known.actor history ≡ known.own
    pub between : List E
    pub begins : history ≡ between ++ known.seen

  -- what a closed book gives
  pub record IsClosed (about : About O) (ended : List (Known O E)) (written : Written W E) : Type 0 where
    pub kept : IsKept m about.opening written.history
    pub sound : IsSound m about.opening written
    pub ends : (k : ℕ) (known : Known O E) → get_elem? ended k ≡ some known → Ends known written.history
    pub others : (actor : Actor) → has_actor about.actors actor ≡ false → own_of m actor written.history ≡ []
