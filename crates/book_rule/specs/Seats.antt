-- What callers of a book see: its seats and itself as plain data, and what a call tells of its seat.
use Rattle.std.specs.Prelude.{All, Bool, List, MatchResult, None, Option, Result, Some, [], false, if◌then◌else◌, length, map, nat_lt, ℕ, ◌++◌, ◌+◌, ◌<◌, ◌==◌, ◌∷◌, ◌≡◌, ◌≤◌}
use Rattle.atomic_table.specs.Seated.{TableId}
use Rattle.atomic_table.specs.Table.{Me}
use Rattle.base_ids.specs.declared.ids.Actor.{Actor}
use Rattle.base_ids.specs.declared.ids.Actor.TheVariants.{Lane as ByLane}
use Rattle.base_ids.specs.declared.ids.HostId.{HostId}
use Rattle.base_ids.specs.declared.ids.LaneId.{LaneId}
use Rattle.base_ids.specs.declared.ids.MsgRef.{MsgRef}
use Rattle.base_ids.specs.declared.ids.Version.{Version}
use Rattle.base_ids.specs.declared.rules.Appended.{Appended}
use Rattle.base_ids.specs.declared.rules.Appended.TheVariants.{Accepted}
use Rattle.base_ids.specs.declared.rules.LimitName.TheVariants.{Events, Log}
use Rattle.book_rule.specs.Notes.{Every}
use Rattle.book_rule.specs.Pins.{with_note}
use Rattle.book_rule.specs.Turns.{Doing, Shows, IsSound, Written, fresh, known_of, turning}
use Rattle.book_rule.specs.World.{IsKept, Meaning, added, outcome_after, own_of}
use Rattle.book_rule.specs.declared.answers.BookError.{BookError}
use Rattle.book_rule.specs.declared.answers.BookError.TheVariants.{Limit, NoMemory}
use Rattle.book_rule.specs.declared.answers.Committed.{Committed}
use Rattle.book_rule.specs.declared.view.About.{About}
use Rattle.book_rule.specs.declared.view.Known.{Known}
use Rattle.book_rule.specs.declared.view.Note.{Note}
use Rattle.book_rule.specs.declared.view.Stage.TheVariants.{Idle}
use Rattle.book_rule.specs.declared.view.View.{View}
use Rattle.book_rule.specs.declared.view.View.TheVariants.{Keeper, Working}

-- a book
pub record Shelf (O : Type 0) : Type 0 where
  pub table : TableId
  pub about : About O

-- a seat between two calls
pub record Sitting (O E : Type 0) : Type 0 where
  pub table : TableId
  pub known : Known O E

-- the seats of a book that nobody has
pub record Sitters (O E : Type 0) : Type 0 where
  pub table : TableId
  pub seats : List (Sitting O E)
  pub room : ℕ

abbrev pub known_by : {O E : Type 0} → List (Sitting O E) → List (Known O E)
known_by seats = map (λ seat. seat.known) seats

-- seats of actors that have done and seen nothing
abbrev pub fresh_seats : {O E : Type 0} → TableId → O → List Actor → List (Sitting O E)
fresh_seats table opening actors = map (λ actor. record { table = table; known = fresh opening actor }) actors

-- the seats belong to the table
abbrev pub AreOf : {O E : Type 0} → TableId → List (Sitting O E) → Type 0
AreOf table seats = All (λ seat. seat.table ≡ table) seats

-- a keeper that has handed out all parts
abbrev pub IsKeeper : {W O E : Type 0} → List (Known O E) → Me (Written W E) (View O E) → Type 0
IsKeeper {O = O} ended me = (opening : O) × (me ≡ (Keeper opening [] ended, []))

-- an outcome is an entry of the log beyond the last one
abbrev pub is_beyond : {R : Type 0} → ℕ → Appended R → Bool
is_beyond last (Accepted index) = nat_lt last index
is_beyond last outcome = false

-- the entry of a number; entries are numbered from 1, the oldest first
abbrev pub entry_at : {E : Type 0} → List E → ℕ → Option E
entry_at [] number = None
entry_at (entry ∷ history) number = if number == length history + 1 then Some entry else entry_at history number

module _ {W O E C R M S : Type 0} (m : Meaning W O E C R M S) where
  abbrev pub message_of : Option E → ℕ → Option M
  message_of None out = None
  message_of (Some entry) out = m.message entry out

  -- the message that a reference names
  abbrev pub message_at : List E → MsgRef → Option M
  message_at history at = message_of (entry_at history at.event) at.out

  -- what the seat's view knows
  abbrev pub known_in : Doing m → Known O E
  known_in me = known_of m.no_opening me.0

  -- the seat waits for nothing
  abbrev pub IsFree : Doing m → Type 0
  IsFree me = me ≡ (Working Idle (known_in me), [])

  -- a free seat whose note has changed
  abbrev pub HasNoted : (Note → Note) → Doing m → Doing m → Type 0
  HasNoted f before after =
      IsFree after × (known_in after ≡ with_note (f (known_in before).note) (known_in before))

  -- a version is no older than the floor of a host, and no newer than the host
  pub record IsPinned (opening : O) (history : List E) (host : HostId) (version : Version) : Type 0 where
    pub some : 1 ≤ version.0
    pub low : (m.floor opening history host).0 ≤ version.0
    pub high : version.0 ≤ (m.version opening history host).0

  -- what a turn tells: the history now begins with what the actor had seen, may be kept, and has just its own entries
  -- of it; what it pinned is no older than its host's floor, and no newer than its host
  pub record Turned (old new : Known O E) : Type 0 where
    pub opening : new.opening ≡ old.opening
    pub actor : new.actor ≡ old.actor
    pub note : new.note ≡ old.note
    pub between : List E
    pub begins : new.seen ≡ between ++ old.seen
    pub kept : IsKept m new.opening new.seen
    pub own : own_of m new.actor new.seen ≡ new.own
    pub pins :
        (lane : LaneId) →
        new.actor ≡ ByLane lane →
        Every (IsPinned new.opening new.seen lane.host) new.note.pins

  -- a seat at its turn
  pub record IsAtTurn (known : Known O E) (me : Doing m) : Type 0 where
    pub ticket : ℕ
    pub written : Written W E
    pub shows : Shows m known written.history
    pub sound : IsSound m known.opening written
    pub is : me ≡ (turning m ticket known written.history, (0, written) ∷ [])

  -- a history, and a log, with an entry if there is one
  abbrev pub with_entry : Option E → List E → List E
  with_entry None history = history
  with_entry (Some entry) history = entry ∷ history

  abbrev pub with_command : Option E → List C → List C
  with_command None log = log
  with_command (Some entry) log = added (m.kind entry) log

  -- a journal, before and after an entry was added, or none
  pub record Adds (old new : Written W E) (entry : Option E) : Type 0 where
    pub history : new.history ≡ with_entry entry old.history
    pub opening : m.opening new.world ≡ m.opening old.world
    pub commands : m.commands new.world ≡ with_command entry (m.commands old.world)

  -- why a commit is refused, by how many entries there are: a full journal comes first
  abbrev pub IsCommitError : ℕ → BookError → Type 0
  IsCommitError entries (Limit name) = (name ≡ Events) × (entries ≡ m.most_entries)
  IsCommitError entries NoMemory = entries < m.most_entries

  -- what becomes of a journal at a commit
  abbrev pub Commits : E → Written W E → Written W E → Result Committed BookError → Type 0
  Commits entry old new result = MatchResult result
      (λ committed.
      Adds old new (Some entry) × (length old.history < m.most_entries) ×
      (committed.index ≡ length new.history) × (committed.log_len ≡ length (m.commands new.world)))
      (λ error. Adds old new None × IsCommitError (length old.history) error)

  -- the proposal would be accepted beyond the end of the log
  abbrev pub IsBeyond : Appended R → Type 0
  IsBeyond outcome = outcome ≡ Accepted (m.most_commands + 1)

  -- why a proposal with this outcome is refused: a full journal comes first, then a full log
  abbrev pub IsProposeError : Appended R → ℕ → BookError → Type 0
  IsProposeError outcome entries (Limit Events) = entries ≡ m.most_entries
  IsProposeError outcome entries (Limit Log) = (entries < m.most_entries) × IsBeyond outcome
  IsProposeError outcome entries (Limit name) = ⊥
  IsProposeError outcome entries NoMemory = (entries < m.most_entries) × ¬ IsBeyond outcome

  -- what becomes of it at a proposal
  abbrev pub Proposes : Actor → ℕ → C → Written W E → Written W E → Result (Appended R) BookError → Type 0
  Proposes topo read command old new result =
      let judged : Appended R = outcome_after m (m.opening old.world) (m.commands old.world) read command in
      MatchResult result
      (λ outcome.
      Adds old new (Some (m.proposal topo command outcome)) × (length old.history < m.most_entries) ×
      (outcome ≡ judged) × (length (m.commands new.world) ≤ m.most_commands))
      (λ error. Adds old new None × IsProposeError judged (length old.history) error)

  -- an actor has this entry more, the newest of its own and of all
  pub record HasAdded (old new : Known O E) (entry : E) : Type 0 where
    pub own : new.own ≡ entry ∷ old.own
    pub past : List E
    pub seen : new.seen ≡ entry ∷ past
    pub since : List E
    pub begins : past ≡ since ++ old.seen

  -- what an entry that was added tells: it has the number that was answered, and so has the log its length
  pub record HasCommitted (old new : Known O E) (entry : E) (committed : Committed) : Type 0 where
    pub added : HasAdded old new entry
    pub index : committed.index ≡ length new.seen
    pub log_len : committed.log_len ≡ length (m.log new.opening new.seen)

  -- what a commit tells
  abbrev pub CommitTold : Known O E → Known O E → E → Result Committed BookError → Type 0
  CommitTold old new entry result = Turned old new
      × MatchResult result
      (HasCommitted old new entry)
      (λ error. (new.own ≡ old.own) × IsCommitError (length new.seen) error)

  -- what a proposal that was added tells: its outcome is the one by the log before it
  pub record HasProposed (old new : Known O E) (read : ℕ) (command : C) (outcome : Appended R) : Type 0 where
    pub added : HasAdded old new (m.proposal old.actor command outcome)
    pub judged : outcome ≡ outcome_after m old.opening (m.log old.opening added.past) read command

  -- what becomes of the command by the log that an actor has seen
  abbrev pub judged_by : Known O E → ℕ → C → Appended R
  judged_by known read command = outcome_after m known.opening (m.log known.opening known.seen) read command

  -- what a proposal tells
  abbrev pub ProposeTold : Known O E → Known O E → ℕ → C → Result (Appended R) BookError → Type 0
  ProposeTold old new read command result = Turned old new
      × MatchResult result
      (HasProposed old new read command)
      (λ error. (new.own ≡ old.own) × IsProposeError (judged_by new read command) (length new.seen) error)

  -- a turn that appends nothing
  pub record Looks (old new : Known O E) : Type 0 where
    pub turn : Turned old new
    pub own : new.own ≡ old.own
