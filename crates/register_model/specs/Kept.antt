-- What the checker has kept of events that are a run, and what it is to go on with one event more.
use Rattle.std.specs.Prelude.{◌≡◌, ◌<◌, ◌↔◌, ℕ, Bool, true, false, Option, Some, None, Result, Ok, Err, List, [], ◌∷◌, ◌++◌, length}
use Rattle.base_ids.specs.declared.memory.NoMemory.{NoMemory}
use Rattle.cell_merge.specs.Cell.{IsNotBelow}
use Rattle.cell_merge.specs.declared.cell.Cell.{Cell}
use Rattle.register_model.specs.declared.data.ClientEvent.{ClientEvent}
use Rattle.register_model.specs.declared.data.ClientEvent.TheVariants.{WriteBegun, WriteAcked, ReadBegun}
use Rattle.register_model.specs.declared.data.Key.{Key}
use Rattle.register_model.specs.declared.data.Request.{Request}
use Rattle.register_model.specs.declared.known.Standing.{Standing}
use Rattle.register_model.specs.declared.known.Standing.TheVariants.{Writing, Reading, Done}
use Rattle.register_model.specs.declared.seen.Seen.{Seen}
use Rattle.register_model.specs.Known.{request_standing, acked_of, was_written}
use Rattle.register_model.specs.Register.{Stands, BeginsAt, EndsAt, WrittenBefore, IsRegisterRun}

-- a write of this cell to this key was acknowledged before this place, of a strength above the blind number
pub record AckedBefore (events : List ClientEvent) (place : ℕ) (key : Key) (blind : ℕ) (cell : Cell) : Type 0 where
  pub wrote : ℕ
  pub acked : ℕ
  pub writer : Request
  pub strength : ℕ
  pub seen : blind < strength
  pub writes : Stands events wrote (WriteBegun writer key cell strength)
  pub acks : Stands events acked (WriteAcked writer)
  pub earlier : acked < place

-- a cell is not below this one exactly where it is below none that was acknowledged before this place by a write of a
-- strength above the blind number
abbrev pub IsGreatestAcked : List ClientEvent → ℕ → Key → ℕ → Option Cell → Type 0
IsGreatestAcked events place key blind greatest =
    (cell : Option Cell) →
    IsNotBelow cell greatest
    ↔ ((written : Cell) → AckedBefore events place key blind written → IsNotBelow cell (Some written))

-- no event begins, or ends, the request
abbrev pub IsUnbegun : List ClientEvent → Request → Type 0
IsUnbegun events request = (place : ℕ) → BeginsAt events place request → ⊥

abbrev pub IsUnended : List ClientEvent → Request → Type 0
IsUnended events request = (place : ℕ) → EndsAt events place request → ⊥

-- the request is a write that has not ended
pub record IsWriting (events : List ClientEvent) (request : Request) (key : Key) (cell : Cell) (strength : ℕ)
    : Type 0 where
  pub at : ℕ
  pub stands : Stands events at (WriteBegun request key cell strength)
  pub unended : IsUnended events request

-- the request is a read that has not ended, and `least` the greatest cell that was acknowledged when it began, of the
-- writes that it is not blind to
pub record IsReading (events : List ClientEvent) (request : Request) (key : Key) (least : Option Cell) : Type 0 where
  pub at : ℕ
  pub blind : ℕ
  pub stands : Stands events at (ReadBegun request key blind)
  pub unended : IsUnended events request
  pub greatest : IsGreatestAcked events at key blind least

-- the request has begun and ended
pub record IsDone (events : List ClientEvent) (request : Request) : Type 0 where
  pub began : ℕ
  pub begins : BeginsAt events began request
  pub ended : ℕ
  pub ends : EndsAt events ended request

-- the request stands so
abbrev pub StandsSo : List ClientEvent → Request → Option Standing → Type 0
StandsSo events request None = IsUnbegun events request
StandsSo events request (Some (Writing key cell strength)) = IsWriting events request key cell strength
StandsSo events request (Some (Reading key least)) = IsReading events request key least
StandsSo events request (Some Done) = IsDone events request

-- the events are a run, and this is what was kept of them
pub record IsKeptRun (events : List ClientEvent) (seen : Seen) : Type 0 where
  pub run : IsRegisterRun events
  pub standing : (request : Request) → StandsSo events request (request_standing seen.standings request)
  pub greatest :
      (key : Key) (blind : ℕ) → IsGreatestAcked events (length events) key blind (acked_of seen.acked key blind)
  pub written :
      (key : Key) (cell : Cell) →
      was_written seen.written key cell ≡ true ↔ WrittenBefore events (length events) key cell

-- with this event the run goes on, and that is what is kept then; or no run goes on with it
abbrev pub GoesOn : List ClientEvent → ClientEvent → Seen → Result Bool NoMemory → Type 0
GoesOn events event new (Ok true) = IsKeptRun (events ++ event ∷ []) new
GoesOn events event new (Ok false) = IsRegisterRun (events ++ event ∷ []) → ⊥
GoesOn events event new (Err refused) = Unit {0}

-- so it is of whatever events the old one was kept
abbrev pub Judges : Seen → ClientEvent → Seen → Result Bool NoMemory → Type 0
Judges old event new result = (events : List ClientEvent) → IsKeptRun events old → GoesOn events event new result
