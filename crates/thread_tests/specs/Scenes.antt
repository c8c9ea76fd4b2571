-- Seats of the tests, as far as the next call asks.
use Rattle.std.specs.Prelude.{[], ℕ, ◌≡◌}
use Rattle.atomic_table.specs.Seated.{TableId}
use Rattle.base_ids.specs.declared.ids.Actor.{Actor}
use Rattle.base_ids.specs.declared.ids.Actor.TheVariants.{Host as ByHost, Lane as ByLane}
use Rattle.base_ids.specs.declared.ids.HostId.{HostId}
use Rattle.base_ids.specs.declared.ids.LaneId.{LaneId}
use Rattle.book_rule.specs.Notes.{first_note}
use Rattle.book_rule.specs.Seats.{Sitting}
use Rattle.book_rule.specs.declared.view.Known.{Known}
use Rattle.thread_tests.specs.declared.diary.Line.{Line}

abbrev pub the_host : HostId
the_host = record { 0 = 0 }

abbrev pub the_lane : LaneId
the_lane = record { host = the_host; lane = 0 }

-- a seat of the table, of an actor that has done and seen nothing
pub record IsFresh (table : TableId) (actor : Actor) (seat : Sitting ℕ Line) : Type 0 where
  pub of : seat.table ≡ table
  pub whose : seat.known.actor ≡ actor
  pub seen : seat.known.seen ≡ []
  pub note : seat.known.note ≡ first_note

-- the lane, which has seen nothing, and has no raised pin
pub record IsLane (known : Known ℕ Line) : Type 0 where
  pub actor : known.actor ≡ ByLane the_lane
  pub seen : known.seen ≡ []
  pub raised : known.note.raised ≡ []

abbrev pub IsHost : Known ℕ Line → Type 0
IsHost known = known.actor ≡ ByHost the_host
