-- What a tally is seen as: its targets with how each stands, and the number of answers that it needs.
use Rattle.std.specs.Prelude.{ℕ, ◌-◌, Bool, true, false, ◌&&◌, List, length, map, count_by, nat_le, nat_lt, if◌then◌else◌}
use Rattle.std.specs.List.{list_any}
use Rattle.base_ids.specs.declared.ids.Replica.{Replica}
use Rattle.base_ids.specs.Replicas.{same_replica}
use Rattle.quorum_tally.specs.declared.tally.Place.{Place}
use Rattle.quorum_tally.specs.declared.tally.Standing.{Standing}
use Rattle.quorum_tally.specs.declared.tally.Standing.TheVariants.{Unmarked, Answered, Refused}
use Rattle.quorum_tally.specs.declared.tally.Mark.{Mark}
use Rattle.quorum_tally.specs.declared.tally.Mark.TheVariants.{Fresh, Repeat, Stranger}
use Rattle.quorum_tally.specs.declared.tally.Verdict.{Verdict}
use Rattle.quorum_tally.specs.declared.tally.Verdict.TheVariants.{Enough, Hopeless, Open}

-- the targets in order, each with how it stands, and how many answers are enough
pub record Standings : Type 0 where
  pub places : List Place
  pub need : ℕ

abbrev pub is_unmarked : Standing → Bool
is_unmarked Unmarked = true
is_unmarked Answered = false
is_unmarked Refused = false

abbrev pub is_answered : Standing → Bool
is_answered Unmarked = false
is_answered Answered = true
is_answered Refused = false

abbrev pub is_refused : Standing → Bool
is_refused Unmarked = false
is_refused Answered = false
is_refused Refused = true

-- ---- the beginning

abbrev pub unmarked_place : Replica → Place
unmarked_place replica = record { replica = replica; standing = Unmarked }

-- nobody has said anything
abbrev pub unmarked_standings : List Replica → ℕ → Standings
unmarked_standings targets need = record { places = map unmarked_place targets; need = need }

-- ---- an answer or a refusal of one replica

abbrev pub is_place_of : Replica → Place → Bool
is_place_of from place = same_replica place.replica from

-- whether the replica is a target
abbrev pub is_target : List Place → Replica → Bool
is_target places from = list_any (is_place_of from) places

-- whether the replica is a target that was not marked yet
abbrev pub is_open_place : Replica → Place → Bool
is_open_place from place = is_place_of from place && is_unmarked place.standing

abbrev pub is_open : List Place → Replica → Bool
is_open places from = list_any (is_open_place from) places

-- a stranger is no target; a repeat was marked before
abbrev pub mark_in : List Place → Replica → Mark
mark_in places from = if is_target places from then (if is_open places from then Fresh else Repeat) else Stranger

abbrev pub mark_of : Standings → Replica → Mark
mark_of tally from = mark_in tally.places from

abbrev pub marked_place : Replica → Standing → Place → Place
marked_place from standing place =
    if is_open_place from place then record place { standing = standing } else place

-- the replica's first answer or refusal makes it stand so for good; all others stay
abbrev pub marked_standings : Standings → Replica → Standing → Standings
marked_standings tally from standing =
    record tally { places = map (marked_place from standing) tally.places }

-- ---- what is decided

abbrev pub answered_places : Standings → ℕ
answered_places tally = count_by (λ place. is_answered place.standing) tally.places

abbrev pub refused_places : Standings → ℕ
refused_places tally = count_by (λ place. is_refused place.standing) tally.places

-- how many targets may still come to have answered, or have
abbrev pub hopeful_count : Standings → ℕ
hopeful_count tally = length tally.places - refused_places tally

-- enough have answered, or too few are left, or neither
abbrev pub verdict_at : ℕ → ℕ → ℕ → ℕ → Verdict
verdict_at answered refused targets need =
    if nat_le need answered then Enough else (if nat_lt (targets - refused) need then Hopeless refused else Open)

abbrev pub verdict_of : Standings → Verdict
verdict_of tally = verdict_at (answered_places tally) (refused_places tally) (length tally.places) tally.need
