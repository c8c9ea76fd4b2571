-- A request after the answers that it took, and what a list of answers brings when they are taken one by one.
use Rattle.std.specs.Prelude.{ℕ, Bool, not, List, [], ◌∷◌, map, Option, Some, None}
use Rattle.std.specs.List.{list_any}
use Rattle.std.specs.Option.{option_or}
use Rattle.base_ids.specs.declared.ids.LaneId.{LaneId}
use Rattle.base_ids.specs.declared.ids.OpId.{OpId}
use Rattle.base_ids.specs.declared.ids.Replica.{Replica}
use Rattle.stage_graph.specs.declared.kind.Kind.{Kind}
use Rattle.quorum_tally.specs.declared.tally.Place.{Place}
use Rattle.quorum_tally.specs.declared.tally.Standing.{Standing}
use Rattle.quorum_tally.specs.declared.tally.Standing.TheVariants.{Unmarked, Answered, Refused}
use Rattle.base_ids.specs.Replicas.{same_replica}
use Rattle.quorum_tally.specs.Standings.{Standings}
use Rattle.quorum_ops.specs.declared.data.Answer.{Answer}
use Rattle.quorum_ops.specs.declared.data.Said.{Said}
use Rattle.quorum_ops.specs.declared.data.Said.TheVariants.{Written, Found, Stale}
use Rattle.quorum_ops.specs.declared.data.Reply.{Reply}
use Rattle.quorum_ops.specs.declared.taking.Taking.{Taking}
use Rattle.quorum_ops.specs.declared.taking.Taking.TheVariants.{Decided, Waiting}
use Rattle.quorum_ops.specs.Decision.{first_said, greatest_told, decision}
use Rattle.quorum_ops.specs.Pending.{Pending, PendingRead, after_answer, read_after_answer, write_taking, read_taking}

-- ---- the request, by the answers that it took, the newest first

abbrev pub standing_of : Option Said → Standing
standing_of None = Unmarked
standing_of (Some Written) = Answered
standing_of (Some (Found cell)) = Answered
standing_of (Some (Stale fence)) = Refused

-- a target stands by what it said first
abbrev pub place_by : List Answer → Replica → Place
place_by answers target = record { replica = target; standing = standing_of (first_said answers target) }

abbrev pub standings_by : List Answer → List Replica → ℕ → Standings
standings_by answers targets need = record { places = map (place_by answers) targets; need = need }

abbrev pub pending_by : LaneId → OpId → List Replica → ℕ → List Answer → Pending
pending_by lane op targets need answers =
    record { lane = lane; op = op; tally = standings_by answers targets need }

abbrev pub pending_read_by : LaneId → OpId → List Replica → ℕ → List Answer → PendingRead
pending_read_by lane op targets need answers =
    record { request = pending_by lane op targets need answers; greatest = greatest_told answers targets }

-- ---- answers one by one, the oldest first

-- what an answer comes to, by the decision that it brings
abbrev pub taking_by : Option Reply → Taking
taking_by None = Waiting
taking_by (Some reply) = Decided reply

-- the reply that was decided, or else the one that comes later
abbrev pub reply_or : Taking → Option Reply → Option Reply
reply_or (Decided reply) later = Some reply
reply_or Waiting later = later

-- what a write comes to that takes these answers, up to the first that decides it
abbrev pub write_outcome : Pending → List Answer → Option Reply
write_outcome write [] = None
write_outcome write (answer ∷ later) =
    reply_or (write_taking write answer) (write_outcome (after_answer write answer) later)

-- what a read comes to that takes these answers, up to the first that decides it
abbrev pub read_outcome : PendingRead → List Answer → Option Reply
read_outcome read [] = None
read_outcome read (answer ∷ later) =
    reply_or (read_taking read answer) (read_outcome (read_after_answer read answer) later)

-- the first decision that these answers bring, the oldest first, to a request that took `earlier`, the newest first
abbrev pub first_decision : Kind → List Replica → ℕ → List Answer → List Answer → Option Reply
first_decision kind targets need earlier [] = None
first_decision kind targets need earlier (answer ∷ later) =
    option_or (decision kind targets need (answer ∷ earlier))
    (first_decision kind targets need (answer ∷ earlier) later)

-- ---- answers that do not count

-- the replica was not asked
abbrev pub is_stranger : List Replica → Replica → Bool
is_stranger targets from = not (list_any (λ target. same_replica target from) targets)

-- the replica is one of those that answered
abbrev pub is_repeat : List Answer → Replica → Bool
is_repeat before from = list_any (λ answer. same_replica from answer.from) before
