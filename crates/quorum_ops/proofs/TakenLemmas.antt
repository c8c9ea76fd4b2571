-- An operation that takes answers one by one stands as the definitions say, and decides as they say.
use Rattle.std.proofs.Common.{◌≡◌, ℕ, ◌+◌, ◌-◌, Bool, true, false, ◌&&◌, ◌||◌, cond, List, [], ◌∷◌, length, map, count_by, Option, Some, None, is_some, if◌then◌else◌, nat_le, nat_lt, refl, sym, ◌∙◌, ap}
use Rattle.std.specs.Option.{option_or}
use Rattle.std.proofs.lemmas.List.{length-map}
use Rattle.std.proofs.lemmas.List.Sums.{sum_by-cons}
use Rattle.base_ids.specs.declared.ids.LaneId.{LaneId}
use Rattle.base_ids.specs.declared.ids.OpId.{OpId}
use Rattle.base_ids.specs.declared.ids.Replica.{Replica}
use Rattle.base_ids.specs.declared.ids.Version.{Version}
use Rattle.cell_merge.specs.declared.cell.Cell.{Cell}
use Rattle.cell_merge.specs.Cell.{greater_cell}
use Rattle.cell_merge.proofs.CellOrder.{greater-associative, greater-commutative, greater-idempotent}
use Rattle.stage_graph.specs.declared.kind.Kind.{Kind}
use Rattle.stage_graph.specs.declared.kind.Kind.TheVariants.{Read as ReadKind, Write as WriteKind}
use Rattle.quorum_tally.specs.declared.tally.Place.{Place}
use Rattle.quorum_tally.specs.declared.tally.Mark.TheVariants.{Fresh, Repeat, Stranger}
use Rattle.base_ids.specs.Replicas.{same_replica}
use Rattle.quorum_tally.specs.Standings.{is_unmarked, is_answered, is_refused, is_target, is_open, mark_in, marked_place, answered_places as answered_in, refused_places as refused_in, hopeful_count}
use Rattle.quorum_tally.proofs.PlaceLemmas.{open_target}
use Rattle.quorum_ops.specs.declared.data.Answer.{Answer}
use Rattle.quorum_ops.specs.declared.data.Said.{Said}
use Rattle.quorum_ops.specs.declared.data.Said.TheVariants.{Written, Found, Stale}
use Rattle.quorum_ops.specs.declared.data.Reply.{Reply}
use Rattle.quorum_ops.specs.declared.data.Reply.TheVariants.{Ok as OkReply, Read as ReadReply, Stale as StaleReply, Timeout}
use Rattle.quorum_ops.specs.declared.taking.Taking.{Taking}
use Rattle.quorum_ops.specs.declared.taking.Taking.TheVariants.{Decided, Waiting}
use Rattle.quorum_ops.specs.Decision.{first_said, says_data, says_stale, said_cell, has_answered, has_refused, answered_count, refused_count, greatest_told, good_reply, decision_by, decision, timeout_reply}
use Rattle.quorum_ops.specs.Pending.{Pending, PendingRead, pending_of, pending_read_of, marked_by, after_answer, found_cell, greatest_after, read_after_answer, data_taking, refusal_taking, taking_after, write_taking, read_taking, timeout_of}
use Rattle.quorum_ops.specs.Taken.{standing_of, place_by, standings_by, pending_by, pending_read_by, taking_by, reply_or, write_outcome, read_outcome, first_decision}

-- ---- one target

-- what a target said first, once one more answer is there
abbrev first_with : Option Said → Bool → Said → Option Said
first_with first same said = if is_some first then first else (if same then Some said else None)

abbrev place_with : Replica → Option Said → Place
place_with target first = record { replica = target; standing = standing_of first }

-- a target's place after one more answer
place_step : (target : Replica) (first : Option Said) (same : Bool) (said : Said) → (if same && is_unmarked (standing_of first) then place_with target (Some said) else place_with target first) ≡ place_with target (first_with first same said)
place_step target None true said = refl
place_step target None false said = refl
place_step target (Some Written) true said = refl
place_step target (Some Written) false said = refl
place_step target (Some (Found cell)) true said = refl
place_step target (Some (Found cell)) false said = refl
place_step target (Some (Stale fence)) true said = refl
place_step target (Some (Stale fence)) false said = refl

-- ---- the targets

-- the places of all targets, after one more answer
places_step : (earlier : List Answer) (lane : LaneId) (op : OpId) (from : Replica) (said : Said) (targets : List Replica) → map (marked_place from (standing_of (Some said))) (map (place_by earlier) targets) ≡ map (place_by (record { lane = lane; op = op; from = from; said = said } ∷ earlier)) targets
places_step earlier lane op from said [] = refl
places_step earlier lane op from said (target ∷ targets) =
    λ i. place_step target (first_said earlier target) (same_replica target from) said i ∷ places_step earlier lane op from said targets i

answered_is : (first : Option Said) → is_answered (standing_of first) ≡ says_data first
answered_is None = refl
answered_is (Some Written) = refl
answered_is (Some (Found cell)) = refl
answered_is (Some (Stale fence)) = refl

refused_is : (first : Option Said) → is_refused (standing_of first) ≡ says_stale first
refused_is None = refl
refused_is (Some Written) = refl
refused_is (Some (Found cell)) = refl
refused_is (Some (Stale fence)) = refl

-- a count over places is one over targets
count-places : (answers : List Answer) (p : Place → Bool) (q : Replica → Bool) → ((target : Replica) → p (place_by answers target) ≡ q target) → (targets : List Replica) → count_by p (map (place_by answers) targets) ≡ count_by q targets
count-places answers p q same [] = refl
count-places answers p q same (target ∷ targets) =
    rw (sum_by-cons (λ (x : Place). cond (p x) 1 0) (place_by answers target) (map (place_by answers) targets), sum_by-cons (λ (x : Replica). cond (q x) 1 0) target targets, same target)
    (ap (λ n. cond (q target) 1 0 + n) (count-places answers p q same targets))

pub answered_in-by : (answers : List Answer) (targets : List Replica) (need : ℕ) → answered_in (standings_by answers targets need) ≡ answered_count answers targets
answered_in-by answers targets need =
    count-places answers (λ place. is_answered place.standing) (has_answered answers) (λ target. answered_is (first_said answers target)) targets

pub refused_in-by : (answers : List Answer) (targets : List Replica) (need : ℕ) → refused_in (standings_by answers targets need) ≡ refused_count answers targets
refused_in-by answers targets need =
    count-places answers (λ place. is_refused place.standing) (has_refused answers) (λ target. refused_is (first_said answers target)) targets

pub hopeful_count-by : (answers : List Answer) (targets : List Replica) (need : ℕ) → hopeful_count (standings_by answers targets need) ≡ length targets - refused_count answers targets
hopeful_count-by answers targets need =
    rw (length-map targets (place_by answers), refused_in-by answers targets need) refl

-- ---- one more answer

pub marked_by-by : (earlier : List Answer) (targets : List Replica) (need : ℕ) (lane : LaneId) (op : OpId) (from : Replica) (said : Said) → marked_by (standings_by earlier targets need) from said ≡ standings_by (record { lane = lane; op = op; from = from; said = said } ∷ earlier) targets need
marked_by-by earlier targets need lane op from Written = ap (λ places. record { places = places; need = need }) (places_step earlier lane op from Written targets)
marked_by-by earlier targets need lane op from (Found cell) = ap (λ places. record { places = places; need = need }) (places_step earlier lane op from (Found cell) targets)
marked_by-by earlier targets need lane op from (Stale fence) = ap (λ places. record { places = places; need = need }) (places_step earlier lane op from (Stale fence) targets)

-- a write that takes one more answer
pub after_answer-by : (lane : LaneId) (op : OpId) (targets : List Replica) (need : ℕ) (earlier : List Answer) (answer : Answer) → after_answer (pending_by lane op targets need earlier) answer ≡ pending_by lane op targets need (answer ∷ earlier)
after_answer-by lane op targets need earlier answer =
    ap (λ tally. record { lane = lane; op = op; tally = tally }) (marked_by-by earlier targets need answer.lane answer.op answer.from answer.said)

-- ---- the greatest cell

-- the test of a target that has not said anything, at one more answer
abbrev opens : Option Said → Bool → Bool
opens first same = same && is_unmarked (standing_of first)

-- the cell that a target told, once one more answer is there
cell_step : (first : Option Said) (same : Bool) (said : Said) (rest : Option Cell) → greater_cell (said_cell (first_with first same said)) rest ≡ (if opens first same then greater_cell (found_cell said) rest else greater_cell (said_cell first) rest)
cell_step None true Written rest = refl
cell_step None true (Found cell) rest = refl
cell_step None true (Stale fence) rest = refl
cell_step None false said rest = refl
cell_step (Some Written) true said rest = refl
cell_step (Some Written) false said rest = refl
cell_step (Some (Found cell)) true said rest = refl
cell_step (Some (Found cell)) false said rest = refl
cell_step (Some (Stale fence)) true said rest = refl
cell_step (Some (Stale fence)) false said rest = refl

-- a target that has not said anything told no cell
open_told : (first : Option Said) (same : Bool) → opens first same ≡ true → said_cell first ≡ None
open_told None same e = refl
open_told (Some Written) same e = refl
open_told (Some (Found cell)) true e = cc
open_told (Some (Found cell)) false e = cc
open_told (Some (Stale fence)) same e = refl

-- a cell, put to the greatest of others once or twice
twice : (cell rest : Option Cell) → greater_cell cell (greater_cell rest cell) ≡ greater_cell rest cell
twice cell rest =
    ap (greater_cell cell) (greater-commutative rest cell)
    ∙ sym (greater-associative cell cell rest)
    ∙ ap (λ c. greater_cell c rest) (greater-idempotent cell)
    ∙ greater-commutative cell rest

-- one cell more in front of the others, where the new cell may come there, and behind it
in_front : (told cell rest : Option Cell) (here behind : Bool) → (here ≡ true → told ≡ None) → (if here then greater_cell cell (if behind then greater_cell rest cell else rest) else greater_cell told (if behind then greater_cell rest cell else rest)) ≡ (if here || behind then greater_cell (greater_cell told rest) cell else greater_cell told rest)
in_front told cell rest true true none = rw (none refl) (twice cell rest)
in_front told cell rest true false none = rw (none refl) (greater-commutative cell rest)
in_front told cell rest false true none = sym (greater-associative told rest cell)
in_front told cell rest false false none = refl

-- the greatest told cell, after one more answer
pub told_step : (earlier : List Answer) (lane : LaneId) (op : OpId) (from : Replica) (said : Said) (targets : List Replica) → greatest_told (record { lane = lane; op = op; from = from; said = said } ∷ earlier) targets ≡ (if is_open (map (place_by earlier) targets) from then greater_cell (greatest_told earlier targets) (found_cell said) else greatest_told earlier targets)
told_step earlier lane op from said [] = refl
told_step earlier lane op from said (target ∷ targets) =
    let first : Option Said = first_said earlier target in
    let same : Bool = same_replica target from in
    cell_step first same said (greatest_told (record { lane = lane; op = op; from = from; said = said } ∷ earlier) targets)
    ∙ ap (λ rest. if opens first same then greater_cell (found_cell said) rest else greater_cell (said_cell first) rest) (told_step earlier lane op from said targets)
    ∙ in_front (said_cell first) (found_cell said) (greatest_told earlier targets) (opens first same) (is_open (map (place_by earlier) targets) from) (open_told first same)

-- a cell counts exactly where its replica is open
marked_greatest : (places : List Place) (from : Replica) (greatest : Option Cell) (said : Said) → greatest_after (mark_in places from) greatest said ≡ (if is_open places from then greater_cell greatest (found_cell said) else greatest)
marked_greatest places from greatest said =
    by_open (is_target places from) (is_open places from) (open_target from places)
  where
    by_open : (target fresh : Bool) → (fresh ≡ true → target ≡ true) → greatest_after (if target then (if fresh then Fresh else Repeat) else Stranger) greatest said ≡ (if fresh then greater_cell greatest (found_cell said) else greatest)
    by_open true true h = refl
    by_open true false h = refl
    by_open false true h = let wrong : false ≡ true = h refl in cc
    by_open false false h = refl

-- a read that takes one more answer
pub read_after_answer-by : (lane : LaneId) (op : OpId) (targets : List Replica) (need : ℕ) (earlier : List Answer) (answer : Answer) → read_after_answer (pending_read_by lane op targets need earlier) answer ≡ pending_read_by lane op targets need (answer ∷ earlier)
read_after_answer-by lane op targets need earlier answer =
    let greatest : greatest_after (mark_in (map (place_by earlier) targets) answer.from) (greatest_told earlier targets) answer.said ≡ greatest_told (answer ∷ earlier) targets =
    marked_greatest (map (place_by earlier) targets) answer.from (greatest_told earlier targets) answer.said
    ∙ sym (told_step earlier answer.lane answer.op answer.from answer.said targets) in
    λ i. record { request = after_answer-by lane op targets need earlier answer i; greatest = greatest i }

-- ---- what an answer decides

-- data, by the definition
data_by : (answers : List Answer) (targets : List Replica) (need : ℕ) (reply : Reply) → data_taking (standings_by answers targets need) reply ≡ taking_by (if nat_le need (answered_count answers targets) then Some reply else None)
data_by answers targets need reply =
    ap (λ n. if nat_le need n then Decided reply else Waiting) (answered_in-by answers targets need)
    ∙ sym (lifted (nat_le need (answered_count answers targets)))
  where
    lifted : (enough : Bool) → taking_by (if enough then Some reply else None) ≡ (if enough then Decided reply else Waiting)
    lifted true = refl
    lifted false = refl

-- a refusal, by the definition
refusal_by : (answers : List Answer) (targets : List Replica) (need : ℕ) (fence : Version) → refusal_taking (standings_by answers targets need) fence ≡ taking_by (if nat_lt (length targets - refused_count answers targets) need then Some (StaleReply (refused_count answers targets) fence) else None)
refusal_by answers targets need fence =
    rw (hopeful_count-by answers targets need, refused_in-by answers targets need)
    (sym (lifted (nat_lt (length targets - refused_count answers targets) need)))
  where
    reply : Reply
    reply = StaleReply (refused_count answers targets) fence

    lifted : (few : Bool) → taking_by (if few then Some (StaleReply (refused_count answers targets) fence) else None) ≡ (if few then Decided (StaleReply (refused_count answers targets) fence) else Waiting)
    lifted true = refl
    lifted false = refl

-- an answer, by the definition
pub taking_after-by : (kind : Kind) (answers : List Answer) (targets : List Replica) (need : ℕ) (said : Said) → taking_after (standings_by answers targets need) said (good_reply kind (greatest_told answers targets)) ≡ taking_by (decision_by said kind targets need answers)
taking_after-by kind answers targets need Written = data_by answers targets need (good_reply kind (greatest_told answers targets))
taking_after-by kind answers targets need (Found cell) = data_by answers targets need (good_reply kind (greatest_told answers targets))
taking_after-by kind answers targets need (Stale fence) = refusal_by answers targets need fence

-- what a write's answer comes to
pub write_taking-by : (lane : LaneId) (op : OpId) (targets : List Replica) (need : ℕ) (earlier : List Answer) (answer : Answer) → write_taking (pending_by lane op targets need earlier) answer ≡ taking_by (decision WriteKind targets need (answer ∷ earlier))
write_taking-by lane op targets need earlier answer =
    ap (λ (write : Pending). taking_after write.tally answer.said OkReply) (after_answer-by lane op targets need earlier answer)
    ∙ taking_after-by WriteKind (answer ∷ earlier) targets need answer.said

-- what a read's answer comes to
pub read_taking-by : (lane : LaneId) (op : OpId) (targets : List Replica) (need : ℕ) (earlier : List Answer) (answer : Answer) → read_taking (pending_read_by lane op targets need earlier) answer ≡ taking_by (decision ReadKind targets need (answer ∷ earlier))
read_taking-by lane op targets need earlier answer =
    ap (λ (read : PendingRead). taking_after read.request.tally answer.said (ReadReply read.greatest)) (read_after_answer-by lane op targets need earlier answer)
    ∙ taking_after-by ReadKind (answer ∷ earlier) targets need answer.said

-- ---- a request that is given up

-- what a client is told of it, by the definition
pub timeout_of-by : (lane : LaneId) (op : OpId) (targets : List Replica) (need : ℕ) (answers : List Answer) → timeout_of (pending_by lane op targets need answers) ≡ timeout_reply targets need answers
timeout_of-by lane op targets need answers = ap (λ n. Timeout n need) (answered_in-by answers targets need)

-- ---- whole lists

same_reply : (taking : Taking) (decided later more : Option Reply) → taking ≡ taking_by decided → later ≡ more → reply_or taking later ≡ option_or decided more
same_reply taking None later more e same = rw e same
same_reply taking (Some reply) later more e same = rw e refl

-- a write that took `earlier` comes to the first decision that the others bring
pub write_outcome-by : (lane : LaneId) (op : OpId) (targets : List Replica) (need : ℕ) (later earlier : List Answer) → write_outcome (pending_by lane op targets need earlier) later ≡ first_decision WriteKind targets need earlier later
write_outcome-by lane op targets need [] earlier = refl
write_outcome-by lane op targets need (answer ∷ later) earlier =
    same_reply (write_taking (pending_by lane op targets need earlier) answer) (decision WriteKind targets need (answer ∷ earlier)) (write_outcome (after_answer (pending_by lane op targets need earlier) answer) later) (first_decision WriteKind targets need (answer ∷ earlier) later)
    (write_taking-by lane op targets need earlier answer)
    (ap (λ write. write_outcome write later) (after_answer-by lane op targets need earlier answer) ∙ write_outcome-by lane op targets need later (answer ∷ earlier))

pub read_outcome-by : (lane : LaneId) (op : OpId) (targets : List Replica) (need : ℕ) (later earlier : List Answer) → read_outcome (pending_read_by lane op targets need earlier) later ≡ first_decision ReadKind targets need earlier later
read_outcome-by lane op targets need [] earlier = refl
read_outcome-by lane op targets need (answer ∷ later) earlier =
    same_reply (read_taking (pending_read_by lane op targets need earlier) answer) (decision ReadKind targets need (answer ∷ earlier)) (read_outcome (read_after_answer (pending_read_by lane op targets need earlier) answer) later) (first_decision ReadKind targets need (answer ∷ earlier) later)
    (read_taking-by lane op targets need earlier answer)
    (ap (λ read. read_outcome read later) (read_after_answer-by lane op targets need earlier answer) ∙ read_outcome-by lane op targets need later (answer ∷ earlier))

-- nobody told a cell before the first answer
pub told_nothing : (targets : List Replica) → greatest_told [] targets ≡ None
told_nothing [] = refl
told_nothing (target ∷ targets) = told_nothing targets

-- ---- from the begin on

pub write_from_begin : (lane : LaneId) (op : OpId) (targets : List Replica) (need : ℕ) (answers : List Answer) → write_outcome (pending_of lane op targets need) answers ≡ first_decision WriteKind targets need [] answers
write_from_begin lane op targets need answers = write_outcome-by lane op targets need answers []

pub read_from_begin : (lane : LaneId) (op : OpId) (targets : List Replica) (need : ℕ) (answers : List Answer) → read_outcome (pending_read_of lane op targets need) answers ≡ first_decision ReadKind targets need [] answers
read_from_begin lane op targets need answers =
    let begun : pending_read_of lane op targets need ≡ pending_read_by lane op targets need [] =
    ap (λ greatest. record { request = pending_of lane op targets need; greatest = greatest }) (sym (told_nothing targets)) in
    ap (λ read. read_outcome read answers) begun ∙ read_outcome-by lane op targets need answers []
