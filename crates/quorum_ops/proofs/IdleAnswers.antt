-- A request stays undecided while its answers decide nothing, and answers of strangers and repeated answers change nothing.
use Rattle.std.proofs.Common.{◌≡◌, ℕ, ◌-◌, ◌≤◌, Bool, true, false, ◌&&◌, ◌||◌, cond, List, [], ◌∷◌, length, map, count_by, Option, Some, None, is_some, if◌then◌else◌, nat_le, nat_lt, refl, sym, ◌∙◌, ap, arith}
use Rattle.std.specs.List.{list_any}
use Rattle.std.specs.Option.{option_or}
use Rattle.std.proofs.lemmas.List.{length-map}
use Rattle.std.proofs.lemmas.List.Sums.{sum_by-cons}
use Rattle.base_ids.specs.declared.ids.LaneId.{LaneId}
use Rattle.base_ids.specs.declared.ids.OpId.{OpId}
use Rattle.base_ids.specs.declared.ids.Replica.{Replica}
use Rattle.cell_merge.specs.declared.cell.Cell.{Cell}
use Rattle.cell_merge.specs.Cell.{greater_cell}
use Rattle.stage_graph.specs.declared.kind.Kind.{Kind}
use Rattle.stage_graph.specs.declared.kind.Kind.TheVariants.{Read as ReadKind, Write as WriteKind}
use Rattle.quorum_tally.specs.declared.tally.Standing.TheVariants.{Answered, Refused}
use Rattle.quorum_tally.specs.declared.tally.Mark.{Mark}
use Rattle.quorum_tally.specs.declared.tally.Mark.TheVariants.{Fresh, Repeat, Stranger}
use Rattle.base_ids.specs.Replicas.{same_replica}
use Rattle.quorum_tally.specs.Standings.{Standings, is_unmarked, is_open, mark_of, marked_place, marked_standings, answered_places as answered_in, refused_places as refused_in, hopeful_count}
use Rattle.quorum_ops.specs.declared.data.Answer.{Answer}
use Rattle.quorum_ops.specs.declared.data.Said.{Said}
use Rattle.quorum_ops.specs.declared.data.Said.TheVariants.{Written, Found, Stale}
use Rattle.quorum_ops.specs.declared.data.Reply.{Reply}
use Rattle.quorum_ops.specs.declared.data.Reply.TheVariants.{Ok as OkReply, Read as ReadReply, Stale as StaleReply}
use Rattle.quorum_ops.specs.declared.taking.Taking.TheVariants.{Decided, Waiting}
use Rattle.quorum_ops.specs.Decision.{first_said, has_answered, has_refused, greatest_told, good_reply, decision}
use Rattle.quorum_ops.specs.Pending.{Pending, PendingRead, pending_of, marked_by, after_answer, found_cell, greatest_after, read_after_answer, data_taking, taking_after, write_taking, read_taking}
use Rattle.quorum_ops.specs.Taken.{standing_of, place_by, standings_by, pending_by, pending_read_by, taking_by, write_outcome, read_outcome, first_decision}
use Rattle.std.proofs.Common.{◌++◌, ◌==◌, ◌≢◌, not}
use Rattle.std.proofs.lemmas.Bool.{eqb-true}
use Rattle.std.proofs.lemmas.Bool.Decides.{nat_tests}
use Rattle.quorum_tally.specs.declared.tally.Verdict.TheVariants.{Enough, Hopeless, Open}
use Rattle.quorum_tally.specs.Standings.{verdict_at, verdict_of}
use Rattle.quorum_tally.proofs.PlaceLemmas.{refused_count-answer, answered_count-refusal, marked-shut, marked_standings-unless_fresh}
use Rattle.quorum_ops.specs.Pending.{IsUndecided}
use Rattle.quorum_ops.specs.Taken.{is_stranger, is_repeat}
use Rattle.quorum_ops.proofs.TakenLemmas.{answered_in-by, refused_in-by, marked_by-by, told_step, taking_after-by, write_outcome-by, read_outcome-by}

-- ---- undecided

-- the two tests of a verdict that is open, and back
open_tests : (answered refused targets need : ℕ) → verdict_at answered refused targets need ≡ Open → (nat_le need answered ≡ false) × (nat_lt (targets - refused) need ≡ false)
open_tests answered refused targets need e = by_tests (nat_le need answered) (nat_lt (targets - refused) need) e
  where
    by_tests : (enough few : Bool) → (if enough then Enough else (if few then Hopeless refused else Open)) ≡ Open → (enough ≡ false) × (few ≡ false)
    by_tests true few e = (cc, cc)
    by_tests false true e = (cc, cc)
    by_tests false false e = (refl, refl)

tests_open : (answered refused targets need : ℕ) → nat_le need answered ≡ false → nat_lt (targets - refused) need ≡ false → verdict_at answered refused targets need ≡ Open
tests_open answered refused targets need p q = rw (p, q) refl

count-none : {X : Type 0} (p : X → Bool) → ((x : X) → p x ≡ false) → (xs : List X) → count_by p xs ≡ 0
count-none p none [] = refl
count-none {X} p none (x ∷ xs) = rw (sum_by-cons (λ (y : X). cond (p y) 1 0) x xs, none x) (rw (count-none p none xs) refl)

-- a request is undecided when it begins
pub undecided_begin : (targets : List Replica) (need : ℕ) → 1 ≤ need → need ≤ length targets → verdict_of (standings_by [] targets need) ≡ Open
undecided_begin targets need some reachable =
    none_marked (answered_in (standings_by [] targets need)) (refused_in (standings_by [] targets need)) (length targets) (length (standings_by [] targets need).places) need
    (answered_in-by [] targets need ∙ count-none (has_answered []) (λ _. refl) targets)
    (refused_in-by [] targets need ∙ count-none (has_refused []) (λ _. refl) targets)
    (length-map targets (place_by []))
    some reachable
  where
    none_marked : (answered refused n places need : ℕ) → answered ≡ 0 → refused ≡ 0 → places ≡ n → 1 ≤ need → need ≤ n → verdict_at answered refused places need ≡ Open
    none_marked answered refused n places need a r p some reachable = rw (a, r, p) (begin_open n need some reachable)
      where
        begin_open : (n need : ℕ) → 1 ≤ need → need ≤ n → verdict_at 0 0 n need ≡ Open
        begin_open n need some reachable = grind (arith, nat_tests)

data_waits : (enough : Bool) (reply : Reply) → (if enough then Decided reply else Waiting) ≡ Waiting → enough ≡ false
data_waits true reply e = cc
data_waits false reply e = refl

answer_waits : (tally : Standings) (from : Replica) (reply : Reply) → verdict_of tally ≡ Open → data_taking (marked_standings tally from Answered) reply ≡ Waiting → verdict_of (marked_standings tally from Answered) ≡ Open
answer_waits tally from reply undecided waiting =
    let tests = open_tests (answered_in tally) (refused_in tally) (length tally.places) tally.need undecided in
    tests_open (answered_in (marked_standings tally from Answered)) (refused_in (marked_standings tally from Answered)) (length (marked_standings tally from Answered).places) tally.need
    (data_waits (nat_le tally.need (answered_in (marked_standings tally from Answered))) reply waiting)
    (rw (refused_count-answer tally from, length-map tally.places (marked_place from Answered)) tests.1)

-- it stays so while nothing is decided
pub waits : (tally : Standings) (from : Replica) (said : Said) (reply : Reply) → verdict_of tally ≡ Open → taking_after (marked_by tally from said) said reply ≡ Waiting → verdict_of (marked_by tally from said) ≡ Open
waits tally from Written reply undecided waiting = answer_waits tally from reply undecided waiting
waits tally from (Found cell) reply undecided waiting = answer_waits tally from reply undecided waiting
waits tally from (Stale fence) reply undecided waiting =
    let tests = open_tests (answered_in tally) (refused_in tally) (length tally.places) tally.need undecided in
    tests_open (answered_in (marked_standings tally from Refused)) (refused_in (marked_standings tally from Refused)) (length (marked_standings tally from Refused).places) tally.need
    (rw (answered_count-refusal tally from) tests.0)
    (data_waits (nat_lt (hopeful_count (marked_standings tally from Refused)) tally.need) (StaleReply (refused_in (marked_standings tally from Refused)) fence) waiting)

-- a request that is undecided stays so after an answer that decides nothing
pub undecided_next : (kind : Kind) (targets : List Replica) (need : ℕ) (earlier : List Answer) (answer : Answer) → verdict_of (standings_by earlier targets need) ≡ Open → decision kind targets need (answer ∷ earlier) ≡ None → verdict_of (standings_by (answer ∷ earlier) targets need) ≡ Open
undecided_next kind targets need earlier answer undecided none =
    let reply : Reply = good_reply kind (greatest_told (answer ∷ earlier) targets) in
    let same : marked_by (standings_by earlier targets need) answer.from answer.said ≡ standings_by (answer ∷ earlier) targets need = marked_by-by earlier targets need answer.lane answer.op answer.from answer.said in
    let waiting : taking_after (marked_by (standings_by earlier targets need) answer.from answer.said) answer.said reply ≡ Waiting =
    ap (λ (tally : Standings). taking_after tally answer.said reply) same
    ∙ taking_after-by kind (answer ∷ earlier) targets need answer.said
    ∙ ap taking_by none in
    ap verdict_of (sym same) ∙ waits (standings_by earlier targets need) answer.from answer.said reply undecided waiting

-- ---- answers that do not count

-- where nobody is open an answer changes nothing
standings_kept : (earlier : List Answer) (targets : List Replica) (need : ℕ) (answer : Answer) → is_open (map (place_by earlier) targets) answer.from ≡ false → standings_by (answer ∷ earlier) targets need ≡ standings_by earlier targets need
standings_kept earlier targets need answer shut =
    sym (marked_by-by earlier targets need answer.lane answer.op answer.from answer.said)
    ∙ marked_kept answer.said
  where
    marked_kept : (said : Said) → marked_by (standings_by earlier targets need) answer.from said ≡ standings_by earlier targets need
    marked_kept Written = ap (λ places. record { places = places; need = need }) (marked-shut answer.from Answered (map (place_by earlier) targets) shut)
    marked_kept (Found cell) = ap (λ places. record { places = places; need = need }) (marked-shut answer.from Answered (map (place_by earlier) targets) shut)
    marked_kept (Stale fence) = ap (λ places. record { places = places; need = need }) (marked-shut answer.from Refused (map (place_by earlier) targets) shut)

told_kept : (earlier : List Answer) (targets : List Replica) (answer : Answer) → is_open (map (place_by earlier) targets) answer.from ≡ false → greatest_told (answer ∷ earlier) targets ≡ greatest_told earlier targets
told_kept earlier targets answer shut =
    told_step earlier answer.lane answer.op answer.from answer.said targets
    ∙ ap (λ t. if t then greater_cell (greatest_told earlier targets) (found_cell answer.said) else greatest_told earlier targets) shut

-- what a request of either kind comes to from here on
outcome : Kind → PendingRead → List Answer → Option Reply
outcome WriteKind pending later = write_outcome pending.request later
outcome ReadKind pending later = read_outcome pending later

outcome-by : (kind : Kind) (lane : LaneId) (op : OpId) (targets : List Replica) (need : ℕ) (earlier later : List Answer) → outcome kind (pending_read_by lane op targets need earlier) later ≡ first_decision kind targets need earlier later
unfolding outcome
outcome-by WriteKind lane op targets need earlier later = write_outcome-by lane op targets need later earlier
outcome-by ReadKind lane op targets need earlier later = read_outcome-by lane op targets need later earlier

-- an answer that changes nothing may be left out of those that came before
first_decision-kept : (kind : Kind) (targets : List Replica) (need : ℕ) (earlier later : List Answer) (answer : Answer) → is_open (map (place_by earlier) targets) answer.from ≡ false → first_decision kind targets need (answer ∷ earlier) later ≡ first_decision kind targets need earlier later
first_decision-kept kind targets need earlier later answer shut =
    let same : pending_read_by answer.lane answer.op targets need (answer ∷ earlier) ≡ pending_read_by answer.lane answer.op targets need earlier =
    λ i. record { request = record { lane = answer.lane; op = answer.op; tally = standings_kept earlier targets need answer shut i }; greatest = told_kept earlier targets answer shut i } in
    sym (outcome-by kind answer.lane answer.op targets need (answer ∷ earlier) later)
    ∙ ap (λ pending. outcome kind pending later) same
    ∙ outcome-by kind answer.lane answer.op targets need earlier later

-- an undecided request is not decided by it either
undecided_waits : (tally : Standings) (said : Said) (reply : Reply) → verdict_of tally ≡ Open → taking_after tally said reply ≡ Waiting
undecided_waits tally said reply undecided =
    by_said said (open_tests (answered_in tally) (refused_in tally) (length tally.places) tally.need undecided)
  where
    by_said : (said : Said) → (nat_le tally.need (answered_in tally) ≡ false) × (nat_lt (hopeful_count tally) tally.need ≡ false) → taking_after tally said reply ≡ Waiting
    by_said Written tests = ap (λ t. if t then Decided reply else Waiting) tests.0
    by_said (Found cell) tests = ap (λ t. if t then Decided reply else Waiting) tests.0
    by_said (Stale fence) tests = ap (λ t. if t then Decided (StaleReply (refused_in tally) fence) else Waiting) tests.1

taking_none : (decided : Option Reply) → taking_by decided ≡ Waiting → decided ≡ None
taking_none None e = refl
taking_none (Some reply) e = cc

decision-kept : (kind : Kind) (targets : List Replica) (need : ℕ) (earlier : List Answer) (answer : Answer) → verdict_of (standings_by earlier targets need) ≡ Open → is_open (map (place_by earlier) targets) answer.from ≡ false → decision kind targets need (answer ∷ earlier) ≡ None
decision-kept kind targets need earlier answer undecided shut =
    let reply : Reply = good_reply kind (greatest_told (answer ∷ earlier) targets) in
    taking_none (decision kind targets need (answer ∷ earlier))
    (sym (taking_after-by kind (answer ∷ earlier) targets need answer.said)
    ∙ ap (λ (tally : Standings). taking_after tally answer.said reply) (standings_kept earlier targets need answer shut)
    ∙ undecided_waits (standings_by earlier targets need) answer.said reply undecided)

-- ---- who does not count

same_same : (a b : Replica) → same_replica a b ≡ true → a ≡ b
same_same a b e =
    let both = both_true (a.host.0 == b.host.0) (a.shard.0 == b.shard.0) e in
    λ i. record { host = record { 0 = eqb-true a.host.0 b.host.0 both.0 i }; shard = record { 0 = eqb-true a.shard.0 b.shard.0 both.1 i } }
  where
    both_true : (p q : Bool) → p && q ≡ true → (p ≡ true) × (q ≡ true)
    both_true true q e = (refl, e)
    both_true false q e = (cc, cc)

-- a stranger is open nowhere
shut_stranger : (earlier : List Answer) (targets : List Replica) (from : Replica) → is_stranger targets from ≡ true → is_open (map (place_by earlier) targets) from ≡ false
shut_stranger earlier [] from e = refl
shut_stranger earlier (target ∷ targets) from e =
    nowhere (same_replica target from) (list_any (λ t. same_replica t from) targets) (is_unmarked (standing_of (first_said earlier target))) (is_open (map (place_by earlier) targets) from) e (shut_stranger earlier targets from)
  where
    nowhere : (here there unmarked behind : Bool) → not (here || there) ≡ true → (not there ≡ true → behind ≡ false) → (here && unmarked) || behind ≡ false
    nowhere true there unmarked behind e rest = cc
    nowhere false there unmarked behind e rest = rest e

-- who has said something is open nowhere
shut_said : (earlier : List Answer) (targets : List Replica) (from : Replica) → is_some (first_said earlier from) ≡ true → is_open (map (place_by earlier) targets) from ≡ false
shut_said earlier [] from e = refl
shut_said earlier (target ∷ targets) from e =
    shut_place (shut_said earlier targets from e) (same_replica target from) refl
  where
    marked_one : (first : Option Said) → is_some first ≡ true → is_unmarked (standing_of first) ≡ false
    marked_one None e = cc
    marked_one (Some Written) e = refl
    marked_one (Some (Found cell)) e = refl
    marked_one (Some (Stale fence)) e = refl

    shut_place : is_open (map (place_by earlier) targets) from ≡ false → (same : Bool) → same_replica target from ≡ same → (same && is_unmarked (standing_of (first_said earlier target))) || is_open (map (place_by earlier) targets) from ≡ false
    shut_place behind true p =
        let one : is_some (first_said earlier target) ≡ true = ap (λ r. is_some (first_said earlier r)) (same_same target from p) ∙ e in
        rw (marked_one (first_said earlier target) one) behind
    shut_place behind false p = behind

-- ---- whole lists

-- one more answer that has come
said_more : (first : Option Said) (same rest : Bool) (said : Said) → is_some first || (same || rest) ≡ is_some (if is_some first then first else (if same then Some said else None)) || rest
said_more None true rest said = refl
said_more None false rest said = refl
said_more (Some x) same rest said = refl

idle_at : (kind : Kind) (targets : List Replica) (need : ℕ) (before earlier later : List Answer) (answer : Answer) → verdict_of (standings_by earlier targets need) ≡ Open → is_stranger targets answer.from || (is_some (first_said earlier answer.from) || is_repeat before answer.from) ≡ true → first_decision kind targets need earlier (before ++ answer ∷ later) ≡ first_decision kind targets need earlier (before ++ later)
idle_at kind targets need [] earlier later answer undecided idle =
    let shut : is_open (map (place_by earlier) targets) answer.from ≡ false =
    by_reason (is_stranger targets answer.from) (is_some (first_said earlier answer.from)) idle (shut_stranger earlier targets answer.from) (shut_said earlier targets answer.from) in
    rw (decision-kept kind targets need earlier answer undecided shut) (first_decision-kept kind targets need earlier later answer shut)
  where
    by_reason : (stranger said : Bool) → stranger || (said || false) ≡ true → (stranger ≡ true → is_open (map (place_by earlier) targets) answer.from ≡ false) → (said ≡ true → is_open (map (place_by earlier) targets) answer.from ≡ false) → is_open (map (place_by earlier) targets) answer.from ≡ false
    by_reason true said e p q = p refl
    by_reason false true e p q = q refl
    by_reason false false e p q = cc
idle_at kind targets need (one ∷ before) earlier later answer undecided idle =
    by_decision (λ still more. idle_at kind targets need before (one ∷ earlier) later answer still more) (decision kind targets need (one ∷ earlier)) refl
  where
    idle_next : is_stranger targets answer.from || (is_some (first_said (one ∷ earlier) answer.from) || is_repeat before answer.from) ≡ true
    idle_next =
        ap (λ t. is_stranger targets answer.from || t) (sym (said_more (first_said earlier answer.from) (same_replica answer.from one.from) (is_repeat before answer.from) one.said)) ∙ idle

    by_decision : (verdict_of (standings_by (one ∷ earlier) targets need) ≡ Open → is_stranger targets answer.from || (is_some (first_said (one ∷ earlier) answer.from) || is_repeat before answer.from) ≡ true → first_decision kind targets need (one ∷ earlier) (before ++ answer ∷ later) ≡ first_decision kind targets need (one ∷ earlier) (before ++ later)) → (decided : Option Reply) → decision kind targets need (one ∷ earlier) ≡ decided → option_or decided (first_decision kind targets need (one ∷ earlier) (before ++ answer ∷ later)) ≡ option_or decided (first_decision kind targets need (one ∷ earlier) (before ++ later))
    by_decision rest None e = rest (undecided_next kind targets need earlier one undecided e) idle_next
    by_decision rest (Some reply) e = refl

-- a stranger's answer or a repeated one, anywhere in the list, changes nothing
pub idle_answer : (kind : Kind) (targets : List Replica) (need : ℕ) (before later : List Answer) (answer : Answer) → 1 ≤ need → need ≤ length targets → is_stranger targets answer.from || is_repeat before answer.from ≡ true → first_decision kind targets need [] (before ++ answer ∷ later) ≡ first_decision kind targets need [] (before ++ later)
idle_answer kind targets need before later answer some reachable idle =
    idle_at kind targets need before [] later answer (undecided_begin targets need some reachable) idle

-- a word that is not fresh changes nothing and decides nothing
marked_by-unless_fresh : (tally : Standings) (from : Replica) (said : Said) → mark_of tally from ≢ Fresh → marked_by tally from said ≡ tally
marked_by-unless_fresh tally from Written not_fresh = marked_standings-unless_fresh tally from Answered not_fresh
marked_by-unless_fresh tally from (Found cell) not_fresh = marked_standings-unless_fresh tally from Answered not_fresh
marked_by-unless_fresh tally from (Stale fence) not_fresh = marked_standings-unless_fresh tally from Refused not_fresh

taking_unless_fresh : (tally : Standings) (from : Replica) (said : Said) (reply : Reply) → verdict_of tally ≡ Open → mark_of tally from ≢ Fresh → taking_after (marked_by tally from said) said reply ≡ Waiting
taking_unless_fresh tally from said reply undecided not_fresh =
    ap (λ (t : Standings). taking_after t said reply) (marked_by-unless_fresh tally from said not_fresh) ∙ undecided_waits tally said reply undecided

greatest_unless_fresh : (mark : Mark) (greatest : Option Cell) (said : Said) → mark ≢ Fresh → greatest_after mark greatest said ≡ greatest
greatest_unless_fresh Fresh greatest said not_fresh = absurd (not_fresh refl)
greatest_unless_fresh Repeat greatest said not_fresh = refl
greatest_unless_fresh Stranger greatest said not_fresh = refl

pub write_unless_fresh : (write : Pending) (answer : Answer) → IsUndecided write → mark_of write.tally answer.from ≢ Fresh → (after_answer write answer ≡ write) × (write_taking write answer ≡ Waiting)
write_unless_fresh write answer undecided not_fresh =
    (ap (λ tally. record write { tally = tally }) (marked_by-unless_fresh write.tally answer.from answer.said not_fresh), taking_unless_fresh write.tally answer.from answer.said OkReply undecided not_fresh)

pub read_unless_fresh : (read : PendingRead) (answer : Answer) → IsUndecided read.request → mark_of read.request.tally answer.from ≢ Fresh → (read_after_answer read answer ≡ read) × (read_taking read answer ≡ Waiting)
read_unless_fresh read answer undecided not_fresh =
    let write = write_unless_fresh read.request answer undecided not_fresh in
    let greatest = greatest_unless_fresh (mark_of read.request.tally answer.from) read.greatest answer.said not_fresh in
    (λ i. record { request = write.0 i; greatest = greatest i }, taking_unless_fresh read.request.tally answer.from answer.said (ReadReply (read_after_answer read answer).greatest) undecided not_fresh)

-- ---- as an operation shows it

pub pending_begin : (lane : LaneId) (op : OpId) (targets : List Replica) (need : ℕ) → 1 ≤ need → need ≤ length targets → IsUndecided (pending_of lane op targets need)
pending_begin lane op targets need some reachable = undecided_begin targets need some reachable

pub pending_next : (kind : Kind) (lane : LaneId) (op : OpId) (targets : List Replica) (need : ℕ) (earlier : List Answer) (answer : Answer) → IsUndecided (pending_by lane op targets need earlier) → decision kind targets need (answer ∷ earlier) ≡ None → IsUndecided (pending_by lane op targets need (answer ∷ earlier))
pending_next kind lane op targets need earlier answer undecided none = undecided_next kind targets need earlier answer undecided none
