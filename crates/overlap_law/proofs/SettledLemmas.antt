-- Settled writes: what makes a write settled, and that it becomes so only at the log's version or at the one before it.
use Rattle.std.proofs.Common.{ap, arith, inl, inr, refl, subst, sym, ◌∙◌}
use Rattle.std.proofs.lemmas.Bool.{cases_lt}
use Rattle.std.proofs.lemmas.Bool.Decides.{nat_tests}
use Rattle.std.specs.List.{list_any}
use Rattle.std.specs.Prelude.{None, Option, Some, [], false, if◌then◌else◌, length, nat_le, slice_get, true, ℕ, ◌&&◌, ◌+◌, ◌<◌, ◌||◌, ◌∷◌, ◌≡◌, ◌≤◌, ◌⊎◌}
use Rattle.barrier_law.proofs.LateLemmas.{freeze}
use Rattle.barrier_law.specs.Laws.{IsRefusal}
use Rattle.base_ids.specs.declared.ids.HostId.{HostId}
use Rattle.base_ids.specs.declared.ids.LaneId.{LaneId}
use Rattle.base_ids.specs.declared.ids.MsgRef.{MsgRef}
use Rattle.base_ids.specs.declared.ids.OpId.{OpId}
use Rattle.base_ids.specs.declared.ids.Replica.{Replica}
use Rattle.base_ids.specs.declared.ids.Version.{Version}
use Rattle.cluster_history.specs.Held.{is_written}
use Rattle.cluster_history.specs.History.{History, message_at, message_of, output_at}
use Rattle.cluster_history.specs.Legal.{HasActor, IsFitEvent, IsLegalHistory, broken_rule, entry_of, outputs_of}
use Rattle.cluster_history.specs.Messages.{is_answer, is_for, kind_of, level_of}
use Rattle.cluster_history.specs.Rules.{message_rule}
use Rattle.base_ids.specs.declared.ids.Actor.TheVariants.{Lane as ByLane}
use Rattle.base_ids.specs.declared.rules.EventRule.TheVariants.{WrongMessage}
use Rattle.cluster_history.specs.declared.data.Message.{Message}
use Rattle.cluster_history.specs.declared.data.Output.{Output}
use Rattle.cluster_history.specs.Openings.{IsValidOpening}
use Rattle.cluster_history.specs.Requests.{Request, begun_count, is_live, request_at}
use Rattle.cluster_history.specs.declared.data.Entry.{Entry}
use Rattle.cluster_history.specs.declared.data.Event.{Event}
use Rattle.cluster_history.specs.declared.data.Event.TheVariants.{Serve, Take}
use Rattle.cluster_history.specs.declared.data.Message.TheVariants.{Answer as AnswerSent}
use Rattle.cluster_history.specs.declared.data.Opening.{Opening}
use Rattle.cluster_history.specs.declared.data.Output.TheVariants.{Sent}
use Rattle.history_facts.proofs.BegunLemmas.{live_before, request_at-kept, request_at-later, request_begun}
use Rattle.history_facts.proofs.HostLemmas.{within_log}
use Rattle.history_facts.proofs.LegalLemmas.{as_event, next_event}
use Rattle.base_ids.proofs.NameLemmas.{and_true, both_true, is_false, or_first, or_second, or_true, same_lane-refl}
use Rattle.history_facts.proofs.RouteLemmas.{held_back, routed}
use Rattle.history_facts.specs.Laws.{IsRouted}
use Rattle.quorum_ops.specs.declared.data.Answer.{Answer}
use Rattle.quorum_ops.specs.declared.data.Said.{Said}
use Rattle.quorum_ops.specs.declared.data.Said.TheVariants.{Stale as Refused}
use Rattle.answer_law.proofs.UndecidedLemmas.{routed_sound}
use Rattle.stage_graph.proofs.Needs.{needs_one}
use Rattle.topo_state.specs.Lists.{stage_in}
use Rattle.stream_law.specs.Covered.{last_version}
use Rattle.answer_law.proofs.CountLemmas.{count_more, count_none}
use Rattle.overlap_law.proofs.SaidLemmas.{IsKnown, IsSaid, newly_known, said_found, said_known, says, some_same}
use Rattle.overlap_law.specs.Barriers.{IsFrozen, IsRecent}
use Rattle.stream_law.specs.Settled.{has_enough, has_said, is_answer_of, is_settled, written_count}

-- ---- what makes a write settled

at_least : (a b : ℕ) → nat_le a b ≡ true → a ≤ b
at_least a b h = grind (arith, nat_tests)

le_test : (a b : ℕ) → a ≤ b → nat_le a b ≡ true
le_test a b h = grind (arith, nat_tests)

pub settled_now : (opening : Opening) (history : History) (lane : LaneId) (op : OpId) (request : Request) → is_live history lane op ≡ true → request_at opening history lane op ≡ Some request → request.need ≤ written_count history lane op request.targets → is_settled opening history lane op ≡ true
settled_now opening [] lane op request live begun enough = cc
settled_now opening (entry ∷ history) lane op request live begun enough =
    or_second (is_settled opening history lane op) (is_live (entry ∷ history) lane op && has_enough (entry ∷ history) lane op (request_at opening (entry ∷ history) lane op))
    (and_true (is_live (entry ∷ history) lane op) (has_enough (entry ∷ history) lane op (request_at opening (entry ∷ history) lane op)) live
    (ap (has_enough (entry ∷ history) lane op) begun ∙ le_test request.need (written_count (entry ∷ history) lane op request.targets) enough))

-- a settled write stays settled
pub settled-later : (opening : Opening) (history : History) (entry : Entry) (lane : LaneId) (op : OpId) → is_settled opening history lane op ≡ true → is_settled opening (entry ∷ history) lane op ≡ true
settled-later opening history entry lane op settled =
    or_first (is_settled opening history lane op) (is_live (entry ∷ history) lane op && has_enough (entry ∷ history) lane op (request_at opening (entry ∷ history) lane op)) settled

-- a settled request is live and has enough, or was settled before
pub record IsEnough (opening : Opening) (history : History) (lane : LaneId) (op : OpId) : Type 0 where
  pub live : is_live history lane op ≡ true
  pub request : Request
  pub begun : request_at opening history lane op ≡ Some request
  pub enough : request.need ≤ written_count history lane op request.targets

enough_of : (opening : Opening) (history : History) (entry : Entry) (lane : LaneId) (op : OpId) → (is_live (entry ∷ history) lane op && has_enough (entry ∷ history) lane op (request_at opening (entry ∷ history) lane op)) ≡ true → IsEnough opening (entry ∷ history) lane op
enough_of opening history entry lane op h =
    let both = both_true (is_live (entry ∷ history) lane op) (has_enough (entry ∷ history) lane op (request_at opening (entry ∷ history) lane op)) h in
    by_request (request_at opening (entry ∷ history) lane op) refl both.0 both.1
  where
    by_request : (request : Option Request) → request_at opening (entry ∷ history) lane op ≡ request → is_live (entry ∷ history) lane op ≡ true → has_enough (entry ∷ history) lane op request ≡ true → IsEnough opening (entry ∷ history) lane op
    by_request None r live e = cc
    by_request (Some request) r live e =
        record { live = live; request = request; begun = r; enough = at_least request.need (written_count (entry ∷ history) lane op request.targets) e }

-- it was settled before, or it was not and is live and has enough now
pub record IsNewlySettled (opening : Opening) (history : History) (entry : Entry) (lane : LaneId) (op : OpId) : Type 0 where
  pub fresh : is_settled opening history lane op ≡ false
  pub now : IsEnough opening (entry ∷ history) lane op

pub settled_cases : (opening : Opening) (history : History) (entry : Entry) (lane : LaneId) (op : OpId) → is_settled opening (entry ∷ history) lane op ≡ true → (is_settled opening history lane op ≡ true) ⊎ IsNewlySettled opening history entry lane op
settled_cases opening history entry lane op e =
    elim (is_settled opening history lane op) as (λ b. is_settled opening history lane op ≡ b → (b || (is_live (entry ∷ history) lane op && has_enough (entry ∷ history) lane op (request_at opening (entry ∷ history) lane op))) ≡ true → (is_settled opening history lane op ≡ true) ⊎ IsNewlySettled opening history entry lane op) [
      | true ↦ λ old h. inl old
      | false ↦ λ old h. inr (record { fresh = old; now = enough_of opening history entry lane op h })
    ] refl e

pub settled_known : (opening : Opening) (history : History) (lane : LaneId) (op : OpId) → is_settled opening history lane op ≡ true → IsKnown opening history lane op
settled_known opening [] lane op e = cc
settled_known opening (entry ∷ history) lane op e =
    elim (settled_cases opening history entry lane op e) [
      | inl old ↦
          let known : IsKnown opening history lane op = settled_known opening history lane op old in
          record { request = known.request; begun = request_at-later opening history entry lane op known.request known.begun }
      | inr new ↦ record { request = new.now.request; begun = new.now.begun }
    ]

-- ---- needs

pub need_some : (opening : Opening) (history : History) (lane : LaneId) (op : OpId) (request : Request) → IsValidOpening opening → IsLegalHistory opening history → request_at opening history lane op ≡ Some request → 1 ≤ request.need
need_some opening history lane op request valid legal begun =
    let route : IsRouted opening history lane request = routed opening history lane op request begun in
    let sound = routed_sound opening history lane request valid legal route in
    let one = needs_one (kind_of request.operation) (level_of request.operation) (length route.tablet.replicas) (stage_in route.tablet) sound.sound.replicas.some in
    omega (arith, one, route.need)

-- ---- what is said of a late request

-- the answers of a serve to a late live request are refusals
pub late_refused :
    (opening : Opening) (history : History) (event : Event) (lane : LaneId) (op : OpId) (from : Replica) (said : Said) (place : ℕ) (request : Request) →
    IsValidOpening opening → IsLegalHistory opening history → broken_rule opening history event ≡ None →
    slice_get (outputs_of opening history event) place ≡ Some (Sent (AnswerSent (record { lane = lane; op = op; from = from; said = said }))) →
    is_live history lane op ≡ true → request_at opening history lane op ≡ Some request →
    request.version.0 + 2 ≤ last_version opening history → IsRefusal request.version said
late_refused opening history event lane op from said place request valid legal fine stands live begun late =
    elim (says opening history event place lane op from said fine stands) [
      | inl write ↦ served write.host write.at write.event_is
      | inr read ↦ served read.host read.at read.event_is
    ]
  where
    served : (host : HostId) (at : MsgRef) → event ≡ Serve host at → IsRefusal request.version said
    served host at is =
        let answer : Answer = record { lane = lane; op = op; from = from; said = said } in
        freeze opening history host at place answer request valid legal
        (ap (broken_rule opening history) (sym is) ∙ fine)
        (ap (λ e. slice_get (outputs_of opening history e) place) (sym is) ∙ stands)
        live begun late

not_written : (version : Version) (said : Said) → IsRefusal version said → is_written said ≡ true → ⊥
not_written version said refusal written =
    let wrong : is_written (Refused refusal.fence) ≡ true = ap is_written (sym refusal.is) ∙ written in cc wrong

-- ---- a write becomes settled only at the log's version or at the one before it

served_last : (opening : Opening) (history : History) (event : Event) (host : HostId) (at : MsgRef) → event ≡ Serve host at → last_version opening (entry_of opening history event ∷ history) ≡ last_version opening history
served_last opening history event host at is =
    ap (λ e. last_version opening (entry_of opening history e ∷ history)) is

module _ (opening : Opening) (history : History) (event : Event) (valid : IsValidOpening opening) (legal : IsLegalHistory opening history) (actor : HasActor opening event) (fit : IsFitEvent opening event) (fine : broken_rule opening history event ≡ None) (lane : LaneId) (op : OpId) where
  -- to a live request that is late now nobody newly says that it was written
  nobody_writes :
      (request : Request) → is_live history lane op ≡ true → request_at opening history lane op ≡ Some request →
      request.version.0 + 2 ≤ last_version opening (entry_of opening history event ∷ history) →
      (from : Replica) → has_said (entry_of opening history event ∷ history) lane op from is_written ≡ true → has_said history lane op from is_written ≡ true
  nobody_writes request live begun late from said =
      elim (has_said history lane op from is_written) as (λ b. (b || list_any (is_answer_of lane op from is_written) (outputs_of opening history event)) ≡ true → b ≡ true) [
        | true ↦ λ h. refl
        | false ↦ λ h. absurd (new (said_found (outputs_of opening history event) lane op from is_written h))
      ] said
    where
      new : IsSaid (outputs_of opening history event) lane op from is_written → ⊥
      new found =
          let P : ℕ → Type 0 = λ n. request.version.0 + 2 ≤ n in
          let same : last_version opening (entry_of opening history event ∷ history) ≡ last_version opening history =
          (elim (says opening history event found.place lane op from found.said fine found.stands) [
            | inl write ↦ served_last opening history event write.host write.at write.event_is
            | inr read ↦ served_last opening history event read.host read.at read.event_is
          ]) in
          not_written request.version found.said
          (late_refused opening history event lane op from found.said found.place request valid legal fine found.stands live begun (subst P same late))
          found.passes

  -- nobody says so to a request that begins now
  nobody_knows : begun_count history lane < op.0 → (from : Replica) → has_said (entry_of opening history event ∷ history) lane op from is_written ≡ false
  nobody_knows above from =
      is_false (has_said (entry_of opening history event ∷ history) lane op from is_written)
      (λ e. unknown (new e))
    where
      unknown : IsKnown opening history lane op → ⊥
      unknown known = absurd (let below = request_begun opening history lane op known.request known.begun in omega (arith, above, below))

      new : (has_said history lane op from is_written || list_any (is_answer_of lane op from is_written) (outputs_of opening history event)) ≡ true → IsKnown opening history lane op
      new e =
          newly_known opening history event lane op from is_written legal fine
          (or_true (has_said history lane op from is_written) (list_any (is_answer_of lane op from is_written) (outputs_of opening history event)) e
          (λ old. unknown (said_known opening history legal lane op from is_written old)))

  settles_recently : IsNewlySettled opening history (entry_of opening history event) lane op → (request : Request) → request_at opening (entry_of opening history event ∷ history) lane op ≡ Some request → request.version.0 + 2 ≤ last_version opening (entry_of opening history event ∷ history) → ⊥
  settles_recently new request begun late =
      elim (cases_lt (begun_count history lane) op.0) [
        | inl above ↦
            let none = count_none (λ from. has_said (entry_of opening history event ∷ history) lane op from is_written) (nobody_knows above) new.now.request.targets in
            let some = need_some opening (entry_of opening history event ∷ history) lane op new.now.request valid (next_event opening history event actor fit fine, legal) new.now.begun in
            absurd (omega (arith, none, some, new.now.enough))
        | inr below ↦
            let was = live_before history (entry_of opening history event) lane op below new.now.live in
            let begun_then : request_at opening history lane op ≡ Some request = sym (request_at-kept opening history (entry_of opening history event) lane op below) ∙ begun in
            let same : new.now.request ≡ request = some_same new.now.request request (sym new.now.begun ∙ begun) in
            let P : Request → Type 0 = λ q. q.need ≤ written_count (entry_of opening history event ∷ history) lane op q.targets in
            let enough : request.need ≤ written_count (entry_of opening history event ∷ history) lane op request.targets = subst P same new.now.enough in
            let fewer = count_more (λ from. has_said (entry_of opening history event ∷ history) lane op from is_written) (λ from. has_said history lane op from is_written) (nobody_writes request was.live begun_then late) request.targets in
            let settled : is_settled opening history lane op ≡ true = settled_now opening history lane op request was.live begun_then (omega (arith, enough, fewer)) in
            let wrong : true ≡ false = sym settled ∙ new.fresh in cc wrong
      ]

-- a live request is at most at the log's version
pub live_known : (opening : Opening) (history : History) (lane : LaneId) (op : OpId) (request : Request) → IsLegalHistory opening history → is_live history lane op ≡ true → request_at opening history lane op ≡ Some request → request.version.0 ≤ last_version opening history
live_known opening history lane op request legal live begun =
    let held = held_back opening history lane op request legal live begun in
    let within = within_log opening history lane.host legal in
    omega (arith, held.below, within.version_below)

pub settles_recent :
    (opening : Opening) (history : History) (event : Event) → IsValidOpening opening → IsLegalHistory opening history → HasActor opening event → IsFitEvent opening event → broken_rule opening history event ≡ None →
    (lane : LaneId) (op : OpId) (request : Request) →
    IsNewlySettled opening history (entry_of opening history event) lane op → request_at opening (entry_of opening history event ∷ history) lane op ≡ Some request →
    IsRecent opening (entry_of opening history event ∷ history) request
settles_recent opening history event valid legal actor fit fine lane op request new begun =
    record {
      known = live_known opening (entry_of opening history event ∷ history) lane op request (next_event opening history event actor fit fine, legal) new.now.live begun;
      recent =
          (elim (cases_lt (request.version.0 + 1) (last_version opening (entry_of opening history event ∷ history))) [
            | inl late ↦ absurd (settles_recently opening history event valid legal actor fit fine lane op new request begun (omega (arith, late)))
            | inr recent ↦ recent
          ]);
    }

-- ---- freeze

-- what was answered may be taken by the lane that it is for
answer_taken : (opening : Opening) (history : History) (at : MsgRef) (answer : Answer) → message_at history at ≡ Some (AnswerSent answer) → broken_rule opening history (Take answer.lane at) ≡ None
answer_taken opening history at answer sent = by_output (output_at history at) sent
  where
    by_output : (output : Option Output) → message_of output ≡ Some (AnswerSent answer) → message_rule (is_for (ByLane answer.lane) is_answer) output ≡ None
    by_output (Some (Sent message)) e =
        let same : message ≡ AnswerSent answer = cc e in
        ap (λ (m : Message). message_rule (is_for (ByLane answer.lane) is_answer) (Some (Sent m))) same
        ∙ ap (λ b. if b then None else Some WrongMessage) (same_lane-refl answer.lane)
    by_output output e = cc e

pub is_frozen : (opening : Opening) (history : History) (entry : Entry) → IsValidOpening opening → IsLegalHistory opening (entry ∷ history) → IsFrozen opening history entry
is_frozen opening history entry valid legal =
    subst (IsFrozen opening history) (sym (as_event opening history entry legal.0))
    (of_event entry.event legal.0.actor legal.0.fit legal.0.enabled)
  where
    of_event : (event : Event) → HasActor opening event → IsFitEvent opening event → broken_rule opening history event ≡ None → IsFrozen opening history (entry_of opening history event)
    of_event event actor fit fine =
        record {
          served = λ host at out answer request is stands live begun late.
              late_refused opening history event answer.lane answer.op answer.from answer.said out request valid legal.1 fine stands live begun late;
          settles = λ lane op request fresh settled begun.
              (elim (settled_cases opening history (entry_of opening history event) lane op settled) [
                | inl old ↦ let wrong : true ≡ false = sym old ∙ fresh in cc wrong
                | inr new ↦ settles_recent opening history event valid legal.1 actor fit fine lane op request new begun
              ]);
          taken = λ at answer sent. answer_taken opening (entry_of opening history event ∷ history) at answer sent;
        }
