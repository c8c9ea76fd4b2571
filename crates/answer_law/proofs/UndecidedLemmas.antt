-- A live request is undecided by the answers that it took.
use Rattle.std.proofs.Common.{ap, arith, inl, inr, refl, subst, sym, ◌∙◌}
use Rattle.std.proofs.lemmas.Bool.{cases_lt}
use Rattle.std.proofs.lemmas.Bool.Decides.{nat_tests}
use Rattle.std.specs.List.{list_any}
use Rattle.std.specs.Prelude.{Bool, List, None, Option, Some, [], false, if◌then◌else◌, is_some, length, nat_le, nat_lt, true, ℕ, ◌-◌, ◌<◌, ◌∷◌, ◌≡◌, ◌≤◌}
use Rattle.base_ids.specs.Names.{same_op}
use Rattle.base_ids.specs.Replicas.{same_replica}
use Rattle.base_ids.specs.declared.ids.LaneId.{LaneId}
use Rattle.base_ids.specs.declared.ids.OpId.{OpId}
use Rattle.base_ids.specs.declared.ids.Replica.{Replica}
use Rattle.base_ids.specs.declared.ids.Version.{Version}
use Rattle.cluster_history.specs.History.{History}
use Rattle.cluster_history.specs.Legal.{IsLegalHistory, entry_of, outputs_of}
use Rattle.cluster_history.specs.Messages.{key_of, kind_of, level_of}
use Rattle.cluster_history.specs.Openings.{IsValidOpening, opening_state}
use Rattle.cluster_history.specs.Outputs.{decided_by, reply_list, take_outputs}
use Rattle.cluster_history.specs.Requests.{Request, answers_of, begun_count, is_event_of, is_live, is_reply_to, live_request, replies_to, request_at, targets_of, taken_answer, with_answer}
use Rattle.cluster_history.specs.Topology.{log_of}
use Rattle.cluster_history.specs.declared.data.Event.{Event}
use Rattle.cluster_history.specs.declared.data.Opening.{Opening}
use Rattle.history_facts.proofs.BegunLemmas.{answers_of-above, is_live-above, live_before, request_at-kept}
use Rattle.history_facts.proofs.HostLemmas.{log_legal}
use Rattle.base_ids.proofs.NameLemmas.{and_true, or_first, same_lane-refl, same_op-refl}
use Rattle.history_facts.proofs.RouteLemmas.{routed}
use Rattle.history_facts.specs.Laws.{IsRouted}
use Rattle.log_law.proofs.LawLemmas.{sound_states_law}
use Rattle.log_law.specs.Laws.{IsSoundView}
use Rattle.quorum_ops.specs.Decision.{answered_count, decision, decision_by, first_said, good_reply, greatest_told, has_answered, has_refused, refused_count, says_data, says_stale}
use Rattle.quorum_ops.specs.declared.data.Answer.{Answer}
use Rattle.quorum_ops.specs.declared.data.Reply.{Reply}
use Rattle.quorum_ops.specs.declared.data.Reply.TheVariants.{Stale}
use Rattle.quorum_ops.specs.declared.data.Said.{Said}
use Rattle.quorum_ops.specs.declared.data.Said.TheVariants.{Found, Stale as Refused, Written}
use Rattle.stage_graph.proofs.Needs.{asks_no_more, needs_one}
use Rattle.stage_graph.specs.Needs.{needed}
use Rattle.stage_graph.specs.declared.level.Level.{Level}
use Rattle.stage_graph.specs.declared.kind.Kind.{Kind}
use Rattle.stage_graph.specs.declared.kind.Kind.TheVariants.{Read as ReadKind, Write as WriteKind}
use Rattle.tablet_map.specs.declared.tablet.Tablet.{Tablet}
use Rattle.topo_state.specs.Lists.{stage_in}
use Rattle.answer_law.proofs.CountLemmas.{IsGained, count_more, count_none, gained}
use Rattle.answer_law.proofs.TakenLemmas.{IsTakenBy, taken_by}
use Rattle.answer_law.specs.Laws.{LiveRequestsAreUndecided}

-- ---- an answer that decides nothing

-- an answer that a live request takes, and that does not end it, decides nothing
quiet_take :
    (opening : Opening) (history : History) (event : Event) (lane : LaneId) (op : OpId) (request : Request) (answer : Answer) →
    is_live history lane op ≡ true → request_at opening history lane op ≡ Some request → IsTakenBy history event lane op answer →
    replies_to (entry_of opening history event) lane op ≡ false →
    decision (kind_of request.operation) request.targets request.need (answer ∷ answers_of history lane op) ≡ None
quiet_take opening history event lane op request answer live begun take silent =
    by_decision (decision (kind_of request.operation) request.targets request.need (answer ∷ answers_of history lane op)) refl
  where
    by_decision : (reply : Option Reply) → decision (kind_of request.operation) request.targets request.need (answer ∷ answers_of history lane op) ≡ reply → reply ≡ None
    by_decision None d = refl
    by_decision (Some reply) d =
        let loud : list_any (is_reply_to op) (outputs_of opening history event) ≡ true =
        ap (list_any (is_reply_to op)) (ap (outputs_of opening history) take.event_is
        ∙ ap (take_outputs (live_request opening history lane) (answers_of history lane)) take.sent
        ∙ ap (λ o. decided_by answer.op (answer ∷ answers_of history lane o) (live_request opening history lane o)) take.op_is
        ∙ ap (λ b. decided_by answer.op (answer ∷ answers_of history lane op) (if b then request_at opening history lane op else None)) live
        ∙ ap (decided_by answer.op (answer ∷ answers_of history lane op)) begun
        ∙ ap (reply_list answer.op request) d)
        ∙ or_first (same_op answer.op op) false (ap (λ o. same_op o op) take.op_is ∙ same_op-refl op) in
        let own : is_event_of lane event ≡ true = ap (is_event_of lane) take.event_is ∙ same_lane-refl lane in
        let replied : replies_to (entry_of opening history event) lane op ≡ true = and_true (is_event_of lane event) (list_any (is_reply_to op) (outputs_of opening history event)) own loud in
        let wrong : true ≡ false = sym replied ∙ silent in cc wrong

-- what holds of no answers, and is kept by each answer that decides nothing, holds of what a live request took
pub live_answers :
    (opening : Opening) (P : Request → List Answer → Type 0) →
    ((history : History) (lane : LaneId) (op : OpId) (request : Request) → IsLegalHistory opening history → request_at opening history lane op ≡ Some request → P request []) →
    ((request : Request) (answer : Answer) (answers : List Answer) → decision (kind_of request.operation) request.targets request.need (answer ∷ answers) ≡ None → P request answers → P request (answer ∷ answers)) →
    (history : History) → IsLegalHistory opening history →
    (lane : LaneId) (op : OpId) (request : Request) → is_live history lane op ≡ true → request_at opening history lane op ≡ Some request → P request (answers_of history lane op)
live_answers opening P none more [] legal lane op request live begun = cc live
live_answers opening P none more (entry ∷ history) legal lane op request live begun =
    elim (cases_lt (begun_count history lane) op.0) [
      | inr below ↦
          let was = live_before history entry lane op below live in
          let begun_then : request_at opening history lane op ≡ Some request = sym (request_at-kept opening history entry lane op below) ∙ begun in
          subst (λ b. P request (if b then with_answer (taken_answer history entry.event lane op) (answers_of history lane op) else answers_of history lane op)) (sym was.live)
          (took (taken_answer history entry.event lane op) refl was.live begun_then was.unreplied (live_answers opening P none more history legal.1 lane op request was.live begun_then))
      | inl above ↦
          subst (λ b. P request (if b then with_answer (taken_answer history entry.event lane op) (answers_of history lane op) else answers_of history lane op)) (sym (is_live-above history lane op above))
          (subst (P request) (sym (answers_of-above history lane op above)) (none (entry ∷ history) lane op request legal begun))
    ]
  where
    took : (one : Option Answer) → taken_answer history entry.event lane op ≡ one → is_live history lane op ≡ true → request_at opening history lane op ≡ Some request → replies_to entry lane op ≡ false → P request (answers_of history lane op) → P request (with_answer one (answers_of history lane op))
    took None r was begun_then silent before = before
    took (Some answer) r was begun_then silent before =
        let same : replies_to (entry_of opening history entry.event) lane op ≡ replies_to entry lane op =
        ap (λ outputs. replies_to (record { event = entry.event; outputs = outputs }) lane op) (sym legal.0.outputs) in
        more request answer (answers_of history lane op)
        (quiet_take opening history entry.event lane op request answer was begun_then (taken_by history entry.event lane op answer r) (same ∙ silent)) before

-- ---- who has answered and who has refused

by_first : (first : Option Said) (same : Bool) (said : Said) (counts : Option Said → Bool) → counts (Some said) ≡ false → counts (if is_some first then first else if same then Some said else None) ≡ true → counts None ≡ false → counts first ≡ true
by_first (Some told) same said counts new h none = h
by_first None true said counts new h none = let wrong : false ≡ true = sym new ∙ h in cc wrong
by_first None false said counts new h none = h

-- a refusal makes nobody answered
refusal_counts : (answer : Answer) (fence : Version) (answers : List Answer) (targets : List Replica) → answer.said ≡ Refused fence → answered_count (answer ∷ answers) targets ≤ answered_count answers targets
refusal_counts answer fence answers targets e =
    count_more (has_answered (answer ∷ answers)) (has_answered answers)
    (λ replica h. by_first (first_said answers replica) (same_replica replica answer.from) answer.said says_data (ap (λ s. says_data (Some s)) e) h refl) targets

-- data makes nobody refused
data_counts : (answer : Answer) (answers : List Answer) (targets : List Replica) → says_stale (Some answer.said) ≡ false → refused_count (answer ∷ answers) targets ≤ refused_count answers targets
data_counts answer answers targets e =
    count_more (has_refused (answer ∷ answers)) (has_refused answers)
    (λ replica h. by_first (first_said answers replica) (same_replica replica answer.from) answer.said says_stale e h refl) targets

-- a replica that the newest answer makes refused, by that one
newly : (first : Option Said) (same : Bool) (said : Said) → says_stale (if is_some first then first else if same then Some said else None) ≡ true → says_stale first ≡ false → (if is_some first then first else if same then Some said else None) ≡ Some said
newly (Some told) same said now before = let wrong : true ≡ false = sym now ∙ before in cc wrong
newly None true said now before = refl
newly None false said now before = cc now

-- one whose first answer is the newest
pub record IsNewest (answer : Answer) (answers : List Answer) : Type 0 where
  pub replica : Replica
  pub first : first_said (answer ∷ answers) replica ≡ Some answer.said

-- where more have refused by the newest answer, it is the first answer of one of them
pub newest_refusal : (answer : Answer) (answers : List Answer) (targets : List Replica) → refused_count answers targets < refused_count (answer ∷ answers) targets → IsNewest answer answers
newest_refusal answer answers targets more =
    let gain : IsGained (has_refused (answer ∷ answers)) (has_refused answers) = gained (has_refused (answer ∷ answers)) (has_refused answers) targets more in
    record { replica = gain.one; first = newly (first_said answers gain.one) (same_replica gain.one answer.from) answer.said gain.passes gain.fails }

-- where the newest answer decides nothing, fewer than needed have answered
still_unanswered :
    (kind : Kind) (targets : List Replica) (need : ℕ) (answer : Answer) (answers : List Answer) → decision kind targets need (answer ∷ answers) ≡ None →
    answered_count answers targets < need → answered_count (answer ∷ answers) targets < need
still_unanswered kind targets need answer answers e few = by_said answer.said refl e
  where
    above : (need count : ℕ) → nat_le need count ≡ false → count < need
    above need count h = grind (arith, nat_tests)

    by_data : (reply : Reply) → (if nat_le need (answered_count (answer ∷ answers) targets) then Some reply else None) ≡ None → answered_count (answer ∷ answers) targets < need
    by_data reply h =
        elim (nat_le need (answered_count (answer ∷ answers) targets)) as (λ b. nat_le need (answered_count (answer ∷ answers) targets) ≡ b → (if b then Some reply else None) ≡ None → answered_count (answer ∷ answers) targets < need) [
          | true ↦ λ p g. cc g
          | false ↦ λ p g. above need (answered_count (answer ∷ answers) targets) p
        ] refl h

    by_said : (said : Said) → answer.said ≡ said → decision_by said kind targets need (answer ∷ answers) ≡ None → answered_count (answer ∷ answers) targets < need
    by_said Written r h = by_data (good_reply kind (greatest_told (answer ∷ answers) targets)) h
    by_said (Found cell) r h = by_data (good_reply kind (greatest_told (answer ∷ answers) targets)) h
    by_said (Refused fence) r h = let counts = refusal_counts answer fence answers targets r in omega (arith, few, counts)

-- and those that have not refused are as many as needed
still_hopeful :
    (kind : Kind) (targets : List Replica) (need : ℕ) (answer : Answer) (answers : List Answer) → decision kind targets need (answer ∷ answers) ≡ None →
    need ≤ length targets - refused_count answers targets → need ≤ length targets - refused_count (answer ∷ answers) targets
still_hopeful kind targets need answer answers e enough = by_said answer.said refl e
  where
    at_least : (need count : ℕ) → nat_lt count need ≡ false → need ≤ count
    at_least need count h = grind (arith, nat_tests)

    by_said : (said : Said) → answer.said ≡ said → decision_by said kind targets need (answer ∷ answers) ≡ None → need ≤ length targets - refused_count (answer ∷ answers) targets
    by_said Written r h = let counts = data_counts answer answers targets (ap (λ s. says_stale (Some s)) r) in omega (arith, enough, counts)
    by_said (Found cell) r h = let counts = data_counts answer answers targets (ap (λ s. says_stale (Some s)) r) in omega (arith, enough, counts)
    by_said (Refused fence) r h =
        elim (nat_lt (length targets - refused_count (answer ∷ answers) targets) need) as (λ b. nat_lt (length targets - refused_count (answer ∷ answers) targets) need ≡ b → (if b then Some (Stale (refused_count (answer ∷ answers) targets) fence) else None) ≡ None → need ≤ length targets - refused_count (answer ∷ answers) targets) [
          | true ↦ λ p g. cc g
          | false ↦ λ p g. at_least need (length targets - refused_count (answer ∷ answers) targets) p
        ] refl h

-- ---- live requests

-- the tablet to which a request was routed is sound
pub routed_sound :
    (opening : Opening) (history : History) (lane : LaneId) (request : Request) → IsValidOpening opening → IsLegalHistory opening history →
    (route : IsRouted opening history lane request) → IsSoundView route.state.members route.tablet
routed_sound opening history lane request valid legal route =
    (sound_states_law (opening_state opening) valid.topology (log_of history) (log_legal opening history legal)).first_views
    request.version.0 route.state route.found (key_of request.operation).table (key_of request.operation).token route.tablet route.there

-- fewer of a live request's targets have answered than it needs
pub unanswered :
    (opening : Opening) → IsValidOpening opening → (history : History) → IsLegalHistory opening history → (lane : LaneId) (op : OpId) (request : Request) →
    is_live history lane op ≡ true → request_at opening history lane op ≡ Some request → answered_count (answers_of history lane op) request.targets < request.need
unanswered opening valid =
    live_answers opening (λ request answers. answered_count answers request.targets < request.need)
    (λ history lane op request legal begun.
    let route : IsRouted opening history lane request = routed opening history lane op request begun in
    let sound = routed_sound opening history lane request valid legal route in
    let some = needs_one (kind_of request.operation) (level_of request.operation) (length route.tablet.replicas) (stage_in route.tablet) sound.sound.replicas.some in
    let none = count_none (has_answered []) (λ replica. refl) request.targets in
    omega (arith, route.need, some, none))
    (λ request answer answers quiet few. still_unanswered (kind_of request.operation) request.targets request.need answer answers quiet few)

-- a request has at least as many targets as it needs answers
pub enough_targets :
    (opening : Opening) (history : History) (lane : LaneId) (op : OpId) (request : Request) → IsValidOpening opening → IsLegalHistory opening history →
    request_at opening history lane op ≡ Some request → request.need ≤ length request.targets
enough_targets opening history lane op request valid legal begun =
    let route : IsRouted opening history lane request = routed opening history lane op request begun in
    let sound = routed_sound opening history lane request valid legal route in
    let within = by_kind (kind_of request.operation) (level_of request.operation) route.tablet route.state.members sound in
    let size : length request.targets ≡ length (targets_of (kind_of request.operation) route.tablet) = ap length route.targets in
    omega (arith, route.need, within, size)
  where
    by_kind : (kind : Kind) (level : Level) (tablet : Tablet) (members : _) → IsSoundView members tablet → needed kind level (length tablet.replicas) (stage_in tablet) ≤ length (targets_of kind tablet)
    by_kind ReadKind level tablet members sound = let most = asks_no_more level (length tablet.replicas) sound.sound.replicas.some in omega (arith, sound.reads_size, most)
    by_kind WriteKind level tablet members sound = let most = asks_no_more level (length tablet.replicas) sound.sound.replicas.some in omega (arith, sound.writes_size, most)

-- those of a live request's targets that have not refused are as many as it needs
pub hopeful :
    (opening : Opening) → IsValidOpening opening → (history : History) → IsLegalHistory opening history → (lane : LaneId) (op : OpId) (request : Request) →
    is_live history lane op ≡ true → request_at opening history lane op ≡ Some request →
    request.need ≤ length request.targets - refused_count (answers_of history lane op) request.targets
hopeful opening valid =
    live_answers opening (λ request answers. request.need ≤ length request.targets - refused_count answers request.targets)
    (λ history lane op request legal begun.
    let enough = enough_targets opening history lane op request valid legal begun in
    let none = count_none (has_refused []) (λ replica. refl) request.targets in
    omega (arith, enough, none))
    (λ request answer answers quiet enough. still_hopeful (kind_of request.operation) request.targets request.need answer answers quiet enough)

pub live_requests_are_undecided : LiveRequestsAreUndecided
live_requests_are_undecided opening history lane op request valid legal live begun =
    record {
      unanswered = unanswered opening valid history legal lane op request live begun;
      hopeful = hopeful opening valid history legal lane op request live begun;
    }
