-- A live request waits: as many of its targets as it needs can answer, and the answers that it took decide nothing.
use Rattle.std.proofs.Common.{ap, arith, refl, subst, sym, ◌∙◌}
use Rattle.std.proofs.lemmas.List.Elements.{All-cons, All-nil}
use Rattle.std.specs.Cmp.{unsigned_Decides}
use Rattle.std.specs.List.{All, list_any}
use Rattle.std.specs.Prelude.{Bool, List, None, Option, Some, [], false, if◌then◌else◌, length, true, ℕ, ◌&&◌, ◌+◌, ◌==◌, ◌||◌, ◌∷◌, ◌≡◌, ◌≤◌}
use Rattle.base_ids.specs.Names.{same_lane, same_op}
use Rattle.base_ids.specs.declared.ids.LaneId.{LaneId}
use Rattle.base_ids.specs.declared.ids.HostId.{HostId}
use Rattle.base_ids.specs.declared.ids.MsgRef.{MsgRef}
use Rattle.base_ids.specs.declared.ids.OpId.{OpId}
use Rattle.base_ids.specs.declared.ids.Replica.{Replica}
use Rattle.cluster_history.specs.History.{History, message_at}
use Rattle.cluster_history.specs.Legal.{IsLegalHistory, outputs_of}
use Rattle.cluster_history.specs.Messages.{key_of, kind_of, level_of}
use Rattle.cluster_history.specs.Openings.{IsValidOpening, opening_state}
use Rattle.cluster_history.specs.Outputs.{decided_by, reply_list, take_outputs}
use Rattle.cluster_history.specs.Requests.{Request, answer_to, answers_of, begins_request, begun_count, is_begin_of, is_event_of, is_live, is_reply_to, live_ops, live_request, replies_to, request_at, started_request, taken_answer, targets_of, with_answer}
use Rattle.cluster_history.specs.Topology.{log_of}
use Rattle.cluster_history.specs.declared.data.Entry.{Entry}
use Rattle.cluster_history.specs.declared.data.Event.{Event}
use Rattle.cluster_history.specs.declared.data.Event.TheVariants.{Begin, Take}
use Rattle.cluster_history.specs.declared.data.Message.{Message}
use Rattle.cluster_history.specs.declared.data.Message.TheVariants.{Answer as AnswerSent}
use Rattle.cluster_history.specs.declared.data.Opening.{Opening}
use Rattle.history_facts.proofs.BegunLemmas.{answers_of-above, live_before, request_begun}
use Rattle.history_facts.proofs.HostLemmas.{log_legal}
use Rattle.base_ids.proofs.NameLemmas.{both_true, same_lane-refl, same_lane-same, same_op-refl, same_op-same}
use Rattle.history_facts.proofs.RouteLemmas.{routed}
use Rattle.history_facts.specs.Laws.{IsRouted}
use Rattle.lane_core.specs.Kept.{IsKept, IsWaiting}
use Rattle.lane_core.specs.declared.work.Work.{Work}
use Rattle.lane_ties.proofs.AnswerLemmas.{held}
use Rattle.lane_ties.proofs.HistoryLemmas.{answers_kept, member_begun, member_live}
use Rattle.lane_ties.proofs.ListLemmas.{Keeping}
use Rattle.lane_ties.specs.LaneTies.{LanesWait, kept_among, kept_of, kept_with, with_kept, work_by}
use Rattle.log_law.proofs.LawLemmas.{sound_states_law}
use Rattle.log_law.specs.Laws.{IsSoundView}
use Rattle.quorum_ops.proofs.IdleAnswers.{pending_begin, pending_next}
use Rattle.quorum_ops.specs.Decision.{decision}
use Rattle.quorum_ops.specs.Pending.{IsUndecided}
use Rattle.quorum_ops.specs.Taken.{pending_by}
use Rattle.quorum_ops.specs.declared.data.Answer.{Answer}
use Rattle.quorum_ops.specs.declared.data.Reply.{Reply}
use Rattle.request_table.specs.declared.Live.{Live}
use Rattle.stage_graph.proofs.Needs.{asks_no_more, asks_one}
use Rattle.stage_graph.specs.Needs.{needed}
use Rattle.stage_graph.specs.declared.level.Level.{Level}
use Rattle.stage_graph.specs.declared.kind.Kind.{Kind}
use Rattle.stage_graph.specs.declared.kind.Kind.TheVariants.{Read as ReadKind, Write as WriteKind}
use Rattle.tablet_map.specs.declared.tablet.Tablet.{Tablet}
use Rattle.topo_state.specs.Lists.{stage_in}
use Rattle.topo_state.specs.State.{Topology}

-- ---- as many as are needed can answer

pub record IsReachable (targets : List Replica) (need : ℕ) : Type 0 where
  pub some : 1 ≤ need
  pub within : need ≤ length targets

view_reachable : (kind : Kind) (level : Level) (members : List HostId) (tablet : Tablet) → IsSoundView members tablet → IsReachable (targets_of kind tablet) (needed kind level (length tablet.replicas) (stage_in tablet))
view_reachable ReadKind level members tablet sound =
    let one = asks_one level (length tablet.replicas) sound.sound.replicas.some in
    let most = asks_no_more level (length tablet.replicas) sound.sound.replicas.some in
    let size = sound.reads_size in
    record { some = omega (arith, one); within = omega (arith, most, size) }
view_reachable WriteKind level members tablet sound =
    let one = asks_one level (length tablet.replicas) sound.sound.replicas.some in
    let most = asks_no_more level (length tablet.replicas) sound.sound.replicas.some in
    let size = sound.writes_size in
    record { some = omega (arith, one); within = omega (arith, most, size) }

pub request_reachable :
    (opening : Opening) (history : History) (lane : LaneId) (op : OpId) (request : Request) → IsValidOpening opening → IsLegalHistory opening history →
    request_at opening history lane op ≡ Some request → IsReachable request.targets request.need
request_reachable opening history lane op request valid legal there =
    let route : IsRouted opening history lane request = routed opening history lane op request there in
    let states = sound_states_law (opening_state opening) valid.topology (log_of history) (log_legal opening history legal) in
    let sound : IsSoundView route.state.members route.tablet =
    states.first_views request.version.0 route.state route.found (key_of request.operation).table (key_of request.operation).token route.tablet route.there in
    let can = view_reachable (kind_of request.operation) (level_of request.operation) route.state.members route.tablet sound in
    subst (λ (targets : List Replica). IsReachable targets request.need) (sym route.targets)
    (subst (IsReachable (targets_of (kind_of request.operation) route.tablet)) (sym route.need) can)

-- ---- the answers of a live request decide nothing

-- what is undecided of a request
abbrev Waits : LaneId → OpId → Request → List Answer → Type 0
Waits lane op request answers = IsUndecided (pending_by lane op request.targets request.need answers)

-- an event that begins a request takes no answer
begin_takes_none : (history : History) (event : Event) (lane : LaneId) (op : OpId) → begins_request history event lane op ≡ true → taken_answer history event lane op ≡ None
begin_takes_none history (Begin by operation version) lane op now = refl
begin_takes_none history event lane op now = cc

begun_undecided :
    (opening : Opening) (history : History) (entry : Entry) (lane : LaneId) (op : OpId) (request : Request) → IsValidOpening opening →
    IsLegalHistory opening (entry ∷ history) → begins_request history entry.event lane op ≡ true →
    request_at opening (entry ∷ history) lane op ≡ Some request → Waits lane op request (answers_of (entry ∷ history) lane op)
begun_undecided opening history entry lane op request valid legal now there =
    let parts = both_true (is_begin_of lane entry.event) (op.0 == begun_count history lane + 1) now in
    let number : op.0 ≡ begun_count history lane + 1 = (unsigned_Decides op.0 (begun_count history lane + 1)).0 parts.1 in
    let none : answers_of (entry ∷ history) lane op ≡ [] =
    answers_kept history entry lane op (begin_takes_none history entry.event lane op now)
    ∙ answers_of-above history lane op (omega (arith, number)) in
    let can = request_reachable opening (entry ∷ history) lane op request valid legal there in
    subst (Waits lane op request) (sym none) (pending_begin lane op request.targets request.need can.some can.within)

-- an answer that is taken and brings no reply decides nothing
silent_undecided : (op : OpId) (request : Request) (decided : Option Reply) → list_any (is_reply_to op) (reply_list op request decided) ≡ false → decided ≡ None
silent_undecided op request None e = refl
silent_undecided op request (Some reply) e =
    let wrong : true ≡ false = sym (ap (λ b. b || false) (same_op-refl op)) ∙ e in
    cc wrong

unreplied : (a b : Bool) → a ≡ true → (a && b) ≡ false → b ≡ false
unreplied true b is e = e
unreplied false b is e = cc is

-- what the answer was, and that it came by a take of the lane
pub record IsTakenBy (history : History) (event : Event) (lane : LaneId) (op : OpId) (answer : Answer) : Type 0 where
  pub its : is_event_of lane event ≡ true
  pub outputs :
      (opening : Opening) → outputs_of opening history event ≡ decided_by op (answer ∷ answers_of history lane op) (live_request opening history lane op)

taken_message :
    (history : History) (by lane : LaneId) (at : MsgRef) (op : OpId) (answer : Answer) → by ≡ lane →
    (message : Option Message) → message_at history at ≡ message → answer_to lane op message ≡ Some answer → IsTakenBy history (Take by at) lane op answer
taken_message history by lane at op answer is (Some (AnswerSent other)) sent taken =
    (elim (same_lane other.lane lane && same_op other.op op) as (λ b. (same_lane other.lane lane && same_op other.op op) ≡ b → (if b then Some other else None) ≡ Some answer → IsTakenBy history (Take by at) lane op answer) [
      | true ↦ λ named f.
          let parts = both_true (same_lane other.lane lane) (same_op other.op op) named in
          let same : other ≡ answer = cc f in
          let number : other.op ≡ op = same_op-same other.op op parts.1 in
          record {
            its = ap (λ l. same_lane l lane) is ∙ same_lane-refl lane;
            outputs = λ opening.
                ap (λ l. take_outputs (live_request opening history l) (answers_of history l) (message_at history at)) is
                ∙ ap (take_outputs (live_request opening history lane) (answers_of history lane)) sent
                ∙ (λ i. decided_by (number i) (same i ∷ answers_of history lane (number i)) (live_request opening history lane (number i)));
          }
      | false ↦ λ named f. cc f
    ]) refl taken
taken_message history by lane at op answer is message sent taken = cc taken

taken_by_event : (history : History) (event : Event) (lane : LaneId) (op : OpId) (answer : Answer) → taken_answer history event lane op ≡ Some answer → IsTakenBy history event lane op answer
taken_by_event history (Take by at) lane op answer taken =
    (elim (same_lane by lane) as (λ b. same_lane by lane ≡ b → (if b then answer_to lane op (message_at history at) else None) ≡ Some answer → IsTakenBy history (Take by at) lane op answer) [
      | true ↦ λ is f. taken_message history by lane at op answer (same_lane-same by lane is) (message_at history at) refl f
      | false ↦ λ is f. cc f
    ]) refl taken
taken_by_event history event lane op answer taken = cc taken

taken_undecided :
    (opening : Opening) (history : History) (entry : Entry) (lane : LaneId) (op : OpId) (request : Request) →
    entry.outputs ≡ outputs_of opening history entry.event → is_live history lane op ≡ true → replies_to entry lane op ≡ false →
    request_at opening history lane op ≡ Some request → Waits lane op request (answers_of history lane op) →
    (taken : Option Answer) → taken_answer history entry.event lane op ≡ taken → Waits lane op request (with_answer taken (answers_of history lane op))
taken_undecided opening history entry lane op request outputs live silent there before None taken = before
taken_undecided opening history entry lane op request outputs live silent there before (Some answer) taken =
    let t = taken_by_event history entry.event lane op answer taken in
    let one : live_request opening history lane op ≡ Some request = ap (λ b. if b then request_at opening history lane op else None) live ∙ there in
    let decided : Option Reply = decision (kind_of request.operation) request.targets request.need (answer ∷ answers_of history lane op) in
    let given : entry.outputs ≡ reply_list op request decided =
    outputs ∙ t.outputs opening ∙ ap (decided_by op (answer ∷ answers_of history lane op)) one in
    let none : list_any (is_reply_to op) (reply_list op request decided) ≡ false =
    ap (list_any (is_reply_to op)) (sym given) ∙ unreplied (is_event_of lane entry.event) (list_any (is_reply_to op) entry.outputs) t.its silent in
    pending_next (kind_of request.operation) lane op request.targets request.need (answers_of history lane op) answer before
    (silent_undecided op request decided none)

pub live_undecided :
    (opening : Opening) (history : History) (lane : LaneId) (op : OpId) (request : Request) → IsValidOpening opening → IsLegalHistory opening history →
    is_live history lane op ≡ true → request_at opening history lane op ≡ Some request → Waits lane op request (answers_of history lane op)
live_undecided opening [] lane op request valid legal live there = cc live
live_undecided opening (entry ∷ history) lane op request valid legal live there =
    (elim (begins_request history entry.event lane op) as (λ b. begins_request history entry.event lane op ≡ b → (if b then started_request opening history entry.event else request_at opening history lane op) ≡ Some request → Waits lane op request (answers_of (entry ∷ history) lane op)) [
      | true ↦ λ now f. begun_undecided opening history entry lane op request valid legal now there
      | false ↦ λ now f.
          let was = live_before history entry lane op (request_begun opening history lane op request f) live in
          let before : Waits lane op request (answers_of history lane op) = live_undecided opening history lane op request valid legal.1 was.live f in
          let after : answers_of (entry ∷ history) lane op ≡ with_answer (taken_answer history entry.event lane op) (answers_of history lane op) =
          ap (λ b. if b then with_answer (taken_answer history entry.event lane op) (answers_of history lane op) else answers_of history lane op) was.live in
          subst (Waits lane op request) (sym after)
          (taken_undecided opening history entry lane op request legal.0.outputs was.live was.unreplied f before (taken_answer history entry.event lane op) refl)
    ]) refl there

-- ---- the lane's live requests

-- what holds of each that is kept holds of all
among_all : (P : (OpId × Live Topology Work) → Type 0) (f : Keeping) (ops : List OpId) → ((op : OpId) → list_any (same_op op) ops ≡ true → (kept : Live Topology Work) → f op ≡ Some kept → P (op, kept)) → All P (kept_among f ops)
among_all P f [] each = All-nil P
among_all P f (op ∷ ops) each =
    by_kept (f op) refl (among_all P f ops (λ k there. each k (behind (same_op k op) (list_any (same_op k) ops) there)))
  where
    behind : (a b : Bool) → b ≡ true → (a || b) ≡ true
    behind true b e = refl
    behind false b e = e

    by_kept : (kept : Option (Live Topology Work)) → f op ≡ kept → All P (kept_among f ops) → All P (with_kept op kept (kept_among f ops))
    by_kept None e rest = rest
    by_kept (Some kept) e rest =
        All-cons P (op, kept) (kept_among f ops) (each op (ap (λ b. b || list_any (same_op op) ops) (same_op-refl op)) kept e) rest

work_waits : (kind : Kind) (lane : LaneId) (op : OpId) (request : Request) (answers : List Answer) → Waits lane op request answers → IsWaiting lane op (work_by kind lane op request answers)
work_waits WriteKind lane op request answers waits = record { lane_is = refl; op_is = refl; undecided = waits }
work_waits ReadKind lane op request answers waits = record { lane_is = refl; op_is = refl; undecided = waits }

pub lane_waits : LanesWait
lane_waits opening history lane valid legal =
    among_all (IsKept lane (begun_count history lane)) (kept_of opening history lane) (live_ops history lane)
    (λ op there kept e.
    let live = member_live history lane op there in
    let h = held opening history lane op legal live in
    let is : kept_with lane op h.request (answers_of history lane op) h.state ≡ kept = some_same (sym h.kept ∙ e) in
    let waits : IsWaiting lane op (work_by (kind_of h.request.operation) lane op h.request (answers_of history lane op)) =
    work_waits (kind_of h.request.operation) lane op h.request (answers_of history lane op) (live_undecided opening history lane op h.request valid legal live h.requested) in
    record {
      begun_is = member_begun history lane op there;
      waits = subst (λ (k : Live Topology Work). IsWaiting lane op k.work) is waits;
    })
  where
    some_same : {a b : Live Topology Work} → Some a ≡ Some b → a ≡ b
    some_same e = cc e
