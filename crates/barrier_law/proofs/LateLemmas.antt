-- Requests that come late are refused.
use Rattle.std.proofs.Common.{ap, arith, refl, subst, sym, ◌∙◌}
use Rattle.std.proofs.lemmas.Bool.Decides.{nat_tests}
use Rattle.std.specs.Prelude.{Some, if◌then◌else◌, nat_lt, true, ◌+◌, ◌<◌, ◌≡◌, ◌≤◌}
use Rattle.base_ids.specs.Replicas.{has_host, has_replica}
use Rattle.base_ids.specs.declared.ids.HostId.{HostId}
use Rattle.base_ids.specs.declared.ids.LaneId.{LaneId}
use Rattle.base_ids.specs.declared.ids.OpId.{OpId}
use Rattle.base_ids.specs.declared.ids.Replica.{Replica}
use Rattle.base_ids.specs.declared.ids.Version.{Version}
use Rattle.cluster_history.specs.Held.{held_cell}
use Rattle.cluster_history.specs.History.{History}
use Rattle.cluster_history.specs.Legal.{IsLegalHistory}
use Rattle.cluster_history.specs.Messages.{key_of, kind_of, read_key}
use Rattle.cluster_history.specs.Openings.{IsValidOpening, opening_state}
use Rattle.cluster_history.specs.Outputs.{ask_of, said_to}
use Rattle.cluster_history.specs.Requests.{Request, is_live, next_op, request_at, targets_of}
use Rattle.cluster_history.specs.Topology.{fence_of, floor_of, last_state, log_of}
use Rattle.cluster_history.specs.declared.data.Event.{Event}
use Rattle.cluster_history.specs.declared.data.Event.TheVariants.{Serve}
use Rattle.cluster_history.specs.declared.data.Message.{Message}
use Rattle.cluster_history.specs.declared.data.Message.TheVariants.{Answer as AnswerSent, Read as ReadSent, Write as WriteSent}
use Rattle.cluster_history.specs.declared.data.Opening.{Opening}
use Rattle.cluster_history.specs.declared.data.Operation.{Operation}
use Rattle.cluster_history.specs.declared.data.Operation.TheVariants.{Read as ReadOf, Write as WriteOf}
use Rattle.history_facts.proofs.HostLemmas.{log_legal}
use Rattle.base_ids.proofs.NameLemmas.{or_first}
use Rattle.history_facts.proofs.RouteLemmas.{held_back, routed}
use Rattle.history_facts.proofs.SentLemmas.{Sends, sends}
use Rattle.history_facts.proofs.SentLemmas.Sends.{sends_ask, sends_chunk, sends_chunk_ask, sends_cleaned, sends_fact, sends_found, sends_not_mine, sends_question, sends_written}
use Rattle.history_facts.specs.Laws.{IsRouted}
use Rattle.log_law.proofs.LawLemmas.{sound_states_law, versions_law}
use Rattle.log_law.specs.Laws.{IsSoundView}
use Rattle.quorum_ops.specs.declared.data.Answer.{Answer}
use Rattle.quorum_ops.specs.declared.data.Said.{Said}
use Rattle.quorum_ops.specs.declared.data.Said.TheVariants.{Found, Stale as Refused, Written}
use Rattle.stage_graph.specs.Table.{reads, writes}
use Rattle.stage_graph.specs.declared.kind.Kind.{Kind}
use Rattle.stage_graph.specs.declared.kind.Kind.TheVariants.{Read as ReadKind, Write as WriteKind}
use Rattle.topo_state.specs.Lists.{stage_in}
use Rattle.topo_state.specs.State.{Topology, is_member}
use Rattle.barrier_law.proofs.AskedLemmas.{IsAsked, ask_fact}
use Rattle.barrier_law.proofs.BarrierLemmas.{barrier}
use Rattle.barrier_law.specs.Laws.{AreAtLeast, IsRefusal, LateRequestsAreRefused, is_in_either, next_version}
use Rattle.barrier_law.specs.Laws.AreAtLeast.{ByFences, ByFloors}
use Rattle.tablet_map.proofs.Members.{host_of}

-- a target of a request is on a member of the state that it went by
target_member :
    (opening : Opening) (history : History) (lane : LaneId) (request : Request) (to : Replica) →
    IsValidOpening opening → IsLegalHistory opening history → (routed : IsRouted opening history lane request) → has_replica request.targets to ≡ true →
    is_member routed.state.members to.host ≡ true
target_member opening history lane request to valid legal routed among =
    let views = (sound_states_law (opening_state opening) valid.topology (log_of history) (log_legal opening history legal)).first_views
    request.version.0 routed.state routed.found (key_of request.operation).table (key_of request.operation).token routed.tablet routed.there in
    by_kind (kind_of request.operation) routed.targets views
  where
    by_kind :
        (kind : Kind) → request.targets ≡ targets_of kind routed.tablet → IsSoundView routed.state.members routed.tablet →
        is_member routed.state.members to.host ≡ true
    by_kind ReadKind is sound =
        sound.within (reads (stage_in routed.tablet)) to.host (ap (λ replicas. has_host replicas to.host) (sym is) ∙ host_of request.targets to among)
    by_kind WriteKind is sound =
        sound.within (writes (stage_in routed.tablet)) to.host (ap (λ replicas. has_host replicas to.host) (sym is) ∙ host_of request.targets to among)

-- the fences of a late request's targets are above its version
pub doomed :
    (opening : Opening) (history : History) (lane : LaneId) (op : OpId) (request : Request) (to : Replica) →
    IsValidOpening opening → IsLegalHistory opening history → is_live history lane op ≡ true → request_at opening history lane op ≡ Some request →
    request.version.0 + 2 ≤ (last_state opening history).version.0 → has_replica request.targets to ≡ true →
    request.version.0 < (fence_of opening history to.host).0
doomed opening history lane op request to valid legal live begun late among =
    let first = opening_state opening in
    let next : Version = next_version request.version in
    let held = held_back opening history lane op request legal live begun in
    let above = held.above in
    let route = routed opening history lane op request begun in
    let known = (versions_law first valid.topology (log_of history) (log_legal opening history legal)).known (request.version.0 + 1) (omega arith) (omega (arith, late)) in
    let there = target_member opening history lane request to valid legal route among in
    by_kind route.state known.state above there route.member (barrier opening history request.version route.state known.state valid legal late route.found known.found)
  where
    by_kind :
        (old new : Topology) → (floor_of history lane.host).0 ≤ request.version.0 → is_member old.members to.host ≡ true → is_member old.members lane.host ≡ true →
        AreAtLeast opening history (next_version request.version) (is_in_either old new) → request.version.0 < (fence_of opening history to.host).0
    by_kind old new above there lane_there (ByFloors all) =
        let low = all lane.host (or_first (is_member old.members lane.host) (is_member new.members lane.host) lane_there) in
        absurd (omega (arith, above, low))
    by_kind old new above there lane_there (ByFences all) =
        let low = all to.host (or_first (is_member old.members to.host) (is_member new.members to.host) there) in
        omega (arith, low)

refused_by : (version fence : Version) (said : Said) → version.0 < fence.0 → IsRefusal version (said_to version fence said)
refused_by version fence said below =
    let less : nat_lt version.0 fence.0 ≡ true = grind (arith, nat_tests) in
    record { fence = fence; is = ap (λ b. if b then Refused fence else said) less; above = below }

pub answer_same : (a b : Answer) → AnswerSent a ≡ AnswerSent b → a ≡ b
answer_same a b e = cc e

late_by :
    (opening : Opening) (history : History) (lane : LaneId) (op : OpId) (version : Version) (operation : Operation) (to : Replica) (host : HostId) (said : Said) (request : Request) →
    IsValidOpening opening → IsLegalHistory opening history → IsAsked opening history lane op version operation to → to.host ≡ host →
    is_live history lane op ≡ true → request_at opening history lane op ≡ Some request → request.version.0 + 2 ≤ (last_state opening history).version.0 →
    IsRefusal request.version (said_to version (fence_of opening history host) said)
late_by opening history lane op version operation to host said request valid legal asked here live begun late =
    let same : asked.request ≡ request = some_same asked.request request (sym asked.begun ∙ begun) in
    let at : request.version ≡ version = ap (λ (r : Request). r.version) (sym same) ∙ asked.version_is in
    let among : has_replica request.targets to ≡ true = ap (λ (r : Request). has_replica r.targets to) (sym same) ∙ asked.among in
    let fence = doomed opening history lane op request to valid legal live begun late among in
    subst (λ v. IsRefusal request.version (said_to v (fence_of opening history host) said)) at
    (refused_by request.version (fence_of opening history host) said (subst (λ h. request.version.0 < (fence_of opening history h).0) here fence))
  where
    some_same : (a b : Request) → Some a ≡ Some b → a ≡ b
    some_same a b e = cc e

late_sent :
    (opening : Opening) (history : History) (event : Event) (message : Message) (answer : Answer) (request : Request) →
    IsValidOpening opening → IsLegalHistory opening history → Sends opening history event message → message ≡ AnswerSent answer →
    is_live history answer.lane answer.op ≡ true → request_at opening history answer.lane answer.op ≡ Some request →
    request.version.0 + 2 ≤ (last_state opening history).version.0 → IsRefusal request.version answer.said
late_sent opening history event message answer request valid legal (sends_written {host = host} {at = at} ask asked here) is live begun late =
    let made : Answer = record { lane = ask.lane; op = ask.op; from = ask.to; said = said_to ask.version (fence_of opening history host) Written } in
    let same : made ≡ answer = answer_same made answer is in
    let P : Answer → Type 0 = λ a. is_live history a.lane a.op ≡ true → request_at opening history a.lane a.op ≡ Some request → IsRefusal request.version a.said in
    let fact = ask_fact opening history legal at (WriteSent ask) asked in
    subst P same
    (λ was_live was_begun. late_by opening history ask.lane ask.op ask.version (WriteOf ask.table ask.token ask.cell fact.0) ask.to host Written request valid legal fact.1 here was_live was_begun late)
    live begun
late_sent opening history event message answer request valid legal (sends_found {host = host} {at = at} ask asked here) is live begun late =
    let told = Found (held_cell opening history host (read_key ask)) in
    let made : Answer = record { lane = ask.lane; op = ask.op; from = ask.to; said = said_to ask.version (fence_of opening history host) told } in
    let same : made ≡ answer = answer_same made answer is in
    let P : Answer → Type 0 = λ a. is_live history a.lane a.op ≡ true → request_at opening history a.lane a.op ≡ Some request → IsRefusal request.version a.said in
    let fact = ask_fact opening history legal at (ReadSent ask) asked in
    subst P same
    (λ was_live was_begun. late_by opening history ask.lane ask.op ask.version (ReadOf ask.table ask.token fact.0) ask.to host told request valid legal fact.1 here was_live was_begun late)
    live begun
late_sent opening history event message answer request valid legal (sends_ask {lane = lane} {operation = operation} {version = version} route to there among) is live begun late =
    absurd (no_answer operation is)
  where
    no_answer : (operation : Operation) → ask_of lane (next_op history lane) version operation to ≡ AnswerSent answer → ⊥
    no_answer (WriteOf table token cell level) e = cc e
    no_answer (ReadOf table token level) e = cc e
late_sent opening history event message answer request valid legal (sends_chunk ask asked here) is live begun late = cc is
late_sent opening history event message answer request valid legal (sends_fact ask asked here so) is live begun late = cc is
late_sent opening history event message answer request valid legal (sends_cleaned ask session asked here what mine) is live begun late = cc is
late_sent opening history event message answer request valid legal (sends_not_mine ask session asked here what mine) is live begun late = cc is
late_sent opening history event message answer request valid legal (sends_chunk_ask pull there) is live begun late = cc is
late_sent opening history event message answer request valid legal sends_question is live begun late = cc is

pub freeze : LateRequestsAreRefused
freeze opening history host at out answer request valid legal fine sent live begun late =
    late_sent opening history (Serve host at) (AnswerSent answer) answer request valid legal (sends opening history (Serve host at) out (AnswerSent answer) fine sent) refl live begun late
