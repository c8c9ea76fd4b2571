-- What clients see of a begin, by the log's last state and the outputs.
use Rattle.std.proofs.Common.{ap, append_assoc, arith, get_or, refl, subst, sym, ◌∙◌}
use Rattle.std.proofs.lemmas.List.{length-reverse, length-take}
use Rattle.std.specs.Prelude.{Bool, List, None, Option, Some, [], false, if◌then◌else◌, length, map, reverse, take, true, ℕ, ◌++◌, ◌+◌, ◌-◌, ◌<◌, ◌==◌, ◌^◌, ◌∷◌, ◌≡◌, ◌≤◌}
use Rattle.base_ids.specs.declared.ids.LaneId.{LaneId}
use Rattle.base_ids.specs.declared.ids.OpId.{OpId}
use Rattle.base_ids.specs.declared.ids.Replica.{Replica}
use Rattle.base_ids.specs.declared.ids.Version.{Version}
use Rattle.base_ids.specs.declared.rules.Appended.TheVariants.{Conflict}
use Rattle.cluster_history.specs.History.{History}
use Rattle.cluster_history.specs.Legal.{IsLegalHistory, outputs_of}
use Rattle.cluster_history.specs.declared.data.Journal.{Journal}
use Rattle.cluster_history.specs.Messages.{key_of, kind_of, level_of}
use Rattle.cluster_history.specs.Openings.{IsValidOpening, opening_state}
use Rattle.cluster_history.specs.Outputs.{begin_outputs, sent_ask}
use Rattle.cluster_history.specs.Requests.{next_op, way_by, way_in}
use Rattle.cluster_history.specs.Requests.Way.{Ends}
use Rattle.cluster_history.specs.Topology.{accepted_command, last_state, log_of, look_of, state_of_version, with_command}
use Rattle.cluster_history.specs.declared.data.Entry.{Entry}
use Rattle.cluster_history.specs.declared.data.Event.{Event}
use Rattle.cluster_history.specs.declared.data.Event.TheVariants.{Answer, Apply, Ask, Begin, Clean, Hear, Look, Propose, Pull, Quiet, Restart, Serve, Take, TakeChunk, Timeout}
use Rattle.cluster_history.specs.declared.data.Opening.{Opening}
use Rattle.cluster_history.specs.declared.data.Operation.{Operation}
use Rattle.cluster_history.specs.declared.data.Operation.TheVariants.{Read as ReadOf, Write as WriteOf}
use Rattle.cluster_history.specs.declared.data.Output.{Output}
use Rattle.cluster_history.specs.declared.data.Output.TheVariants.{Proposed}
use Rattle.base_ids.specs.Outcomes.{judged_outcome}
use Rattle.group0_log.specs.Log.{IsLegalLog, state_of}
use Rattle.history_facts.proofs.HostLemmas.{log_legal}
use Rattle.topo_state.specs.Rules.{rule}
use Rattle.topo_state.specs.declared.command.Rule.{Rule}
use Rattle.log_law.specs.Stages.{view_with}
use Rattle.quorum_ops.specs.declared.data.Reply.TheVariants.{NotMember}
use Rattle.register_model.specs.declared.data.ClientEvent.{ClientEvent}
use Rattle.register_model.specs.declared.data.Key.{Key}
use Rattle.register_model.specs.declared.data.Request.{Request as Named}
use Rattle.stream_law.specs.Covered.{last_version}
use Rattle.tablet_map.specs.declared.tablet.Tablet.{Tablet}
use Rattle.topo_state.specs.State.{Topology, is_member}
use Rattle.topo_state.specs.Views.{view}
use Rattle.topo_state.specs.declared.command.Command.{Command}
use Rattle.overlap_law.proofs.AskedLemmas.{IsSized, sized_later}
use Rattle.overlap_law.proofs.CountsLemmas.{history_more}
use Rattle.overlap_law.proofs.JointLemmas.{last_view}
use Rattle.overlap_law.proofs.PrefixLemmas.{legal_after}
use Rattle.overlap_law.proofs.LossLemmas.{view_is, view_known}
use Rattle.overlap_law.proofs.RaiseLemmas.{last_by_one}
use Rattle.overlap_law.specs.ClientEvents.{asked_at, asked_in, begin_event, named_request, reply_events, seen_of}
use Rattle.overlap_law.specs.Counts.{CanFollow, IsSeenOf, accepted_index, asked_size, is_answered, next_begin, next_number, size_of, sized_begin, with_accepted}
use Rattle.overlap_law.specs.Covered.{view_at, view_in}

-- what is seen of a begin is so by the count of replicas alone
same_begin : (request : Named) (operation : Operation) (asked : Option Tablet) → sized_begin request operation (size_of asked) ≡ begin_event request operation asked
same_begin request (WriteOf table token cell level) None = refl
same_begin request (WriteOf table token cell level) (Some tablet) = refl
same_begin request (ReadOf table token level) None = refl
same_begin request (ReadOf table token level) (Some tablet) = refl

-- asks answer nothing
asks_open : (lane : LaneId) (op : OpId) (version : Version) (operation : Operation) (targets : List Replica) → is_answered (map (sent_ask lane op version operation) targets) ≡ false
asks_open lane op version operation [] = refl
asks_open lane op version (WriteOf table token cell level) (target ∷ targets) = refl
asks_open lane op version (ReadOf table token level) (target ∷ targets) = refl

-- at the log's version the key's tablet has as many replicas
last_size :
    (opening : Opening) (history : History) (version : Version) (key : Key) (tablet : Tablet) → IsValidOpening opening → IsLegalHistory opening history →
    view_at opening history version key ≡ Some tablet → Some (length tablet.replicas) ≡ size_of (view (last_state opening history) key.table key.token.value)
last_size opening history version key tablet valid legal shown =
    let known = view_known opening history version key tablet shown in
    let at : version.0 + (last_version opening history - version.0) ≡ last_version opening history = omega (arith, known) in
    let up : IsSized opening history (version.0 + (last_version opening history - version.0)) key (length tablet.replicas) =
    sized_later opening history version.0 key tablet valid legal (sym (view_is opening history version key) ∙ shown) (last_version opening history - version.0) (omega (arith, at)) in
    let there : view_with (opening_state opening) (log_of history) (last_version opening history) key.table key.token.value ≡ Some up.tablet = ap (λ v. view_with (opening_state opening) (log_of history) v key.table key.token.value) (sym at) ∙ up.shown in
    let now : view (last_state opening history) key.table key.token.value ≡ Some up.tablet = sym (last_view opening history key) ∙ there in
    ap Some (sym up.size) ∙ ap size_of (sym now)

answered_so : (b : Bool) (x : Option ℕ) → b ≡ true → None ≡ (if b then None else x)
answered_so b x e = rw e refl

open_so : (b : Bool) (x y : Option ℕ) → b ≡ false → x ≡ y → x ≡ (if b then None else y)
open_so b x y e same = rw e same

sized_in :
    (opening : Opening) (history : History) (lane : LaneId) (op : OpId) (version : Version) (operation : Operation) (state : Option Topology) → IsValidOpening opening → IsLegalHistory opening history →
    state_of_version opening history version ≡ state →
    size_of (asked_in state lane.host operation) ≡ asked_size (last_state opening history) operation (begin_outputs lane op version operation (way_in state lane.host operation))
sized_in opening history lane op version operation None valid legal found = refl
sized_in opening history lane op version operation (Some state) valid legal found =
    (elim (is_member state.members lane.host) as (λ b. size_of (if b then view state (key_of operation).table (key_of operation).token.value else None) ≡ asked_size (last_state opening history) operation (begin_outputs lane op version operation (if b then way_by (kind_of operation) (level_of operation) (view state (key_of operation).table (key_of operation).token.value) else Ends NotMember))) [
      | true ↦ by_view (view state (key_of operation).table (key_of operation).token.value) refl
      | false ↦ refl
    ])
  where
    by_view : (shown : Option Tablet) → view state (key_of operation).table (key_of operation).token.value ≡ shown → size_of shown ≡ asked_size (last_state opening history) operation (begin_outputs lane op version operation (way_by (kind_of operation) (level_of operation) shown))
    by_view None there = refl
    by_view (Some tablet) there =
        open_so (is_answered (begin_outputs lane op version operation (way_by (kind_of operation) (level_of operation) (Some tablet)))) (Some (length tablet.replicas)) (size_of (view (last_state opening history) (key_of operation).table (key_of operation).token.value))
        (asks_open lane op version operation _)
        (last_size opening history version (key_of operation) tablet valid legal (ap (λ s. view_in s (key_of operation)) found ∙ there))

pub begin_sized :
    (opening : Opening) (history : History) (entry : Entry) (lane : LaneId) (operation : Operation) (version : Version) (request : Named) → IsValidOpening opening → IsLegalHistory opening (entry ∷ history) →
    entry.event ≡ Begin lane operation version →
    sized_begin request operation (asked_size (last_state opening history) operation entry.outputs) ≡ begin_event request operation (asked_at opening history lane operation version)
begin_sized opening history entry lane operation version request valid legal is =
    let outputs : entry.outputs ≡ outputs_of opening history (Begin lane operation version) = legal.0.outputs ∙ ap (outputs_of opening history) is in
    let size = sized_in opening history lane (next_op history lane) version operation (state_of_version opening history version) valid legal.1 refl in
    ap (λ o. sized_begin request operation (asked_size (last_state opening history) operation o)) outputs
    ∙ ap (sized_begin request operation) (sym size)
    ∙ same_begin request operation (asked_at opening history lane operation version)

-- ---- the state that goes on with the log

first_by_one : (opening : Opening) (history : History) → last_version opening history ≤ length history + 1
first_by_one opening [] = omega arith
first_by_one opening (entry ∷ history) =
    let rest = first_by_one opening history in
    let one = last_by_one opening history entry in
    omega (arith, rest, one)

pub can_follow : (opening : Opening) (history : History) (entry : Entry) → IsLegalHistory opening (entry ∷ history) → length history + 1 < 2 ^ 64 - 1 → CanFollow (last_state opening history) (accepted_command entry.event entry.outputs)
can_follow opening history entry legal few =
    by_command (accepted_command entry.event entry.outputs) (log_legal opening (entry ∷ history) legal)
  where
    by_command : (command : Option Command) → IsLegalLog (opening_state opening) (with_command command (log_of history)) → CanFollow (last_state opening history) command
    by_command None log = tt
    by_command (Some command) log = (log.0, let most = first_by_one opening history in omega (arith, most, few))

-- what an event makes of the state is the log's state after it
followed_by : (opening : Opening) (history : History) (event : Event) → with_accepted (last_state opening history) (accepted_command event (outputs_of opening history event)) (accepted_index (outputs_of opening history event)) ≡ state_of (opening_state opening) (with_command (accepted_command event (outputs_of opening history event)) (log_of history))
followed_by opening history (Begin lane operation version) = refl
followed_by opening history (Take lane at) = refl
followed_by opening history (Timeout lane op) = refl
followed_by opening history (Apply host) = refl
followed_by opening history (Quiet host version) = refl
followed_by opening history (Serve host at) = refl
followed_by opening history (Answer host at) = refl
followed_by opening history (Clean host at) = refl
followed_by opening history (Pull host session) = refl
followed_by opening history (TakeChunk host at) = refl
followed_by opening history (Look topo) = refl
followed_by opening history (Ask topo host what) = refl
followed_by opening history (Hear topo at) = refl
followed_by opening history (Propose topo command) = by_outcome (look_of history topo == length (log_of history)) (rule (last_state opening history) command)
  where
    by_outcome : (b : Bool) (broken : Option Rule) →
        with_accepted (last_state opening history) (accepted_command (Propose topo command) (Proposed (if b then judged_outcome (length (log_of history)) broken else Conflict (record { 0 = length (log_of history) })) ∷ [])) (accepted_index (Proposed (if b then judged_outcome (length (log_of history)) broken else Conflict (record { 0 = length (log_of history) })) ∷ []))
        ≡ state_of (opening_state opening) (with_command (accepted_command (Propose topo command) (Proposed (if b then judged_outcome (length (log_of history)) broken else Conflict (record { 0 = length (log_of history) })) ∷ [])) (log_of history))
    by_outcome true None = refl
    by_outcome true (Some broken) = refl
    by_outcome false None = refl
    by_outcome false (Some broken) = refl
followed_by opening history (Restart actor) = refl

pub followed : (opening : Opening) (history : History) (entry : Entry) → IsLegalHistory opening (entry ∷ history) → with_accepted (last_state opening history) (accepted_command entry.event entry.outputs) (accepted_index entry.outputs) ≡ last_state opening (entry ∷ history)
followed opening history entry legal =
    subst (λ (outputs : List Output). with_accepted (last_state opening history) (accepted_command entry.event outputs) (accepted_index outputs) ≡ state_of (opening_state opening) (with_command (accepted_command entry.event outputs) (log_of history)))
    (sym legal.0.outputs) (followed_by opening history entry.event)

-- the entry of this place comes next after those before it
pub legal_before : (opening : Opening) (entries : List Entry) (i : ℕ) (entry : Entry) → IsLegalHistory opening (reverse entries) → i < length entries → entry ≡ get_or entries i entry → IsLegalHistory opening (entry ∷ reverse (take i entries))
legal_before opening entries i entry legal within is =
    let journal : Journal = record { opening = opening; entries = entries } in
    subst (IsLegalHistory opening) (history_more entries i entry within is) (legal_after journal (i + 1) legal)

pub few_before : (entries : List Entry) (i : ℕ) → i < length entries → length entries < 2 ^ 64 - 1 → length (reverse (take i entries)) + 1 < 2 ^ 64 - 1
few_before entries i within few = omega (arith, length-reverse (take i entries), length-take i entries)

-- what is seen of a begin was added: the begin, and the replies behind it
pub begin_added :
    (counts : List (LaneId × ℕ)) (state : Topology) (entry : Entry) (lane : LaneId) (operation : Operation) (version : Version) (size : Option ℕ) (outputs : List Output) (old mid new : List ClientEvent) →
    entry.event ≡ Begin lane operation version → outputs ≡ entry.outputs → size ≡ asked_size state operation outputs →
    mid ≡ old ++ next_begin counts lane operation size ∷ [] → new ≡ mid ++ reply_events lane outputs → IsSeenOf counts state entry old new
begin_added counts state entry lane operation version size outputs old mid new is out sized first rest opening history valid legal are state_is =
    let name : Named = named_request lane (next_op history lane) in
    let number : next_number counts lane ≡ next_op history lane = ap (λ n. let o : OpId = record { 0 = n + 1 } in o) (are lane) in
    let size_is : size ≡ asked_size (last_state opening history) operation entry.outputs =
    sized ∙ ap (λ (s : Topology). asked_size s operation outputs) state_is ∙ ap (λ (o : List Output). asked_size (last_state opening history) operation o) out in
    let event : next_begin counts lane operation size ≡ begin_event name operation (asked_at opening history lane operation version) =
    ap (λ (o : OpId). sized_begin (named_request lane o) operation size) number
    ∙ ap (λ (n : Option ℕ). sized_begin name operation n) size_is
    ∙ begin_sized opening history entry lane operation version name valid legal is in
    rest
    ∙ ap (λ (l : List ClientEvent). l ++ reply_events lane outputs) first
    ∙ append_assoc old (next_begin counts lane operation size ∷ []) (reply_events lane outputs)
    ∙ ap (λ (e : ClientEvent). old ++ e ∷ reply_events lane outputs) event
    ∙ ap (λ (o : List Output). old ++ begin_event name operation (asked_at opening history lane operation version) ∷ reply_events lane o) out
    ∙ ap (λ (e : Event). old ++ seen_of opening history e entry.outputs) (sym is)
