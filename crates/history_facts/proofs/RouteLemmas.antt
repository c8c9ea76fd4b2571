-- Where requests went, and which versions live ones hold back.
use Rattle.std.proofs.Common.{ap, arith, refl, subst, sym, ◌∙◌}
use Rattle.std.proofs.lemmas.Bool.Decides.{nat_tests}
use Rattle.std.proofs.lemmas.List.{map-append}
use Rattle.std.proofs.lemmas.List.Folds.{list_any-append}
use Rattle.std.specs.Cmp.{unsigned_Decides}
use Rattle.std.specs.List.{list_any}
use Rattle.std.specs.Prelude.{Bool, IfSome, List, None, Option, Some, [], false, if◌then◌else◌, is_some, length, map, nat_lt, suc, true, zero, ℕ, ◌++◌, ◌+◌, ◌<◌, ◌==◌, ◌||◌, ◌∷◌, ◌≡◌, ◌≤◌}
use Rattle.base_ids.specs.Names.{same_host, same_op}
use Rattle.base_ids.specs.declared.ids.HostId.{HostId}
use Rattle.base_ids.specs.declared.ids.LaneId.{LaneId}
use Rattle.base_ids.specs.declared.ids.OpId.{OpId}
use Rattle.base_ids.specs.declared.ids.Version.{Version}
use Rattle.base_ids.specs.declared.rules.EventRule.TheVariants.{LiveBelow, VersionAhead}
use Rattle.cluster_history.proofs.LogLemmas.{state_with-stays}
use Rattle.cluster_history.proofs.StayLemmas.{begins_well, version_of-rises}
use Rattle.cluster_history.proofs.WithinLemmas.{applied_within}
use Rattle.cluster_history.specs.History.{History}
use Rattle.cluster_history.specs.Legal.{HasActor, broken_rule}
use Rattle.cluster_history.specs.Messages.{key_of, kind_of, level_of}
use Rattle.cluster_history.specs.Openings.{HasLane, opening_state}
use Rattle.cluster_history.specs.Requests.{Request, Way, begins_request, begun_count, has_live_below, is_begin_of, is_below, is_live, lags, live_count, live_ops, numbers_below, request_at, request_on, started_request, targets_of, way_by, way_in, way_of}
use Rattle.cluster_history.specs.Requests.Way.{Ends, Goes}
use Rattle.cluster_history.specs.Rules.{first_broken_rule, quiet_rule}
use Rattle.cluster_history.specs.Topology.{accepted_command, floor_of, greater_version, log_of, raised_floor, state_of_version, version_of}
use Rattle.cluster_history.specs.declared.data.Entry.{Entry}
use Rattle.cluster_history.specs.declared.data.Event.{Event}
use Rattle.cluster_history.specs.declared.data.Event.TheVariants.{Begin, Quiet}
use Rattle.cluster_history.specs.declared.data.Opening.{Opening}
use Rattle.cluster_history.specs.declared.data.Operation.{Operation}
use Rattle.quorum_ops.specs.declared.data.Reply.TheVariants.{NotMember}
use Rattle.stage_graph.specs.Needs.{needed}
use Rattle.tablet_map.specs.declared.tablet.Tablet.{Tablet}
use Rattle.topo_state.specs.Lists.{stage_in}
use Rattle.topo_state.specs.State.{Topology, is_member}
use Rattle.topo_state.specs.Views.{view}
use Rattle.history_facts.proofs.BegunLemmas.{live_before, request_begun}
use Rattle.history_facts.proofs.HostLemmas.{greater-below}
use Rattle.history_facts.proofs.LiveLemmas.{live_ops-any}
use Rattle.base_ids.proofs.NameLemmas.{both_true, or_false, same_host-same, same_lane-same, same_op-same}
use Rattle.history_facts.specs.Laws.{IsHeldBack, IsRouted, LiveRequestsHoldBack, RequestsAreRouted}

-- ---- routes

state_later :
    (opening : Opening) (history : History) (entry : Entry) (version : Version) (state : Topology) →
    state_of_version opening history version ≡ Some state → state_of_version opening (entry ∷ history) version ≡ Some state
state_later opening history entry version state e =
    state_with-stays (opening_state opening) (accepted_command entry.event entry.outputs) (log_of history) version.0 (ap is_some e) ∙ e

pub routed-later :
    (opening : Opening) (history : History) (entry : Entry) (lane : LaneId) (request : Request) →
    IsRouted opening history lane request → IsRouted opening (entry ∷ history) lane request
routed-later opening history entry lane request was =
    record {
      state = was.state;
      found = state_later opening history entry request.version was.state was.found;
      member = was.member;
      tablet = was.tablet;
      there = was.there;
      targets = was.targets;
      need = was.need;
    }

routed_by :
    (opening : Opening) (history : History) (lane : LaneId) (operation : Operation) (version : Version) (state : Option Topology) (request : Request) →
    state_of_version opening history version ≡ state → request_on operation version (way_in state lane.host operation) ≡ Some request →
    IsRouted opening history lane request
routed_by opening history lane operation version None request found e = cc e
routed_by opening history lane operation version (Some state) request found e =
    (elim (is_member state.members lane.host) as (λ b. is_member state.members lane.host ≡ b → request_on operation version (if b then way_by (kind_of operation) (level_of operation) (view state (key_of operation).table (key_of operation).token.value) else Ends NotMember) ≡ Some request → IsRouted opening history lane request) [
      | true ↦ λ member f. by_view (view state (key_of operation).table (key_of operation).token.value) refl member f
      | false ↦ λ member f. cc f
    ]) refl e
  where
    by_view : (shown : Option Tablet) → view state (key_of operation).table (key_of operation).token.value ≡ shown → is_member state.members lane.host ≡ true → request_on operation version (way_by (kind_of operation) (level_of operation) shown) ≡ Some request → IsRouted opening history lane request
    by_view None there member f = cc f
    by_view (Some tablet) there member f =
        let made : Request = record { operation = operation; version = version; targets = targets_of (kind_of operation) tablet; need = needed (kind_of operation) (level_of operation) (length tablet.replicas) (stage_in tablet) } in
        let same : made ≡ request = cc f in
        subst (IsRouted opening history lane) same
        (record { state = state; found = found; member = member; tablet = tablet; there = there; targets = refl; need = refl })

started_routed :
    (opening : Opening) (history : History) (event : Event) (lane : LaneId) (request : Request) →
    is_begin_of lane event ≡ true → started_request opening history event ≡ Some request → IsRouted opening history lane request
started_routed opening history (Begin by operation version) lane request is e =
    subst (λ l. IsRouted opening history l request) (same_lane-same by lane is)
    (routed_by opening history by operation version (state_of_version opening history version) request refl e)
started_routed opening history event lane request is e = cc is

pub routed : RequestsAreRouted
routed opening [] lane op request e = cc e
routed opening (entry ∷ history) lane op request e =
    (elim (begins_request history entry.event lane op) as (λ b. begins_request history entry.event lane op ≡ b → (if b then started_request opening history entry.event else request_at opening history lane op) ≡ Some request → IsRouted opening (entry ∷ history) lane request) [
      | true ↦ λ now f.
          routed-later opening history entry lane request
          (started_routed opening history entry.event lane request (both_true (is_begin_of lane entry.event) (op.0 == begun_count history lane + 1) now).0 f)
      | false ↦ λ now f. routed-later opening history entry lane request (routed opening history lane op request f)
    ]) refl e

-- ---- versions of live requests

-- what a begin begins, by the rule of its event
started_held :
    (opening : Opening) (history : History) (event : Event) (lane : LaneId) (request : Request) →
    HasActor opening event → broken_rule opening history event ≡ None →
    is_begin_of lane event ≡ true → started_request opening history event ≡ Some request → IsHeldBack opening history lane request.version
started_held opening history (Begin by operation version) lane request actor fine is e =
    let well = begins_well version (floor_of history by.host) (version_of opening history by.host) (live_count history by) fine in
    let at : version ≡ request.version = by_way (way_of opening history by operation version) e in
    subst (λ l. IsHeldBack opening history l request.version) (same_lane-same by lane is)
    (subst (IsHeldBack opening history by) at (record { above = well.above; below = well.below; lane_there = actor }))
  where
    by_way : (way : Way) → request_on operation version way ≡ Some request → version ≡ request.version
    by_way (Goes route) f = let same : record { operation = operation; version = version; targets = route.targets; need = route.need } ≡ request = cc f in ap (λ (r : Request). r.version) same
    by_way (Ends reply) f = cc f
started_held opening history event lane request actor fine is e = cc is

-- an event that raises no floor
begin_raises_none : (event : Event) (lane : LaneId) (host : HostId) → is_begin_of lane event ≡ true → raised_floor host event ≡ None
begin_raises_none (Begin by operation version) lane host is = refl
begin_raises_none event lane host is = cc is

-- ---- quiet events and live requests

any_of : (p : OpId → Bool) (ops : List OpId) (op : OpId) → list_any p ops ≡ false → list_any (same_op op) ops ≡ true → p op ≡ false
any_of p [] op none there = cc there
any_of p (first ∷ ops) op none there =
    (elim (same_op op first) as (λ b. same_op op first ≡ b → (b || list_any (same_op op) ops) ≡ true → p op ≡ false) [
      | true ↦ λ same f. ap p (same_op-same op first same) ∙ (or_false (p first) (list_any p ops) none).0
      | false ↦ λ same f. any_of p ops op (or_false (p first) (list_any p ops) none).1 f
    ]) refl there

none_append : (p : LaneId → Bool) (xs ys : List LaneId) → list_any p (xs ++ ys) ≡ false → (list_any p xs ≡ false) × (list_any p ys ≡ false)
none_append p xs ys e = or_false (list_any p xs) (list_any p ys) (sym (list_any-append p xs ys) ∙ e)

-- the lane of a number is among those below a greater one
lane_below : (p : LaneId → Bool) (host : HostId) (n number : ℕ) → number < n → list_any p (map (λ lane. record { host = host; lane = lane }) (numbers_below n)) ≡ false → p (record { host = host; lane = number }) ≡ false
lane_below p host zero number less none = absurd (omega (arith, less))
lane_below p host (suc n) number less none =
    let split = none_append p (map (λ lane. record { host = host; lane = lane }) (numbers_below n)) (record { host = host; lane = n } ∷ []) (sym (ap (list_any p) (map-append (λ lane. record { host = host; lane = lane }) (numbers_below n) (n ∷ []))) ∙ none) in
    (elim (number == n) as (λ b. (number == n) ≡ b → p (record { host = host; lane = number }) ≡ false) [
      | true ↦ λ e. ap (λ k. p (record { host = host; lane = k })) ((unsigned_Decides number n).0 e) ∙ (or_false (p (record { host = host; lane = n })) false split.1).0
      | false ↦ λ e. lane_below p host n number (grind (arith, nat_tests)) split.0
    ]) refl

none_lives_below : (version newest : Version) (live_below : Bool) → quiet_rule version newest live_below ≡ None → live_below ≡ false
none_lives_below version newest live_below e =
    elim (nat_lt newest.0 version.0) as (λ b. (if b then Some VersionAhead else first_broken_rule ((live_below, LiveBelow) ∷ [])) ≡ None → live_below ≡ false) [
      | true ↦ λ f. cc f
      | false ↦ λ f. unbroken live_below f
    ] e
  where
    unbroken : (b : Bool) → first_broken_rule ((b, LiveBelow) ∷ []) ≡ None → b ≡ false
    unbroken true f = cc f
    unbroken false f = refl

raised_held :
    (opening : Opening) (history : History) (event : Event) (lane : LaneId) (op : OpId) (request : Request) →
    broken_rule opening history event ≡ None → HasLane opening lane → is_live history lane op ≡ true → request_at opening history lane op ≡ Some request →
    IfSome (raised_floor lane.host event) (λ v. v.0 ≤ request.version.0)
raised_held opening history (Quiet by raised) lane op request fine there live begun =
    (elim (same_host by lane.host) as (λ b. same_host by lane.host ≡ b → IfSome (if b then Some raised else None) (λ v. v.0 ≤ request.version.0)) [
      | true ↦ λ e.
          let at : by ≡ lane.host = same_host-same by lane.host e in
          let none : has_live_below opening history lane.host raised ≡ false =
          ap (λ h. has_live_below opening history h raised) (sym at) ∙ none_lives_below raised (version_of opening history by) (has_live_below opening history by raised) fine in
          let here : lags opening history raised lane ≡ false = lane_below (lags opening history raised) lane.host opening.lanes lane.lane there.1 none in
          let low : is_below raised (request_at opening history lane op) ≡ false =
          any_of (λ number. is_below raised (request_at opening history lane number)) (live_ops history lane) op here (live_ops-any history lane op ∙ live) in
          let below : nat_lt request.version.0 raised.0 ≡ false = ap (is_below raised) (sym begun) ∙ low in
          grind (arith, nat_tests)
      | false ↦ λ e. tt
    ]) refl
raised_held opening history event lane op request fine there live begun = tt

pub held_back : LiveRequestsHoldBack
held_back opening [] lane op request legal live begun = cc live
held_back opening (entry ∷ history) lane op request legal live begun =
    let rises = version_of-rises opening history entry lane.host (applied_within opening history lane.host legal.1) in
    (elim (begins_request history entry.event lane op) as (λ b. begins_request history entry.event lane op ≡ b → (if b then started_request opening history entry.event else request_at opening history lane op) ≡ Some request → IsHeldBack opening (entry ∷ history) lane request.version) [
      | true ↦ λ now f.
          let is = (both_true (is_begin_of lane entry.event) (op.0 == begun_count history lane + 1) now).0 in
          let started = started_held opening history entry.event lane request legal.0.actor legal.0.enabled is f in
          let below = started.below in
          record {
            above = subst (λ raised. (greater_version raised (floor_of history lane.host)).0 ≤ request.version.0) (sym (begin_raises_none entry.event lane lane.host is)) started.above;
            below = omega (arith, below, rises);
            lane_there = started.lane_there;
          }
      | false ↦ λ now f.
          let number = request_begun opening history lane op request f in
          let was = live_before history entry lane op number live in
          let held = held_back opening history lane op request legal.1 was.live f in
          let below = held.below in
          record {
            above = greater-below (raised_floor lane.host entry.event) (floor_of history lane.host) request.version (raised_held opening history entry.event lane op request legal.0.enabled held.lane_there was.live f) held.above;
            below = omega (arith, below, rises);
            lane_there = held.lane_there;
          }
    ]) refl begun
