-- A lane that begins a request: it gives out what the history does, and has one request more where that is not answered
-- at once.
use Rattle.std.proofs.Common.{ap, arith, refl, sym, ◌∙◌}
use Rattle.std.proofs.lemmas.Bool.Decides.{nat_tests}
use Rattle.std.proofs.lemmas.List.{append-nil}
use Rattle.std.specs.List.{list_any}
use Rattle.std.specs.Prelude.{Bool, List, None, Option, Some, [], false, if◌then◌else◌, length, map, nat_le, option_map, true, ℕ, ◌++◌, ◌+◌, ◌<◌, ◌==◌, ◌^◌, ◌||◌, ◌∷◌, ◌≡◌, ◌≤◌}
use Rattle.base_ids.specs.Names.{same_op}
use Rattle.base_ids.specs.declared.ids.LaneId.{LaneId}
use Rattle.base_ids.specs.declared.ids.OpId.{OpId}
use Rattle.base_ids.specs.declared.ids.Replica.{Replica}
use Rattle.base_ids.specs.declared.ids.Version.{Version}
use Rattle.base_ids.specs.declared.rules.EventRule.TheVariants.{LaneFull}
use Rattle.cluster_history.proofs.StayLemmas.{begins_well}
use Rattle.cluster_history.specs.History.{History}
use Rattle.cluster_history.specs.Legal.{IsLegalHistory, broken_rule, entry_of}
use Rattle.cluster_history.specs.Messages.{kind_of}
use Rattle.cluster_history.specs.Outputs.{begin_outputs, sent_ask}
use Rattle.cluster_history.specs.Requests.{Way, answers_of, begun_count, is_reply_to, live_count, live_ops, next_op, request_on, way_in, way_of}
use Rattle.cluster_history.specs.Requests.Way.{Ends, Goes}
use Rattle.cluster_history.specs.Topology.{floor_of, state_of_version, version_of}
use Rattle.cluster_history.specs.declared.data.Event.TheVariants.{Begin}
use Rattle.cluster_history.specs.declared.data.Opening.{Opening}
use Rattle.cluster_history.specs.declared.data.Operation.{Operation}
use Rattle.cluster_history.specs.declared.data.Operation.TheVariants.{Read as ReadOf, Write as WriteOf}
use Rattle.history_facts.proofs.BegunLemmas.{answers_of-above, request-next}
use Rattle.history_facts.proofs.LiveLemmas.{live_ops-begin}
use Rattle.base_ids.proofs.NameLemmas.{same_lane-refl}
use Rattle.lane_core.specs.Lane.{IsFor, LaneView, lane_after, lane_rule, most_requests, with_next}
use Rattle.lane_core.specs.declared.work.Work.{Work}
use Rattle.lane_ties.proofs.HistoryLemmas.{answers_kept, kept_stays, member_begun, state_has_version}
use Rattle.lane_ties.proofs.LaneRules.{view_count}
use Rattle.lane_ties.proofs.ListLemmas.{among_alike, among_append}
use Rattle.lane_ties.proofs.WayLemmas.{begin_left, begin_sent, begun_request, begun_work}
use Rattle.lane_ties.specs.LaneTies.{IsLanePlay, begin_input, kept_among, kept_by, kept_of, kept_with, lane_view, with_kept, work_by}
use Rattle.request_table.specs.declared.Live.{Live}
use Rattle.topo_state.specs.State.{Topology}
use Rattle.history_facts.proofs.BegunLemmas.{begun_within}

-- ---- which requests are live then

-- a request that is answered at once
abbrev is_ended : Way → Bool
is_ended (Ends reply) = true
is_ended (Goes route) = false

-- asks reply to nobody
asks_silent : (lane : LaneId) (number : OpId) (version : Version) (operation : Operation) (targets : List Replica) (op : OpId) → list_any (is_reply_to op) (map (sent_ask lane number version operation) targets) ≡ false
asks_silent lane number version operation [] op = refl
asks_silent lane number version operation (target ∷ targets) op = asks_silent lane number version operation targets op

only_first : (b : Bool) → (b || false) ≡ b
only_first true = refl
only_first false = refl

begin_replies : (lane : LaneId) (number : OpId) (version : Version) (operation : Operation) (way : Way) (op : OpId) → list_any (is_reply_to op) (begin_outputs lane number version operation way) ≡ (if is_ended way then same_op number op else false)
begin_replies lane number version operation (Ends reply) op = only_first (same_op number op)
begin_replies lane number version operation (Goes route) op = asks_silent lane number version operation route.targets op

begun_live :
    (opening : Opening) (history : History) (lane : LaneId) (operation : Operation) (version : Version) →
    live_ops (entry_of opening history (Begin lane operation version) ∷ history) lane
    ≡ live_ops history lane ++ (if is_ended (way_of opening history lane operation version) then [] else next_op history lane ∷ [])
begun_live opening history lane operation version =
    live_ops-begin history lane operation version (begin_outputs lane (next_op history lane) version operation (way_of opening history lane operation version)) (is_ended (way_of opening history lane operation version))
    (λ op below. begin_replies lane (next_op history lane) version operation (way_of opening history lane operation version) op ∙ silent (is_ended (way_of opening history lane operation version)) (begun_count history lane) op.0 below)
    (begin_replies lane (next_op history lane) version operation (way_of opening history lane operation version) (next_op history lane) ∙ itself (is_ended (way_of opening history lane operation version)) (begun_count history lane))
  where
    silent : (b : Bool) (n m : ℕ) → m ≤ n → (if b then (n + 1 == m) else false) ≡ false
    silent true n m below = grind (arith, nat_tests)
    silent false n m below = refl

    itself : (b : Bool) (n : ℕ) → (if b then (n + 1 == n + 1) else false) ≡ b
    itself true n = grind (arith, nat_tests)
    itself false n = refl

-- ---- what is kept then

-- the requests that were live stay as they are
earlier_kept :
    (opening : Opening) (history : History) (lane : LaneId) (operation : Operation) (version : Version) →
    kept_among (kept_of opening (entry_of opening history (Begin lane operation version) ∷ history) lane) (live_ops history lane)
    ≡ kept_among (kept_of opening history lane) (live_ops history lane)
earlier_kept opening history lane operation version =
    among_alike (kept_of opening (entry_of opening history (Begin lane operation version) ∷ history) lane) (kept_of opening history lane) (live_ops history lane)
    (λ op there. kept_stays opening history (entry_of opening history (Begin lane operation version)) lane op (member_begun history lane op there) refl)

-- the one that begins is kept with the state of its version
begun_kept :
    (opening : Opening) (history : History) (lane : LaneId) (operation : Operation) (version : Version) (state : Topology) →
    state_of_version opening history version ≡ Some state →
    kept_of opening (entry_of opening history (Begin lane operation version) ∷ history) lane (next_op history lane)
    ≡ kept_by lane (next_op history lane) (state_of_version opening history) [] (request_on operation version (way_of opening history lane operation version))
begun_kept opening history lane operation version state found =
    let after : History = entry_of opening history (Begin lane operation version) ∷ history in
    let none : answers_of after lane (next_op history lane) ≡ [] =
    answers_kept history (entry_of opening history (Begin lane operation version)) lane (next_op history lane) refl
    ∙ answers_of-above history lane (next_op history lane) (omega arith) in
    λ i. kept_by lane (next_op history lane) (state_of_version opening history) (none i) (request-next opening history lane operation version i)

abbrev added : OpId → Option (Live Topology Work) → List (OpId × Live Topology Work)
added op None = []
added op (Some kept) = (op, kept) ∷ []

-- what a way adds
abbrev begun_live_of : LaneId → OpId → Operation → Version → Topology → Way → Option (Live Topology Work)
begun_live_of lane op operation version state (Ends reply) = None
begun_live_of lane op operation version state (Goes route) =
    Some (kept_with lane op (begun_request operation version route) [] state)

begun_added :
    (opening : Opening) (history : History) (lane : LaneId) (operation : Operation) (version : Version) (state : Topology) →
    state_of_version opening history version ≡ Some state → (way : Way) → way_of opening history lane operation version ≡ way →
    kept_among (kept_of opening (entry_of opening history (Begin lane operation version) ∷ history) lane) (if is_ended way then [] else next_op history lane ∷ [])
    ≡ added (next_op history lane) (begun_live_of lane (next_op history lane) operation version state way)
begun_added opening history lane operation version state found (Ends reply) is = refl
begun_added opening history lane operation version state found (Goes route) is =
    let kept : kept_of opening (entry_of opening history (Begin lane operation version) ∷ history) lane (next_op history lane) ≡ Some (kept_with lane (next_op history lane) (begun_request operation version route) [] state) =
    begun_kept opening history lane operation version state found
    ∙ ap (λ w. kept_by lane (next_op history lane) (state_of_version opening history) [] (request_on operation version w)) is
    ∙ ap (option_map (kept_with lane (next_op history lane) (begun_request operation version route) [])) found in
    ap (λ one. with_kept (next_op history lane) one []) kept

-- the list of what is kept
begun_list :
    (opening : Opening) (history : History) (lane : LaneId) (operation : Operation) (version : Version) (state : Topology) →
    state_of_version opening history version ≡ Some state →
    (lane_view opening (entry_of opening history (Begin lane operation version) ∷ history) lane).live
    ≡ (lane_view opening history lane).live ++ added (next_op history lane) (begun_live_of lane (next_op history lane) operation version state (way_of opening history lane operation version))
begun_list opening history lane operation version state found =
    let after : History = entry_of opening history (Begin lane operation version) ∷ history in
    let way : Way = way_of opening history lane operation version in
    ap (kept_among (kept_of opening after lane)) (begun_live opening history lane operation version)
    ∙ among_append (kept_of opening after lane) (live_ops history lane) (if is_ended way then [] else next_op history lane ∷ [])
    ∙ (λ i. earlier_kept opening history lane operation version i ++ begun_added opening history lane operation version state found way refl i)

-- ---- the lane after it

next_made :
    (lane : LaneView) (op : OpId) (operation : Operation) (version : Version) (state : Topology) (way : Way) → state.version ≡ version → op ≡ record { 0 = lane.begun + 1 } →
    with_next lane state (begun_work lane.lane op operation version way)
    ≡ record { lane = lane.lane; begun = lane.begun + 1; live = lane.live ++ added op (begun_live_of lane.lane op operation version state way) }
next_made lane op operation version state (Ends reply) at is =
    ap (λ live. let l : LaneView = record { lane = lane.lane; begun = lane.begun + 1; live = live } in l) (sym (append-nil lane.live))
next_made lane op operation version state (Goes route) at is =
    λ i. record {
      lane = lane.lane;
      begun = lane.begun + 1;
      live = lane.live ++ (sym is i, record { version = at i; held = state; work = work_by (kind_of operation) lane.lane op (begun_request operation version route) [] }) ∷ [];
    }

begin_after :
    (opening : Opening) (history : History) (lane : LaneId) (operation : Operation) (version : Version) (state : Topology) →
    state_of_version opening history version ≡ Some state →
    lane_after (lane_view opening history lane) (begin_input operation state)
    ≡ lane_view opening (entry_of opening history (Begin lane operation version) ∷ history) lane
begin_after opening history lane operation version state found =
    let was : LaneView = lane_view opening history lane in
    let op : OpId = next_op history lane in
    let way : way_of opening history lane operation version ≡ way_in (Some state) lane.host operation = ap (λ s. way_in s lane.host operation) found in
    begin_left was operation version state
    ∙ ap (λ w. with_next was state (begun_work lane op operation version w)) (sym way)
    ∙ next_made was op operation version state (way_of opening history lane operation version) (state_has_version opening history version state found) refl
    ∙ (λ i. record {
      lane = lane;
      begun = if sym (same_lane-refl lane) i then begun_count history lane + 1 else begun_count history lane;
      live = sym (begun_list opening history lane operation version state found) i;
    })

-- ---- the lane plays a begin

begin_rule_none : (lane : LaneView) (operation : Operation) (state : Topology) → nat_le most_requests (length lane.live) ≡ false → lane_rule lane (begin_input operation state) ≡ None
begin_rule_none lane (WriteOf table token cell level) state room = ap (λ b. if b then Some LaneFull else None) room
begin_rule_none lane (ReadOf table token level) state room = ap (λ b. if b then Some LaneFull else None) room

begin_fits : (lane : LaneView) (operation : Operation) (state : Topology) → lane.begun + 1 < 2 ^ 64 → IsFor lane (begin_input operation state)
begin_fits lane (WriteOf table token cell level) state countable = countable
begin_fits lane (ReadOf table token level) state countable = countable

countable : (begun entries : ℕ) → begun ≤ entries → entries + 1 < 2 ^ 64 → begun + 1 < 2 ^ 64
countable begun entries within few = omega (arith, within, few)

pub begin_plays :
    (opening : Opening) (history : History) (lane : LaneId) (operation : Operation) (version : Version) (state : Topology) →
    IsLegalHistory opening history → broken_rule opening history (Begin lane operation version) ≡ None → length history + 1 < 2 ^ 64 →
    state_of_version opening history version ≡ Some state →
    IsLanePlay opening history lane (Begin lane operation version) (begin_input operation state)
begin_plays opening history lane operation version state legal fine few found =
    let was : LaneView = lane_view opening history lane in
    let well = begins_well version (floor_of history lane.host) (version_of opening history lane.host) (live_count history lane) fine in
    record {
      rule = begin_rule_none was operation state (ap (nat_le most_requests) (view_count opening history lane legal) ∙ well.room);
      fits = begin_fits was operation state (countable (begun_count history lane) (length history) (begun_within history lane) few);
      outputs =
          begin_sent was operation version state (state_has_version opening history version state found)
          ∙ ap (λ s. begin_outputs lane (next_op history lane) version operation (way_in s lane.host operation)) (sym found);
      after = begin_after opening history lane operation version state found;
    }
