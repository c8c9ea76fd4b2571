-- A lane begins by its script, and gives up.
use Rattle.std.proofs.Common.{ap, arith, refl, subst, sym, ◌∙◌}
use Rattle.std.proofs.lemmas.Bool.Decides.{nat_tests}
use Rattle.std.specs.Prelude.{Bool, List, None, Option, Some, [], false, filter, length, nat_le, nat_lt, option_map, slice_get, true, ℕ, ◌*◌, ◌+◌, ◌∷◌, ◌≡◌, ◌≤◌}
use Rattle.base_ids.specs.declared.ids.Actor.TheVariants.{Lane as ByLane}
use Rattle.base_ids.specs.declared.ids.LaneId.{LaneId}
use Rattle.base_ids.specs.declared.ids.OpId.{OpId}
use Rattle.base_ids.specs.declared.ids.Version.{Version}
use Rattle.topo_state.specs.State.{Topology}
use Rattle.cluster_history.specs.History.{History}
use Rattle.cluster_history.specs.Legal.{broken_rule}
use Rattle.cluster_history.specs.Requests.{begun_count, live_count, live_ops, request_at}
use Rattle.cluster_history.specs.Topology.{floor_of, version_of}
use Rattle.cluster_history.specs.declared.data.Event.TheVariants.{Begin, Timeout}
use Rattle.cluster_history.specs.declared.data.Operation.{Operation}
use Rattle.cluster_history.proofs.StayLemmas.{may_begin}
use Rattle.lane_core.specs.Lane.{LaneView, lane_rule}
use Rattle.lane_core.specs.declared.data.LaneInput.TheVariants.{Timeout as TimeoutIn}
use Rattle.lane_ties.specs.LaneTies.{begin_input, lane_view}
use Rattle.lane_ties.proofs.LaneRules.{lane_rules, view_count}
use Rattle.plan_facts.specs.Own.{timeout_count}
use Rattle.plan_facts.specs.Plan.{loses, script_of}
use Rattle.plan_facts.specs.Suits.{Suits}
use Rattle.run_plan.specs.declared.plan.RunPlan.{RunPlan}
use Rattle.plan_facts.proofs.OtherLemmas.{timeouts-other}
use Rattle.engine_desk.specs.Chairs.{HasTurned, IsLater, Known, is_at, pin_count}
use Rattle.engine_desk.specs.Desks.{DeskView, IsSeated}
use Rattle.engine_desk.specs.Lanes.{IsLane, IsLaneDue, IsPatient, MayBegin}
use Rattle.engine_desk.proofs.LaterLemmas.{since}

no_items : {X : Type 0} (xs : List X) → length xs ≡ 0 → xs ≡ []
no_items [] e = refl
no_items (x ∷ xs) e = cc e

pub none_live : (known : Known) (lane : LaneView) → IsSeated known → IsLane known lane → lane.live ≡ [] → live_ops known.seen lane.lane ≡ []
none_live known lane seated is none =
    let count : live_count known.seen lane.lane ≡ length lane.live =
    sym (view_count known.opening known.seen lane.lane seated.run.legal) ∙ ap (λ (v : LaneView). length v.live) (sym is.view) in
    no_items (live_ops known.seen lane.lane) (count ∙ ap length none)

pub begin_due : (desk : DeskView) (lane : LaneView) (operation : Operation) (version : Version) (state : Topology) → IsSeated desk.known → IsLane desk.known lane → MayBegin desk lane version state → IsLaneDue desk lane (Begin lane.lane operation version) (begin_input operation state)
begin_due desk lane operation version state seated is may =
    let seen = desk.known.seen in
    let none = none_live desk.known lane seated is may.none in
    let room : nat_le 8 (live_count seen lane.lane) ≡ false = ap (λ (l : List OpId). nat_le 8 (length l)) none in
    record {
      author = refl;
      enabled = may_begin version (floor_of seen lane.lane.host) (version_of desk.known.opening seen lane.lane.host) (live_count seen lane.lane) (record { above = may.above; below = may.below; room = room });
      input_is = ap (option_map (begin_input operation)) may.found;
      holds = ap (λ (l : List OpId). nat_lt (length (filter (λ op. is_at version (request_at desk.known.opening seen lane.lane op)) l)) (pin_count version desk.known.pins)) none ∙ may.pinned;
      held = may.free;
    }

pub begin_suits : (plan : RunPlan) (desk : DeskView) (lane : LaneView) (operation : Operation) (version : Version) → IsSeated desk.known → IsLane desk.known lane → lane.live ≡ [] → slice_get (script_of plan lane.lane) lane.begun ≡ Some operation → Suits plan desk.known.opening desk.known.seen (Begin lane.lane operation version)
begin_suits plan desk lane operation version seated is none scripted =
    let begun : begun_count desk.known.seen lane.lane ≡ lane.begun = ap (λ (v : LaneView). v.begun) (sym is.view) in
    ((none_live desk.known lane seated is none, ap (slice_get (script_of plan lane.lane)) begun ∙ scripted), tt)

pub timeout_due : (desk : DeskView) (lane : LaneView) (op : OpId) → IsSeated desk.known → IsLane desk.known lane → lane_rule lane (TimeoutIn op) ≡ None → desk.held ≡ None → IsLaneDue desk lane (Timeout lane.lane op) (TimeoutIn op)
timeout_due desk lane op seated is live free =
    record {
      author = refl;
      enabled = (lane_rules desk.known.opening desk.known.seen lane.lane seated.run.legal).timeout op ∙ ap (λ (v : LaneView). lane_rule v (TimeoutIn op)) (sym is.view) ∙ live;
      input_is = refl;
      holds = tt;
      held = free;
    }
