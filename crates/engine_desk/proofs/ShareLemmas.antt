-- A coordinator's moves go on by its proposals.
use Rattle.std.proofs.Common.{ap, arith, refl, subst, sym, ◌∙◌}
use Rattle.std.proofs.lemmas.Bool.Decides.{nat_tests}
use Rattle.std.specs.Prelude.{Bool, List, None, Option, Some, [], false, if◌then◌else◌, length, slice_get, true, ℕ, ◌&&◌, ◌++◌, ◌+◌, ◌==◌, ◌∷◌, ◌≡◌}
use Rattle.base_ids.specs.declared.ids.Actor.TheVariants.{Topo as ByTopo}
use Rattle.base_ids.specs.declared.ids.HostId.{HostId}
use Rattle.base_ids.specs.declared.rules.Appended.{Appended}
use Rattle.base_ids.specs.declared.rules.Appended.TheVariants.{Accepted, Conflict, Illegal}
use Rattle.group0_log.proofs.StateLemmas.{at_last}
use Rattle.topo_state.specs.State.{Topology}
use Rattle.topo_state.specs.declared.command.Command.TheVariants.{Advance}
use Rattle.cluster_history.specs.Openings.{opening_state}
use Rattle.cluster_history.specs.declared.data.Output.TheVariants.{Proposed}
use Rattle.base_ids.specs.Outcomes.{outcome_of}
use Rattle.stage_graph.specs.declared.stage.Stage.{Stage}
use Rattle.topo_state.specs.Rules.{rule}
use Rattle.topo_state.specs.declared.command.Command.{Command}
use Rattle.topo_state.specs.declared.command.Rule.{Rule}
use Rattle.cluster_history.specs.History.{History}
use Rattle.cluster_history.specs.Topology.{last_state, log_of, look_of, seen_state}
use Rattle.cluster_history.specs.declared.data.Entry.{Entry}
use Rattle.cluster_history.specs.declared.data.Opening.{Opening}
use Rattle.base_ids.proofs.NameLemmas.{same_host-refl}
use Rattle.plan_facts.specs.Moves.{CarriesMove, CarryMoves, Proposal, advanced_stage, due_command, joined, may_come, proposals_of, standing_after, standing_by}
use Rattle.plan_facts.specs.declared.standing.Standing.{Standing}
use Rattle.plan_facts.specs.declared.standing.Standing.TheVariants.{Before}
use Rattle.plan_facts.specs.Own.{raises}
use Rattle.run_plan.specs.declared.plan.MoveAsk.{MoveAsk}
use Rattle.plan_facts.proofs.OtherLemmas.{proposals_of-other}
use Rattle.engine_desk.specs.Chairs.{IsLater, propose_entry}
use Rattle.engine_desk.specs.Topos.{AdvancesAreJudgedWell, IsUnderWay, MovesGoOn, WaysAreShared}
use Rattle.engine_desk.proofs.LaterLemmas.{since}

-- where the proposals are the same
pub way_along : (moves : List MoveAsk) (opening : Opening) (topo : HostId) (old new : History) (done : ℕ) (move : MoveAsk) (standing : Standing) → proposals_of opening new topo ≡ proposals_of opening old topo → IsUnderWay moves opening topo old done move standing → IsUnderWay moves opening topo new done move standing
way_along moves opening topo old new done move standing same w =
    record { share = w.share; older = w.older; whole = w.whole ∙ sym same; count = w.count; there = w.there; carried = w.carried; before = w.before; stands = w.stands }

-- past what came since
pub way_since : (moves : List MoveAsk) (opening : Opening) (topo : HostId) (old new : History) (done : ℕ) (move : MoveAsk) (standing : Standing) → IsLater opening (ByTopo topo) old new → IsUnderWay moves opening topo old done move standing → IsUnderWay moves opening topo new done move standing
way_since moves opening topo old new done move standing later w =
    way_along moves opening topo old new done move standing
    (since opening (ByTopo topo) (λ h. proposals_of opening h topo) (λ history entry legal other. proposals_of-other opening history entry topo other) old new later) w

-- past a proposal that was due
pub way_proposed : (moves : List MoveAsk) (opening : Opening) (topo : HostId) (now : History) (done : ℕ) (move : MoveAsk) (standing : Standing) (command : Command) (outcome : Appended Rule)
    → IsUnderWay moves opening topo now done move standing
    → raises command ≡ true
    → due_command move standing (advanced_stage (seen_state opening now topo) command) ≡ Some command
    → may_come command outcome ≡ true
    → IsUnderWay moves opening topo (propose_entry topo command outcome ∷ now) done move (standing_by move standing command (advanced_stage (seen_state opening now topo) command) outcome)
way_proposed moves opening topo now done move standing command outcome w raising due may =
    let stage = advanced_stage (seen_state opening now topo) command in
    let proposal : Proposal = record { command = command; stage = stage; outcome = outcome } in
    let added : proposals_of opening (propose_entry topo command outcome ∷ now) topo ≡ proposal ∷ proposals_of opening now topo = rw (same_host-refl topo, raising) refl in
    record {
      share = proposal ∷ w.share;
      older = w.older;
      whole = ap (λ (l : List Proposal). proposal ∷ l) w.whole ∙ sym added;
      count = w.count;
      there = w.there;
      carried = (ap (λ (s : Standing). due_command move s stage) w.stands ∙ due, may, w.carried);
      before = w.before;
      stands = ap (λ (s : Standing). standing_by move s command stage outcome) w.stands;
    }

-- the next move
pub way_next : (moves : List MoveAsk) (opening : Opening) (topo : HostId) (now : History) (done : ℕ) (move next : MoveAsk) (standing : Standing) → IsUnderWay moves opening topo now done move standing → slice_get moves (done + 1) ≡ Some next → IsUnderWay moves opening topo now (done + 1) next Before
way_next moves opening topo now done move next standing w there =
    record {
      share = [];
      older = w.share ∷ w.older;
      whole = w.whole;
      count = (let is = w.count in omega (arith, is));
      there = there;
      carried = tt;
      before = ((move, ap (slice_get moves) w.count ∙ w.there, w.carried), w.before);
      stands = refl;
    }

pub moves_go_on : MovesGoOn
moves_go_on moves opening topo done move standing =
    record {
      later = λ old new later w. way_since moves opening topo old new done move standing later w;
      proposed = λ now command outcome w raising due may. way_proposed moves opening topo now done move standing command outcome w raising due may;
      next = λ now after w there. way_next moves opening topo now done move after standing w there;
    }

pub ways_are_shared : WaysAreShared
ways_are_shared moves opening topo history done move standing w =
    record {
      shares = w.share ∷ w.older;
      whole = w.whole;
      carried = ((move, ap (slice_get moves) w.count ∙ w.there, w.carried), w.before);
    }

-- ---- an advance is judged well

judged : (command : Command) (outcome : Appended Rule) (length last : ℕ) (same : Bool) → (if same then Accepted length else Conflict (record { 0 = last })) ≡ outcome → may_come command outcome ≡ true
judged (Advance session to) (Accepted index) length last same e = refl
judged (Advance session to) (Conflict other) length last same e = refl
judged (Advance session to) (Illegal broken) length last true e = cc e
judged (Advance session to) (Illegal broken) length last false e = cc e
judged command outcome length last same e = refl

proposed_is : (a b : Appended Rule) → Proposed a ∷ [] ≡ Proposed b ∷ [] → a ≡ b
proposed_is a b e = cc e

pub advances_judged : AdvancesAreJudgedWell
advances_judged opening now topo command outcome next fine =
    let look = look_of now topo in
    let log = log_of now in
    let is : outcome ≡ outcome_of look (length log) (rule (last_state opening now) command) = proposed_is outcome (outcome_of look (length log) (rule (last_state opening now) command)) next.outputs in
    (elim (look == length log) as (λ b. (look == length log) ≡ b → may_come command outcome ≡ true) [
      | true ↦ λ e.
          let same : look ≡ length log = grind (arith, nat_tests, e) in
          let state : last_state opening now ≡ seen_state opening now topo = sym (at_last (opening_state opening) log look (omega (arith, same))) in
          let right : rule (last_state opening now) command ≡ None = ap (λ (s : Topology). rule s command) state ∙ fine in
          let got : outcome ≡ Accepted (length log + 1) = is ∙ (rw (e, right) refl) in
          judged command outcome (length log + 1) 0 true (sym got)
      | false ↦ λ e.
          let got : outcome ≡ Conflict (record { 0 = length log }) = is ∙ (rw e refl) in
          judged command outcome 0 (length log) false (sym got)
    ]) refl
