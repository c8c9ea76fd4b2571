-- A coordinator proposes.
use Rattle.std.proofs.Common.{ap, refl, subst, sym, ◌∙◌}
use Rattle.std.specs.Prelude.{Bool, Err, IfOk, List, None, Ok, OnOk, Option, Result, Some, true, ℕ, ◌∷◌, ◌≡◌}
use Rattle.base_ids.specs.declared.ids.Actor.{Actor}
use Rattle.base_ids.specs.declared.ids.Actor.TheVariants.{Topo as ByTopo}
use Rattle.base_ids.specs.declared.ids.HostId.{HostId}
use Rattle.base_ids.specs.declared.rules.Appended.{Appended}
use Rattle.topo_state.specs.State.{Topology}
use Rattle.topo_state.specs.declared.command.Command.{Command}
use Rattle.topo_state.specs.declared.command.Command.TheVariants.{Advance}
use Rattle.topo_state.specs.declared.command.Rule.{Rule}
use Rattle.cluster_history.specs.History.{History}
use Rattle.cluster_history.specs.Legal.{IsNext}
use Rattle.cluster_history.specs.Topology.{seen_state}
use Rattle.cluster_history.specs.declared.data.Event.TheVariants.{Propose}
use Rattle.cluster_history.specs.declared.data.Opening.{Opening}
use Rattle.cluster_history.proofs.StayLemmas.{seen_state-other}
use Rattle.topo_coord.specs.Topo.{TopoView, topo_rule}
use Rattle.topo_coord.specs.declared.data.TopoInput.TheVariants.{Propose as ProposeInput}
use Rattle.topo_ties.specs.TopoTies.{topo_view}
use Rattle.topo_ties.proofs.TopoTies.{proposals_are_judged}
use Rattle.plan_facts.specs.Moves.{advanced_stage, due_command, may_come, standing_by}
use Rattle.plan_facts.specs.declared.standing.Standing.{Standing}
use Rattle.plan_facts.specs.Own.{raises}
use Rattle.plan_facts.specs.Suits.{IsFenceDue, Suits}
use Rattle.run_plan.specs.declared.plan.MoveAsk.{MoveAsk}
use Rattle.run_plan.specs.declared.plan.RunPlan.{RunPlan}
use Rattle.engine_desk.specs.Chairs.{HasCommitted, IsLater, Known, MayPropose, propose_entry}
use Rattle.engine_desk.specs.Desks.{DeskView, IsDesk, IsDeskProposal, IsSeated}
use Rattle.engine_desk.specs.Topos.{IsUnderWay}
use Rattle.engine_desk.specs.declared.chair.Refused.{Refused}
use Rattle.engine_desk.proofs.DeskLemmas.{desk_committed, desk_turned}
use Rattle.engine_desk.proofs.LaterLemmas.{since}
use Rattle.engine_desk.proofs.ShareLemmas.{advances_judged, way_proposed, way_since}
use Rattle.engine_players.specs.Coordinators.{IsProposable, IsSafe, IsTopo, MovesOn}
use Rattle.engine_players.proofs.StepLemmas.{actors_step}

state_is : (known : Known) (topo : TopoView) → IsTopo known topo → topo.state ≡ seen_state known.opening known.seen topo.host
state_is known topo is = ap (λ (v : TopoView). v.state) is.view

pub may_propose : (desk : DeskView) (topo : TopoView) (command : Command) → IsSeated desk.known → IsTopo desk.known topo → IsProposable desk topo command → MayPropose desk.known topo.host (record { 0 = topo.look }) command
may_propose desk topo command seated is due =
    record {
      author = is.actor;
      look = ap (λ (v : TopoView). v.look) is.view;
      fit = due.fit;
      enabled =
          proposals_are_judged desk.known.opening desk.known.seen topo.host command seated.valid seated.run.legal
          ∙ ap (λ (v : TopoView). topo_rule v (ProposeInput command)) (sym is.view)
          ∙ due.rule_is;
    }

suits_propose : (plan : RunPlan) (desk : DeskView) (topo : TopoView) (command : Command) → IsTopo desk.known topo → IsProposable desk topo command → Suits plan desk.known.opening desk.known.seen (Propose topo.host command)
suits_propose plan desk topo command is due =
    ((due.looked, subst (λ (s : Topology). IsFenceDue desk.known.seen topo.host s command) (state_is desk.known topo is) due.fence), tt)

pub proposed_kept : (plan : RunPlan) (desk after : DeskView) (topo : TopoView) (command : Command) (result : Result (Appended Rule) Refused) → IsDesk plan desk → IsTopo desk.known topo → IsProposable desk topo command → IsDeskProposal desk topo.host command result after → IsDesk plan after
proposed_kept plan desk after topo command (Ok outcome) d is due c =
    desk_committed plan desk (propose_entry topo.host command outcome) c.0 after d (sym is.actor) due.free (suits_propose plan desk topo command is due) c.1
proposed_kept plan desk after topo command (Err refused) d is due c = desk_turned plan desk after d c

later_topo : (known : Known) (topo : TopoView) (now : History) → IsTopo known topo → IsLater known.opening known.actor known.seen now → IsLater known.opening (ByTopo topo.host) known.seen now
later_topo known topo now is later = subst (λ (a : Actor). IsLater known.opening a known.seen now) is.actor later

pub proposed_topo : (known after : Known) (topo : TopoView) (command : Command) (outcome : Appended Rule) (number : ℕ) → IsSeated known → IsTopo known topo → HasCommitted known (propose_entry topo.host command outcome) number after → IsTopo after topo
proposed_topo known after topo command outcome number seated is c =
    let step = actors_step.topos known.opening topo.host (propose_entry topo.host command outcome) (ProposeInput command) known.seen c.now seated.valid (later_topo known topo c.now is c.later) c.next refl refl in
    subst (λ (k : Known). IsTopo k topo) (sym c.is) (record { actor = is.actor; view = is.view ∙ step })

well_judged : (opening : Opening) (now : History) (topo : HostId) (command : Command) (outcome : Appended Rule) → IsNext opening now (propose_entry topo command outcome) → IsSafe (seen_state opening now topo) command → may_come command outcome ≡ true
well_judged opening now topo (Advance session to) outcome next safe = advances_judged opening now topo (Advance session to) outcome next safe
well_judged opening now topo command outcome next safe = refl

pub proposed_moves : (known after : Known) (topo : TopoView) (command : Command) (outcome : Appended Rule) (number : ℕ) → IsTopo known topo → HasCommitted known (propose_entry topo.host command outcome) number after → MovesOn known topo command outcome after
proposed_moves known after topo command outcome number is c =
    λ moves done move standing way raising due safe.
    let later = later_topo known topo c.now is c.later in
    let state : topo.state ≡ seen_state known.opening c.now topo.host =
    state_is known topo is ∙ sym (since known.opening (ByTopo topo.host) (λ h. seen_state known.opening h topo.host) (λ history entry legal other. seen_state-other known.opening history entry topo.host other) known.seen c.now later) in
    let due_now = subst (λ (s : Topology). due_command move standing (advanced_stage s command) ≡ Some command) state due in
    let may = well_judged known.opening c.now topo.host command outcome c.next (subst (λ (s : Topology). IsSafe s command) state safe) in
    let on = way_proposed moves known.opening topo.host c.now done move standing command outcome (way_since moves known.opening topo.host known.seen c.now done move standing later way) raising due_now may in
    subst (λ (k : Known). IsUnderWay moves k.opening topo.host k.seen done move (standing_by move standing command (advanced_stage topo.state command) outcome)) (sym c.is)
    (subst (λ (s : Topology). IsUnderWay moves known.opening topo.host (propose_entry topo.host command outcome ∷ c.now) done move (standing_by move standing command (advanced_stage s command) outcome)) (sym state) on)

-- ---- the proposal as a whole

pub proposal_topo : (desk after : DeskView) (topo : TopoView) (command : Command) (result : Result (Appended Rule) Refused) → IsSeated desk.known → IsTopo desk.known topo → IsDeskProposal desk topo.host command result after → OnOk result (IsTopo after.known topo)
proposal_topo desk after topo command (Ok outcome) seated is c = proposed_topo desk.known after.known topo command outcome c.0 seated is c.1.committed
proposal_topo desk after topo command (Err refused) seated is c = tt

pub proposal_moves : (desk after : DeskView) (topo : TopoView) (command : Command) (result : Result (Appended Rule) Refused) → IsTopo desk.known topo → IsDeskProposal desk topo.host command result after → IfOk result (λ outcome. MovesOn desk.known topo command outcome after.known)
proposal_moves desk after topo command (Ok outcome) is c = proposed_moves desk.known after.known topo command outcome c.0 is c.1.committed
proposal_moves desk after topo command (Err refused) is c = tt
