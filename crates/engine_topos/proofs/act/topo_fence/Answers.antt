use Rattle.std.proofs.Common.{Ok, ap, subst, sym, ◌∙◌}
use Rattle.base_ids.specs.declared.ids.Actor.TheVariants.{Topo as ByTopo}
use Rattle.base_ids.specs.declared.ids.HostId.{HostId}
use Rattle.topo_state.specs.declared.command.Command.TheVariants.{SetFence}
use Rattle.engine_desk.specs.Desks.{DeskProposed}
use Rattle.engine_topos.proofs.ActLemmas.{at_proposed, may_set_fence, fence_legal, ways_fenced}
use Rattle.engine_topos.proofs.SentLemmas.{sent_proposed, sent_turned}
use Rattle.engine_topos.proofs.TurnLemmas.{ways_turned}
use Rattle.engine_topos.proofs.act.topo_fence.Goals as goal

pub topo_propose-requires-clause-due : goal.topo_propose-requires-clause-due
topo_propose-requires-clause-due g c =
    may_set_fence c.args.plan.now c.args.desk.now c.args.core.now.core c.args.notes.now c.in-Some.version c.requires.at_topo c.in-Some.ensures

pub returns-in_err-outcome-clause-ways : goal.returns-in_err-outcome-clause-ways
returns-in_err-outcome-clause-ways g c =
    ways_turned c.args.desk.now.known c.topo_propose.new.desk.known c.args.topo (c.requires.at_topo.topo_is.actor ∙ ap ByTopo (sym c.requires.named)) c.in_err-outcome.ensures.proposed.turned

pub returns-clause-at_topo : goal.returns-clause-at_topo
returns-clause-at_topo g c =
    let desk = c.args.desk.now in
    let topo = c.args.core.now.core in
    let after = c.topo_propose.new.desk in
    let outcome = c.in_ok-outcome.outcome in
    let command = SetFence c.in-Some.version in
    at_proposed c.args.plan.now desk after topo command outcome c.args.notes.now c.note_proposal.new.self c.requires.at_topo
    (c.topo_propose.ensures.desk c.args.plan.now c.requires.at_topo.kept) c.in_ok-outcome.ensures.topo
    (subst (λ (h : HostId). DeskProposed desk h command outcome after) c.requires.named c.in_ok-outcome.ensures.proposed)
    c.note_proposal.ensures

pub returns-clause-ways : goal.returns-clause-ways
returns-clause-ways g c =
    ways_fenced c.args.desk.now.known c.topo_propose.new.desk.known c.args.topo c.in-Some.version c.in_ok-outcome.outcome c.in_ok-outcome.ensures.proposed.0
    (c.requires.at_topo.topo_is.actor ∙ ap ByTopo (sym c.requires.named)) c.in_ok-outcome.ensures.proposed.1.committed

pub returns-clause-legal : goal.returns-clause-legal
returns-clause-legal g c =
    let desk = c.args.desk.now in
    let topo = c.args.core.now.core in
    let after = c.topo_propose.new.desk in
    let outcome = c.in_ok-outcome.outcome in
    let came : DeskProposed desk topo.host (SetFence c.in-Some.version) outcome after = subst (λ (h : HostId). DeskProposed desk h (SetFence c.in-Some.version) outcome after) c.requires.named c.in_ok-outcome.ensures.proposed in
    fence_legal desk.known after.known topo c.in-Some.version outcome came.0 c.requires.at_topo.topo_is c.in-Some.ensures.is c.in-Some.ensures.above came.1.committed

pub returns-in_err-outcome-clause-desk : goal.returns-in_err-outcome-clause-desk
returns-in_err-outcome-clause-desk g c = c.topo_propose.ensures.desk c.args.plan.now c.requires.at_topo.kept

pub returns-clause-desk : goal.returns-clause-desk
returns-clause-desk g c = c.topo_propose.ensures.desk c.args.plan.now c.requires.at_topo.kept

pub returns-in_err-outcome-clause-sent : goal.returns-in_err-outcome-clause-sent
returns-in_err-outcome-clause-sent g c =
    sent_turned c.args.desk.now.known c.topo_propose.new.desk.known c.args.topo (c.requires.at_topo.topo_is.actor ∙ ap ByTopo (sym c.requires.named)) c.in_err-outcome.ensures.proposed.turned

pub returns-clause-sent : goal.returns-clause-sent
returns-clause-sent g c =
    sent_proposed c.args.desk.now c.topo_propose.new.desk c.args.topo (SetFence c.in-Some.version) (Ok c.in_ok-outcome.outcome) (c.requires.at_topo.topo_is.actor ∙ ap ByTopo (sym c.requires.named)) c.in_ok-outcome.ensures.proposed
