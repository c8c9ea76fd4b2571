use Rattle.std.proofs.Common.{Ok, ap, subst, sym, ◌∙◌}
use Rattle.base_ids.specs.declared.ids.Actor.TheVariants.{Topo as ByTopo}
use Rattle.base_ids.specs.declared.ids.HostId.{HostId}
use Rattle.topo_state.specs.State.{Topology}
use Rattle.topo_state.specs.declared.command.Command.{Command}
use Rattle.plan_facts.specs.Moves.{advanced_stage}
use Rattle.engine_desk.specs.Desks.{DeskProposed}
use Rattle.engine_players.specs.Coordinators.{IsProposable}
use Rattle.engine_topos.specs.Deeds.{HasGone}
use Rattle.engine_topos.specs.Turns.{WaysStay}
use Rattle.engine_topos.proofs.ActLemmas.{at_proposed, has_gone, on_err}
use Rattle.engine_topos.proofs.SentLemmas.{sent_proposed, sent_turned}
use Rattle.engine_topos.proofs.TurnLemmas.{ways_turned}
use Rattle.engine_topos.proofs.act.topo_go.Goals as goal

pub topo_propose-requires-clause-due : goal.topo_propose-requires-clause-due
topo_propose-requires-clause-due g c =
    subst (IsProposable c.args.desk.now c.args.core.now.core) (sym c.in_ok-same.ensures) c.requires.due

pub returns-in_err-outcome-clause-lost : goal.returns-in_err-outcome-clause-lost
returns-in_err-outcome-clause-lost g c =
    on_err c.from_residual-in_err-outcome.result (WaysStay c.args.desk.now.known c.args.topo c.topo_propose.new.desk.known)
    (ways_turned c.args.desk.now.known c.topo_propose.new.desk.known c.args.topo (c.requires.at_topo.topo_is.actor ∙ ap ByTopo (sym c.requires.named)) c.in_err-outcome.ensures.proposed.turned)

pub returns-clause-at_topo : goal.returns-clause-at_topo
returns-clause-at_topo g c =
    let desk = c.args.desk.now in
    let topo = c.args.core.now.core in
    let after = c.topo_propose.new.desk in
    let outcome = c.in_ok-outcome.outcome in
    at_proposed c.args.plan.now desk after topo c.args.command outcome c.args.notes.now c.note_proposal.new.self c.requires.at_topo
    (c.topo_propose.ensures.desk c.args.plan.now c.requires.at_topo.kept) c.in_ok-outcome.ensures.topo
    (subst (λ (h : HostId). DeskProposed desk h c.args.command outcome after) c.requires.named (subst (λ (x : Command). DeskProposed desk c.args.topo x outcome after) c.in_ok-same.ensures c.in_ok-outcome.ensures.proposed))
    c.note_proposal.ensures

pub returns-clause-goes : goal.returns-clause-goes
returns-clause-goes g c =
    let desk = c.args.desk.now in
    let topo = c.args.core.now.core in
    let after = c.topo_propose.new.desk in
    let outcome = c.in_ok-outcome.outcome in
    let came : DeskProposed desk topo.host c.args.command outcome after =
    subst (λ (h : HostId). DeskProposed desk h c.args.command outcome after) c.requires.named (subst (λ (x : Command). DeskProposed desk c.args.topo x outcome after) c.in_ok-same.ensures c.in_ok-outcome.ensures.proposed) in
    subst (λ (h : HostId). HasGone desk.known h c.args.ask.now c.args.standing c.standing_by-after.result outcome after.known) (sym c.requires.named)
    (has_gone desk.known after.known topo c.args.command outcome came.0 c.args.ask.now c.args.standing c.standing_by-after.result c.advanced_stage-stage.result
    c.requires.at_topo.topo_is came.1.committed c.requires.raising c.requires.next c.requires.safe
    (c.advanced_stage-stage.ensures ∙ ap (λ (s : Topology). advanced_stage s c.args.command) c.state.ensures)
    c.standing_by-after.ensures)

pub returns-in_err-outcome-clause-sent : goal.returns-in_err-outcome-clause-sent
returns-in_err-outcome-clause-sent g c =
    sent_turned c.args.desk.now.known c.topo_propose.new.desk.known c.args.topo (c.requires.at_topo.topo_is.actor ∙ ap ByTopo (sym c.requires.named)) c.in_err-outcome.ensures.proposed.turned

pub returns-clause-sent : goal.returns-clause-sent
returns-clause-sent g c =
    sent_proposed c.args.desk.now c.topo_propose.new.desk c.args.topo c.in_ok-same.same (Ok c.in_ok-outcome.outcome) (c.requires.at_topo.topo_is.actor ∙ ap ByTopo (sym c.requires.named)) c.in_ok-outcome.ensures.proposed

pub returns-in_err-outcome-clause-desk : goal.returns-in_err-outcome-clause-desk
returns-in_err-outcome-clause-desk g c = c.topo_propose.ensures.desk c.args.plan.now c.requires.at_topo.kept

pub returns-clause-desk : goal.returns-clause-desk
returns-clause-desk g c = c.topo_propose.ensures.desk c.args.plan.now c.requires.at_topo.kept
