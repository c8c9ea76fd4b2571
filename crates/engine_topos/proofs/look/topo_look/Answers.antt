use Rattle.std.proofs.Common.{ap, subst, sym, ◌∙◌, ◌≤◌}
use Rattle.base_ids.specs.declared.ids.Actor.TheVariants.{Topo as ByTopo}
use Rattle.base_ids.specs.declared.ids.HostId.{HostId}
use Rattle.topo_coord.specs.Topo.{topo_after}
use Rattle.engine_desk.specs.Desks.{DeskLooked}
use Rattle.engine_desk.proofs.DeskLemmas.{desk_turned}
use Rattle.engine_topos.specs.Looks.{IsReached}
use Rattle.engine_topos.proofs.LookLemmas.{looked_kept, looked_settled, reached_back, reached_before, reached_look, looked_there, sent_after_look, ways_after_look}
use Rattle.engine_topos.proofs.SentLemmas.{sent_turned}
use Rattle.engine_topos.proofs.TurnLemmas.{ways_turned}
use Rattle.engine_topos.proofs.look.topo_look.Goals as goal

pub returns-in_err-len-clause-desk : goal.returns-in_err-len-clause-desk
returns-in_err-len-clause-desk g c = desk_turned c.args.plan.now c.args.desk.now c.look.new.self c.requires.at_topo.kept c.in_err-len.ensures

pub returns-in_err-len-clause-ways : goal.returns-in_err-len-clause-ways
returns-in_err-len-clause-ways g c =
    ways_turned c.args.desk.now.known c.look.new.self.known c.args.topo (c.requires.at_topo.topo_is.actor ∙ ap ByTopo (sym c.requires.named)) c.in_err-len.ensures.turned

pub catch_up-requires-clause-from : goal.catch_up-requires-clause-from
catch_up-requires-clause-from g c =
    let desk = c.args.desk.now in
    let topo = c.args.core.now.core in
    let len = c.in_ok-len.len in
    let looked = subst (λ (h : HostId). DeskLooked desk h len c.look.new.self) c.requires.named c.in_ok-len.ensures in
    subst (λ n. n ≤ len) (sym c.look-from.ensures) (reached_before desk c.look.new.self topo len c.requires.at_topo.topo_is looked)

pub catch_up-requires-clause-reached : goal.catch_up-requires-clause-reached
catch_up-requires-clause-reached g c =
    let desk = c.args.desk.now in
    let topo = c.args.core.now.core in
    let len = c.in_ok-len.len in
    let after = c.look.new.self in
    let looked = subst (λ (h : HostId). DeskLooked desk h len after) c.requires.named c.in_ok-len.ensures in
    let state = c.in_ok-state.ensures ∙ c.state.ensures in
    let from = c.look-from.ensures in
    subst (λ p. p) (λ i. IsReached after.known.opening (sym from i) (sym state i) after.known.seen)
    (reached_look desk after topo len c.requires.at_topo.topo_is looked)

pub returns-in_err-catch_up-clause-desk : goal.returns-in_err-catch_up-clause-desk
returns-in_err-catch_up-clause-desk g c =
    let desk = c.args.desk.now in
    let topo = c.args.core.now.core in
    let len = c.in_ok-len.len in
    let after = c.look.new.self in
    let looked = subst (λ (h : HostId). DeskLooked desk h len after) c.requires.named c.in_ok-len.ensures in
    let acted = sym c.acted.ensures ∙ c.if-not-acted.false in
    desk_turned c.args.plan.now after c.catch_up.new.desk (looked_kept c.args.plan.now desk after topo c.args.notes.now len c.requires.at_topo acted looked) c.catch_up.ensures.turned

pub returns-in_err-catch_up-clause-ways : goal.returns-in_err-catch_up-clause-ways
returns-in_err-catch_up-clause-ways g c =
    ways_after_look c.args.desk.now c.look.new.self c.catch_up.new.desk c.args.topo c.in_ok-len.len (c.requires.at_topo.topo_is.actor ∙ ap ByTopo (sym c.requires.named)) c.in_ok-len.ensures c.catch_up.ensures.turned

pub returns-in_err-prepared-clause-desk : goal.returns-in_err-prepared-clause-desk
returns-in_err-prepared-clause-desk g c =
    let desk = c.args.desk.now in
    let topo = c.args.core.now.core in
    let len = c.in_ok-len.len in
    let after = c.look.new.self in
    let looked = subst (λ (h : HostId). DeskLooked desk h len after) c.requires.named c.in_ok-len.ensures in
    let acted = sym c.acted.ensures ∙ c.if-not-acted.false in
    desk_turned c.args.plan.now after c.catch_up.new.desk (looked_kept c.args.plan.now desk after topo c.args.notes.now len c.requires.at_topo acted looked) c.catch_up.ensures.turned

pub returns-in_err-prepared-clause-ways : goal.returns-in_err-prepared-clause-ways
returns-in_err-prepared-clause-ways g c =
    ways_after_look c.args.desk.now c.look.new.self c.catch_up.new.desk c.args.topo c.in_ok-len.len (c.requires.at_topo.topo_is.actor ∙ ap ByTopo (sym c.requires.named)) c.in_ok-len.ensures c.catch_up.ensures.turned

pub returns-clause-desk : goal.returns-clause-desk
returns-clause-desk g c =
    let desk = c.args.desk.now in
    let topo = c.args.core.now.core in
    let len = c.in_ok-len.len in
    let after = c.look.new.self in
    let looked = subst (λ (h : HostId). DeskLooked desk h len after) c.requires.named c.in_ok-len.ensures in
    let acted = sym c.acted.ensures ∙ c.if-not-acted.false in
    desk_turned c.args.plan.now after c.catch_up.new.desk (looked_kept c.args.plan.now desk after topo c.args.notes.now len c.requires.at_topo acted looked) c.catch_up.ensures.turned

pub returns-clause-at_topo : goal.returns-clause-at_topo
returns-clause-at_topo g c =
    let desk = c.args.desk.now in
    let topo = c.args.core.now.core in
    let len = c.in_ok-len.len in
    let after = c.look.new.self in
    let last = c.catch_up.new.desk in
    let state = c.catch_up.new.state in
    let looked = subst (λ (h : HostId). DeskLooked desk h len after) c.requires.named c.in_ok-len.ensures in
    let acted = sym c.acted.ensures ∙ c.if-not-acted.false in
    looked_settled c.args.plan.now desk after last topo c.settle.new.self.core c.args.notes.now c.note_look.new.self len state c.requires.at_topo acted looked c.catch_up.ensures.turned
    (reached_back after last len state c.catch_up.ensures.turned (looked_there desk after topo.host len looked) c.in_ok-catch_up.ensures.reached)
    (c.settle.ensures.core ∙ (λ i. topo_after (c.in_ok-prepared.ensures.core i) (c.in_ok-prepared.ensures.input i)))
    c.note_look.ensures

pub returns-clause-ways : goal.returns-clause-ways
returns-clause-ways g c =
    ways_after_look c.args.desk.now c.look.new.self c.catch_up.new.desk c.args.topo c.in_ok-len.len (c.requires.at_topo.topo_is.actor ∙ ap ByTopo (sym c.requires.named)) c.in_ok-len.ensures c.catch_up.ensures.turned

pub returns-in_err-len-clause-sent : goal.returns-in_err-len-clause-sent
returns-in_err-len-clause-sent g c =
    sent_turned c.args.desk.now.known c.look.new.self.known c.args.topo (c.requires.at_topo.topo_is.actor ∙ ap ByTopo (sym c.requires.named)) c.in_err-len.ensures.turned

pub returns-in_err-catch_up-clause-sent : goal.returns-in_err-catch_up-clause-sent
returns-in_err-catch_up-clause-sent g c =
    sent_after_look c.args.desk.now c.look.new.self c.catch_up.new.desk c.args.topo c.in_ok-len.len (c.requires.at_topo.topo_is.actor ∙ ap ByTopo (sym c.requires.named)) c.in_ok-len.ensures c.catch_up.ensures.turned

pub returns-in_err-prepared-clause-sent : goal.returns-in_err-prepared-clause-sent
returns-in_err-prepared-clause-sent g c =
    sent_after_look c.args.desk.now c.look.new.self c.catch_up.new.desk c.args.topo c.in_ok-len.len (c.requires.at_topo.topo_is.actor ∙ ap ByTopo (sym c.requires.named)) c.in_ok-len.ensures c.catch_up.ensures.turned

pub returns-clause-sent : goal.returns-clause-sent
returns-clause-sent g c =
    sent_after_look c.args.desk.now c.look.new.self c.catch_up.new.desk c.args.topo c.in_ok-len.len (c.requires.at_topo.topo_is.actor ∙ ap ByTopo (sym c.requires.named)) c.in_ok-len.ensures c.catch_up.ensures.turned
