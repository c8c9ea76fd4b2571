use Rattle.std.proofs.Common.{Ok, subst, sym, ◌∙◌, ap, length, ◌*◌, ◌<◌, ◌∷◌}
use Rattle.base_ids.specs.declared.ids.HostId.{HostId}
use Rattle.cluster_history.specs.declared.data.Event.TheVariants.{Ask}
use Rattle.topo_coord.specs.Topo.{topo_out}
use Rattle.topo_coord.specs.declared.data.TopoInput.TheVariants.{Ask as AskInput}
use Rattle.plan_facts.specs.Plan.{moves_of}
use Rattle.plan_facts.specs.Suits.{Suits}
use Rattle.engine_topos.specs.Notes.{IsNoted, NotesView}
use Rattle.engine_topos.specs.Turns.{IsTopoDue, IsTopoPlayed, SentStays, WaysStay, ask_of, ask_outputs, plain_outputs, topo_entry}
use Rattle.base_ids.specs.declared.ids.Actor.TheVariants.{Topo as ByTopo}
use Rattle.engine_desk.specs.Desks.{HasSent}
use Rattle.engine_topos.proofs.ActLemmas.{on_err}
use Rattle.engine_topos.proofs.SentLemmas.{sent_ask, sent_turned}
use Rattle.engine_topos.proofs.NoteLemmas.{noted_ask}
use Rattle.engine_topos.proofs.TurnLemmas.{ask_due, ask_suits, at_played, ways_played}
use Rattle.engine_topos.proofs.turn.topo_ask.Goals as goal

pub topo_event-requires-clause-due : goal.topo_event-requires-clause-due
topo_event-requires-clause-due g c =
    let desk = c.args.desk.now in
    let topo = c.args.core.now.core in
    subst (λ (h : HostId). IsTopoDue desk topo (Ask h c.args.to c.args.what) (AskInput c.args.to c.args.what)) (sym c.requires.named)
    (ask_due desk topo c.args.to c.args.what c.requires.there c.requires.at_topo.free)

pub topo_event-requires-clause-suits : goal.topo_event-requires-clause-suits
topo_event-requires-clause-suits g c =
    let desk = c.args.desk.now in
    let topo = c.args.core.now.core in
    let plan = c.args.plan.now in
    subst (λ (h : HostId). Suits plan desk.known.opening desk.known.seen (Ask h c.args.to c.args.what)) (sym c.requires.named)
    (ask_suits plan desk topo c.args.notes.now c.args.to c.args.what c.asked-asked.result c.args.moves c.requires.at_topo.topo_is c.requires.at_topo.noted c.requires.about c.asked-asked.ensures
    (c.requires.moves ∙ ap (λ (h : HostId). length (moves_of plan h)) c.requires.named) c.if-asked-plan.false)

pub returns-in_err-number-clause-ways : goal.returns-in_err-number-clause-ways
returns-in_err-number-clause-ways g c =
    let desk = c.args.desk.now in
    let topo = c.args.core.now.core in
    subst (λ (h : HostId). WaysStay desk.known h c.topo_event.new.desk.known) (sym c.requires.named)
    (ways_played desk c.topo_event.new.desk topo c.topo_event.new.core.core (Ask topo.host c.args.to c.args.what) (AskInput c.args.to c.args.what) c.topo_event.result c.requires.at_topo.topo_is
    (ask_due desk topo c.args.to c.args.what c.requires.there c.requires.at_topo.free)
    (subst (λ (h : HostId). IsTopoPlayed desk topo (Ask h c.args.to c.args.what) (AskInput c.args.to c.args.what) c.topo_event.result c.topo_event.new.desk c.topo_event.new.core.core) c.requires.named c.topo_event.ensures.played))

pub returns-clause-at_topo : goal.returns-clause-at_topo
returns-clause-at_topo g c =
    let desk = c.args.desk.now in
    let topo = c.args.core.now.core in
    let what = c.args.what in
    let to = c.args.to in
    let after = c.topo_event.new.desk in
    let played = c.topo_event.new.core.core in
    let number = c.in_ok-number.number in
    at_played c.args.plan.now desk after topo played (Ask topo.host to what) (AskInput to what) number c.args.notes.now c.note_ask.new.self c.requires.at_topo.topo_is c.topo_event.ensures.desk
    (λ history n.
    subst (λ (v : NotesView). IsNoted (topo_entry topo (Ask topo.host to what) (AskInput to what) ∷ history) topo.host v) (sym c.in_ok-note_ask.ensures)
    (noted_ask history topo.host to what (plain_outputs (topo_out topo (AskInput to what))) c.args.notes.now n))
    c.requires.at_topo.noted
    (subst (λ (h : HostId). IsTopoPlayed desk topo (Ask h to what) (AskInput to what) (Ok number) after played) c.requires.named c.in_ok-number.ensures.played)

pub returns-clause-ways : goal.returns-clause-ways
returns-clause-ways g c =
    let desk = c.args.desk.now in
    let topo = c.args.core.now.core in
    subst (λ (h : HostId). WaysStay desk.known h c.topo_event.new.desk.known) (sym c.requires.named)
    (ways_played desk c.topo_event.new.desk topo c.topo_event.new.core.core (Ask topo.host c.args.to c.args.what) (AskInput c.args.to c.args.what) c.topo_event.result c.requires.at_topo.topo_is
    (ask_due desk topo c.args.to c.args.what c.requires.there c.requires.at_topo.free)
    (subst (λ (h : HostId). IsTopoPlayed desk topo (Ask h c.args.to c.args.what) (AskInput c.args.to c.args.what) c.topo_event.result c.topo_event.new.desk c.topo_event.new.core.core) c.requires.named c.topo_event.ensures.played))

pub returns-in_err-number-clause-unsent : goal.returns-in_err-number-clause-unsent
returns-in_err-number-clause-unsent g c =
    let desk = c.args.desk.now in
    let topo = c.args.core.now.core in
    on_err c.from_residual-in_err-number.result (SentStays desk.known c.args.topo c.topo_event.new.desk.known)
    (sent_turned desk.known c.topo_event.new.desk.known c.args.topo (c.requires.at_topo.topo_is.actor ∙ ap ByTopo (sym c.requires.named)) c.in_err-number.ensures.played.turned)

pub returns-clause-comes : goal.returns-clause-comes
returns-clause-comes g c =
    let desk = c.args.desk.now in
    let topo = c.args.core.now.core in
    let what = c.args.what in
    let to = c.args.to in
    let after = c.topo_event.new.desk in
    let played = c.topo_event.new.core.core in
    let number = c.in_ok-number.number in (
      subst (λ n. n < c.args.plan.now.patience * c.args.moves) c.asked-asked.ensures c.if-asked-plan.false,
      c.in_ok-note_ask.ensures,
      subst (λ (h : HostId). HasSent desk.known number (ask_outputs h (ask_of to what)) after.known) (sym c.requires.named)
          (sent_ask desk after topo played to what number c.requires.at_topo.topo_is
          (subst (λ (h : HostId). IsTopoPlayed desk topo (Ask h to what) (AskInput to what) (Ok number) after played) c.requires.named c.in_ok-number.ensures.played)),
    )
