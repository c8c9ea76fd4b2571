use Rattle.std.proofs.Common.{Some, Ok, ap, subst, sym, ◌∙◌, ◌<◌, ◌≡◌, ◌≤◌, true}
use Rattle.base_ids.specs.declared.ids.Actor.TheVariants.{Topo as ByTopo}
use Rattle.base_ids.specs.declared.ids.HostId.{HostId}
use Rattle.cluster_history.specs.Messages.{is_for, is_report}
use Rattle.cluster_history.specs.declared.data.Event.TheVariants.{Hear}
use Rattle.topo_coord.specs.Topo.{topo_out}
use Rattle.plan_facts.specs.Skips.{is_others}
use Rattle.plan_facts.specs.Suits.{Suits}
use Rattle.plan_facts.specs.declared.skips.SkipCause.TheVariants.{Repeat, Wrong}
use Rattle.engine_desk.specs.Desks.{DeskView}
use Rattle.engine_desk.proofs.DeskLemmas.{skipped_kept}
use Rattle.engine_desk.proofs.SameLemmas.{same_skipped}
use Rattle.engine_desk.proofs.TurnLemmas.{repeat_caused}
use Rattle.engine_topos.specs.Notes.{IsNoted}
use Rattle.engine_topos.specs.Turns.{IsTopoDue, IsTopoPlayed, SentStays, WaysStay, plain_outputs}
use Rattle.engine_topos.proofs.NoteLemmas.{noted_hear}
use Rattle.engine_topos.proofs.SentLemmas.{sent_heard}
use Rattle.engine_topos.proofs.TurnLemmas.{at_played, at_skipped, hear_due, hear_suits, ways_played, wrong_topo}
use Rattle.engine_topos.proofs.turn.hear.Goals as goal

pub returns-in_default-clause-desk : goal.returns-in_default-clause-desk
returns-in_default-clause-desk g c =
    let desk = c.args.desk.now in
    let topo = c.args.core.now.core in
    let wrong : is_others (ByTopo topo.host) (Some c.args.message) ≡ true = ap (λ (l : HostId). is_others (ByTopo l) (Some c.args.message)) (sym c.requires.named) ∙ c.in_default.ensures in
    skipped_kept c.args.plan.now desk c.skip.new.self Wrong c.args.at c.requires.desk c.requires.held (c.skip.ensures c.args.at c.requires.held)
    (wrong_topo c.args.plan.now desk topo c.args.at c.args.message c.requires.topo_is c.requires.found wrong)

pub returns-in_default-clause-at_topo : goal.returns-in_default-clause-at_topo
returns-in_default-clause-at_topo g c =
    let desk = c.args.desk.now in
    let topo = c.args.core.now.core in
    let is = c.skip.ensures c.args.at c.requires.held in
    let wrong : is_others (ByTopo topo.host) (Some c.args.message) ≡ true = ap (λ (l : HostId). is_others (ByTopo l) (Some c.args.message)) (sym c.requires.named) ∙ c.in_default.ensures in
    at_skipped c.args.plan.now desk c.skip.new.self topo c.args.notes.now (ap (λ (d : DeskView). d.known) is) (ap (λ (d : DeskView). d.held) is)
    (skipped_kept c.args.plan.now desk c.skip.new.self Wrong c.args.at c.requires.desk c.requires.held is
    (wrong_topo c.args.plan.now desk topo c.args.at c.args.message c.requires.topo_is c.requires.found wrong))
    c.requires.topo_is (subst (λ (h : HostId). IsNoted desk.known.seen h c.args.notes.now) c.requires.named c.requires.noted)

pub returns-then-taken-most_takes-clause-desk : goal.returns-then-taken-most_takes-clause-desk
returns-then-taken-most_takes-clause-desk g c =
    let desk = c.args.desk.now in
    skipped_kept c.args.plan.now desk c.skip-then-taken-most_takes.new.self Repeat c.args.at c.requires.desk c.requires.held (c.skip-then-taken-most_takes.ensures c.args.at c.requires.held)
    (repeat_caused c.args.plan.now desk c.args.at c.taken.result c.taken.ensures (subst (λ n. n ≤ c.taken.result) c.most_takes.ensures c.if-taken-most_takes.true))

pub returns-then-taken-most_takes-clause-at_topo : goal.returns-then-taken-most_takes-clause-at_topo
returns-then-taken-most_takes-clause-at_topo g c =
    let desk = c.args.desk.now in
    let topo = c.args.core.now.core in
    let is = c.skip-then-taken-most_takes.ensures c.args.at c.requires.held in
    at_skipped c.args.plan.now desk c.skip-then-taken-most_takes.new.self topo c.args.notes.now (ap (λ (d : DeskView). d.known) is) (ap (λ (d : DeskView). d.held) is)
    (skipped_kept c.args.plan.now desk c.skip-then-taken-most_takes.new.self Repeat c.args.at c.requires.desk c.requires.held is
    (repeat_caused c.args.plan.now desk c.args.at c.taken.result c.taken.ensures (subst (λ n. n ≤ c.taken.result) c.most_takes.ensures c.if-taken-most_takes.true)))
    c.requires.topo_is (subst (λ (h : HostId). IsNoted desk.known.seen h c.args.notes.now) c.requires.named c.requires.noted)

pub topo_event-requires-clause-due : goal.topo_event-requires-clause-due
topo_event-requires-clause-due g c =
    let desk = c.args.desk.now in
    let topo = c.args.core.now.core in
    let input = c.in-Some.input in
    let is = c.in-Some.ensures in
    let mine : is_for (ByTopo topo.host) is_report c.args.message ≡ true = ap (λ (h : HostId). is_for (ByTopo h) is_report c.args.message) (sym c.requires.named) ∙ is.mine in
    subst (λ (h : HostId). IsTopoDue desk topo (Hear h c.args.at) input) (sym c.requires.named)
    (hear_due desk topo c.args.at c.args.message input c.requires.held c.requires.found is.gives mine is.plain)

pub topo_event-requires-clause-suits : goal.topo_event-requires-clause-suits
topo_event-requires-clause-suits g c =
    let desk = c.args.desk.now in
    let topo = c.args.core.now.core in
    subst (λ (h : HostId). Suits c.args.plan.now desk.known.opening desk.known.seen (Hear h c.args.at)) (sym c.requires.named)
    (hear_suits c.args.plan.now desk topo c.args.at c.taken.result c.requires.topo_is c.taken.ensures (subst (λ n. c.taken.result < n) c.most_takes.ensures c.if-taken-most_takes.false))

pub returns-in_err-topo_event-clause-ways : goal.returns-in_err-topo_event-clause-ways
returns-in_err-topo_event-clause-ways g c =
    let desk = c.args.desk.now in
    let topo = c.args.core.now.core in
    let input = c.in-Some.input in
    let is = c.in-Some.ensures in
    let mine : is_for (ByTopo topo.host) is_report c.args.message ≡ true = ap (λ (h : HostId). is_for (ByTopo h) is_report c.args.message) (sym c.requires.named) ∙ is.mine in
    subst (λ (h : HostId). WaysStay desk.known h c.topo_event.new.desk.known) (sym c.requires.named)
    (ways_played desk c.topo_event.new.desk topo c.topo_event.new.core.core (Hear topo.host c.args.at) input c.topo_event.result c.requires.topo_is
    (hear_due desk topo c.args.at c.args.message input c.requires.held c.requires.found is.gives mine is.plain)
    (subst (λ (h : HostId). IsTopoPlayed desk topo (Hear h c.args.at) input c.topo_event.result c.topo_event.new.desk c.topo_event.new.core.core) c.requires.named c.topo_event.ensures.played))

pub returns-clause-at_topo : goal.returns-clause-at_topo
returns-clause-at_topo g c =
    let desk = c.args.desk.now in
    let topo = c.args.core.now.core in
    let input = c.in-Some.input in
    let after = c.topo_event.new.desk in
    let played = c.topo_event.new.core.core in
    let number = c.in_ok-topo_event.field-0 in
    at_played c.args.plan.now desk after topo played (Hear topo.host c.args.at) input number c.args.notes.now c.args.notes.now c.requires.topo_is c.topo_event.ensures.desk
    (λ history n. noted_hear history topo.host c.args.at (plain_outputs (topo_out topo input)) c.args.notes.now n)
    (subst (λ (h : HostId). IsNoted desk.known.seen h c.args.notes.now) c.requires.named c.requires.noted)
    (subst (λ (h : HostId). IsTopoPlayed desk topo (Hear h c.args.at) input (Ok number) after played) c.requires.named c.in_ok-topo_event.ensures.played)

pub returns-clause-ways : goal.returns-clause-ways
returns-clause-ways g c =
    let desk = c.args.desk.now in
    let topo = c.args.core.now.core in
    let input = c.in-Some.input in
    let is = c.in-Some.ensures in
    let mine : is_for (ByTopo topo.host) is_report c.args.message ≡ true = ap (λ (h : HostId). is_for (ByTopo h) is_report c.args.message) (sym c.requires.named) ∙ is.mine in
    subst (λ (h : HostId). WaysStay desk.known h c.topo_event.new.desk.known) (sym c.requires.named)
    (ways_played desk c.topo_event.new.desk topo c.topo_event.new.core.core (Hear topo.host c.args.at) input c.topo_event.result c.requires.topo_is
    (hear_due desk topo c.args.at c.args.message input c.requires.held c.requires.found is.gives mine is.plain)
    (subst (λ (h : HostId). IsTopoPlayed desk topo (Hear h c.args.at) input c.topo_event.result c.topo_event.new.desk c.topo_event.new.core.core) c.requires.named c.topo_event.ensures.played))

pub returns-in_default-clause-same : goal.returns-in_default-clause-same
returns-in_default-clause-same g c = same_skipped c.args.desk.now c.skip.new.self Wrong c.args.at (c.skip.ensures c.args.at c.requires.held)

pub returns-then-taken-most_takes-clause-same : goal.returns-then-taken-most_takes-clause-same
returns-then-taken-most_takes-clause-same g c = same_skipped c.args.desk.now c.skip-then-taken-most_takes.new.self Repeat c.args.at (c.skip-then-taken-most_takes.ensures c.args.at c.requires.held)

pub returns-in_err-topo_event-clause-sent : goal.returns-in_err-topo_event-clause-sent
returns-in_err-topo_event-clause-sent g c =
    let desk = c.args.desk.now in
    let topo = c.args.core.now.core in
    let input = c.in-Some.input in
    subst (λ (h : HostId). SentStays desk.known h c.topo_event.new.desk.known) (sym c.requires.named)
    (sent_heard desk c.topo_event.new.desk topo c.topo_event.new.core.core c.args.at c.args.message input c.topo_event.result c.requires.topo_is c.in-Some.ensures.gives
    (subst (λ (h : HostId). IsTopoPlayed desk topo (Hear h c.args.at) input c.topo_event.result c.topo_event.new.desk c.topo_event.new.core.core) c.requires.named c.topo_event.ensures.played))

pub returns-clause-sent : goal.returns-clause-sent
returns-clause-sent g c =
    let desk = c.args.desk.now in
    let topo = c.args.core.now.core in
    let input = c.in-Some.input in
    subst (λ (h : HostId). SentStays desk.known h c.topo_event.new.desk.known) (sym c.requires.named)
    (sent_heard desk c.topo_event.new.desk topo c.topo_event.new.core.core c.args.at c.args.message input c.topo_event.result c.requires.topo_is c.in-Some.ensures.gives
    (subst (λ (h : HostId). IsTopoPlayed desk topo (Hear h c.args.at) input c.topo_event.result c.topo_event.new.desk c.topo_event.new.core.core) c.requires.named c.topo_event.ensures.played))
