use Rattle.std.proofs.Common.{◌∙◌, ap, subst}
use Rattle.book_rule.proofs.SeatLemmas.{proposal_passes, proposal_told, propose_cause, propose_err, propose_ok, takes_command}
use Rattle.book_rule.specs.Seats.{Proposes, known_in}
use Rattle.event_book.proofs.propose.propose_command.Goals as goal

pub append-answer-requires-clause-hand : goal.append-answer-requires-clause-hand
append-answer-requires-clause-hand g c = takes_command g.W.World.meaning _ c.begin_turn.new.seat.me c.begin_turn.ensures.turn

pub end_turn-requires-clause-turn : goal.end_turn-requires-clause-turn
end_turn-requires-clause-turn g c =
    let m = g.W.World.meaning in
    let k = known_in m c.args.seat.now.me in
    let topo = c.requires.topo in
    let looked = c.requires.read ∙ ap (λ a. m.look k.opening k.seen a) topo in
    let may = subst (λ a. m.may_propose k.opening k.seen a c.args.command) topo c.requires.ready in
    let h = c.append-answer.ensures.hand in
    let p = subst (λ a. Proposes m a c.args.read.0 c.args.command h.0 h.1 c.append-answer.result) topo h.4 in
    proposal_passes m g.met.W.World.laws k c.args.read.0 c.args.command looked may c.begin_turn.new.seat.me c.begin_turn.ensures.turn c.append-answer.new.seat.me c.append-answer.new.seat.me c.append-answer.ensures.same.2 h.0 h.1 h.2 h.3 c.append-answer.result p

pub returns-clause-free : goal.returns-clause-free
returns-clause-free g c =
    let m = g.W.World.meaning in
    let k = known_in m c.args.seat.now.me in
    let topo = c.requires.topo in
    let looked = c.requires.read ∙ ap (λ a. m.look k.opening k.seen a) topo in
    let may = subst (λ a. m.may_propose k.opening k.seen a c.args.command) topo c.requires.ready in
    let h = c.append-answer.ensures.hand in
    let p = subst (λ a. Proposes m a c.args.read.0 c.args.command h.0 h.1 c.append-answer.result) topo h.4 in
    (proposal_told m g.met.W.World.laws k c.args.read.0 c.args.command looked may c.begin_turn.new.seat.me c.begin_turn.ensures.turn c.append-answer.new.seat.me c.end_turn.new.seat.me c.append-answer.ensures.same.2 h.0 h.1 h.2 h.3 c.append-answer.result p c.end_turn.ensures.view).0

pub returns-clause-turn : goal.returns-clause-turn
returns-clause-turn g c =
    let m = g.W.World.meaning in
    let k = known_in m c.args.seat.now.me in
    let topo = c.requires.topo in
    let looked = c.requires.read ∙ ap (λ a. m.look k.opening k.seen a) topo in
    let may = subst (λ a. m.may_propose k.opening k.seen a c.args.command) topo c.requires.ready in
    let h = c.append-answer.ensures.hand in
    let p = subst (λ a. Proposes m a c.args.read.0 c.args.command h.0 h.1 c.append-answer.result) topo h.4 in
    (proposal_told m g.met.W.World.laws k c.args.read.0 c.args.command looked may c.begin_turn.new.seat.me c.begin_turn.ensures.turn c.append-answer.new.seat.me c.end_turn.new.seat.me c.append-answer.ensures.same.2 h.0 h.1 h.2 h.3 c.append-answer.result p c.end_turn.ensures.view).1.0

pub returns-clause-ok : goal.returns-clause-ok
returns-clause-ok g c =
    let m = g.W.World.meaning in
    let k = known_in m c.args.seat.now.me in
    let topo = c.requires.topo in
    let looked = c.requires.read ∙ ap (λ a. m.look k.opening k.seen a) topo in
    let may = subst (λ a. m.may_propose k.opening k.seen a c.args.command) topo c.requires.ready in
    let h = c.append-answer.ensures.hand in
    let p = subst (λ a. Proposes m a c.args.read.0 c.args.command h.0 h.1 c.append-answer.result) topo h.4 in
    propose_ok m _ _ _ _ _ ((proposal_told m g.met.W.World.laws k c.args.read.0 c.args.command looked may c.begin_turn.new.seat.me c.begin_turn.ensures.turn c.append-answer.new.seat.me c.end_turn.new.seat.me c.append-answer.ensures.same.2 h.0 h.1 h.2 h.3 c.append-answer.result p c.end_turn.ensures.view).1)

pub returns-clause-err : goal.returns-clause-err
returns-clause-err g c =
    let m = g.W.World.meaning in
    let k = known_in m c.args.seat.now.me in
    let topo = c.requires.topo in
    let looked = c.requires.read ∙ ap (λ a. m.look k.opening k.seen a) topo in
    let may = subst (λ a. m.may_propose k.opening k.seen a c.args.command) topo c.requires.ready in
    let h = c.append-answer.ensures.hand in
    let p = subst (λ a. Proposes m a c.args.read.0 c.args.command h.0 h.1 c.append-answer.result) topo h.4 in
    propose_err m _ _ _ _ _ ((proposal_told m g.met.W.World.laws k c.args.read.0 c.args.command looked may c.begin_turn.new.seat.me c.begin_turn.ensures.turn c.append-answer.new.seat.me c.end_turn.new.seat.me c.append-answer.ensures.same.2 h.0 h.1 h.2 h.3 c.append-answer.result p c.end_turn.ensures.view).1)

pub returns-clause-cause : goal.returns-clause-cause
returns-clause-cause g c =
    let m = g.W.World.meaning in
    let k = known_in m c.args.seat.now.me in
    let topo = c.requires.topo in
    let looked = c.requires.read ∙ ap (λ a. m.look k.opening k.seen a) topo in
    let may = subst (λ a. m.may_propose k.opening k.seen a c.args.command) topo c.requires.ready in
    let h = c.append-answer.ensures.hand in
    let p = subst (λ a. Proposes m a c.args.read.0 c.args.command h.0 h.1 c.append-answer.result) topo h.4 in
    propose_cause m _ _ _ _ _ ((proposal_told m g.met.W.World.laws k c.args.read.0 c.args.command looked may c.begin_turn.new.seat.me c.begin_turn.ensures.turn c.append-answer.new.seat.me c.end_turn.new.seat.me c.append-answer.ensures.same.2 h.0 h.1 h.2 h.3 c.append-answer.result p c.end_turn.ensures.view).1)

pub append-answer-requires-clause-fit : goal.append-answer-requires-clause-fit
append-answer-requires-clause-fit g c =
    let k = known_in g.W.World.meaning c.args.seat.now.me in
    g.met.W.World.laws.fit k.opening k.seen c.args.topo c.args.command c.requires.ready
