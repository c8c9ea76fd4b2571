use Rattle.book_rule.proofs.SeatLemmas.{takes_entry, commit_cause, commit_err, commit_ok, commit_passes, commit_rises, commit_told}
use Rattle.event_book.proofs.commit.commit_entry.Goals as goal

pub append-answer-requires-clause-hand : goal.append-answer-requires-clause-hand
append-answer-requires-clause-hand g c = takes_entry g.W.World.meaning g.met.W.World.laws _ c.args.entry c.requires.ready c.begin_turn.new.seat.me c.begin_turn.ensures.turn

pub end_turn-requires-clause-turn : goal.end_turn-requires-clause-turn
end_turn-requires-clause-turn g c =
    let h = c.append-answer.ensures.hand in
    commit_passes g.W.World.meaning g.met.W.World.laws _ c.args.entry c.requires.ready c.begin_turn.new.seat.me c.begin_turn.ensures.turn c.append-answer.new.seat.me c.append-answer.new.seat.me c.append-answer.ensures.same.2 h.0 h.1 h.2 h.3 c.append-answer.result h.4

pub returns-clause-free : goal.returns-clause-free
returns-clause-free g c =
    let h = c.append-answer.ensures.hand in
    (commit_told g.W.World.meaning g.met.W.World.laws _ c.args.entry c.requires.ready c.begin_turn.new.seat.me c.begin_turn.ensures.turn c.append-answer.new.seat.me c.end_turn.new.seat.me c.append-answer.ensures.same.2 h.0 h.1 h.2 h.3 c.append-answer.result h.4 c.end_turn.ensures.view).0

pub returns-clause-turn : goal.returns-clause-turn
returns-clause-turn g c =
    let h = c.append-answer.ensures.hand in
    (commit_told g.W.World.meaning g.met.W.World.laws _ c.args.entry c.requires.ready c.begin_turn.new.seat.me c.begin_turn.ensures.turn c.append-answer.new.seat.me c.end_turn.new.seat.me c.append-answer.ensures.same.2 h.0 h.1 h.2 h.3 c.append-answer.result h.4 c.end_turn.ensures.view).1.0

pub returns-clause-ok : goal.returns-clause-ok
returns-clause-ok g c =
    let h = c.append-answer.ensures.hand in
    commit_ok g.W.World.meaning _ _ _ _ ((commit_told g.W.World.meaning g.met.W.World.laws _ c.args.entry c.requires.ready c.begin_turn.new.seat.me c.begin_turn.ensures.turn c.append-answer.new.seat.me c.end_turn.new.seat.me c.append-answer.ensures.same.2 h.0 h.1 h.2 h.3 c.append-answer.result h.4 c.end_turn.ensures.view).1)

pub returns-clause-rises : goal.returns-clause-rises
returns-clause-rises g c =
    let h = c.append-answer.ensures.hand in
    commit_rises g.W.World.meaning _ _ _ _ ((commit_told g.W.World.meaning g.met.W.World.laws _ c.args.entry c.requires.ready c.begin_turn.new.seat.me c.begin_turn.ensures.turn c.append-answer.new.seat.me c.end_turn.new.seat.me c.append-answer.ensures.same.2 h.0 h.1 h.2 h.3 c.append-answer.result h.4 c.end_turn.ensures.view).1)

pub returns-clause-err : goal.returns-clause-err
returns-clause-err g c =
    let h = c.append-answer.ensures.hand in
    commit_err g.W.World.meaning _ _ _ _ ((commit_told g.W.World.meaning g.met.W.World.laws _ c.args.entry c.requires.ready c.begin_turn.new.seat.me c.begin_turn.ensures.turn c.append-answer.new.seat.me c.end_turn.new.seat.me c.append-answer.ensures.same.2 h.0 h.1 h.2 h.3 c.append-answer.result h.4 c.end_turn.ensures.view).1)

pub returns-clause-cause : goal.returns-clause-cause
returns-clause-cause g c =
    let h = c.append-answer.ensures.hand in
    commit_cause g.W.World.meaning _ _ _ _ ((commit_told g.W.World.meaning g.met.W.World.laws _ c.args.entry c.requires.ready c.begin_turn.new.seat.me c.begin_turn.ensures.turn c.append-answer.new.seat.me c.end_turn.new.seat.me c.append-answer.ensures.same.2 h.0 h.1 h.2 h.3 c.append-answer.result h.4 c.end_turn.ensures.view).1)
