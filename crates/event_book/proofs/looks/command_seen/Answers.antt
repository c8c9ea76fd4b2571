use Rattle.std.proofs.Common.{◌≡◌, subst, IfOk}
use Rattle.book_rule.proofs.SeatLemmas.{look_passes, look_told, takes_any}
use Rattle.book_rule.specs.Seats.{known_in}
use Rattle.event_book.proofs.looks.command_seen.Goals as goal

pub command_in_hand-answer-requires-clause-hand : goal.command_in_hand-answer-requires-clause-hand
command_in_hand-answer-requires-clause-hand g c = takes_any g.W.World.meaning _ c.begin_turn.new.seat.me c.begin_turn.ensures.turn

pub end_turn-requires-clause-turn : goal.end_turn-requires-clause-turn
end_turn-requires-clause-turn g c =
    let m = g.W.World.meaning in
    let h = c.command_in_hand-answer.ensures.hand in
    look_passes m g.met.W.World.laws (known_in m c.args.seat.now.me) c.begin_turn.new.seat.me c.command_in_hand-answer.new.seat.me c.command_in_hand-answer.new.seat.me c.begin_turn.ensures.turn c.command_in_hand-answer.ensures.same.2 h.0 h.1

pub returns-clause-free : goal.returns-clause-free
returns-clause-free g c =
    let m = g.W.World.meaning in
    let h = c.command_in_hand-answer.ensures.hand in
    let t = look_told m g.met.W.World.laws (known_in m c.args.seat.now.me) c.begin_turn.new.seat.me c.command_in_hand-answer.new.seat.me c.end_turn.new.seat.me c.begin_turn.ensures.turn c.command_in_hand-answer.ensures.same.2 h.0 h.1 c.end_turn.ensures.view in
    t.0

pub returns-clause-told : goal.returns-clause-told
returns-clause-told g c =
    let m = g.W.World.meaning in
    let h = c.command_in_hand-answer.ensures.hand in
    let t = look_told m g.met.W.World.laws (known_in m c.args.seat.now.me) c.begin_turn.new.seat.me c.command_in_hand-answer.new.seat.me c.end_turn.new.seat.me c.begin_turn.ensures.turn c.command_in_hand-answer.ensures.same.2 h.0 h.1 c.end_turn.ensures.view in
    t.1

pub returns-clause-command : goal.returns-clause-command
returns-clause-command g c =
    let m = g.W.World.meaning in
    let h = c.command_in_hand-answer.ensures.hand in
    let t = look_told m g.met.W.World.laws (known_in m c.args.seat.now.me) c.begin_turn.new.seat.me c.command_in_hand-answer.new.seat.me c.end_turn.new.seat.me c.begin_turn.ensures.turn c.command_in_hand-answer.ensures.same.2 h.0 h.1 c.end_turn.ensures.view in
    subst (λ l. IfOk c.command_in_hand-answer.result (λ x. x ≡ m.command_at l c.args.n)) t.4 h.2
