use Rattle.std.proofs.Common.{◌≡◌, subst, sym, IfOk}
use Rattle.book_rule.proofs.SeatLemmas.{answer_there, look_passes, look_told, takes_any}
use Rattle.book_rule.specs.Seats.{known_in, message_at}
use Rattle.event_book.proofs.looks.message_seen.Goals as goal

pub message_in_hand-answer-requires-clause-hand : goal.message_in_hand-answer-requires-clause-hand
message_in_hand-answer-requires-clause-hand g c = takes_any g.W.World.meaning _ c.begin_turn.new.seat.me c.begin_turn.ensures.turn

pub end_turn-requires-clause-turn : goal.end_turn-requires-clause-turn
end_turn-requires-clause-turn g c =
    let m = g.W.World.meaning in
    let h = c.message_in_hand-answer.ensures.hand in
    look_passes m g.met.W.World.laws (known_in m c.args.seat.now.me) c.begin_turn.new.seat.me c.message_in_hand-answer.new.seat.me c.message_in_hand-answer.new.seat.me c.begin_turn.ensures.turn c.message_in_hand-answer.ensures.same.2 h.0 h.1

pub returns-clause-free : goal.returns-clause-free
returns-clause-free g c =
    let m = g.W.World.meaning in
    let h = c.message_in_hand-answer.ensures.hand in
    let t = look_told m g.met.W.World.laws (known_in m c.args.seat.now.me) c.begin_turn.new.seat.me c.message_in_hand-answer.new.seat.me c.end_turn.new.seat.me c.begin_turn.ensures.turn c.message_in_hand-answer.ensures.same.2 h.0 h.1 c.end_turn.ensures.view in
    t.0

pub returns-clause-told : goal.returns-clause-told
returns-clause-told g c =
    let m = g.W.World.meaning in
    let h = c.message_in_hand-answer.ensures.hand in
    let t = look_told m g.met.W.World.laws (known_in m c.args.seat.now.me) c.begin_turn.new.seat.me c.message_in_hand-answer.new.seat.me c.end_turn.new.seat.me c.begin_turn.ensures.turn c.message_in_hand-answer.ensures.same.2 h.0 h.1 c.end_turn.ensures.view in
    t.1

pub returns-clause-message : goal.returns-clause-message
returns-clause-message g c =
    let m = g.W.World.meaning in
    let h = c.message_in_hand-answer.ensures.hand in
    let t = look_told m g.met.W.World.laws (known_in m c.args.seat.now.me) c.begin_turn.new.seat.me c.message_in_hand-answer.new.seat.me c.end_turn.new.seat.me c.begin_turn.ensures.turn c.message_in_hand-answer.ensures.same.2 h.0 h.1 c.end_turn.ensures.view in
    subst (λ l. IfOk c.message_in_hand-answer.result (λ x. x ≡ message_at m l c.args.at)) (sym t.2) h.2

pub returns-clause-there : goal.returns-clause-there
returns-clause-there g c =
    let m = g.W.World.meaning in
    let h = c.message_in_hand-answer.ensures.hand in
    let t = look_told m g.met.W.World.laws (known_in m c.args.seat.now.me) c.begin_turn.new.seat.me c.message_in_hand-answer.new.seat.me c.end_turn.new.seat.me c.begin_turn.ensures.turn c.message_in_hand-answer.ensures.same.2 h.0 h.1 c.end_turn.ensures.view in
    answer_there m (known_in m c.end_turn.new.seat.me).seen c.args.at c.message_in_hand-answer.result (subst (λ l. IfOk c.message_in_hand-answer.result (λ x. x ≡ message_at m l c.args.at)) (sym t.2) h.2)
