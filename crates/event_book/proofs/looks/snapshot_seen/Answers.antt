use Rattle.std.proofs.Common.{◌≡◌, subst, IfOk}
use Rattle.book_rule.proofs.SeatLemmas.{look_passes, look_told, snapshot_answered, takes_any}
use Rattle.book_rule.specs.Seats.{known_in}
use Rattle.event_book.proofs.looks.snapshot_seen.Goals as goal

pub snapshot_in_hand-answer-requires-clause-hand : goal.snapshot_in_hand-answer-requires-clause-hand
snapshot_in_hand-answer-requires-clause-hand g c = takes_any g.W.World.meaning _ c.begin_turn.new.seat.me c.begin_turn.ensures.turn

pub end_turn-requires-clause-turn : goal.end_turn-requires-clause-turn
end_turn-requires-clause-turn g c =
    let m = g.W.World.meaning in
    let h = c.snapshot_in_hand-answer.ensures.hand in
    look_passes m g.met.W.World.laws (known_in m c.args.seat.now.me) c.begin_turn.new.seat.me c.snapshot_in_hand-answer.new.seat.me c.snapshot_in_hand-answer.new.seat.me c.begin_turn.ensures.turn c.snapshot_in_hand-answer.ensures.same.2 h.0 h.1

pub returns-clause-free : goal.returns-clause-free
returns-clause-free g c =
    let m = g.W.World.meaning in
    let h = c.snapshot_in_hand-answer.ensures.hand in
    let t = look_told m g.met.W.World.laws (known_in m c.args.seat.now.me) c.begin_turn.new.seat.me c.snapshot_in_hand-answer.new.seat.me c.end_turn.new.seat.me c.begin_turn.ensures.turn c.snapshot_in_hand-answer.ensures.same.2 h.0 h.1 c.end_turn.ensures.view in
    t.0

pub returns-clause-told : goal.returns-clause-told
returns-clause-told g c =
    let m = g.W.World.meaning in
    let h = c.snapshot_in_hand-answer.ensures.hand in
    let t = look_told m g.met.W.World.laws (known_in m c.args.seat.now.me) c.begin_turn.new.seat.me c.snapshot_in_hand-answer.new.seat.me c.end_turn.new.seat.me c.begin_turn.ensures.turn c.snapshot_in_hand-answer.ensures.same.2 h.0 h.1 c.end_turn.ensures.view in
    t.1

pub returns-clause-snapshot : goal.returns-clause-snapshot
returns-clause-snapshot g c =
    let m = g.W.World.meaning in
    let h = c.snapshot_in_hand-answer.ensures.hand in
    let t = look_told m g.met.W.World.laws (known_in m c.args.seat.now.me) c.begin_turn.new.seat.me c.snapshot_in_hand-answer.new.seat.me c.end_turn.new.seat.me c.begin_turn.ensures.turn c.snapshot_in_hand-answer.ensures.same.2 h.0 h.1 c.end_turn.ensures.view in
    subst (λ l. IfOk c.snapshot_in_hand-answer.result (λ x. x ≡ m.snapshot_at (known_in m c.end_turn.new.seat.me).opening l c.args.version)) t.4 (subst (λ o. IfOk c.snapshot_in_hand-answer.result (λ x. x ≡ m.snapshot_at o (m.commands (h.0).world) c.args.version)) t.3 h.2)

pub returns-clause-pinned : goal.returns-clause-pinned
returns-clause-pinned g c =
    let m = g.W.World.meaning in
    let h = c.snapshot_in_hand-answer.ensures.hand in
    let t = look_told m g.met.W.World.laws (known_in m c.args.seat.now.me) c.begin_turn.new.seat.me c.snapshot_in_hand-answer.new.seat.me c.end_turn.new.seat.me c.begin_turn.ensures.turn c.snapshot_in_hand-answer.ensures.same.2 h.0 h.1 c.end_turn.ensures.view in
    λ lane is there. snapshot_answered m g.met.W.World.laws (known_in m c.args.seat.now.me) (known_in m c.end_turn.new.seat.me) t.1.turn lane is c.args.version there c.snapshot_in_hand-answer.result (subst (λ l. IfOk c.snapshot_in_hand-answer.result (λ x. x ≡ m.snapshot_at (known_in m c.end_turn.new.seat.me).opening l c.args.version)) t.4 (subst (λ o. IfOk c.snapshot_in_hand-answer.result (λ x. x ≡ m.snapshot_at o (m.commands (h.0).world) c.args.version)) t.3 h.2))
