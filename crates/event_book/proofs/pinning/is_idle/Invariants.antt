use Rattle.std.proofs.Common.{◌≡◌, ◌≤◌, ◌-◌}
use Rattle.book_rule.specs.Pins.{IsIdleTo, HasLooked}
use Rattle.book_rule.specs.Seats.{IsFree, known_in}
use Rattle.event_book.proofs.pinning.is_idle.Given as goal

abbrev pub invariant-loop-back : goal.invariant-loop-back
invariant-loop-back g l = (l.seat.table_id ≡ l.initial.seat.table_id) × (l.seat.id ≡ l.initial.seat.id) × IsFree g.W.World.meaning l.seat.me × HasLooked (known_in g.W.World.meaning l.initial.seat.me) (known_in g.W.World.meaning l.seat.me)
    × IsIdleTo (known_in g.W.World.meaning l.seat.me).note l.version l.back × (1 ≤ l.back) × (l.back ≤ 8)

abbrev pub decreases-loop-back : goal.decreases-loop-back
decreases-loop-back g l = 8 - l.back
