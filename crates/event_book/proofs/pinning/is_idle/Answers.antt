use Rattle.std.proofs.Common.{rules, refl, arith, [], true, ◌<◌, ◌∙◌, ◌≡◌}
use Rattle.book_rule.proofs.PinSeats.{looked_more}
use Rattle.book_rule.specs.Seats.{known_in}
use Rattle.event_book.proofs.pinning.is_idle.Goals as goal

pub loop-back-init : goal.loop-back-init
loop-back-init g c = (refl, refl, c.requires.free, ([], refl), (λ b p q r. absurd (omega arith)), omega arith, omega arith)

pub returns-then-not-is_idle_back-clause-told : goal.returns-then-not-is_idle_back-clause-told
returns-then-not-is_idle_back-clause-told g c = let m = g.W.World.meaning in
    looked_more (known_in m c.args.seat.now.me) (known_in m c.loop-back.seat.me) (known_in m c.is_idle_back.new.seat.me) c.loop-back.invariant.3 c.is_idle_back.ensures.told

pub loop-back-preserved : goal.loop-back-preserved
loop-back-preserved g c =
    let m = g.W.World.meaning in
    let was = c.loop-back.invariant in
    let idle : c.is_idle_back.result ≡ true = search rules in
    let below : c.loop-back.back < 8 = c.loop-back-test.true in (
      c.is_idle_back.ensures.same.0 ∙ was.0,
      c.is_idle_back.ensures.same.1 ∙ was.1,
      c.is_idle_back.ensures.free,
      looked_more (known_in m c.args.seat.now.me) (known_in m c.loop-back.seat.me) (known_in m c.is_idle_back.new.seat.me) was.3 c.is_idle_back.ensures.told,
      c.is_idle_back.ensures.idle idle was.4,
      omega arith,
      omega arith,
    )
