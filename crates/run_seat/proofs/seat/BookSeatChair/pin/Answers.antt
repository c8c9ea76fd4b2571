use Rattle.std.proofs.Common.{◌∙◌}
use Rattle.run_seat.proofs.PinLemmas.{confirmed_sat}
use Rattle.run_seat.proofs.seat.BookSeatChair.pin.Goals as goal

pub invariant_of-self : goal.invariant_of-self
invariant_of-self c =
    (c.pin.ensures.table ∙ c.self.invariant.0, confirmed_sat c.self.inside.seat.known c.pin.new.seat.known c.self.inside.idle c.pin.result c.self.invariant.1 c.pin.ensures.known)
