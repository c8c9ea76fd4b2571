use Rattle.std.proofs.Common.{subst, sym, ◌∙◌}
use Rattle.engine_desk.specs.Chairs.{HasSpare, Known}
use Rattle.run_seat.proofs.PinLemmas.{unpinned_sat}
use Rattle.run_seat.proofs.ReadyLemmas.{spare_so}
use Rattle.run_seat.proofs.seat.BookSeatChair.unpin.Goals as goal

pub unpin-requires-clause-spare : goal.unpin-requires-clause-spare
unpin-requires-clause-spare c =
    let old = c.self.inside.seat in
    spare_so old.table old.known c.self.inside.idle c.args.version (subst (λ (k : Known). HasSpare k c.args.version) (sym c.self.view_is) c.requires)

pub invariant_of-self : goal.invariant_of-self
invariant_of-self c =
    (c.unpin.ensures.table ∙ c.self.invariant.0, unpinned_sat c.self.inside.seat.known c.unpin.new.seat.known c.self.inside.idle c.args.version c.self.invariant.1 c.unpin.ensures.known)
