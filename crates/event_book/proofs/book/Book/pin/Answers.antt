use Rattle.std.proofs.Common.{ap, arith, eq-eqb, refl, subst, sym, ◌<◌, ◌==◌, ◌≡◌}
use Rattle.book_rule.specs.Notes.{count_of, one_if}
use Rattle.book_rule.specs.Pins.{IsConfirmed}
use Rattle.event_book.proofs.book.Book.pin.Goals as goal

pub confirm-requires-clause-raised : goal.confirm-requires-clause-raised
confirm-requires-clause-raised g c =
    let saw = c.raise-raised.result.saw in
    let one : one_if (saw.0 == saw.0) ≡ 1 = ap one_if (eq-eqb saw.0 saw.0 refl) in
    subst (λ k. 0 < count_of saw k.note.raised) (sym c.raise-raised.ensures.known) (omega arith)

pub returns-clause-known : goal.returns-clause-known
returns-clause-known g c = (c.raise-raised.result.saw, subst (λ k. IsConfirmed k c.confirm.new.seat.known c.raise-raised.result.saw c.confirm.result) c.raise-raised.ensures.known c.confirm.ensures.known)
