use Rattle.std.proofs.Common.{ap, sym, subst, ◌∙◌}
use Rattle.book_rule.specs.Seats.{known_by}
use Rattle.book_rule.specs.Turns.{HasKnown, has_actor}
use Rattle.event_book.proofs.book.Book.close.Goals as goal

pub close_table-requires-clause-all : goal.close_table-requires-clause-all
close_table-requires-clause-all g c = λ actor h. subst (λ l. HasKnown (known_by l) actor) (sym c.into_parts-keeper.ensures.seats.0) (c.requires.all actor (ap (λ b. has_actor b.about.actors actor) (sym c.self.view_is) ∙ h))
