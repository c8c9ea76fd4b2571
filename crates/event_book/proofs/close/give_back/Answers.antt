use Rattle.std.proofs.Common.{subst, ◌∷◌}
use Rattle.book_rule.specs.Seats.{IsKeeper}
use Rattle.event_book.proofs.close.give_back.Goals as goal

pub returns-clause-view : goal.returns-clause-view
returns-clause-view g c = λ ended has. subst (λ k. IsKeeper (k ∷ ended) c.join.new.keeper.me) c.into_inner.ensures.known (c.join.ensures.view ended has)
