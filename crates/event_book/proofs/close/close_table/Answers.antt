use Rattle.std.proofs.Common.{ap}
use Rattle.book_rule.proofs.Seating.{closes}
use Rattle.event_book.proofs.close.close_table.Goals as goal

pub returns : goal.returns
returns g c = let k = c.gather.ensures.keeper in closes g.W.World.meaning c.args.table.shared.key _ _ _ _ _ _ _ (ap (λ v. v.0) k.1) c.requires.all c.close_with-closed.ensures.values.2 c.take-journal.result c.take-journal.ensures.value
