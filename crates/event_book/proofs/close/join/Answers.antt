use Rattle.std.proofs.Common.{ap}
use Rattle.book_rule.proofs.SeatLemmas.{keeper_takes, keeper_took}
use Rattle.event_book.proofs.close.join.Goals as goal

pub join_seat-requires : goal.join_seat-requires
join_seat-requires g c = let k = c.requires.keeper in (k.0, c.requires.seat.0, ap (λ v. v.1) c.requires.seat.1, c.requires.table, keeper_takes g.W.World.meaning c.args.table.now.key c.args.keeper.now.id c.args.inner.id c.args.keeper.now.me c.args.inner.me c.requires.seat.1 k.1.0 k.1.1)

pub returns-clause-view : goal.returns-clause-view
returns-clause-view g c = keeper_took g.W.World.meaning c.args.keeper.now.me c.join_seat.new.seat.me c.args.inner.me c.requires.seat.1 c.join_seat.ensures.2
