use Rattle.std.proofs.Common.{arith}
use Rattle.book_rule.proofs.PinSeats.{noted_told, sees_at}
use Rattle.event_book.proofs.pins.see.Goals as goal

pub load-requires : goal.load-requires
load-requires g c =
    let m = g.W.World.meaning in
    let words = c.requires.words in
    let at = c.version_word.ensures in (c.requires.seat, omega arith, sees_at m g.met.W.World.laws c.args.table.now.key _ _ c.args.seat.now.me c.requires.free c.version_word.result c.args.lane c.requires.lane at)

pub returns-clause-told : goal.returns-clause-told
returns-clause-told g c = let m = g.W.World.meaning in noted_told m _ c.args.seat.now.me c.load.new.seat.me c.requires.free c.load.ensures.2
