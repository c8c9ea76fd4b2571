use Rattle.std.proofs.Common.{arith}
use Rattle.book_rule.proofs.PinSeats.{noted_told, raises_at}
use Rattle.event_book.proofs.pins.raise_at.Goals as goal

pub fetch_add-requires : goal.fetch_add-requires
fetch_add-requires g c =
    let m = g.W.World.meaning in
    let words = c.requires.words in
    let at = c.pin_word.ensures in (c.requires.seat, omega arith, raises_at m g.met.W.World.laws c.args.table.now.key _ _ c.args.seat.now.me c.requires.free c.pin_word.result c.args.lane c.args.version c.requires.lane c.requires.version c.requires.room at)

pub returns-clause-told : goal.returns-clause-told
returns-clause-told g c = let m = g.W.World.meaning in noted_told m _ c.args.seat.now.me c.fetch_add.new.seat.me c.requires.free c.fetch_add.ensures.2
