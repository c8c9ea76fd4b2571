use Rattle.std.proofs.Common.{arith}
use Rattle.book_rule.proofs.PinSeats.{looks_at_pins_at, pins_seen}
use Rattle.event_book.proofs.pins.look_pins.Goals as goal

pub load-requires : goal.load-requires
load-requires g c =
    let m = g.W.World.meaning in
    let words = c.requires.words in
    let at = c.pin_word.ensures in (c.requires.seat, omega arith, looks_at_pins_at m g.met.W.World.laws c.args.table.now.key _ _ c.args.seat.now.me c.requires.free c.pin_word.result c.args.host c.args.version c.requires.host at)

pub returns-clause-told : goal.returns-clause-told
returns-clause-told g c = let m = g.W.World.meaning in pins_seen m g.met.W.World.laws c.args.table.now.key c.args.table.now.table_id.slots c.args.seat.now.id c.args.seat.now.me c.requires.free c.pin_word.result c.load.new.seat.me c.load.result c.args.host c.args.version c.pin_word.ensures c.load.ensures.2
