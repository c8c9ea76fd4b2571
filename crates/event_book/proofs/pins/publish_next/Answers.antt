use Rattle.std.proofs.Common.{rules, arith}
use Rattle.book_rule.proofs.PinSeats.{noted_told, publishes_at}
use Rattle.event_book.proofs.pins.publish_next.Goals as goal

pub store-requires : goal.store-requires
store-requires g c =
    let m = g.W.World.meaning in
    let words = c.requires.words in
    let at = c.version_word.ensures in let v = c.requires.empty in (c.requires.seat, omega arith, publishes_at m g.met.W.World.laws c.args.table.now.key _ _ c.args.seat.now.me c.requires.free c.version_word.result c.args.host v.0 c.args.version.0 c.requires.host c.requires.next v.1 c.requires.reached (search rules) at)

pub returns-clause-told : goal.returns-clause-told
returns-clause-told g c = let m = g.W.World.meaning in noted_told m _ c.args.seat.now.me c.store.new.seat.me c.requires.free c.store.ensures.2
