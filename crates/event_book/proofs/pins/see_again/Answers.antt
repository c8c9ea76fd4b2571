use Rattle.std.proofs.Common.{arith, sym, subst, ◌<◌, ◌≡◌, ◌≢◌}
use Rattle.book_rule.specs.Notes.{count_of}
use Rattle.book_rule.specs.Pins.{saw_version, with_confirmed}
use Rattle.book_rule.specs.Seats.{HasNoted, known_in}
use Rattle.book_rule.proofs.PinSeats.{confirm_told, confirms_at}
use Rattle.event_book.proofs.pins.see_again.Goals as goal

pub load-requires : goal.load-requires
load-requires g c =
    let m = g.W.World.meaning in
    let k = known_in m c.args.seat.now.me in
    let words = c.requires.words in
    let at = c.version_word.ensures in
    let there = subst (λ v. 0 < count_of v k.note.raised) (sym c.requires.chosen) c.requires.raised in
    (c.requires.seat, omega arith, confirms_at m g.met.W.World.laws c.args.table.now.key _ _ c.args.seat.now.me c.requires.free c.version_word.result c.args.lane g.K.Chosen.chosen c.requires.lane there at)

pub returns-clause-found : goal.returns-clause-found
returns-clause-found g c = let m = g.W.World.meaning in
    subst (λ v. c.load.result ≡ v.0 → HasNoted m (with_confirmed v) c.args.seat.now.me c.load.new.seat.me) c.requires.chosen (confirm_told m g.K.Chosen.chosen c.args.seat.now.me c.load.new.seat.me c.load.result c.requires.free c.load.ensures.2).0

pub returns-clause-moved : goal.returns-clause-moved
returns-clause-moved g c = let m = g.W.World.meaning in
    subst (λ v. c.load.result ≢ v.0 → HasNoted m (saw_version c.load.result) c.args.seat.now.me c.load.new.seat.me) c.requires.chosen (confirm_told m g.K.Chosen.chosen c.args.seat.now.me c.load.new.seat.me c.load.result c.requires.free c.load.ensures.2).1
