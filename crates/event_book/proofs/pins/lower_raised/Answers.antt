use Rattle.std.proofs.Common.{ap, arith, sym, subst, ◌∙◌, ◌<◌, ◌%◌}
use Rattle.book_rule.specs.Notes.{count_of, pin_word}
use Rattle.book_rule.specs.Pins.{without_raised}
use Rattle.book_rule.specs.Seats.{HasNoted, known_in}
use Rattle.book_rule.proofs.PinSeats.{lowers_raised_at, noted_told}
use Rattle.event_book.proofs.pins.lower_raised.Goals as goal

pub fetch_sub-requires : goal.fetch_sub-requires
fetch_sub-requires g c =
    let m = g.W.World.meaning in
    let k = known_in m c.args.seat.now.me in
    let chosen = g.K.Chosen.chosen in
    let words = c.requires.words in
    let at = c.pin_word.ensures in
    let there = subst (λ v. 0 < count_of v k.note.raised) (sym c.requires.chosen) c.requires.raised in
    (c.requires.seat, omega arith, lowers_raised_at m g.met.W.World.laws c.args.table.now.key _ _ c.args.seat.now.me c.requires.free c.pin_word.result c.args.lane chosen c.requires.lane there (at ∙ ap (λ v. pin_word c.args.lane.host.0 (v.0 % 8)) (sym c.requires.chosen)))

pub returns-clause-told : goal.returns-clause-told
returns-clause-told g c = let m = g.W.World.meaning in
    subst (λ v. HasNoted m (without_raised v) c.args.seat.now.me c.fetch_sub.new.seat.me) c.requires.chosen (noted_told m _ c.args.seat.now.me c.fetch_sub.new.seat.me c.requires.free c.fetch_sub.ensures.2)
