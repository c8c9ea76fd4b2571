use Rattle.std.proofs.Common.{rules, ap, refl, arith, get_or, length, [], ◌∙◌, ◌≡◌, ◌<◌, ◌≤◌, ◌+◌, ◌*◌}
use Rattle.base_ids.specs.declared.ids.Actor.{Actor}
use Rattle.base_ids.specs.declared.ids.Actor.TheVariants.{Host as ByHost}
use Rattle.book_rule.proofs.Seating.{splits}
use Rattle.book_rule.specs.Notes.{hosts_of}
use Rattle.std.specs.Vec.{vec_capacity}
use Rattle.event_book.proofs.OpenLemmas.{host_below, keeper_after, keeper_view, seat_free, seat_knows, seats_next}
use Rattle.event_book.proofs.open.hand_out.Goals as goal

pub split_seat-inner-requires : goal.split_seat-inner-requires
split_seat-inner-requires g c =
    let d : Actor = ByHost (record { 0 = 0 }) in
    let inv = c.loop-i.invariant in
    let less : c.loop-i.i < length c.args.actors.now = search rules in
    let w = c.requires.words in
    (inv.0, omega arith, splits g.W.World.meaning c.args.table.now.key _ _ _ _ _ [] (keeper_view g.W.World.meaning c.args.table.now.key.opening c.args.actors.now c.loop-i.i (get_or c.args.actors.now c.loop-i.i d) d less refl c.loop-i.keeper.me inv.1))

pub seat_of-requires-clause-free : goal.seat_of-requires-clause-free
seat_of-requires-clause-free g c =
    let d : Actor = ByHost (record { 0 = 0 }) in
    let inv = c.loop-i.invariant in
    let less : c.loop-i.i < length c.args.actors.now = search rules in
    seat_free g.W.World.meaning c.args.table.now.key.opening c.args.actors.now c.loop-i.i (get_or c.args.actors.now c.loop-i.i d) d less refl c.loop-i.keeper.me inv.1 c.split_seat-inner.result.me c.split_seat-inner.ensures.4

pub seat_of-requires-clause-words : goal.seat_of-requires-clause-words
seat_of-requires-clause-words g c =
    let d : Actor = ByHost (record { 0 = 0 }) in
    let inv = c.loop-i.invariant in
    let less : c.loop-i.i < length c.args.actors.now = search rules in
    let below = host_below c.args.actors.now c.loop-i.i d less in
    let w : c.split_seat-inner.result.table_id.words ≡ 2 + 9 * hosts_of c.args.actors.now = ap (λ z. z.words) (c.split_seat-inner.ensures.3 ∙ inv.0) ∙ c.requires.words in
    omega arith

pub loop-i-preserved : goal.loop-i-preserved
loop-i-preserved g c =
    let d : Actor = ByHost (record { 0 = 0 }) in
    let m = g.W.World.meaning in
    let o = c.args.table.now.key.opening in
    let actors = c.args.actors.now in
    let a : Actor = get_or actors c.loop-i.i d in
    let inv = c.loop-i.invariant in
    let s = c.split_seat-inner.ensures in
    let less : c.loop-i.i < length c.args.actors.now = search rules in
    let room : vec_capacity c.loop-i.seats ≤ vec_capacity c.push.new.self = c.push.ensures.capacity in
    let cap : length c.args.actors.now ≤ vec_capacity c.loop-i.seats = inv.4 in (
      s.0 ∙ inv.0,
      keeper_after m o actors c.loop-i.i a d less refl c.loop-i.keeper.me inv.1 c.split_seat-inner.new.seat.me s.2,
      seats_next m o actors c.loop-i.i a d less refl c.args.table.now.table_id c.loop-i.seats.items c.push.new.self.items c.seat_of.result inv.2 c.in_ok-push.ensures.items (c.seat_of.ensures.0 ∙ (s.3 ∙ inv.0)) (c.seat_of.ensures.1 ∙ seat_knows m o actors c.loop-i.i a d less refl c.loop-i.keeper.me inv.1 c.split_seat-inner.result.me s.4),
      omega arith,
      omega arith,
    )
