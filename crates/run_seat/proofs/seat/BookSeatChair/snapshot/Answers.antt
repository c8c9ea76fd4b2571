use Rattle.std.proofs.Common.{subst, sym, ◌∙◌}
use Rattle.atomic_table.specs.Seated.{TableId}
use Rattle.engine_desk.specs.Chairs.{HasTurned, Known}
use Rattle.run_seat.proofs.TurnLemmas.{sat_stays, turned_so}
use Rattle.run_seat.proofs.PinLemmas.{pinnable_so, some_so}
use Rattle.run_seat.specs.Seated.{known_of}
use Rattle.run_seat.proofs.seat.BookSeatChair.snapshot.Goals as goal

pub invariant_of-self : goal.invariant_of-self
invariant_of-self g c =
    (c.snapshot.ensures.table ∙ c.self.invariant.0, sat_stays c.self.inside.seat.known c.snapshot.new.seat.known c.self.inside.idle c.snapshot.ensures.told.turn c.self.invariant.1)

pub returns-clause-turned : goal.returns-clause-turned
returns-clause-turned g c =
    let old = c.self.inside.seat in
    let new = c.snapshot.new.seat in
    subst (λ (k : Known). HasTurned k (known_of new.table new.known c.self.inside.idle)) c.self.view_is
    (subst (λ (t : TableId). HasTurned (known_of old.table old.known c.self.inside.idle) (known_of t new.known c.self.inside.idle)) (sym c.snapshot.ensures.table)
    (turned_so old.table old.known new.known c.self.inside.idle c.self.invariant.1 c.snapshot.ensures.told.turn c.snapshot.ensures.told.own))

pub returns-clause-pinned : goal.returns-clause-pinned
returns-clause-pinned g c =
    pinnable_so c.snapshot.new.seat.table c.self.inside.seat.known c.snapshot.new.seat.known c.self.inside.idle c.snapshot.ensures.told.turn

pub returns-clause-there : goal.returns-clause-there
returns-clause-there g c =
    λ lane pinned. c.snapshot.ensures.pinned lane pinned.0 (some_so c.args.version c.snapshot.new.seat.known.note.pins pinned.1)
