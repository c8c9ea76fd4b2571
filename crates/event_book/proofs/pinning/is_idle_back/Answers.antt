use Rattle.std.proofs.Common.{arith, eq-eqb, refl, sym, subst, true≢false, [], ◌∷◌, ◌+◌, ◌-◌, ◌<◌, ◌%◌, ◌∙◌}
use Rattle.std.proofs.lemmas.Bool.{eqb-true}
use mathlib.Core.Logic.{dite}
use native.Mathlib.Decide.{ℕ_discrete}
use Rattle.book_rule.proofs.PinSeats.{busy_there, idle_next}
use Rattle.book_rule.specs.Notes.{IsBusy, look_at}
use Rattle.book_rule.specs.Pins.{IsIdleTo, with_look}
use Rattle.book_rule.specs.Seats.{known_in}
use Rattle.event_book.proofs.pinning.is_idle_back.Goals as goal

pub returns-then-version-back-clause-told : goal.returns-then-version-back-clause-told
returns-then-version-back-clause-told g c = ([], refl)

pub returns-clause-told : goal.returns-clause-told
returns-clause-told g c =
    let word = (c.args.version.0 - c.args.back) % 8 in
    (look_at word c.look_pins-found.result ∷ [], c.look_pins-found.ensures.told.1)

pub returns-clause-idle : goal.returns-clause-idle
returns-clause-idle g c = λ e idle.
    let k = known_in g.W.World.meaning c.args.seat.now.me in
    let word = (c.args.version.0 - c.args.back) % 8 in
    let z = eqb-true c.look_pins-found.result 0 e in
    let looked = c.look_pins-found.ensures.told.1 in
    subst (λ y. IsIdleTo y.note c.args.version (c.args.back + 1)) (sym looked) (subst (λ n. IsIdleTo (with_look word n k.note) c.args.version (c.args.back + 1)) (sym z) (idle_next k.note c.args.version c.args.back idle))

pub returns-clause-busy : goal.returns-clause-busy
returns-clause-busy g c = λ e.
    let k = known_in g.W.World.meaning c.args.seat.now.me in
    let found = c.look_pins-found.result in
    let there : c.args.back < c.args.version.0 = omega (arith, c.if-version-back.false) in
    dite (ℕ_discrete found 0)
    (λ z. absurd (true≢false (sym (eq-eqb found 0 z) ∙ e)))
    (λ ne. let some_pin : 0 < found = omega arith in
    subst (λ y. IsBusy y.note c.args.version) (sym c.look_pins-found.ensures.told.1) (busy_there k.note c.args.version c.args.back found c.requires.seven.0 c.requires.seven.1 there some_pin))
