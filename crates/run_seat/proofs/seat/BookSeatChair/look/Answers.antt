use Rattle.std.proofs.Common.{ap, subst, sym, ◌∙◌}
use Rattle.atomic_table.specs.Seated.{TableId}
use Rattle.engine_desk.specs.Chairs.{IsLook, Known}
use Rattle.run_seat.proofs.ReadyLemmas.{may_look}
use Rattle.book_rule.specs.Turns.{IsReady}
use Rattle.run_seat.proofs.TurnLemmas.{entered_look, look_so, sat_stays}
use Rattle.world_law.specs.Worlds.{run_meaning}
use Rattle.run_seat.specs.Seated.{known_of}
use Rattle.run_seat.proofs.seat.BookSeatChair.look.Goals as goal

pub commit-answer-requires-clause-ready : goal.commit-answer-requires-clause-ready
commit-answer-requires-clause-ready g c =
    subst (IsReady run_meaning c.self.inside.seat.known) (sym c.look_of-entry.ensures)
    (may_look c.self.inside.seat.known c.self.inside.idle c.args.topo c.self.invariant.1 (ap (λ (k : Known). k.actor) c.self.view_is ∙ c.requires))

pub invariant_of-self : goal.invariant_of-self
invariant_of-self g c =
    (c.commit-answer.ensures.table ∙ c.self.invariant.0, sat_stays c.self.inside.seat.known c.commit-answer.new.seat.known c.self.inside.idle c.commit-answer.ensures.turn c.self.invariant.1)

pub returns : goal.returns
returns g c =
    let old = c.self.inside.seat in
    let new = c.commit-answer.new.seat in
    subst (λ (k : Known). IsLook k c.args.topo c.commands_of.result (known_of new.table new.known c.self.inside.idle)) c.self.view_is
    (subst (λ (t : TableId). IsLook (known_of old.table old.known c.self.inside.idle) c.args.topo c.commands_of.result (known_of t new.known c.self.inside.idle)) (sym c.commit-answer.ensures.table)
    (look_so old.table old.known new.known c.self.inside.idle c.args.topo c.commit-answer.result c.commands_of.result c.self.invariant.1 c.commit-answer.ensures.turn c.commands_of.ensures.ok c.commands_of.ensures.err
    (entered_look c.self.inside.seat.known new.known c.args.topo c.look_of-entry.result c.commit-answer.result c.look_of-entry.ensures c.commit-answer.ensures.ok) c.commit-answer.ensures.err))
