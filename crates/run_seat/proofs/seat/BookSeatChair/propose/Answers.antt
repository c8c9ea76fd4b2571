use Rattle.std.proofs.Common.{ap, subst, sym, ◌≡◌, ◌∙◌}
use Rattle.atomic_table.specs.Seated.{TableId}
use Rattle.base_ids.specs.declared.ids.Actor.TheVariants.{Topo as ByTopo}
use Rattle.engine_desk.specs.Chairs.{IsProposal, Known, MayPropose}
use Rattle.run_seat.proofs.ReadyLemmas.{may_propose, read_so}
use Rattle.run_seat.proofs.TurnLemmas.{propose_so, proposed_so, sat_stays}
use Rattle.run_seat.specs.Seated.{known_of}
use Rattle.run_seat.proofs.seat.BookSeatChair.propose.Goals as goal

pub propose-answer-requires-clause-read : goal.propose-answer-requires-clause-read
propose-answer-requires-clause-read g c =
    let old = c.self.inside.seat in
    read_so old.table old.known c.self.inside.idle c.args.topo c.args.read c.args.command (subst (λ (k : Known). MayPropose k c.args.topo c.args.read c.args.command) (sym c.self.view_is) c.requires)

pub propose-answer-requires-clause-ready : goal.propose-answer-requires-clause-ready
propose-answer-requires-clause-ready g c =
    let old = c.self.inside.seat in
    may_propose old.table old.known c.self.inside.idle c.args.topo c.args.read c.args.command c.self.invariant.1 (subst (λ (k : Known). MayPropose k c.args.topo c.args.read c.args.command) (sym c.self.view_is) c.requires)

pub invariant_of-self : goal.invariant_of-self
invariant_of-self g c =
    (c.propose-answer.ensures.table ∙ c.self.invariant.0, sat_stays c.self.inside.seat.known c.propose-answer.new.seat.known c.self.inside.idle c.propose-answer.ensures.turn c.self.invariant.1)

pub returns : goal.returns
returns g c =
    let old = c.self.inside.seat in
    let new = c.propose-answer.new.seat in
    let actor : old.known.actor ≡ ByTopo c.args.topo = ap (λ (k : Known). k.actor) c.self.view_is ∙ c.requires.author in
    subst (λ (k : Known). IsProposal k c.args.topo c.args.command c.outcome_of.result (known_of new.table new.known c.self.inside.idle)) c.self.view_is
    (subst (λ (t : TableId). IsProposal (known_of old.table old.known c.self.inside.idle) c.args.topo c.args.command c.outcome_of.result (known_of t new.known c.self.inside.idle)) (sym c.propose-answer.ensures.table)
    (propose_so old.table old.known new.known c.self.inside.idle c.args.topo c.args.command c.propose-answer.result c.outcome_of.result c.self.invariant.1 c.propose-answer.ensures.turn actor c.outcome_of.ensures.ok c.outcome_of.ensures.err (proposed_so old.known new.known c.args.read c.args.command c.propose-answer.result c.propose-answer.ensures.ok) c.propose-answer.ensures.err))
