use Rattle.std.proofs.Common.{subst, sym, ◌∙◌}
use Rattle.atomic_table.specs.Seated.{TableId}
use Rattle.engine_desk.specs.Chairs.{IsCommit, Known, MayCommit}
use Rattle.run_seat.proofs.ReadyLemmas.{may_commit}
use Rattle.run_seat.proofs.TurnLemmas.{commit_so, sat_stays}
use Rattle.run_seat.specs.Seated.{known_of}
use Rattle.run_seat.proofs.seat.BookSeatChair.commit.Goals as goal

pub commit-answer-requires-clause-ready : goal.commit-answer-requires-clause-ready
commit-answer-requires-clause-ready g c =
    let old = c.self.inside.seat in
    may_commit old.table old.known c.self.inside.idle c.args.entry c.self.invariant.1 (subst (λ (k : Known). MayCommit k c.args.entry) (sym c.self.view_is) c.requires)

pub invariant_of-self : goal.invariant_of-self
invariant_of-self g c =
    (c.commit-answer.ensures.table ∙ c.self.invariant.0, sat_stays c.self.inside.seat.known c.commit-answer.new.seat.known c.self.inside.idle c.commit-answer.ensures.turn c.self.invariant.1)

pub returns : goal.returns
returns g c =
    let old = c.self.inside.seat in
    let new = c.commit-answer.new.seat in
    subst (λ (k : Known). IsCommit k c.args.entry c.number_of.result (known_of new.table new.known c.self.inside.idle)) c.self.view_is
    (subst (λ (t : TableId). IsCommit (known_of old.table old.known c.self.inside.idle) c.args.entry c.number_of.result (known_of t new.known c.self.inside.idle)) (sym c.commit-answer.ensures.table)
    (commit_so old.table old.known new.known c.self.inside.idle c.args.entry c.commit-answer.result c.number_of.result c.self.invariant.1 c.commit-answer.ensures.turn c.number_of.ensures.ok c.number_of.ensures.err c.commit-answer.ensures.ok c.commit-answer.ensures.err))
