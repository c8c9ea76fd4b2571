use Rattle.barrier_core.proofs.FactLemmas.{reverse-insert_key, kinds-kept}
use Rattle.barrier_core.proofs.evidence.Evidence.note.Goals as goal

pub invariant_of-self : goal.invariant_of-self
invariant_of-self c = λ what.
    rw (c.in-Ok-insert.ensures.keys, c.in-Ok.ensures.keys) (
    kinds-kept c.self.inside.kinds.keys c.self.inside.told.keys c.args.fact.now c.self.invariant what
    )

pub returns-clause-facts : goal.returns-clause-facts
returns-clause-facts c =
    rw (← c.self.view_is, c.in-Ok.ensures.keys) (reverse-insert_key c.self.inside.told.keys c.args.fact.now)
