use Rattle.std.proofs.Common.{inl, ◌∙◌}
use Rattle.cluster_program.specs.declared.status.Status.TheVariants.{Refused}
use Rattle.cluster_program.proofs.EndingLemmas.{said-parts}
use Rattle.cluster_program.proofs.endings.refuse.Goals as goal

pub returns-in-Ok-clause-came : goal.returns-in-Ok-clause-came
returns-in-Ok-clause-came g c =
    inl (said-parts Refused _ _ _ _ _ _ _ c.no_journal-journal.ensures (c.as_slice.ensures ∙ c.in-Ok.ensures) c.say.ensures.came)
