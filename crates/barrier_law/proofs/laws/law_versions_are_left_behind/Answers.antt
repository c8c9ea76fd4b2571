-- The law, by its lemma.
use Rattle.barrier_law.proofs.laws.law_versions_are_left_behind.Goals as goal
use Rattle.barrier_law.proofs.BarrierLemmas.{barrier}

pub returns : goal.returns
returns c = barrier
