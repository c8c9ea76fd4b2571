-- The law, by its lemma.
use Rattle.barrier_law.proofs.laws.law_late_requests_are_refused.Goals as goal
use Rattle.barrier_law.proofs.LateLemmas.{freeze}

pub returns : goal.returns
returns c = freeze
