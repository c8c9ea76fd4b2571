-- The law, by its lemma.
use Rattle.barrier_law.proofs.laws.law_hosts_lag_by_one.Goals as goal
use Rattle.barrier_law.proofs.BarrierLemmas.{lag}

pub returns : goal.returns
returns c = lag
