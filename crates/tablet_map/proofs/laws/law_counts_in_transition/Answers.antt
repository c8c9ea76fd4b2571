use Rattle.tablet_map.proofs.Counts.{count_behind, count_replaced}
use Rattle.tablet_map.proofs.laws.law_counts_in_transition.Goals as goal

pub returns-clause-both : goal.returns-clause-both
returns-clause-both c = λ test replicas t. count_behind test replicas t.pending

pub returns-clause-new : goal.returns-clause-new
returns-clause-new c = λ test replicas t in_it. count_replaced test t.leaving t.pending replicas in_it
