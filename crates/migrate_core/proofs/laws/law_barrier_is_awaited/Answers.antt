use Rattle.migrate_core.proofs.PlanLemmas.{barrier_awaited}
use Rattle.migrate_core.proofs.laws.law_barrier_is_awaited.Goals as goal

pub returns : goal.returns
returns c = barrier_awaited
