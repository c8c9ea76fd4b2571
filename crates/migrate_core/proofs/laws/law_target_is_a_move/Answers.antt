use Rattle.migrate_core.proofs.PlanLemmas.{target_ok}
use Rattle.migrate_core.proofs.laws.law_target_is_a_move.Goals as goal

pub returns : goal.returns
returns c = target_ok
