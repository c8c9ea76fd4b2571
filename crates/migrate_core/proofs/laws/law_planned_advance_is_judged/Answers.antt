use Rattle.migrate_core.proofs.JudgedLemmas.{planned_is_judged}
use Rattle.migrate_core.proofs.laws.law_planned_advance_is_judged.Goals as goal

pub returns : goal.returns
returns c = planned_is_judged
