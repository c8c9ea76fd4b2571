use Rattle.further_report.proofs.PlannedLemmas.{plans_are_made}
use Rattle.further_report.proofs.laws.law_plans_are_made.Goals as goal

pub returns : goal.returns
returns c = plans_are_made
