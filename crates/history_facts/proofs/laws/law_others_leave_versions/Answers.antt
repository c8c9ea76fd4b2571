-- The law, by its lemma.
use Rattle.history_facts.proofs.laws.law_others_leave_versions.Goals as goal
use Rattle.history_facts.proofs.OtherLemmas.{others_leave_versions}

pub returns : goal.returns
returns c = others_leave_versions
