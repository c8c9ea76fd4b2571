-- The law, by its lemma.
use Rattle.history_facts.proofs.laws.law_others_leave_floors.Goals as goal
use Rattle.history_facts.proofs.OtherLemmas.{others_leave_floors}

pub returns : goal.returns
returns c = others_leave_floors
