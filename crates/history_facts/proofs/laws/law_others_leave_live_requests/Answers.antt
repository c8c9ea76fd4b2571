-- The law, by its lemma.
use Rattle.history_facts.proofs.laws.law_others_leave_live_requests.Goals as goal
use Rattle.history_facts.proofs.OtherLemmas.{others_leave_live_requests}

pub returns : goal.returns
returns c = others_leave_live_requests
