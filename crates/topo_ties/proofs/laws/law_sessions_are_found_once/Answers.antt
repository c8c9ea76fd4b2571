use Rattle.topo_ties.proofs.laws.law_sessions_are_found_once.Goals as goal
use Rattle.topo_ties.proofs.FoundLemmas.{sessions_are_found_once}

pub returns : goal.returns
returns c = sessions_are_found_once
