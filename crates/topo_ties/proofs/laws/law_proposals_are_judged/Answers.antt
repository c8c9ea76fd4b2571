use Rattle.topo_ties.proofs.laws.law_proposals_are_judged.Goals as goal
use Rattle.topo_ties.proofs.TopoTies.{proposals_are_judged}

pub returns : goal.returns
returns c = proposals_are_judged
