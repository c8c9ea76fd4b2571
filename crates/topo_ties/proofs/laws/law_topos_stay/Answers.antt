use Rattle.topo_ties.proofs.laws.law_topos_stay.Goals as goal
use Rattle.topo_ties.proofs.TopoTies.{topos_stay}

pub returns : goal.returns
returns c = topos_stay
