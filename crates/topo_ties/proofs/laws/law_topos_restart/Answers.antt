use Rattle.topo_ties.proofs.laws.law_topos_restart.Goals as goal
use Rattle.topo_ties.proofs.TopoTies.{topos_restart}

pub returns : goal.returns
returns c = topos_restart
