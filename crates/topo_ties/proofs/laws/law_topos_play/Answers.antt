use Rattle.topo_ties.proofs.laws.law_topos_play.Goals as goal
use Rattle.topo_ties.proofs.TopoTies.{topos_play}

pub returns : goal.returns
returns c = topos_play
