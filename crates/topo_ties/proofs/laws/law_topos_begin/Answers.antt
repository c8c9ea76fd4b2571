use Rattle.topo_ties.proofs.laws.law_topos_begin.Goals as goal
use Rattle.topo_ties.proofs.TopoTies.{topos_begin}

pub returns : goal.returns
returns c = topos_begin
