use Rattle.topo_ties.proofs.laws.law_topos_have_inputs.Goals as goal
use Rattle.topo_ties.proofs.TopoTies.{topos_have_inputs}

pub returns : goal.returns
returns c = topos_have_inputs
