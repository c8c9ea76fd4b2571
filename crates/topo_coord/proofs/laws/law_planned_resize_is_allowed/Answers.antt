use Rattle.topo_coord.proofs.AllowedLemmas.{resize_allowed}
use Rattle.topo_coord.proofs.laws.law_planned_resize_is_allowed.Goals as goal

pub returns : goal.returns
returns c = resize_allowed
