use Rattle.topo_coord.proofs.AllowedLemmas.{move_allowed}
use Rattle.topo_coord.proofs.laws.law_planned_move_is_allowed.Goals as goal

pub returns : goal.returns
returns c = move_allowed
