use Rattle.token_ring.proofs.Offsets.{children_follow}
use Rattle.token_ring.proofs.laws.law_children.Goals as goal

pub returns : goal.returns
returns c = λ log2 tablet below within. children_follow log2 tablet below
