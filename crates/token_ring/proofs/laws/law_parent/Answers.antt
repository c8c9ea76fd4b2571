use Rattle.std.proofs.Common.{arith}
use Rattle.token_ring.proofs.Offsets.{parent_tablet}
use Rattle.token_ring.specs.Ring.{offset}
use Rattle.token_ring.proofs.laws.law_parent.Goals as goal

pub returns : goal.returns
returns c = λ log2 token below. parent_tablet log2 (offset token.value) (omega arith)
