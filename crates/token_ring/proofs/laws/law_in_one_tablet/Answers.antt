use Rattle.std.proofs.Common.{arith}
use Rattle.token_ring.proofs.Offsets.{offset_below, tablet_below}
use Rattle.token_ring.specs.Ring.{offset}
use Rattle.token_ring.proofs.laws.law_in_one_tablet.Goals as goal

pub returns : goal.returns
returns c = λ log2 token few. tablet_below log2 (offset token.value) (omega arith) (offset_below token.value token.is_token)
