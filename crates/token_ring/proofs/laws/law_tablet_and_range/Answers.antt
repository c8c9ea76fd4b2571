use Rattle.token_ring.proofs.Offsets.{between_has_tablet, tablet_is_between}
use Rattle.token_ring.proofs.laws.law_tablet_and_range.Goals as goal

pub returns : goal.returns
returns c =
    λ log2 tablet token few within.
    (between_has_tablet log2 tablet token.value token.is_token, tablet_is_between log2 tablet token.value token.is_token)
