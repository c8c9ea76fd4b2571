use Rattle.token_ring.proofs.Tokens.{same_token}
use Rattle.token_ring.proofs.laws.law_one_token.Goals as goal

pub returns : goal.returns
returns c = same_token
