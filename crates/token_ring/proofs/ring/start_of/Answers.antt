use Rattle.token_ring.proofs.Offsets.{shifted_within}
use Rattle.token_ring.proofs.ring.start_of.Goals as goal

pub returns-clause-below : goal.returns-clause-below
returns-clause-below c =
    shifted_within c.args.log2 c.args.tablets c.from.result c.requires.divided c.requires.within c.from.ensures
