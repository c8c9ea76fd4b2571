use Rattle.tablet_map.proofs.Tokens.{split_then_merge}
use Rattle.tablet_map.proofs.laws.law_split_then_merge.Goals as goal

pub returns : goal.returns
returns c = split_then_merge
