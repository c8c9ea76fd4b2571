use Rattle.tablet_map.proofs.Tokens.{merge_keeps}
use Rattle.tablet_map.proofs.laws.law_merge_keeps_sets.Goals as goal

pub returns : goal.returns
returns c = merge_keeps
