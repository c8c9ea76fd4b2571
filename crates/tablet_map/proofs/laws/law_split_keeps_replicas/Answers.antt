use Rattle.tablet_map.proofs.Tokens.{split_keeps}
use Rattle.tablet_map.proofs.laws.law_split_keeps_replicas.Goals as goal

pub returns : goal.returns
returns c = λ tablets token below. split_keeps tablets token.value below
