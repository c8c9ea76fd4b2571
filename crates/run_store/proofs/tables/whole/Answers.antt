use Rattle.run_store.proofs.AdoptLemmas.{all_within}
use Rattle.run_store.proofs.tables.whole.Goals as goal

pub returns : goal.returns
returns c = all_within c.range_of.result c.range_of.ensures.first c.range_of.ensures.last
