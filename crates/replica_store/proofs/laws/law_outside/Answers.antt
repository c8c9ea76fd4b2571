use Rattle.replica_store.proofs.MapLemmas.{cell_at-outside}
use Rattle.replica_store.proofs.laws.law_outside.Goals as goal

pub returns : goal.returns
returns c = cell_at-outside
