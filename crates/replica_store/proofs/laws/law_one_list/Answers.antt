use Rattle.replica_store.proofs.MapLemmas.{one_list}
use Rattle.replica_store.proofs.laws.law_one_list.Goals as goal

pub returns : goal.returns
returns c = one_list
