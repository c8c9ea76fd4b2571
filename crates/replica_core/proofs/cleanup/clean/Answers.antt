use Rattle.replica_core.proofs.CleanLemmas.{IsOrdered-filtered}
use Rattle.replica_core.proofs.cleanup.clean.Goals as goal

pub returns-then-cleans_host-clause-ordered : goal.returns-then-cleans_host-clause-ordered
returns-then-cleans_host-clause-ordered g c = IsOrdered-filtered _ _ _ c.drop_range.ensures.map
