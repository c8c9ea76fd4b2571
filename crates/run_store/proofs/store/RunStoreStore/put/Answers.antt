use Rattle.run_store.proofs.StoreLemmas.{IsOrdered-store_cells}
use Rattle.run_store.proofs.store.RunStoreStore.put.Goals as goal

pub returns-clause-ordered : goal.returns-clause-ordered
returns-clause-ordered c = IsOrdered-store_cells c.put.new.tables.items c.put.new.rest.cells c.put.ensures.laid.rest
