use Rattle.run_store.proofs.StoreLemmas.{IsOrdered-store_cells}
use Rattle.run_store.proofs.store.RunStoreStore.get.Goals as goal

pub returns-clause-ordered : goal.returns-clause-ordered
returns-clause-ordered c = rw (← c.self.view_is) (IsOrdered-store_cells c.self.inside.tables.items c.self.inside.rest.cells c.self.invariant.rest)
