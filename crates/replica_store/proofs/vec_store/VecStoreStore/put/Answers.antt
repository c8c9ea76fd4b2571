use Rattle.std.specs.List.{zip}
use Rattle.replica_store.proofs.PutLemmas.{cell_at-put_at}
use Rattle.replica_store.proofs.vec_store.VecStoreStore.put.Goals as goal

pub returns-clause-map : goal.returns-clause-map
returns-clause-map c = λ t k.
    rw (← c.self.view_is, c.put.ensures.cells) (cell_at-put_at (zip c.self.inside.tables.items c.self.inside.stored.items) (c.args.table, record { token = c.args.token; cell = c.args.cell }) t k c.self.invariant.ordered)
