use Rattle.replica_store.proofs.PuttingLemmas.{IsPutting}
use Rattle.replica_store.proofs.putting.put_all.Given as goal

abbrev pub invariant-putting : goal.invariant-putting
invariant-putting g l =
    IsPutting (g.S.Store.cells l.initial.store) (g.S.Store.cells l.store) (g.S.Store.runs l.initial.store) (g.S.Store.runs l.store) l.table l.cells l.stored-index (g.S.Store.spare l.store)
