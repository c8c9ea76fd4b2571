use Rattle.std.proofs.Common.{◌∙◌, sym}
use Rattle.replica_store.proofs.MapLemmas.{one_list}
use Rattle.replica_store.proofs.PutLemmas.{IsOrdered-put_at, cell_at-put_at}
use Rattle.replica_store.proofs.putting.put_one.Goals as goal

pub returns-clause-cells : goal.returns-clause-cells
returns-clause-cells g c =
    let before = g.S.Store.cells c.args.store.now in
    λ ordered.
    one_list _ _ c.put.ensures.ordered (IsOrdered-put_at before (c.args.table, c.args.stored.now) ordered) (λ t k. c.put.ensures.map t k ∙ sym (cell_at-put_at before (c.args.table, c.args.stored.now) t k ordered))
