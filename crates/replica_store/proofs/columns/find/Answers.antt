use Rattle.std.proofs.Common.{Some, ap, sym, ◌∙◌, arith}
use Rattle.std.specs.List.{zip}
use Rattle.replica_store.specs.declared.store.Stored.{Stored}
use Rattle.replica_store.proofs.OrderLemmas.{length-columns}
use Rattle.replica_store.proofs.ColumnLemmas.{begins_at-within}
use Rattle.replica_store.proofs.PutLemmas.{cell_at-missing}
use Rattle.replica_store.proofs.StoreLemmas.{find_found}
use Rattle.replica_store.proofs.columns.find.Goals as goal

pub bounds-stored-at : goal.bounds-stored-at
bounds-stored-at c =
    let long = length-columns c.args.tables.now c.args.stored.now c.requires.one_length in
    let within = begins_at-within (zip c.args.tables.now c.args.stored.now) c.first_from-at.result c.rank-place.result (sym c.is_at.ensures ∙ c.if-is_at.true) in
    omega (arith, c.requires.one_length)

pub returns-then-is_at : goal.returns-then-is_at
returns-then-is_at c =
    ap (λ (e : Stored). Some e.cell) (sym c.index-stored-at.is) ∙ sym (find_found c.args.tables.now c.args.stored.now c.args.table c.args.token c.first_from-at.result c.rank-place.result c.index-stored-at.result c.requires c.rank-place.ensures.place c.first_from-at.ensures.index (sym c.is_at.ensures ∙ c.if-is_at.true) c.index-stored-at.is)

pub returns-else-is_at : goal.returns-else-is_at
returns-else-is_at c =
    sym (cell_at-missing (zip c.args.tables.now c.args.stored.now) c.args.table c.args.token c.requires.ordered (rw (← c.rank-place.ensures.place, ← c.first_from-at.ensures.index) (sym c.is_at.ensures ∙ c.if-is_at.false)))
