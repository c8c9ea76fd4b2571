use Rattle.std.proofs.Common.{Some, ap, sym, ◌∙◌}
use Rattle.replica_store.specs.declared.store.Stored.{Stored}
use Rattle.replica_store.proofs.PutLemmas.{cell_at-missing}
use Rattle.run_store.specs.Runs.{of_table}
use Rattle.run_store.proofs.RunLemmas.{begins_within, find_found}
use Rattle.run_store.proofs.run.find.Goals as goal

pub bounds-stored-at : goal.bounds-stored-at
bounds-stored-at c = begins_within c.args.table c.args.stored.now c.first_from-at.result c.rank-place.result (sym c.is_at.ensures ∙ c.if-is_at.true)

pub returns-then-is_at : goal.returns-then-is_at
returns-then-is_at c =
    ap (λ (e : Stored). Some e.cell) (sym c.index-stored-at.is) ∙ sym (find_found c.args.table c.args.stored.now c.args.token c.first_from-at.result c.rank-place.result c.index-stored-at.result c.requires c.rank-place.ensures.place c.first_from-at.ensures.index (sym c.is_at.ensures ∙ c.if-is_at.true) c.index-stored-at.is)

pub returns-else-is_at : goal.returns-else-is_at
returns-else-is_at c =
    sym (cell_at-missing (of_table c.args.table c.args.stored.now) c.args.table c.args.token c.requires (rw (← c.rank-place.ensures.place, ← c.first_from-at.ensures.index) (sym c.is_at.ensures ∙ c.if-is_at.false)))
