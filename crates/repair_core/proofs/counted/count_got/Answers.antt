use Rattle.std.proofs.Common.{List, sym, subst, ◌∙◌}
use Rattle.replica_store.specs.Cells.{IsAscending}
use Rattle.replica_store.specs.declared.store.Stored.{Stored}
use Rattle.gather_core.specs.Rounds.{cells_in}
use Rattle.repair_core.proofs.CountedLemmas.{range_ascending}
use Rattle.repair_core.proofs.counted.count_got.Goals as goal

pub count_new-requires-clause-now : goal.count_new-requires-clause-now
count_new-requires-clause-now g c =
    let P : List Stored → Type 0 = IsAscending in
    subst P (sym (c.as_slice-2.ensures ∙ c.in_ok-now.ensures))
    (range_ascending (cells_in g.S.Store.cells c.args.stores.now) c.args.table c.args.range c.args.had.now.replica c.requires.ordered)
