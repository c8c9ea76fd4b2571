use Rattle.std.proofs.Common.{◌+◌}
use Rattle.std.specs.List.{zip}
use Rattle.replica_store.proofs.StoreLemmas.{drop_run, AreColumns-drop_run, length-cut}
use Rattle.replica_store.proofs.columns.drop_range.Goals as goal

pub returns-clause-cells : goal.returns-clause-cells
returns-clause-cells c =
    rw (c.take_out.ensures.items, c.take_out-2.ensures.items)
    (drop_run c.args.tables.now.items c.args.stored.now.items c.args.table c.args.range c.between-start.result.0 c.between-start.result.1 c.requires.columns
    (rw (c.as_slice.ensures.value, c.as_slice-2.ensures.value, c.rank-first.ensures.place) at c.between-start.ensures.start)
    (rw (c.as_slice.ensures.value, c.as_slice-2.ensures.value, c.rank-behind.ensures.place) at c.between-start.ensures.count))

pub returns-clause-columns : goal.returns-clause-columns
returns-clause-columns c =
    rw (c.take_out.ensures.items, c.take_out-2.ensures.items)
    (AreColumns-drop_run _ _ (zip c.args.tables.now.items c.args.stored.now.items) c.args.table c.args.range
    (length-cut c.args.tables.now.items c.args.stored.now.items c.between-start.result.0 (c.between-start.result.0 + c.between-start.result.1) c.requires.columns.one_length)
    (drop_run c.args.tables.now.items c.args.stored.now.items c.args.table c.args.range c.between-start.result.0 c.between-start.result.1 c.requires.columns
    (rw (c.as_slice.ensures.value, c.as_slice-2.ensures.value, c.rank-first.ensures.place) at c.between-start.ensures.start)
    (rw (c.as_slice.ensures.value, c.as_slice-2.ensures.value, c.rank-behind.ensures.place) at c.between-start.ensures.count))
    c.requires.columns.ordered)
