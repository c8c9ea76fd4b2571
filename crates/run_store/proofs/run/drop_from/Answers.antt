use Rattle.run_store.proofs.RunLemmas.{drop_run}
use Rattle.run_store.proofs.run.drop_from.Goals as goal

pub returns-clause-cells : goal.returns-clause-cells
returns-clause-cells c =
    rw c.take_out.ensures.items
    (drop_run c.args.table c.args.stored.now.items c.args.range c.between-start.result.0 c.between-start.result.1 c.requires
    (rw (c.as_slice.ensures.value, c.rank-first.ensures.place) at c.between-start.ensures.start)
    (rw (c.as_slice.ensures.value, c.rank-behind.ensures.place) at c.between-start.ensures.count))
