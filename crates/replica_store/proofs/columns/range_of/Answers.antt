use Rattle.std.proofs.Common.{take, ap, ◌∙◌}
use Rattle.replica_store.proofs.StoreLemmas.{range_run}
use Rattle.replica_store.proofs.columns.range_of.Goals as goal

pub returns : goal.returns
returns c =
    c.split_at-2.ensures.front ∙ ap (take c.between-start.result.1) c.split_at.ensures.back
    ∙ range_run c.args.tables.now c.args.stored.now c.args.table c.args.range c.args.after c.between-start.result.0 c.between-start.result.1 c.requires
    (rw (← c.start_of-from.ensures) c.between-start.ensures.start)
    (rw (← c.rank-until.ensures.place) c.between-start.ensures.count)
