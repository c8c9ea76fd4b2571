use Rattle.std.proofs.Common.{take, ap, ◌∙◌}
use Rattle.run_store.proofs.RunLemmas.{range_run}
use Rattle.run_store.proofs.run.range_of.Goals as goal

pub returns : goal.returns
returns c =
    c.split_at-2.ensures.front ∙ ap (take c.between-start.result.1) c.split_at.ensures.back
    ∙ range_run c.args.table c.args.stored.now c.args.range c.args.after c.between-start.result.0 c.between-start.result.1 c.requires
    (rw (← c.start_of-from.ensures) c.between-start.ensures.start)
    (rw (← c.rank-until.ensures.place) c.between-start.ensures.count)
