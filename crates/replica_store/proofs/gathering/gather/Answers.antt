use Rattle.std.proofs.Common.{append_assoc}
use Rattle.replica_store.proofs.GatherLemmas.{chunk_split, fewer_left}
use Rattle.replica_store.proofs.gathering.gather.Goals as goal

pub gathering-smaller : goal.gathering-smaller
gathering-smaller g c =
    fewer_left (g.S.Store.cells c.args.store.now) c.args.table c.args.range c.gathering.after c.chunk-more.result.cells.now c.in-Some.stored.now c.chunk-more.ensures.ordered c.chunk-more.ensures.prefix c.in-Some.ensures.item.3.0 c.in-Some.ensures.item.1

pub gathering-preserved : goal.gathering-preserved
gathering-preserved g c =
    let split = chunk_split (g.S.Store.cells c.args.store.now) c.args.table c.args.range c.gathering.after c.chunk-more.result.cells.now c.in-Some.stored.now c.chunk-more.ensures.ordered c.chunk-more.ensures.prefix c.in-Some.ensures.item.3.0 c.in-Some.ensures.item.1 in
    rw (c.in_ok-append_cells.ensures.ok, append_assoc, split) c.gathering.invariant
