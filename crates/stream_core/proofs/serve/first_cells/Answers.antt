use Rattle.std.proofs.Common.{append_assoc, length, length-append, arith, ap, ◌∙◌, inl, inr}
use Rattle.replica_store.specs.Cells.{range_cells}
use Rattle.replica_store.proofs.GatherLemmas.{chunk_split, fewer_left}
use Rattle.stream_core.proofs.ChunkLemmas.{all_taken, not_more}
use Rattle.stream_core.proofs.serve.first_cells.Goals.{then-not-more-via-then-not-more, then-not-more-via-else-not-more+then-room-eq0}
use Rattle.stream_core.proofs.serve.first_cells.Goals as goal

pub returns-then-not-more-clause-cells : goal.returns-then-not-more-clause-cells
returns-then-not-more-clause-cells g c =
    let ask = c.args.ask.now in
    let cells = g.S.Store.cells c.args.store.now in
    let left = range_cells cells ask.table ask.range c.gathering.after in
    let taken = all_taken (range_cells cells ask.table ask.range ask.after) c.gathering.list left c.chunk-more.result.cells.now c.gathering.room c.gathering.invariant c.chunk-more.ensures.prefix c.chunk-more.ensures.most in
    c.in_ok-append_cells.ensures.ok ∙ taken (elim c.then-not-more.branch [
      | then-not-more-via-then-not-more w ↦ inl (not_more c.chunk-more.result.more _ _ (grind (arith)) c.chunk-more.ensures.more)
      | then-not-more-via-else-not-more+then-room-eq0 w ↦ inr (omega arith)
    ])

pub gathering-smaller : goal.gathering-smaller
gathering-smaller g c =
    fewer_left (g.S.Store.cells c.args.store.now) c.args.ask.now.table c.args.ask.now.range c.gathering.after c.chunk-more.result.cells.now c.in-Some.stored.now c.chunk-more.ensures.ordered c.chunk-more.ensures.prefix c.in-Some.ensures.item.3.0 c.in-Some.ensures.item.1

pub gathering-preserved : goal.gathering-preserved
gathering-preserved g c =
    let split = chunk_split (g.S.Store.cells c.args.store.now) c.args.ask.now.table c.args.ask.now.range c.gathering.after c.chunk-more.result.cells.now c.in-Some.stored.now c.chunk-more.ensures.ordered c.chunk-more.ensures.prefix c.in-Some.ensures.item.3.0 c.in-Some.ensures.item.1 in
    let long = ap length c.in_ok-append_cells.ensures.ok ∙ length-append c.gathering.list c.chunk-more.result.cells.now in
    record {
      whole = rw (c.in_ok-append_cells.ensures.ok, append_assoc, split) c.gathering.invariant.whole;
      count = omega (arith, long, c.chunk-more.ensures.most, c.gathering.invariant.count);
      some = omega (arith, c.chunk-more.ensures.most);
    }
