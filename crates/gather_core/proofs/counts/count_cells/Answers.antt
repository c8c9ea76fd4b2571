use Rattle.std.proofs.Common.{◌+◌, ◌≡◌, ◌-◌, ◌^◌, min, Some, length, length-append, ap, sym, ◌∙◌}
use Rattle.replica_store.proofs.GatherLemmas.{chunk_split, fewer_left}
use Rattle.replica_store.specs.Cells.{range_cells}
use Rattle.gather_core.proofs.CountLemmas.{more_still}
use Rattle.gather_core.proofs.counts.count_cells.Goals as goal

pub counting-smaller : goal.counting-smaller
counting-smaller g c =
    fewer_left (g.S.Store.cells c.args.store.now) c.args.table c.args.range c.counting.after c.chunk-more.result.cells.now c.in-Some.stored.now c.chunk-more.ensures.ordered c.chunk-more.ensures.prefix
    c.in-Some.ensures.item.3.0 c.in-Some.ensures.item.1

pub counting-preserved : goal.counting-preserved
counting-preserved g c =
    let cells = c.chunk-more.result.cells.now in
    let rest = range_cells (g.S.Store.cells c.args.store.now) c.args.table c.args.range (Some c.in-Some.stored.now.token) in
    let split = chunk_split (g.S.Store.cells c.args.store.now) c.args.table c.args.range c.counting.after cells c.in-Some.stored.now c.chunk-more.ensures.ordered c.chunk-more.ensures.prefix
    c.in-Some.ensures.item.3.0 c.in-Some.ensures.item.1 in
    let long = sym (length-append cells rest) ∙ ap length split in
    ap (λ n. min (n + length rest) (2 ^ 64 - 1)) c.saturating_add-count.ensures
    ∙ (more_still (2 ^ 64 - 1) c.counting.count (length cells) (length rest) _ long ∙ c.counting.invariant)
