use Rattle.std.proofs.Common.{List, ◌+◌, ◌++◌, length, drop, ap, sym, ◌∙◌, arith, length-take}
use Rattle.replica_store.specs.declared.store.Stored.{Stored}
use Rattle.replica_store.specs.Cells.{range_cells}
use Rattle.run_store.specs.Runs.{of_table, run_cells}
use Rattle.run_store.proofs.ChunkLemmas.{ordered_at, AreOrdered-drop, wanted_split, first_run_is, lend_prefix, lends_more}
use Rattle.run_store.proofs.chunks.chunk_of.Goals as goal

pub range_of-cells-requires : goal.range_of-cells-requires
range_of-cells-requires c = rw c.as_slice.ensures (ordered_at c.args.table c.args.runs.now c.first_with-at.result c.index-runs-at.result c.requires.ordered c.if-at-runs.true c.index-runs-at.is)

pub has_any-requires : goal.has_any-requires
has_any-requires c = rw c.split_at.ensures.back (AreOrdered-drop c.args.table (c.first_with-at.result + 1) c.args.runs.now c.requires.ordered)

pub returns-then-at-runs-clause-prefix : goal.returns-then-at-runs-clause-prefix
returns-then-at-runs-clause-prefix c =
    let split = wanted_split c.args.table c.args.range c.args.after c.args.runs.now c.first_with-at.result c.index-runs-at.result c.if-at-runs.true c.index-runs-at.is c.first_with-at.ensures.none in
    let cells = c.range_of-cells.ensures ∙ ap (λ (xs : List Stored). range_cells (of_table c.args.table xs) c.args.table c.args.range c.args.after) c.as_slice.ensures in
    lend_prefix c.args.max c.lend.result.cells.now c.range_of-cells.result.now (range_cells (run_cells c.args.table (drop (c.first_with-at.result + 1) c.args.runs.now)) c.args.table c.args.range c.args.after) (range_cells (run_cells c.args.table c.args.runs.now) c.args.table c.args.range c.args.after) c.lend.ensures.first (split ∙ ap (λ (xs : List Stored). xs ++ range_cells (run_cells c.args.table (drop (c.first_with-at.result + 1) c.args.runs.now)) c.args.table c.args.range c.args.after) (sym cells))

pub returns-then-at-runs-clause-more : goal.returns-then-at-runs-clause-more
returns-then-at-runs-clause-more c =
    let split = wanted_split c.args.table c.args.range c.args.after c.args.runs.now c.first_with-at.result c.index-runs-at.result c.if-at-runs.true c.index-runs-at.is c.first_with-at.ensures.none in
    let cells = c.range_of-cells.ensures ∙ ap (λ (xs : List Stored). range_cells (of_table c.args.table xs) c.args.table c.args.range c.args.after) c.as_slice.ensures in
    let later = rw c.split_at.ensures.back at c.has_any.ensures in
    let says = rw later at c.lend.ensures.more in
    let shorter = ap length c.lend.ensures.first ∙ length-take c.args.max c.range_of-cells.result.now in
    rw (split, ← cells) (lends_more c.lend.result.more (length c.lend.result.cells.now) c.range_of-cells.result.now (range_cells (run_cells c.args.table (drop (c.first_with-at.result + 1) c.args.runs.now)) c.args.table c.args.range c.args.after) says (omega arith))

pub returns-then-at-runs-clause-one_run : goal.returns-then-at-runs-clause-one_run
returns-then-at-runs-clause-one_run c = λ log2 first are.
    let cells = c.range_of-cells.ensures ∙ ap (λ (xs : List Stored). range_cells (of_table c.args.table xs) c.args.table c.args.range c.args.after) c.as_slice.ensures in
    let some = rw (← c.index-runs-at.is) at (c.first_with-at.ensures.some c.index-runs-at.result c.if-at-runs.true) in
    rw (first_run_is c.args.table c.args.range c.args.after log2 first c.args.runs.now c.first_with-at.result c.index-runs-at.result are c.if-at-runs.true c.index-runs-at.is c.first_with-at.ensures.none some) (rw cells at c.lend.ensures.first)
