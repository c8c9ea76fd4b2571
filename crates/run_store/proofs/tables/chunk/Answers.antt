use Rattle.std.proofs.Common.{arith}
use Rattle.replica_store.specs.Cells.{range_cells}
use Rattle.run_store.specs.Tables.{store_cells}
use Rattle.run_store.proofs.AdoptLemmas.{found_range, found_log2, missing_log2, missing_range}
use Rattle.run_store.proofs.ChunkLemmas.{first_run_all}
use Rattle.run_store.proofs.tables.chunk.Goals as goal

pub returns-then-at-tables-clause-prefix : goal.returns-then-at-tables-clause-prefix
returns-then-at-tables-clause-prefix c = rw (found_range c.args.tables.now c.args.rest.now.cells c.args.table c.index_of-at.result c.index-tables-at.result c.args.range c.args.after c.requires.laid c.index_of-at.ensures c.if-at-tables.true c.index-tables-at.is) at c.chunk.ensures.prefix

pub returns-then-at-tables-clause-some : goal.returns-then-at-tables-clause-some
returns-then-at-tables-clause-some c = rw (found_range c.args.tables.now c.args.rest.now.cells c.args.table c.index_of-at.result c.index-tables-at.result c.args.range c.args.after c.requires.laid c.index_of-at.ensures c.if-at-tables.true c.index-tables-at.is) at c.chunk.ensures.some

pub returns-then-at-tables-clause-more : goal.returns-then-at-tables-clause-more
returns-then-at-tables-clause-more c = rw (found_range c.args.tables.now c.args.rest.now.cells c.args.table c.index_of-at.result c.index-tables-at.result c.args.range c.args.after c.requires.laid c.index_of-at.ensures c.if-at-tables.true c.index-tables-at.is) at c.chunk.ensures.more

pub returns-then-at-tables-clause-full : goal.returns-then-at-tables-clause-full
returns-then-at-tables-clause-full c = λ one.
    let full = rw (found_log2 c.args.tables.now c.args.table c.index_of-at.result c.index-tables-at.result c.index_of-at.ensures c.if-at-tables.true c.index-tables-at.is) at c.chunk.ensures.full in
    rw (found_range c.args.tables.now c.args.rest.now.cells c.args.table c.index_of-at.result c.index-tables-at.result c.args.range c.args.after c.requires.laid c.index_of-at.ensures c.if-at-tables.true c.index-tables-at.is) at (full one)

pub returns-else-at-tables-clause-prefix : goal.returns-else-at-tables-clause-prefix
returns-else-at-tables-clause-prefix c = rw (missing_range c.args.tables.now c.args.rest.now.cells c.args.table c.args.range c.args.after c.requires.laid (omega (arith, c.index_of-at.ensures))) at c.chunk-else-at-tables.ensures.prefix

pub returns-else-at-tables-clause-some : goal.returns-else-at-tables-clause-some
returns-else-at-tables-clause-some c = rw (missing_range c.args.tables.now c.args.rest.now.cells c.args.table c.args.range c.args.after c.requires.laid (omega (arith, c.index_of-at.ensures))) at c.chunk-else-at-tables.ensures.some

pub returns-else-at-tables-clause-more : goal.returns-else-at-tables-clause-more
returns-else-at-tables-clause-more c = rw (missing_range c.args.tables.now c.args.rest.now.cells c.args.table c.args.range c.args.after c.requires.laid (omega (arith, c.index_of-at.ensures))) at c.chunk-else-at-tables.ensures.more

pub returns-else-at-tables-clause-full : goal.returns-else-at-tables-clause-full
returns-else-at-tables-clause-full c = λ one. rw (missing_range c.args.tables.now c.args.rest.now.cells c.args.table c.args.range c.args.after c.requires.laid (omega (arith, c.index_of-at.ensures))) at c.chunk-else-at-tables.ensures.first

pub returns-then-at-tables-clause-one_run : goal.returns-then-at-tables-clause-one_run
returns-then-at-tables-clause-one_run c =
    let lent = rw (found_log2 c.args.tables.now c.args.table c.index_of-at.result c.index-tables-at.result c.index_of-at.ensures c.if-at-tables.true c.index-tables-at.is) at c.chunk.ensures.one_run in
    rw (found_range c.args.tables.now c.args.rest.now.cells c.args.table c.index_of-at.result c.index-tables-at.result c.args.range c.args.after c.requires.laid c.index_of-at.ensures c.if-at-tables.true c.index-tables-at.is) at lent

pub returns-else-at-tables-clause-one_run : goal.returns-else-at-tables-clause-one_run
returns-else-at-tables-clause-one_run c =
    let lent = rw (missing_range c.args.tables.now c.args.rest.now.cells c.args.table c.args.range c.args.after c.requires.laid (omega (arith, c.index_of-at.ensures))) at c.chunk-else-at-tables.ensures.first in
    rw (← missing_log2 c.args.tables.now c.args.table (omega (arith, c.index_of-at.ensures)), first_run_all c.args.table (range_cells (store_cells c.args.tables.now c.args.rest.now.cells) c.args.table c.args.range c.args.after)) lent
