use Rattle.std.proofs.Common.{◌≡◌, ◌+◌, ◌-◌, drop, length, ap, arith}
use Rattle.token_ring.specs.Ring.{offset}
use Rattle.replica_store.specs.Cells.{range_cells}
use Rattle.run_store.specs.Runs.{run_cells}
use Rattle.run_store.proofs.ChunkLemmas.{AreOrdered-runs, AreOrdered-drop, AreOrdered-take, AreRuns-between, first_run_none, narrow, narrow_none, narrow_one, take_nothing}
use Rattle.run_store.proofs.chunks.chunk.Goals as goal

pub chunk_of-requires-clause-ordered : goal.chunk_of-requires-clause-ordered
chunk_of-requires-clause-ordered c =
    AreOrdered-take c.args.table (c.index_of-until.result + 1 - c.index_of-from.result) (drop c.index_of-from.result c.args.runs.now) (AreOrdered-drop c.args.table c.index_of-from.result c.args.runs.now (AreOrdered-runs c.args.table c.args.log2 0 c.args.runs.now c.requires.grouped.each))

pub returns-then-from-until-clause-prefix : goal.returns-then-from-until-clause-prefix
returns-then-from-until-clause-prefix c =
    rw (narrow c.args.table c.args.range c.args.after c.args.log2 c.index_of-from.result c.index_of-until.result c.first_asked.result c.args.runs.now (c.first_asked.ensures.asked c.args.table) c.index_of-from.ensures.tablet c.index_of-until.ensures.tablet c.if-from-until.true c.requires.grouped.each) at c.chunk_of.ensures.prefix

pub returns-then-from-until-clause-some : goal.returns-then-from-until-clause-some
returns-then-from-until-clause-some c =
    rw (narrow c.args.table c.args.range c.args.after c.args.log2 c.index_of-from.result c.index_of-until.result c.first_asked.result c.args.runs.now (c.first_asked.ensures.asked c.args.table) c.index_of-from.ensures.tablet c.index_of-until.ensures.tablet c.if-from-until.true c.requires.grouped.each) at c.chunk_of.ensures.some

pub returns-then-from-until-clause-more : goal.returns-then-from-until-clause-more
returns-then-from-until-clause-more c =
    rw (narrow c.args.table c.args.range c.args.after c.args.log2 c.index_of-from.result c.index_of-until.result c.first_asked.result c.args.runs.now (c.first_asked.ensures.asked c.args.table) c.index_of-from.ensures.tablet c.index_of-until.ensures.tablet c.if-from-until.true c.requires.grouped.each) at c.chunk_of.ensures.more

pub returns-then-from-until-clause-full : goal.returns-then-from-until-clause-full
returns-then-from-until-clause-full c = λ one.
    let few = narrow_one c.args.log2 c.index_of-from.result c.index_of-until.result (offset c.args.range.first.value) (offset c.args.range.last.value) (offset c.first_asked.result.value) c.args.runs.now c.first_asked.ensures.above_first c.index_of-from.ensures.tablet c.index_of-until.ensures.tablet one in
    rw (narrow c.args.table c.args.range c.args.after c.args.log2 c.index_of-from.result c.index_of-until.result c.first_asked.result c.args.runs.now (c.first_asked.ensures.asked c.args.table) c.index_of-from.ensures.tablet c.index_of-until.ensures.tablet c.if-from-until.true c.requires.grouped.each) at (c.chunk_of.ensures.full few)

pub returns-else-from-until-clause-some : goal.returns-else-from-until-clause-some
returns-else-from-until-clause-some c = λ _.
    narrow_none c.args.table c.args.range c.args.after c.args.log2 c.index_of-from.result c.index_of-until.result c.first_asked.result c.args.runs.now (c.first_asked.ensures.asked c.args.table) c.index_of-from.ensures.tablet c.index_of-until.ensures.tablet c.if-from-until.false c.requires.grouped.each

pub returns-else-from-until-clause-more : goal.returns-else-from-until-clause-more
returns-else-from-until-clause-more c =
    let none = narrow_none c.args.table c.args.range c.args.after c.args.log2 c.index_of-from.result c.index_of-until.result c.first_asked.result c.args.runs.now (c.first_asked.ensures.asked c.args.table) c.index_of-from.ensures.tablet c.index_of-until.ensures.tablet c.if-from-until.false c.requires.grouped.each in
    let empty : length (range_cells (run_cells c.args.table c.args.runs.now) c.args.table c.args.range c.args.after) ≡ 0 = ap length none in
    (λ no. cc, λ some. absurd (omega arith))

pub returns-else-from-until-clause-full : goal.returns-else-from-until-clause-full
returns-else-from-until-clause-full c = λ _.
    let none = narrow_none c.args.table c.args.range c.args.after c.args.log2 c.index_of-from.result c.index_of-until.result c.first_asked.result c.args.runs.now (c.first_asked.ensures.asked c.args.table) c.index_of-from.ensures.tablet c.index_of-until.ensures.tablet c.if-from-until.false c.requires.grouped.each in
    take_nothing c.args.max (range_cells (run_cells c.args.table c.args.runs.now) c.args.table c.args.range c.args.after) none

pub returns-then-from-until-clause-one_run : goal.returns-then-from-until-clause-one_run
returns-then-from-until-clause-one_run c =
    rw (narrow c.args.table c.args.range c.args.after c.args.log2 c.index_of-from.result c.index_of-until.result c.first_asked.result c.args.runs.now (c.first_asked.ensures.asked c.args.table) c.index_of-from.ensures.tablet c.index_of-until.ensures.tablet c.if-from-until.true c.requires.grouped.each) at (c.chunk_of.ensures.one_run c.args.log2 (0 + c.index_of-from.result) (AreRuns-between c.args.table c.args.log2 c.index_of-from.result (c.index_of-until.result + 1 - c.index_of-from.result) c.args.runs.now c.requires.grouped.each))

pub returns-else-from-until-clause-one_run : goal.returns-else-from-until-clause-one_run
returns-else-from-until-clause-one_run c =
    let none = narrow_none c.args.table c.args.range c.args.after c.args.log2 c.index_of-from.result c.index_of-until.result c.first_asked.result c.args.runs.now (c.first_asked.ensures.asked c.args.table) c.index_of-from.ensures.tablet c.index_of-until.ensures.tablet c.if-from-until.false c.requires.grouped.each in
    first_run_none c.args.log2 c.args.max (range_cells (run_cells c.args.table c.args.runs.now) c.args.table c.args.range c.args.after) none
