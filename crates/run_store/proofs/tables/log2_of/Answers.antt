use Rattle.std.proofs.Common.{◌∙◌, arith}
use Rattle.run_store.proofs.AdoptLemmas.{found_log2, missing_log2}
use Rattle.run_store.proofs.tables.log2_of.Goals as goal

pub returns-then-at-tables-clause-log2 : goal.returns-then-at-tables-clause-log2
returns-then-at-tables-clause-log2 c = c.log2.ensures.log2 ∙ found_log2 c.args.tables.now c.args.table c.index_of-at.result c.index-tables-at.result c.index_of-at.ensures c.if-at-tables.true c.index-tables-at.is

pub returns-else-at-tables-clause-log2 : goal.returns-else-at-tables-clause-log2
returns-else-at-tables-clause-log2 c = missing_log2 c.args.tables.now c.args.table (omega (arith, c.index_of-at.ensures))
