use Rattle.std.proofs.Common.{◌∙◌, arith}
use Rattle.run_store.proofs.AdoptLemmas.{found_log2, found_tablet, missing_tablet, whole_tablet}
use Rattle.run_store.proofs.tables.run.Goals as goal

pub run-requires : goal.run-requires
run-requires c = rw (found_log2 c.args.tables.now c.args.table c.index_of-at.result c.index-tables-at.result c.index_of-at.ensures c.if-at-tables.true c.index-tables-at.is) c.requires.tablet

pub returns-then-at-tables : goal.returns-then-at-tables
returns-then-at-tables c = c.run.ensures ∙ found_tablet c.args.tables.now c.args.rest.now.cells c.args.table c.index_of-at.result c.index-tables-at.result c.args.tablet c.requires.laid c.index_of-at.ensures c.if-at-tables.true c.index-tables-at.is

pub returns-else-at-tables : goal.returns-else-at-tables
returns-else-at-tables c = c.range.ensures.cells ∙ whole_tablet c.whole.result c.whole.ensures c.args.table c.args.rest.now.cells ∙ missing_tablet c.args.tables.now c.args.rest.now.cells c.args.table c.args.tablet c.requires.laid (omega (arith, c.index_of-at.ensures)) c.requires.tablet
