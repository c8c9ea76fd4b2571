use Rattle.std.proofs.Common.{◌∙◌}
use Rattle.replica_store.proofs.ColumnLemmas.{AreColumns-drop, zip-drop}
use Rattle.replica_store.proofs.columns.between.Goals as goal

pub first_from-requires : goal.first_from-requires
first_from-requires c = rw (c.split_at.ensures.back, c.split_at-2.ensures.back) (AreColumns-drop c.first_from-start.result c.args.tables.now c.args.stored.now c.requires)

pub returns-clause-count : goal.returns-clause-count
returns-clause-count c = c.first_from.ensures.index ∙ rw (c.split_at.ensures.back, c.split_at-2.ensures.back, zip-drop c.first_from-start.result c.args.tables.now c.args.stored.now)
