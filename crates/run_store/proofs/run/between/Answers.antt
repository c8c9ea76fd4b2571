use Rattle.std.proofs.Common.{◌∙◌}
use Rattle.run_store.proofs.RunLemmas.{IsOrdered-behind, of_table-drop}
use Rattle.run_store.proofs.run.between.Goals as goal

pub first_from-requires : goal.first_from-requires
first_from-requires c = rw c.split_at.ensures.back (IsOrdered-behind c.args.table c.args.stored.now c.first_from-start.result c.requires)

pub returns-clause-count : goal.returns-clause-count
returns-clause-count c = c.first_from.ensures.index ∙ rw (c.split_at.ensures.back, of_table-drop c.args.table c.first_from-start.result c.args.stored.now)
