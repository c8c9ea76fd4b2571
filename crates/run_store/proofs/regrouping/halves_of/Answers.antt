use Rattle.std.proofs.Common.{ap, ◌∙◌}
use Rattle.replica_store.specs.Columns.{first_from}
use Rattle.run_store.specs.Runs.{of_table}
use Rattle.run_store.proofs.RegroupLemmas.{left_run, right_run}
use Rattle.run_store.proofs.regrouping.halves_of.Goals as goal

pub returns-clause-left : goal.returns-clause-left
returns-clause-left c =
    rw c.split_at.ensures.front (left_run c.args.table c.args.log2 c.args.at c.first_from-cut.result c.args.stored.now c.requires.few
    (c.first_from-cut.ensures.index ∙ ap (first_from (of_table c.args.table c.args.stored.now)) c.boundary_of.ensures)
    c.requires.run)

pub returns-clause-right : goal.returns-clause-right
returns-clause-right c =
    rw c.split_at.ensures.back (right_run c.args.table c.args.log2 c.args.at c.first_from-cut.result c.args.stored.now c.requires.few
    (c.first_from-cut.ensures.index ∙ ap (first_from (of_table c.args.table c.args.stored.now)) c.boundary_of.ensures)
    c.requires.run)
