use Rattle.std.proofs.Common.{ap, sym, ◌∙◌, arith}
use Rattle.base_ids.specs.declared.ids.TableId.{TableId}
use Rattle.replica_store.specs.Cells.{Cells, cell_at}
use Rattle.run_store.proofs.StoreLemmas.{cell_at-store_cells, found_table, found_cells, missing_cells}
use Rattle.run_store.proofs.tables.get.Goals as goal

pub returns-then-at-tables : goal.returns-then-at-tables
returns-then-at-tables c =
    c.get.ensures
    ∙ ap (λ (t : TableId). cell_at c.index-tables-at.result.cells t c.args.token) (found_table c.args.tables.now c.args.table c.index_of-at.result c.index-tables-at.result c.index_of-at.ensures c.if-at-tables.true c.index-tables-at.is)
    ∙ ap (λ (xs : Cells). cell_at xs c.args.table c.args.token) (sym (found_cells c.args.tables.now c.args.rest.now.cells c.args.table c.index_of-at.result c.index-tables-at.result c.index_of-at.ensures c.if-at-tables.true c.index-tables-at.is))
    ∙ sym (cell_at-store_cells c.args.tables.now c.args.rest.now.cells c.args.table c.args.token c.requires.each c.requires.rest)

pub returns-else-at-tables : goal.returns-else-at-tables
returns-else-at-tables c =
    c.get-else-at-tables.ensures.cell
    ∙ ap (λ (xs : Cells). cell_at xs c.args.table c.args.token) (sym (missing_cells c.args.tables.now c.args.rest.now.cells c.args.table (omega (arith, c.index_of-at.ensures))))
    ∙ sym (cell_at-store_cells c.args.tables.now c.args.rest.now.cells c.args.table c.args.token c.requires.each c.requires.rest)
