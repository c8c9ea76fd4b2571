use Rattle.std.proofs.Common.{◌<◌, ◌≤◌, length, ap, ◌∙◌, arith}
use Rattle.base_ids.specs.declared.ids.TableId.{TableId}
use Rattle.replica_store.specs.Cells.{Cells, cell_at}
use Rattle.replica_store.proofs.PutLemmas.{cell_at-put_at}
use Rattle.run_store.specs.Tables.{index_of}
use Rattle.run_store.proofs.StoreLemmas.{found_table, found_is, found_changed, rest_changed, with_put, put_elsewhere, put_is, AreTables-set, least_room-le, least_room-set, log2s_of-set}
use Rattle.run_store.proofs.tables.put.Goals as goal

pub put-requires : goal.put-requires
put-requires c =
    let least = least_room-le c.args.tables.now.items c.index_of-at.result c.index_mut-own.result.now (omega (arith, c.args.tables.now.ok.0)) c.index_mut-own.ensures.value in
    omega (arith, c.requires.tables_room)

pub returns-then-at-len-clause-laid : goal.returns-then-at-len-clause-laid
returns-then-at-len-clause-laid c =
    let is = found_is c.args.tables.now.items c.index_of-at.result c.index_mut-own.result.now c.requires.laid.each (omega (arith, c.args.tables.now.ok.0)) c.index_mut-own.ensures.value in
    record {
      each = AreTables-set c.args.tables.now.items c.index_of-at.result c.put.new.self c.requires.laid.each (put_is c.index_mut-own.result.now c.put.new.self c.args.put is c.put.ensures.table c.put.ensures.log2 c.put.ensures.cells);
      rest = c.requires.laid.rest;
    }

pub returns-then-at-len-clause-map : goal.returns-then-at-len-clause-map
returns-then-at-len-clause-map c =
    let within : c.index_of-at.result < length c.args.tables.now.items = omega (arith, c.args.tables.now.ok.0) in
    let at = rw c.as_slice.ensures.value at c.index_of-at.ensures in
    let is = found_is c.args.tables.now.items c.index_of-at.result c.index_mut-own.result.now c.requires.laid.each within c.index_mut-own.ensures.value in
    let table = found_table c.args.tables.now.items c.args.table c.index_of-at.result c.index_mut-own.result.now at within c.index_mut-own.ensures.value in
    found_changed (with_put c.args.table c.args.put.token c.args.put.cell) c.args.tables.now.items c.args.rest.now.cells c.args.table c.index_of-at.result c.index_mut-own.result.now c.put.new.self c.requires.laid.each c.requires.laid.rest at within c.index_mut-own.ensures.value (c.put.ensures.table ∙ table) (put_is c.index_mut-own.result.now c.put.new.self c.args.put is c.put.ensures.table c.put.ensures.log2 c.put.ensures.cells) (put_elsewhere c.args.table c.args.put.token c.args.put.cell)
    (λ k. ap (λ (xs : Cells). cell_at xs c.args.table k) c.put.ensures.cells
    ∙ cell_at-put_at c.index_mut-own.result.now.cells (c.index_mut-own.result.now.table, c.args.put) c.args.table k is.ordered
    ∙ ap (λ (t : TableId). with_put t c.args.put.token c.args.put.cell c.args.table k (cell_at c.index_mut-own.result.now.cells c.args.table k)) table)

pub returns-then-at-len-clause-log2s : goal.returns-then-at-len-clause-log2s
returns-then-at-len-clause-log2s c = log2s_of-set c.args.tables.now.items c.index_of-at.result c.index_mut-own.result.now c.put.new.self c.index_mut-own.ensures.value c.put.ensures.table c.put.ensures.log2

pub returns-then-at-len-clause-tables_left : goal.returns-then-at-len-clause-tables_left
returns-then-at-len-clause-tables_left c = least_room-set c.args.tables.now.items c.index_of-at.result 1 c.index_mut-own.result.now c.put.new.self c.index_mut-own.ensures.value c.put.ensures.room

pub returns-else-at-len-clause-map : goal.returns-else-at-len-clause-map
returns-else-at-len-clause-map c =
    let at = rw c.as_slice.ensures.value at c.index_of-at.ensures in
    let missing : length c.args.tables.now.items ≤ index_of c.args.tables.now.items c.args.table = omega (arith, c.args.tables.now.ok.0) in
    rest_changed (with_put c.args.table c.args.put.token c.args.put.cell) c.args.tables.now.items c.args.rest.now.cells c.put-else-at-len.new.self.cells c.args.table c.requires.laid.each c.requires.laid.rest c.put-else-at-len.ensures.ordered missing (put_elsewhere c.args.table c.args.put.token c.args.put.cell) c.put-else-at-len.ensures.map
