use Rattle.std.proofs.Common.{◌<◌, ◌≤◌, set, length, ap, ◌∙◌, arith}
use Rattle.base_ids.specs.declared.ids.TableId.{TableId}
use Rattle.replica_store.specs.Cells.{Cells, cell_at, outside}
use Rattle.replica_store.proofs.MapLemmas.{cell_at-outside}
use Rattle.replica_store.proofs.RangeLemmas.{IsOrdered-outside}
use Rattle.run_store.specs.Tables.{index_of, store_cells}
use Rattle.run_store.proofs.StoreLemmas.{found_table, found_is, found_changed, rest_changed, without_range, drop_elsewhere, drop_is, AreTables-set, least_room-set, log2s_of-set, IsOrdered-store_cells}
use Rattle.run_store.proofs.AdoptLemmas.{dropped}
use Rattle.run_store.proofs.tables.drop_range.Goals as goal

pub returns-then-at-len-clause-laid : goal.returns-then-at-len-clause-laid
returns-then-at-len-clause-laid c =
    let is = found_is c.args.tables.now.items c.index_of-at.result c.index_mut-own.result.now c.requires.each (omega (arith, c.args.tables.now.ok.0)) c.index_mut-own.ensures.value in
    record {
      each = AreTables-set c.args.tables.now.items c.index_of-at.result c.drop_range.new.self c.requires.each (drop_is c.index_mut-own.result.now c.drop_range.new.self c.args.range is c.drop_range.ensures.table c.drop_range.ensures.log2 c.drop_range.ensures.cells);
      rest = c.requires.rest;
    }

pub returns-then-at-len-clause-cells : goal.returns-then-at-len-clause-cells
returns-then-at-len-clause-cells c =
    let within : c.index_of-at.result < length c.args.tables.now.items = omega (arith, c.args.tables.now.ok.0) in
    let at = rw c.as_slice.ensures.value at c.index_of-at.ensures in
    let is = found_is c.args.tables.now.items c.index_of-at.result c.index_mut-own.result.now c.requires.each within c.index_mut-own.ensures.value in
    let table = found_table c.args.tables.now.items c.args.table c.index_of-at.result c.index_mut-own.result.now at within c.index_mut-own.ensures.value in
    dropped (store_cells c.args.tables.now.items c.args.rest.now.cells) (store_cells (set c.args.tables.now.items c.index_of-at.result c.drop_range.new.self) c.args.rest.now.cells) c.args.table c.args.range (IsOrdered-store_cells c.args.tables.now.items c.args.rest.now.cells c.requires.rest) (IsOrdered-store_cells (set c.args.tables.now.items c.index_of-at.result c.drop_range.new.self) c.args.rest.now.cells c.requires.rest)
    (found_changed (without_range c.args.table c.args.range) c.args.tables.now.items c.args.rest.now.cells c.args.table c.index_of-at.result c.index_mut-own.result.now c.drop_range.new.self c.requires.each c.requires.rest at within c.index_mut-own.ensures.value (c.drop_range.ensures.table ∙ table) (drop_is c.index_mut-own.result.now c.drop_range.new.self c.args.range is c.drop_range.ensures.table c.drop_range.ensures.log2 c.drop_range.ensures.cells) (drop_elsewhere c.args.table c.args.range)
    (λ k. ap (λ (xs : Cells). cell_at xs c.args.table k) (c.drop_range.ensures.cells ∙ ap (λ (t : TableId). outside c.index_mut-own.result.now.cells t c.args.range) table)
    ∙ cell_at-outside c.index_mut-own.result.now.cells c.args.table c.args.range c.args.table k))

pub returns-then-at-len-clause-log2s : goal.returns-then-at-len-clause-log2s
returns-then-at-len-clause-log2s c = log2s_of-set c.args.tables.now.items c.index_of-at.result c.index_mut-own.result.now c.drop_range.new.self c.index_mut-own.ensures.value c.drop_range.ensures.table c.drop_range.ensures.log2

pub returns-then-at-len-clause-tables_left : goal.returns-then-at-len-clause-tables_left
returns-then-at-len-clause-tables_left c =
    let kept = least_room-set c.args.tables.now.items c.index_of-at.result 0 c.index_mut-own.result.now c.drop_range.new.self c.index_mut-own.ensures.value (omega (arith, c.drop_range.ensures.room)) in
    omega arith

pub returns-else-at-len-clause-laid : goal.returns-else-at-len-clause-laid
returns-else-at-len-clause-laid c = record {
  each = c.requires.each;
  rest = rw c.drop_range-else-at-len.ensures.map (IsOrdered-outside c.args.rest.now.cells c.args.table c.args.range c.requires.rest);
}

pub returns-else-at-len-clause-cells : goal.returns-else-at-len-clause-cells
returns-else-at-len-clause-cells c =
    let at = rw c.as_slice.ensures.value at c.index_of-at.ensures in
    let missing : length c.args.tables.now.items ≤ index_of c.args.tables.now.items c.args.table = omega (arith, c.args.tables.now.ok.0) in
    let ordered = IsOrdered-outside c.args.rest.now.cells c.args.table c.args.range c.requires.rest in
    rw c.drop_range-else-at-len.ensures.map (
    dropped (store_cells c.args.tables.now.items c.args.rest.now.cells) (store_cells c.args.tables.now.items (outside c.args.rest.now.cells c.args.table c.args.range)) c.args.table c.args.range (IsOrdered-store_cells c.args.tables.now.items c.args.rest.now.cells c.requires.rest) (IsOrdered-store_cells c.args.tables.now.items (outside c.args.rest.now.cells c.args.table c.args.range) ordered)
    (rest_changed (without_range c.args.table c.args.range) c.args.tables.now.items c.args.rest.now.cells (outside c.args.rest.now.cells c.args.table c.args.range) c.args.table c.requires.each c.requires.rest ordered missing (drop_elsewhere c.args.table c.args.range) (cell_at-outside c.args.rest.now.cells c.args.table c.args.range)))
