use Rattle.std.proofs.Common.{◌+◌, ap, ◌∙◌}
use Rattle.run_store.proofs.StoreLemmas.{found_table, found_is, same_is, AreTables-set}
use Rattle.run_store.proofs.AdoptLemmas.{found_log2, log2_here, log2_elsewhere, store_cells-set, OnOk-map, own_set}
use Rattle.run_store.proofs.tables.join_groups.Goals as goal

pub join_groups-requires : goal.join_groups-requires
join_groups-requires c =
    rw (found_log2 c.adopt.new.tables.items c.args.table c.in_ok-at.at c.index_mut-own.result.now c.in_ok-at.ensures.at c.in_ok-at.ensures.within c.index_mut-own.ensures.value, c.in_ok-at.ensures.log2s c.args.table) c.requires.several

pub returns-clause-laid : goal.returns-clause-laid
returns-clause-laid c =
    let is = found_is c.adopt.new.tables.items c.in_ok-at.at c.index_mut-own.result.now c.in_ok-at.ensures.laid.each c.in_ok-at.ensures.within c.index_mut-own.ensures.value in
    record {
      each = AreTables-set c.adopt.new.tables.items c.in_ok-at.at c.join_groups.new.self c.in_ok-at.ensures.laid.each (same_is c.index_mut-own.result.now c.join_groups.new.self is c.join_groups.ensures.table c.join_groups.ensures.few c.join_groups.ensures.cells);
      rest = c.in_ok-at.ensures.laid.rest;
    }

pub returns-clause-cells : goal.returns-clause-cells
returns-clause-cells c =
    store_cells-set c.adopt.new.tables.items c.adopt.new.rest.cells c.in_ok-at.at c.index_mut-own.result.now c.join_groups.new.self c.index_mut-own.ensures.value c.join_groups.ensures.table c.join_groups.ensures.cells ∙ c.in_ok-at.ensures.cells

pub returns-clause-ok : goal.returns-clause-ok
returns-clause-ok c =
    let table = c.join_groups.ensures.table ∙ found_table c.adopt.new.tables.items c.args.table c.in_ok-at.at c.index_mut-own.result.now c.in_ok-at.ensures.at c.in_ok-at.ensures.within c.index_mut-own.ensures.value in
    let now = log2_here c.adopt.new.tables.items c.args.table c.in_ok-at.at c.join_groups.new.self c.in_ok-at.ensures.at c.in_ok-at.ensures.within table in
    let before = found_log2 c.adopt.new.tables.items c.args.table c.in_ok-at.at c.index_mut-own.result.now c.in_ok-at.ensures.at c.in_ok-at.ensures.within c.index_mut-own.ensures.value ∙ c.in_ok-at.ensures.log2s c.args.table in
    OnOk-map c.join_groups.result (λ done. ap (λ n. n + 1) now ∙ done ∙ before) c.join_groups.ensures.ok

pub returns-clause-others : goal.returns-clause-others
returns-clause-others c = λ t apart.
    let table = c.join_groups.ensures.table ∙ found_table c.adopt.new.tables.items c.args.table c.in_ok-at.at c.index_mut-own.result.now c.in_ok-at.ensures.at c.in_ok-at.ensures.within c.index_mut-own.ensures.value in
    log2_elsewhere c.adopt.new.tables.items c.args.table c.in_ok-at.at c.join_groups.new.self c.in_ok-at.ensures.at c.in_ok-at.ensures.within table t apart ∙ c.in_ok-at.ensures.log2s t

pub returns-clause-own_kept : goal.returns-clause-own_kept
returns-clause-own_kept c = λ t own.
    rw (own_set c.adopt.new.tables.items c.in_ok-at.at c.index_mut-own.result.now c.join_groups.new.self c.index_mut-own.ensures.value c.join_groups.ensures.table t) (c.in_ok-at.ensures.own_kept t own)
