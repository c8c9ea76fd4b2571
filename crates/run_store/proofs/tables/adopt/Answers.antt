use Rattle.std.proofs.Common.{◌==◌, ◌<◌, ◌≤◌, [], ◌∷◌, ◌++◌, length, ap, refl, ◌∙◌, arith, length-append}
use Rattle.base_ids.specs.declared.ids.TableId.{TableId}
use Rattle.replica_store.specs.declared.store.Stored.{Stored}
use Rattle.replica_store.proofs.RangeLemmas.{IsOrdered-filter}
use Rattle.run_store.specs.Runs.{of_table}
use Rattle.run_store.specs.Tables.{index_of}
use Rattle.run_store.proofs.AdoptLemmas.{of_table-whole, outside-whole, adopted_laid, adopted_cells, adopted_log2s, adopted_index, index_of-le, found_own, own_push}
use Rattle.run_store.proofs.tables.adopt.Goals as goal

pub new-requires : goal.new-requires
new-requires c =
    let own = ap (of_table c.args.table) c.range.ensures.cells ∙ of_table-whole c.whole.result c.whole.ensures c.args.table c.args.rest.now.cells in
    rw own (IsOrdered-filter (λ (e : TableId × Stored). e.0.0 == c.args.table.0) c.args.rest.now.cells c.requires.rest)

pub returns-clause-laid : goal.returns-clause-laid
returns-clause-laid c =
    let own = c.in_ok-own.ensures.cells ∙ ap (of_table c.args.table) c.range.ensures.cells ∙ of_table-whole c.whole.result c.whole.ensures c.args.table c.args.rest.now.cells in
    rw (c.in_ok-push.ensures.ok, c.drop_range.ensures.map) (adopted_laid c.whole-2.result c.whole-2.ensures c.args.tables.now.items c.args.rest.now.cells c.args.table c.in_ok-own.own c.requires c.in_ok-own.ensures.table c.in_ok-own.ensures.log2 own)

pub returns-clause-cells : goal.returns-clause-cells
returns-clause-cells c =
    let own = c.in_ok-own.ensures.cells ∙ ap (of_table c.args.table) c.range.ensures.cells ∙ of_table-whole c.whole.result c.whole.ensures c.args.table c.args.rest.now.cells in
    let at = rw c.as_slice.ensures.value at c.index_of-at.ensures in
    let missing : length c.args.tables.now.items ≤ index_of c.args.tables.now.items c.args.table = omega (arith, c.args.tables.now.ok.0) in
    rw (c.in_ok-push.ensures.ok, c.drop_range.ensures.map) (adopted_cells c.whole-2.result c.whole-2.ensures c.args.tables.now.items c.args.rest.now.cells c.args.table c.in_ok-own.own c.requires missing c.in_ok-own.ensures.table c.in_ok-own.ensures.log2 own)

pub returns-clause-log2s : goal.returns-clause-log2s
returns-clause-log2s c = λ t. rw c.in_ok-push.ensures.ok (adopted_log2s c.args.tables.now.items c.in_ok-own.own c.in_ok-own.ensures.log2 t)

pub returns-clause-at : goal.returns-clause-at
returns-clause-at c =
    let at = rw c.as_slice.ensures.value at c.index_of-at.ensures in
    let missing : length c.args.tables.now.items ≤ index_of c.args.tables.now.items c.args.table = omega (arith, c.args.tables.now.ok.0) in
    rw c.in_ok-push.ensures.ok (at ∙ adopted_index c.args.tables.now.items c.args.table c.in_ok-own.own missing c.in_ok-own.ensures.table)

pub returns-clause-within : goal.returns-clause-within
returns-clause-within c =
    let at = rw c.as_slice.ensures.value at c.index_of-at.ensures in
    rw c.in_ok-push.ensures.ok (omega (arith, length-append c.args.tables.now.items (c.in_ok-own.own ∷ []), index_of-le c.args.tables.now.items c.args.table))

pub returns-then-at-len-clause-moved : goal.returns-then-at-len-clause-moved
returns-then-at-len-clause-moved c = λ missing.
    let at = rw c.as_slice.ensures.value at c.index_of-at.ensures in
    let within : c.index_of-at.result < length c.args.tables.now.items = omega (arith, c.args.tables.now.ok.0) in
    absurd (omega arith)

pub returns-clause-moved : goal.returns-clause-moved
returns-clause-moved c = λ _. rw c.drop_range.ensures.map (outside-whole c.whole-2.result c.whole-2.ensures c.args.table c.args.rest.now.cells)

pub returns-then-at-len-clause-kept : goal.returns-then-at-len-clause-kept
returns-then-at-len-clause-kept c = λ _. (refl, refl)

pub returns-clause-kept : goal.returns-clause-kept
returns-clause-kept c = λ within.
    let at = rw c.as_slice.ensures.value at c.index_of-at.ensures in
    let missing : length c.args.tables.now.items ≤ index_of c.args.tables.now.items c.args.table = omega (arith, c.args.tables.now.ok.0) in
    absurd (omega arith)

pub returns-then-at-len-clause-own : goal.returns-then-at-len-clause-own
returns-then-at-len-clause-own c =
    let at = rw c.as_slice.ensures.value at c.index_of-at.ensures in
    found_own c.args.tables.now.items c.args.table (omega (arith, c.args.tables.now.ok.0))

pub returns-clause-own : goal.returns-clause-own
returns-clause-own c =
    let at = rw c.as_slice.ensures.value at c.index_of-at.ensures in
    let missing : length c.args.tables.now.items ≤ index_of c.args.tables.now.items c.args.table = omega (arith, c.args.tables.now.ok.0) in
    let is = adopted_index c.args.tables.now.items c.args.table c.in_ok-own.own missing c.in_ok-own.ensures.table in
    rw c.in_ok-push.ensures.ok (found_own (c.args.tables.now.items ++ c.in_ok-own.own ∷ []) c.args.table (omega (arith, length-append c.args.tables.now.items (c.in_ok-own.own ∷ []), index_of-le c.args.tables.now.items c.args.table)))

pub returns-clause-own_kept : goal.returns-clause-own_kept
returns-clause-own_kept c = λ t own. rw c.in_ok-push.ensures.ok (own_push c.args.tables.now.items c.in_ok-own.own t own)
