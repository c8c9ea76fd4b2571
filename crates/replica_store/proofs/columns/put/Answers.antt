use Rattle.std.proofs.Common.{length, ap, sym, ◌∙◌, arith}
use Rattle.std.specs.List.{zip}
use Rattle.std.proofs.Math.ListN.{length-set}
use Rattle.replica_store.proofs.OrderLemmas.{length-columns}
use Rattle.replica_store.proofs.ColumnLemmas.{begins_at-within}
use Rattle.replica_store.proofs.StoreLemmas.{put_found, put_missing, AreColumns-put, length-insert}
use Rattle.replica_store.proofs.columns.put.Goals as goal

pub index_mut-requires : goal.index_mut-requires
index_mut-requires c =
    let begins = rw (c.as_slice-3.ensures.value, c.as_slice-4.ensures.value) at (sym c.is_at.ensures ∙ c.if-is_at.true) in
    let long = length-columns c.args.tables.now.items c.args.stored.now.items c.requires.columns.one_length in
    let within = begins_at-within (zip c.args.tables.now.items c.args.stored.now.items) c.first_from-at.result c.rank-place.result begins in
    omega (arith, c.requires.columns.one_length, c.as_slice-4.ensures.len, ap length c.as_slice-4.ensures.value)

pub returns-then-is_at-clause-cells : goal.returns-then-is_at-clause-cells
returns-then-is_at-clause-cells c =
    let begins = rw (c.as_slice-3.ensures.value, c.as_slice-4.ensures.value) at (sym c.is_at.ensures ∙ c.if-is_at.true) in
    let first = rw (c.as_slice.ensures.value, c.as_slice-2.ensures.value) at c.first_from-at.ensures.index in
    put_found c.args.tables.now.items c.args.stored.now.items c.args.table c.args.put c.first_from-at.result c.rank-place.result c.index_mut.result.now c.raise.new.cell c.requires.columns c.rank-place.ensures.place first begins c.index_mut.ensures.value c.raise.ensures

pub returns-then-is_at-clause-columns : goal.returns-then-is_at-clause-columns
returns-then-is_at-clause-columns c =
    let begins = rw (c.as_slice-3.ensures.value, c.as_slice-4.ensures.value) at (sym c.is_at.ensures ∙ c.if-is_at.true) in
    let first = rw (c.as_slice.ensures.value, c.as_slice-2.ensures.value) at c.first_from-at.ensures.index in
    let shown = put_found c.args.tables.now.items c.args.stored.now.items c.args.table c.args.put c.first_from-at.result c.rank-place.result c.index_mut.result.now c.raise.new.cell c.requires.columns c.rank-place.ensures.place first begins c.index_mut.ensures.value c.raise.ensures in
    AreColumns-put _ _ (zip c.args.tables.now.items c.args.stored.now.items) (c.args.table, c.args.put) (simp length-set c.requires.columns.one_length) shown c.requires.columns.ordered

pub returns-else-is_at-clause-cells : goal.returns-else-is_at-clause-cells
returns-else-is_at-clause-cells c =
    let begins = rw (c.as_slice-3.ensures.value, c.as_slice-4.ensures.value) at (sym c.is_at.ensures ∙ c.if-is_at.false) in
    let first = rw (c.as_slice.ensures.value, c.as_slice-2.ensures.value) at c.first_from-at.ensures.index in
    rw (c.insert.ensures.items, c.insert-else-is_at.ensures.items) (put_missing c.args.tables.now.items c.args.stored.now.items c.args.table c.args.put c.first_from-at.result c.rank-place.result c.requires.columns c.rank-place.ensures.place first begins)

pub returns-else-is_at-clause-columns : goal.returns-else-is_at-clause-columns
returns-else-is_at-clause-columns c =
    let begins = rw (c.as_slice-3.ensures.value, c.as_slice-4.ensures.value) at (sym c.is_at.ensures ∙ c.if-is_at.false) in
    let first = rw (c.as_slice.ensures.value, c.as_slice-2.ensures.value) at c.first_from-at.ensures.index in
    let shown = put_missing c.args.tables.now.items c.args.stored.now.items c.args.table c.args.put c.first_from-at.result c.rank-place.result c.requires.columns c.rank-place.ensures.place first begins in
    rw (c.insert.ensures.items, c.insert-else-is_at.ensures.items) (AreColumns-put _ _ (zip c.args.tables.now.items c.args.stored.now.items) (c.args.table, c.args.put) (length-insert c.args.tables.now.items c.args.stored.now.items c.first_from-at.result c.args.table c.args.put c.requires.columns.one_length) shown c.requires.columns.ordered)
