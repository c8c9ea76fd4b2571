use Rattle.std.proofs.Common.{length, ap, sym, ◌∙◌, arith}
use Rattle.run_store.proofs.RunLemmas.{begins_within, put_found, put_missing}
use Rattle.run_store.proofs.run.put_in.Goals as goal

pub index_mut-requires : goal.index_mut-requires
index_mut-requires c =
    let begins = rw c.as_slice-2.ensures.value at (sym c.is_at.ensures ∙ c.if-is_at.true) in
    let within = begins_within c.args.table c.args.stored.now.items c.first_from-at.result c.rank-place.result begins in
    omega (arith, c.as_slice-2.ensures.len, ap length c.as_slice-2.ensures.value)

pub returns-then-is_at-clause-cells : goal.returns-then-is_at-clause-cells
returns-then-is_at-clause-cells c =
    let begins = rw c.as_slice-2.ensures.value at (sym c.is_at.ensures ∙ c.if-is_at.true) in
    let first = rw c.as_slice.ensures.value at c.first_from-at.ensures.index in
    put_found c.args.table c.args.stored.now.items c.args.put c.first_from-at.result c.rank-place.result c.index_mut.result.now c.raise.new.cell c.rank-place.ensures.place first begins c.index_mut.ensures.value c.raise.ensures

pub returns-else-is_at-clause-cells : goal.returns-else-is_at-clause-cells
returns-else-is_at-clause-cells c =
    let begins = rw c.as_slice-2.ensures.value at (sym c.is_at.ensures ∙ c.if-is_at.false) in
    let first = rw c.as_slice.ensures.value at c.first_from-at.ensures.index in
    rw c.insert.ensures.items (put_missing c.args.table c.args.stored.now.items c.args.put c.first_from-at.result c.rank-place.result c.rank-place.ensures.place first begins)
