use Rattle.std.proofs.Common.{◌≡◌, ◌^◌}
use Rattle.run_store.specs.Tables.{log2_of, log2s_of}
use Rattle.run_store.proofs.StoreLemmas.{IsOrdered-store_cells}
use Rattle.run_store.proofs.AdoptLemmas.{one_log2}
use Rattle.run_store.proofs.store.RunStoreStore.chunk.Goals as goal

pub returns-clause-full : goal.returns-clause-full
returns-clause-full c = rw (← c.self.view_is) (λ log2 told one.
    let counts : 2 ^ log2_of (log2s_of c.self.inside.tables.items) c.args.table ≡ 2 ^ log2 = cc in
    let same = one_log2 (log2_of (log2s_of c.self.inside.tables.items) c.args.table) log2 counts in
    let full = rw c.as_slice.ensures.value at c.chunk.ensures.full in
    full (rw same one))

pub returns-clause-ordered : goal.returns-clause-ordered
returns-clause-ordered c = rw (← c.self.view_is) (IsOrdered-store_cells c.self.inside.tables.items c.self.inside.rest.cells c.self.invariant.rest)
