use Rattle.std.proofs.Common.{rules, ◌≡◌, ◌<◌, length, IfOk, OnOk, option_map, Some, ℕ, ◌+◌, ◌-◌, ◌*◌, ◌≤◌, ◌/◌, ◌%◌, Bool, true, false, nat_eq, nat_lt, List, [], ◌∷◌, ◌++◌, slice_index_or, slice_set, bit_and, bit_or, Fits, w8, w32, w64, Bor, MutBor}
use Rattle.replica_store.specs.Cells.{IsOrdered}
use Rattle.stream_core.specs.Pulls.{next_ask}
use Rattle.gather_core.specs.Laws.{AreOrdered}
use Rattle.gather_core.specs.Rounds.{cells_in, round_stores, round_gather}
use Rattle.gather_core.proofs.rounds.gather_once.Goals as goal
use Rattle.std.proofs.Common.{sym, ap, subst, ◌∙◌}
use Rattle.replica_store.specs.Cells.{Cells}
use Rattle.stream_core.specs.Pulls.{served_chunk}
use Rattle.stream_core.specs.declared.data.ChunkMsg.{ChunkMsg}
use Rattle.gather_core.specs.Gathers.{stored_after}
use Rattle.gather_core.specs.Rounds.{chunk_for}
use Rattle.gather_core.proofs.RoundLemmas.{got_in, put_in}

-- src/rounds.rt:15:1
pub returns-clause-stores : goal.returns-clause-stores
returns-clause-stores g c =
    let stores = c.args.stores.now in
    let ask = c.args.ask.now in
    let gather = c.args.gather.now in
    let from = got_in g.S.Store.cells stores ask.to c.from.result c.index-stores-from.result c.from.ensures c.requires.to c.index-stores-from.is in
    let by = ap (λ s. g.S.Store.cells s) (sym c.index-stores-from-2.is) ∙ got_in g.S.Store.cells stores ask.by c.from-2.result c.index-stores-from-2.result c.from-2.ensures c.requires.by c.index-stores-from-2.is in
    let chunk : c.in_ok-chunk.chunk ≡ chunk_for (cells_in g.S.Store.cells stores) ask = c.in_ok-chunk.ensures ∙ ap (λ (cells : Cells). served_chunk cells ask) (ap (λ s. g.S.Store.cells s) (sym c.index-stores-from.is) ∙ from) in
    let P : Cells → Type 0 = λ cells. IsOrdered cells in
    let ordered = subst P (sym by) (c.requires.ordered ask.by) in
    let held = c.in_ok-take.ensures.cells ordered in
    put_in g.S.Store.cells stores c.from-2.result ask.by c.take.new.store _ c.from-2.ensures c.requires.by
    (held ∙ (ap (λ (cells : Cells). stored_after gather cells c.in_ok-chunk.chunk) by ∙ ap (λ (m : ChunkMsg). stored_after gather (cells_in g.S.Store.cells stores ask.by) m) chunk))
