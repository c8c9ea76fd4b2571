use Rattle.std.proofs.Common.{◌≡◌, List, length, ap, sym, ◌∙◌, arith}
use Rattle.replica_store.specs.declared.store.Stored.{Stored}
use Rattle.replica_store.specs.Cells.{range_cells}
use Rattle.run_store.specs.Runs.{of_table}
use Rattle.std.proofs.lemmas.Bool.Decides.{nat_tests}
use Rattle.run_store.proofs.ChunkLemmas.{ordered_at, wanted_more}
use Rattle.run_store.proofs.chunks.first_with.Goals as goal

pub range_of-requires : goal.range_of-requires
range_of-requires c = rw c.as_slice.ensures (ordered_at c.args.table c.args.runs.now c.loop-at.at c.index-runs-at.result c.requires (omega arith) c.index-runs-at.is)

pub loop-at-preserved : goal.loop-at-preserved
loop-at-preserved c =
    let empty : length (range_cells (of_table c.args.table c.index-runs-at.result.stored) c.args.table c.args.range c.args.after) ≡ 0 =
    ap length (sym (c.range_of.ensures ∙ ap (λ (xs : List Stored). range_cells (of_table c.args.table xs) c.args.table c.args.range c.args.after) c.as_slice.ensures)) ∙ grind (arith, nat_tests) in
    wanted_more c.args.table c.args.range c.args.after c.args.runs.now c.loop-at.at c.index-runs-at.result (omega arith) c.index-runs-at.is c.loop-at.invariant empty
