use Rattle.std.proofs.Common.{◌≡◌, ◌+◌, ◌++◌, [], ◌∷◌, List, ap, ◌∙◌, arith, length-append}
use Rattle.run_store.specs.Runs.{Filled}
use Rattle.run_store.proofs.GroupLemmas.{run_read}
use Rattle.run_store.proofs.RegroupLemmas.{halves_more, halves_runs}
use Rattle.run_store.proofs.regrouping.halves.Goals as goal

pub halves_of-requires-clause-run : goal.halves_of-requires-clause-run
halves_of-requires-clause-run c =
    rw c.as_slice.ensures (run_read c.args.table c.args.log2 c.args.runs.now c.loop-at.at c.index-runs-at.result c.requires.grouped (omega (arith, c.requires.grouped.count)) c.index-runs-at.is)

pub loop-at-preserved : goal.loop-at-preserved
loop-at-preserved c =
    let pushed : c.push-in-loop-at.new.runs.items ≡ c.loop-at.halves.items ++ c.in_ok-copied.field-0 ∷ [] ++ c.in_ok-copied-2.field-0 ∷ [] = c.in_ok-push-2.ensures ∙ ap (λ (hs : List Filled). hs ++ c.in_ok-copied-2.field-0 ∷ []) c.in_ok-push.ensures in
    let all : c.in_ok-copied.field-0.stored ++ c.in_ok-copied-2.field-0.stored ≡ c.index-runs-at.result.stored = rw (c.in_ok-copied.ensures, c.in_ok-copied-2.ensures) (c.halves_of.ensures.all ∙ c.as_slice.ensures) in
    rw pushed (record {
      cells = halves_more c.args.table c.args.runs.now c.loop-at.halves.items c.loop-at.at c.index-runs-at.result c.in_ok-copied.field-0 c.in_ok-copied-2.field-0 (omega arith) c.index-runs-at.is all c.loop-at.invariant.cells;
      count = omega (arith, c.loop-at.invariant.count, length-append c.loop-at.halves.items (c.in_ok-copied.field-0 ∷ []), length-append (c.loop-at.halves.items ++ c.in_ok-copied.field-0 ∷ []) (c.in_ok-copied-2.field-0 ∷ []));
      each = halves_runs c.args.table (c.args.log2 + 1) c.loop-at.at c.loop-at.halves.items c.in_ok-copied.field-0 c.in_ok-copied-2.field-0 c.loop-at.invariant.count c.loop-at.invariant.each (rw c.in_ok-copied.ensures c.halves_of.ensures.left) (rw c.in_ok-copied-2.ensures c.halves_of.ensures.right);
    })
