use Rattle.std.proofs.Common.{◌≡◌, ◌++◌, [], ◌∷◌, arith, length-append}
use Rattle.run_store.proofs.RegroupLemmas.{pairs_more, pairs_runs}
use Rattle.run_store.proofs.regrouping.pairs.Goals as goal

pub loop-at-preserved : goal.loop-at-preserved
loop-at-preserved c =
    let both : c.in_ok-joined.field-0.stored ≡ c.index-runs-at.result.stored ++ c.index-runs-at-in-loop-at.result.stored = rw (← c.as_slice.ensures, ← c.as_slice-in-loop-at.ensures) c.in_ok-joined.ensures in
    rw c.in_ok-push.ensures (record {
      cells = λ t. pairs_more t c.args.runs.now c.loop-at.pairs.items c.loop-at.at c.index-runs-at.result c.index-runs-at-in-loop-at.result c.in_ok-joined.field-0 (omega arith) c.index-runs-at.is c.index-runs-at-in-loop-at.is both (c.loop-at.invariant.cells t);
      count = omega (arith, c.loop-at.invariant.count, length-append c.loop-at.pairs.items (c.in_ok-joined.field-0 ∷ []));
      each = λ t log2 is. pairs_runs t log2 c.loop-at.at c.args.runs.now c.loop-at.pairs.items c.index-runs-at.result c.index-runs-at-in-loop-at.result c.in_ok-joined.field-0 is (omega arith) c.index-runs-at.is c.index-runs-at-in-loop-at.is both c.loop-at.invariant.count (c.loop-at.invariant.each t log2 is);
    })
