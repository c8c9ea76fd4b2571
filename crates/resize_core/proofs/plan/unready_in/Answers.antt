use Rattle.std.proofs.Common.{◌∙◌, sym}
use Rattle.barrier_core.specs.declared.data.What.TheVariants.{Ready as ReadyFor}
use Rattle.resize_core.proofs.ReadyLemmas.{behind_told, behind_untold}
use Rattle.resize_core.proofs.plan.unready_in.Goals as goal
use Rattle.resize_core.proofs.plan.unready_in.Goals.{then-not-has_ready, else-not-has_ready}

pub loop-replica-preserved : goal.loop-replica-preserved
loop-replica-preserved c =
    let facts = c.args.evidence.now.facts in
    let what = ReadyFor c.args.seq in
    elim c.if-not-has_ready.branch [
      | then-not-has_ready w ↦ w.least-is ∙ w.lesser_host-least.ensures ∙ behind_untold facts what c.args.replicas.now c.loop-replica.replica-index _ c.loop-replica-test.true c.loop-replica.least c.loop-replica.invariant (sym c.has_ready.ensures ∙ w.if-not-has_ready.true)
      | else-not-has_ready w ↦ w.least-is ∙ behind_told facts what c.args.replicas.now c.loop-replica.replica-index _ c.loop-replica-test.true c.loop-replica.least c.loop-replica.invariant (sym c.has_ready.ensures ∙ w.if-not-has_ready.false)
    ]
