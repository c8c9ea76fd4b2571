use Rattle.std.proofs.Common.{◌∙◌, sym}
use Rattle.barrier_core.proofs.FactLemmas.{least_without-told, least_without-untold}
use Rattle.barrier_core.proofs.evidence.Evidence.least_without.Goals as goal
use Rattle.barrier_core.proofs.evidence.Evidence.least_without.Goals.{then-not-has_told, else-not-has_told}

pub loop-host-preserved : goal.loop-host-preserved
loop-host-preserved c =
    let facts = c.args.self.now.facts in
    elim c.if-not-has_told.branch [
      | then-not-has_told w ↦ w.least-is ∙ w.lesser_host-least.ensures ∙ least_without-untold facts c.args.what c.args.hosts.now c.loop-host.host-index _ c.loop-host-test.true c.loop-host.least c.loop-host.invariant (sym c.has_told.ensures ∙ w.if-not-has_told.true)
      | else-not-has_told w ↦ w.least-is ∙ least_without-told facts c.args.what c.args.hosts.now c.loop-host.host-index _ c.loop-host-test.true c.loop-host.least c.loop-host.invariant (sym c.has_told.ensures ∙ w.if-not-has_told.false)
    ]
