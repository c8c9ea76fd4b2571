use Rattle.std.proofs.Common.{◌∙◌, ap}
use Rattle.barrier_core.specs.Facts.{lesser_host, least_without}
use Rattle.barrier_core.specs.declared.data.What.TheVariants.{Ready as ReadyFor}
use Rattle.tablet_map.specs.declared.tablet.Tablet.{Tablet}
use Rattle.resize_core.specs.Plan.{hosts_of}
use Rattle.resize_core.proofs.ReadyLemmas.{behind_tablet}
use Rattle.resize_core.proofs.plan.first_unready.Goals as goal

pub loop-tablet-preserved : goal.loop-tablet-preserved
loop-tablet-preserved c =
    let facts = c.args.evidence.now.facts in
    let what = ReadyFor c.args.seq in
    c.lesser_host-least.ensures
    ∙ ap (lesser_host c.loop-tablet.least) (c.unready_in.ensures ∙ ap (λ rs. least_without facts what (hosts_of rs)) c.as_slice.ensures.list ∙ ap (λ (t : Tablet). least_without facts what (hosts_of t.replicas)) c.tablet-item.is)
    ∙ behind_tablet facts what c.args.tablets.now c.loop-tablet.tablet-index c.tablet-item.result c.loop-tablet-test.true c.loop-tablet.least c.loop-tablet.invariant
