use Rattle.std.proofs.Common.{◌≡◌, take}
use Rattle.barrier_core.specs.declared.data.What.TheVariants.{Ready as ReadyFor}
use Rattle.barrier_core.specs.Facts.{least_without}
use Rattle.resize_core.specs.Plan.{hosts_of}
use Rattle.resize_core.proofs.plan.unready_in.Given as goal

abbrev pub invariant-loop-replica : goal.invariant-loop-replica
invariant-loop-replica l = l.least ≡ least_without l.evidence.facts (ReadyFor l.seq) (hosts_of (take l.replica-index l.replicas))
