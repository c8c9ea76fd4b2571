use Rattle.std.proofs.Common.{◌≡◌, take}
use Rattle.barrier_core.specs.declared.data.What.TheVariants.{Ready as ReadyFor}
use Rattle.barrier_core.specs.Facts.{least_without}
use Rattle.resize_core.specs.Plan.{replica_hosts}
use Rattle.resize_core.proofs.plan.first_unready.Given as goal

abbrev pub invariant-loop-tablet : goal.invariant-loop-tablet
invariant-loop-tablet l = l.least ≡ least_without l.evidence.facts (ReadyFor l.seq) (replica_hosts (take l.tablet-index l.tablets))
