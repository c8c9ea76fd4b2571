use Rattle.std.proofs.Common.{◌≡◌, take}
use Rattle.barrier_core.specs.Facts.{least_without}
use Rattle.barrier_core.proofs.evidence.Evidence.least_without.Given as goal

abbrev pub invariant-loop-host : goal.invariant-loop-host
invariant-loop-host l = l.least ≡ least_without l.self.facts l.what (take l.host-index l.hosts)
