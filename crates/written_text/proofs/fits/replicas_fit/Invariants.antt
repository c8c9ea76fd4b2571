-- Each one so far fits.
use Rattle.std.proofs.Common.{take}
use Rattle.std.specs.List.{AllByRecursion}
use Rattle.written_text.proofs.fits.replicas_fit.Given as goal
use Rattle.written_text.specs.Fits.{FitsReplica}

abbrev pub invariant-loop-replica : goal.invariant-loop-replica
invariant-loop-replica l = AllByRecursion FitsReplica (take l.replica-index l.replicas)
