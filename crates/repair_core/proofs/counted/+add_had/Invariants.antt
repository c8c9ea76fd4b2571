use Rattle.std.proofs.Common.{length}
use Rattle.repair_core.proofs.counted.+add_had.Given as goal

abbrev pub decreases-add_had : goal.decreases-add_had
decreases-add_had g l = length l.replicas.now
