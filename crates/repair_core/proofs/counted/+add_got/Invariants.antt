use Rattle.std.proofs.Common.{length}
use Rattle.repair_core.proofs.counted.+add_got.Given as goal

abbrev pub decreases-add_got : goal.decreases-add_got
decreases-add_got g l = length l.before.now
