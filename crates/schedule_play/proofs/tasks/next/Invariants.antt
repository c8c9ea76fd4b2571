-- What is left comes to the same next event.
use Rattle.std.proofs.Common.{◌≡◌, length, reverse}
use Rattle.schedule_play.specs.Fits.{AreFit}
use Rattle.schedule_play.specs.Tasks.{next}
use Rattle.schedule_play.proofs.tasks.next.Given as goal

abbrev pub invariant-loop-first : goal.invariant-loop-first
invariant-loop-first l = record {
  fit : AreFit l.machine.opening (length l.machine.entries) (reverse l.left);
  same : next l.machine (reverse l.fn.left) ≡ next l.machine (reverse l.left);
}

abbrev pub decreases-loop-first : goal.decreases-loop-first
decreases-loop-first l = length l.left
