-- What is left to play comes to what the whole comes to.
use Rattle.std.proofs.Common.{length, reverse, ◌-◌}
use Rattle.cluster_machine.specs.Step.{most_entries}
use Rattle.schedule_play.proofs.PlayLemmas.{Going}
use Rattle.schedule_play.specs.Play.{played_tasks}
use Rattle.schedule_play.proofs.playing.play_tasks.Given as goal

abbrev pub invariant-playing : goal.invariant-playing
invariant-playing l =
    Going l.line (played_tasks l.line (most_entries - length l.fn.machine.entries) l.fn.machine (reverse l.fn.left)) l.machine l.left

abbrev pub decreases-playing : goal.decreases-playing
decreases-playing l = most_entries - length l.machine.entries
