use Rattle.std.proofs.Common.{ap, ◌∙◌}
use Rattle.thread_tests.specs.Scenes.{the_lane}
use Rattle.thread_tests.proofs.pins.meet.Goals as goal

pub confirm-pin-requires-clause-lane : goal.confirm-pin-requires-clause-lane
confirm-pin-requires-clause-lane c = (the_lane, ap (λ k. k.actor) c.raise-raised.ensures.known ∙ c.requires.lane.actor)
