use Rattle.thread_tests.proofs.SceneLemmas.{reached_by}
use Rattle.thread_tests.proofs.pins.reach.Goals as goal

pub returns-in-Ok-clause-reached : goal.returns-in-Ok-clause-reached
returns-in-Ok-clause-reached g c = λ _. reached_by _ c.commit.new.seat.known c.args.steps c.in-Ok._committed c.in-Ok.ensures.ok
