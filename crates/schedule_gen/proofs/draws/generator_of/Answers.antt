use Rattle.schedule_gen.specs.Draws.{generator_of}
use Rattle.schedule_gen.proofs.draws.generator_of.Goals as goal

pub returns : goal.returns
unfolding generator_of
returns c = c.new.ensures
