use Rattle.std.proofs.Common.{ℕ, ◌%◌, ap}
use Rattle.rand_pcg.specs.Lcg.{Lcg}
use Rattle.schedule_gen.specs.Draws.{next_word, next_generator}
use Rattle.schedule_gen.proofs.draws.draw.Goals as goal

pub returns-clause-drawn : goal.returns-clause-drawn
unfolding next_word
returns-clause-drawn c = ap (λ (p : ℕ × Lcg). p.0 % c.args.below) c.next_word.ensures

pub returns-clause-after : goal.returns-clause-after
unfolding next_generator
returns-clause-after c = ap (λ (p : ℕ × Lcg). p.1) c.next_word.ensures
