use Rattle.book_rule.proofs.Turning.{draws, looks, passes}
use Rattle.book_rule.proofs.laws.law_turn_steps.Goals as goal

pub returns : goal.returns
returns g c = λ about. let m = g.W.World.meaning in record { draw = draws m about; look = looks m about; pass = passes m about }
