use Rattle.work_mail.proofs.MergeLemmas.{learns, takes_as}
use Rattle.work_mail.proofs.queue.pop.Goals as goal

pub pop_as-requires-clause-rule : goal.pop_as-requires-clause-rule
pop_as-requires-clause-rule g c = (takes_as _ _ c.requires.first, learns _ _)
