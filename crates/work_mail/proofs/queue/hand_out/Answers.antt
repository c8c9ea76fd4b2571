use Rattle.work_mail.proofs.MergeLemmas.{forks_as}
use Rattle.work_mail.proofs.queue.hand_out.Goals as goal

pub another-requires-clause-rule : goal.another-requires-clause-rule
another-requires-clause-rule c = forks_as _ _ c.requires.first
