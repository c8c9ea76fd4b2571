use Rattle.work_mail.proofs.MergeLemmas.{learns, live, puts}
use Rattle.work_mail.proofs.queue.push.Goals as goal

pub push_as-requires-clause-rule : goal.push_as-requires-clause-rule
push_as-requires-clause-rule g c = (puts _ _ _ _ (live _ _ c.requires.out), learns _ _)
