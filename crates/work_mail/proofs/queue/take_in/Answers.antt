use Rattle.work_mail.proofs.MergeLemmas.{joins_as}
use Rattle.work_mail.proofs.queue.take_in.Goals as goal

pub absorb-requires-clause-rule : goal.absorb-requires-clause-rule
absorb-requires-clause-rule c = joins_as _ _ _ _ c.requires.first c.requires.other
