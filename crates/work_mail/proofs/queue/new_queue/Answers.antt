use Rattle.work_mail.proofs.MergeLemmas.{begins}
use Rattle.work_mail.proofs.queue.new_queue.Goals as goal

pub ruled-requires-clause-rule : goal.ruled-requires-clause-rule
ruled-requires-clause-rule c = begins
