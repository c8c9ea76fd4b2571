use Rattle.monotone_read.proofs.MonotoneLemmas.{never_back}
use Rattle.monotone_read.proofs.laws.law_monotone.Goals as goal

pub returns : goal.returns
returns c = never_back c.args.journal.now c.law_quorum_reads.ensures
