-- The law, by its lemma.
use Rattle.overlap_law.proofs.HeadlineLemmas.{quorum_reads}
use Rattle.overlap_law.proofs.laws.law_quorum_reads.Goals as goal

pub returns : goal.returns
returns c = quorum_reads c.args.journal.now c.requires
