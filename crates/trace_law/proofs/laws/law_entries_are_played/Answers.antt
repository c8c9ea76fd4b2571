-- The law, by its lemma.
use Rattle.trace_law.proofs.PlayLemmas.{entries_are_played}
use Rattle.trace_law.proofs.laws.law_entries_are_played.Goals as goal

pub returns : goal.returns
returns c = entries_are_played
