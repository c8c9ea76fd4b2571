-- The law, by its lemma.
use Rattle.stream_law.proofs.ServedLemmas.{chunks_have_held_cells}
use Rattle.stream_law.proofs.laws.law_chunks_have_held_cells.Goals as goal

pub returns : goal.returns
returns c = chunks_have_held_cells
