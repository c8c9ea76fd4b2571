use Rattle.stream_core.proofs.PassedLemmas.{chunk_has_cells}
use Rattle.stream_core.proofs.laws.law_chunk.Goals as goal

pub returns : goal.returns
returns c = chunk_has_cells
