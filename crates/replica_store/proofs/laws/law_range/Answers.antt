use Rattle.replica_store.proofs.MapLemmas.{stored_at-range_cells, IsAscending-range_cells}
use Rattle.replica_store.proofs.laws.law_range.Goals as goal

pub returns : goal.returns
returns c = record { cells = stored_at-range_cells; order = IsAscending-range_cells }
