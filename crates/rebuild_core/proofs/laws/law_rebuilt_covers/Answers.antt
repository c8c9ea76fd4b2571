use Rattle.rebuild_core.proofs.RebuildLemmas.{rebuilt_covers}
use Rattle.rebuild_core.proofs.laws.law_rebuilt_covers.Goals as goal

pub returns : goal.returns
returns c = rebuilt_covers
