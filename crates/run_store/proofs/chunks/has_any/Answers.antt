use Rattle.run_store.proofs.ChunkLemmas.{has_any_is}
use Rattle.run_store.proofs.chunks.has_any.Goals as goal

pub returns : goal.returns
returns c = has_any_is c.args.table c.args.range c.args.after c.args.runs.now c.first_with.result c.first_with.ensures.within c.first_with.ensures.none c.first_with.ensures.some
