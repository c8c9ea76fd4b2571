use Rattle.stream_core.proofs.ChunkLemmas.{last_token-last}
use Rattle.stream_core.proofs.pull.last_token.Goals as goal

pub returns-in-Some : goal.returns-in-Some
returns-in-Some c = last_token-last c.args.after c.args.cells.now c.in-Some.stored.now c.in-Some.ensures.item.3.0 c.in-Some.ensures.item.1
