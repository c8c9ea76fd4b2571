use Rattle.std.proofs.Common.{arith}
use Rattle.tablet_map.proofs.Pairs.{gathered_all}
use Rattle.tablet_map.proofs.lists.gather_left.Goals as goal

pub returns : goal.returns
returns c = gathered_all c.args.tablets.now c.loop-pair.tablets c.loop-pair.pair (omega arith) c.loop-pair.invariant
