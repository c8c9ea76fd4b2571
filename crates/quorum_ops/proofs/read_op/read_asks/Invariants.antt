use Rattle.std.proofs.Common.{◌≡◌, take, map}
use Rattle.quorum_ops.specs.Pending.{read_to}
use Rattle.quorum_ops.proofs.read_op.read_asks.Given as goal

abbrev pub invariant-loop-to : goal.invariant-loop-to
invariant-loop-to l = l.asks ≡ map (read_to l.ask) (take l.to-index l.targets)
