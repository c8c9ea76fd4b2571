use Rattle.std.proofs.Common.{◌≡◌, take, map}
use Rattle.quorum_ops.specs.Pending.{write_to}
use Rattle.quorum_ops.proofs.write_op.write_asks.Given as goal

abbrev pub invariant-loop-to : goal.invariant-loop-to
invariant-loop-to l = l.asks ≡ map (write_to l.ask) (take l.to-index l.targets)
