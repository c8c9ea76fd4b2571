use Rattle.std.proofs.Common.{◌≡◌, replicate}
use Rattle.tablet_map.specs.Calls.{at_rest}
use Rattle.tablet_map.proofs.lists.equal_tablets.Given as goal

abbrev pub invariant-loop : goal.invariant-loop
invariant-loop l = l.tablets.items ≡ replicate l.counter (at_rest l.replicas)
