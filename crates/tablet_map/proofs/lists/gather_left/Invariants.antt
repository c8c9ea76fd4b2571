use Rattle.tablet_map.proofs.Pairs.{IsGathered}
use Rattle.tablet_map.proofs.lists.gather_left.Given as goal

abbrev pub invariant-loop-pair : goal.invariant-loop-pair
invariant-loop-pair l = IsGathered l.fn.tablets l.tablets l.pair
