use Rattle.std.proofs.Common.{◌<◌, ℕ}
use Rattle.tablet_map.proofs.Pairs.{SameAt}
use Rattle.tablet_map.proofs.lists.place_of_apart.Given as goal

abbrev pub invariant-loop-pair : goal.invariant-loop-pair
invariant-loop-pair l = (k : ℕ) → k < l.pair → SameAt l.tablets k
