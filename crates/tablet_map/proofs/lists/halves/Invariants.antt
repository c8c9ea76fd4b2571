use Rattle.std.proofs.Common.{◌≡◌, take}
use Rattle.std.specs.List.{flat_map}
use Rattle.tablet_map.specs.Calls.{both}
use Rattle.tablet_map.proofs.lists.halves.Given as goal

abbrev pub invariant-loop-tablet : goal.invariant-loop-tablet
invariant-loop-tablet l = l.copies.items ≡ flat_map both (take l.tablet-index l.tablets)
