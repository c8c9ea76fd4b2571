use Rattle.std.proofs.Common.{◌≡◌, take, map}
use Rattle.quorum_tally.specs.Standings.{unmarked_place}
use Rattle.quorum_tally.proofs.tally.fill_places.Given as goal

abbrev pub invariant-loop-i : goal.invariant-loop-i
invariant-loop-i l = take l.i l.places ≡ map unmarked_place (take l.i l.targets)
