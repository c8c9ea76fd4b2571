use Rattle.std.proofs.Common.{◌≡◌, ◌++◌, take, drop, map}
use Rattle.quorum_tally.specs.Standings.{marked_place}
use Rattle.quorum_tally.proofs.tally.mark_all.Given as goal

abbrev pub invariant-loop-i : goal.invariant-loop-i
invariant-loop-i l =
    take l.i l.places ++ map (marked_place l.from l.standing) (drop l.i l.places)
    ≡ map (marked_place l.from l.standing) l.fn.places
