use Rattle.std.proofs.Common.{◌<◌, ◌∙◌, length, arith}
use Rattle.quorum_tally.specs.Standings.{marked_place}
use Rattle.quorum_tally.proofs.PlaceLemmas.{map_step}
use Rattle.quorum_tally.proofs.tally.mark_all.Goals as goal

pub loop-i-preserved : goal.loop-i-preserved
loop-i-preserved c =
    let inside : c.loop-i.i < length c.loop-i.places = omega arith in
    map_step (marked_place c.args.from c.args.standing) c.loop-i.places c.loop-i.i _ c.marked_place.result c.marked_place.ensures inside
    ∙ c.loop-i.invariant
