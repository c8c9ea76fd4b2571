use Rattle.std.proofs.Common.{length, ◌*◌}
use Rattle.engine_office.proofs.RoomLemmas.{all_reserved, reserved_on}
use Rattle.engine_office.proofs.letters.make_room.Goals as goal

pub letters-preserved : goal.letters-preserved
letters-preserved g c =
    reserved_on c.args.lanes (2 * length c.args.letters.now) c.args.letters.now c.args.boxes.now c.letters.boxes c.reserve_at.new.boxes c.letters.letter-index _
    c.letters-test.true c.reserve_at.ensures.grown c.in_ok-reserve_at.ensures.room c.letters.invariant
