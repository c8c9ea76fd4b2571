use Rattle.engine_office.proofs.RoomLemmas.{IsReserved}
use Rattle.engine_office.proofs.letters.make_room.Given as goal

abbrev pub invariant-letters : goal.invariant-letters
invariant-letters g l = IsReserved l.lanes l.count l.letters l.initial.boxes l.boxes l.letter-index
