use Rattle.std.proofs.Common.{◌≡◌, drop, filter, slice_get}
use Rattle.engine_topos.specs.Courses.{is_move_by}
use Rattle.engine_topos.proofs.course.nth_by.Given as goal

abbrev pub invariant-moves : goal.invariant-moves
invariant-moves l = slice_get (filter (is_move_by l.topo) (drop l.ask-index l.moves)) l.left ≡ slice_get (filter (is_move_by l.topo) l.moves) l.number
