use Rattle.std.proofs.Common.{◌≡◌, ◌≤◌, ◌+◌, drop, filter, length}
use Rattle.engine_topos.specs.Courses.{is_move_by}
use Rattle.engine_topos.proofs.course.count_by.Given as goal

abbrev pub invariant-moves : goal.invariant-moves
invariant-moves l =
    (l.count + length (filter (is_move_by l.topo) (drop l.ask-index l.moves)) ≡ length (filter (is_move_by l.topo) l.moves))
    × (l.count ≤ l.ask-index)
