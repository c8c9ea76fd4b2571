-- The lines of the moves before this one were added.
use Rattle.std.proofs.Common.{◌≡◌, ◌++◌, map, take}
use Rattle.further_report.specs.Lines.{move_line}
use Rattle.further_report.proofs.plans.add_moves.Given as goal

abbrev pub invariant-loop-moving : goal.invariant-loop-moving
invariant-loop-moving l = l.lines ≡ l.fn.lines ++ map move_line (take l.moving-index l.moves)
