-- The lines of the reads before this one were added.
use Rattle.std.proofs.Common.{◌≡◌, ◌++◌, map, take}
use Rattle.further_report.specs.Lines.{repaired_line}
use Rattle.further_report.proofs.reads.add_repaired.Given as goal

abbrev pub invariant-loop-read : goal.invariant-loop-read
invariant-loop-read l = l.lines ≡ l.fn.lines ++ map repaired_line (take l.read-index l.read-items)
