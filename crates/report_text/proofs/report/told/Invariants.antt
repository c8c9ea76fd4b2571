-- The lines and the tally are those of the entries before this one.
use Rattle.std.proofs.Common.{reverse, take}
use Rattle.report_text.proofs.TallyLemmas.{Kept}
use Rattle.report_text.proofs.report.told.Given as goal

abbrev pub invariant-loop-entry : goal.invariant-loop-entry
invariant-loop-entry l = Kept l.journal.opening (reverse (take l.entry-index l.entry-items)) l.lines l.tally l.entry-index
