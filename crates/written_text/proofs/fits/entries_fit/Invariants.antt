-- Each one so far fits.
use Rattle.std.proofs.Common.{take}
use Rattle.std.specs.List.{AllByRecursion}
use Rattle.written_text.proofs.fits.entries_fit.Given as goal
use Rattle.written_text.specs.Fits.{FitsEntry}

abbrev pub invariant-loop-entry : goal.invariant-loop-entry
invariant-loop-entry l = AllByRecursion FitsEntry (take l.entry-index l.entries)
