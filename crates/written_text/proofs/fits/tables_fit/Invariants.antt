-- Each one so far fits.
use Rattle.std.proofs.Common.{take}
use Rattle.std.specs.List.{AllByRecursion}
use Rattle.written_text.proofs.fits.tables_fit.Given as goal
use Rattle.written_text.specs.Fits.{FitsTable}

abbrev pub invariant-loop-table : goal.invariant-loop-table
invariant-loop-table l = AllByRecursion FitsTable (take l.table-index l.tables)
