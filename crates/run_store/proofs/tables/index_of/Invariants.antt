use Rattle.std.proofs.Common.{◌≡◌, ◌+◌, drop}
use Rattle.run_store.specs.Tables.{index_of}
use Rattle.run_store.proofs.tables.index_of.Given as goal

abbrev pub invariant-loop-at : goal.invariant-loop-at
invariant-loop-at l = l.at + index_of (drop l.at l.tables) l.table ≡ index_of l.tables l.table
