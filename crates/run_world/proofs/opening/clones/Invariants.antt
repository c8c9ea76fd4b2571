use Rattle.std.proofs.Common.{take, ◌≡◌}
use Rattle.run_world.proofs.opening.clones.Given as goal

abbrev pub invariant-tables : goal.invariant-tables
invariant-tables l = l.copies ≡ take l.table-index l.tables
