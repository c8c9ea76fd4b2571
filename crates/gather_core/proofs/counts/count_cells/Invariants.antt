use Rattle.std.proofs.Common.{◌≡◌, ◌+◌, ◌-◌, ◌^◌, min, None, length}
use Rattle.replica_store.specs.Cells.{range_cells}
use Rattle.gather_core.proofs.counts.count_cells.Given as goal

abbrev pub invariant-counting : goal.invariant-counting
invariant-counting g l =
    min (l.count + length (range_cells (g.S.Store.cells l.store) l.table l.range l.after)) (2 ^ 64 - 1)
    ≡ min (length (range_cells (g.S.Store.cells l.store) l.table l.range None)) (2 ^ 64 - 1)

abbrev pub decreases-counting : goal.decreases-counting
decreases-counting g l = length (range_cells (g.S.Store.cells l.store) l.table l.range l.after)
