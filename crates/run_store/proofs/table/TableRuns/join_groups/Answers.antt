use Rattle.std.proofs.Common.{◌≡◌, ◌+◌, ◌-◌, ◌<◌, ap, ◌∙◌, arith}
use Rattle.run_store.specs.Runs.{IsGrouped, run_cells}
use Rattle.run_store.specs.Tables.{Grouped}
use Rattle.run_store.proofs.table.TableRuns.join_groups.Goals as goal

pub returns-clause-cells : goal.returns-clause-cells
returns-clause-cells c =
    let some : 0 < c.self.inside.log2 = rw (← c.self.view_is) at c.requires in
    let e : c.self.inside.log2 - 1 + 1 ≡ c.self.inside.log2 = omega arith in
    let is : IsGrouped c.self.inside.table (c.self.inside.log2 - 1 + 1) c.as_slice.result.now = rw (e, c.as_slice.ensures.value) c.self.invariant in
    c.in_ok-self-inside.ensures.cells c.self.inside.table (c.self.inside.log2 - 1) is
    ∙ ap (run_cells c.self.inside.table) c.as_slice.ensures.value
    ∙ ap (λ (g : Grouped). g.cells) c.self.view_is
