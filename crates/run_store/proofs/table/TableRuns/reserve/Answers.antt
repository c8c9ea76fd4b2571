use Rattle.std.proofs.Common.{ap, ◌∙◌}
use Rattle.run_store.specs.Tables.{Grouped}
use Rattle.run_store.proofs.LoopLemmas.{IsGrouped-same, run_cells-same}
use Rattle.run_store.proofs.table.TableRuns.reserve.Goals as goal

pub invariant_of-self : goal.invariant_of-self
invariant_of-self c = IsGrouped-same c.self.inside.table c.self.inside.log2 c.reserve.new.runs.items c.self.inside.runs.items c.reserve.ensures.same c.self.invariant

pub returns-clause-cells : goal.returns-clause-cells
returns-clause-cells c = run_cells-same c.self.inside.table c.reserve.new.runs.items c.self.inside.runs.items c.reserve.ensures.same ∙ ap (λ (g : Grouped). g.cells) c.self.view_is
