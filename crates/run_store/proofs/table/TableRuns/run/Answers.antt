use Rattle.std.proofs.Common.{◌∙◌}
use Rattle.run_store.proofs.TabletLemmas.{run_cells_are}
use Rattle.run_store.proofs.table.TableRuns.run.Goals as goal

pub returns : goal.returns
returns c = rw (← c.self.view_is) (c.as_slice.ensures ∙ run_cells_are c.self.inside.table c.self.inside.log2 c.args.tablet c.self.inside.runs.items c.index.result.now c.self.invariant (rw (← c.self.view_is) at c.requires) c.index.ensures)
