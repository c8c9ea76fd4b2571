use Rattle.std.proofs.Common.{◌∙◌}
use Rattle.barrier_core.proofs.FactLemmas.{told_found}
use Rattle.barrier_core.proofs.evidence.Evidence.has_told.Goals as goal

pub returns : goal.returns
returns c =
    rw (← c.self.view_is) (c.contains.ensures ∙ told_found c.self.inside.told.keys (record { from = c.args.host; what = c.args.what }))
