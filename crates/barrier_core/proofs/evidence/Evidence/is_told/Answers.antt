use Rattle.std.proofs.Common.{◌∙◌, sym}
use Rattle.barrier_core.proofs.FactLemmas.{kind_found, is_told-reverse}
use Rattle.barrier_core.proofs.evidence.Evidence.is_told.Goals as goal

pub returns : goal.returns
returns c =
    rw (← c.self.view_is) (
    c.contains.ensures ∙ kind_found c.self.inside.kinds.keys c.args.what ∙ c.self.invariant c.args.what ∙ sym (is_told-reverse c.self.inside.told.keys c.args.what)
    )
