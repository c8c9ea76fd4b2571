use Rattle.engine_desk.proofs.FileLemmas.{filed_noted}
use Rattle.engine_desk.proofs.NotedLemmas.{pinning_noted}
use Rattle.engine_desk.proofs.desk.Desk.pin.Goals as goal

pub invariant_of-self : goal.invariant_of-self
invariant_of-self g c =
    let old = g.C.Chair.known c.self.inside.chair in
    let new = g.C.Chair.known c.pin.new.self in
    (filed_noted old new c.self.inside.own c.self.inside.refs.items (pinning_noted old new c.pin.result c.pin.ensures) c.self.invariant.0, c.self.invariant.1)
