use Rattle.engine_desk.proofs.FileLemmas.{filed_noted}
use Rattle.engine_desk.proofs.NotedLemmas.{idling_noted}
use Rattle.engine_desk.proofs.desk.Desk.idle_below.Goals as goal

pub invariant_of-self : goal.invariant_of-self
invariant_of-self g c =
    let old = g.C.Chair.known c.self.inside.chair in
    let new = g.C.Chair.known c.idle_below.new.self in
    (filed_noted old new c.self.inside.own c.self.inside.refs.items (idling_noted old new c.args.version c.idle_below.result c.idle_below.ensures) c.self.invariant.0, c.self.invariant.1)
