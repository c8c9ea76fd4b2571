use Rattle.engine_desk.proofs.FileLemmas.{filed_noted}
use Rattle.engine_desk.proofs.NotedLemmas.{publishing_noted}
use Rattle.engine_desk.proofs.desk.Desk.publish.Goals as goal

pub invariant_of-self : goal.invariant_of-self
invariant_of-self g c =
    let old = g.C.Chair.known c.self.inside.chair in
    let new = g.C.Chair.known c.publish.new.self in
    (filed_noted old new c.self.inside.own c.self.inside.refs.items (publishing_noted old new c.args.version c.publish.result c.publish.ensures) c.self.invariant.0, c.self.invariant.1)
