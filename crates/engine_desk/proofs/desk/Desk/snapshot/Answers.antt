use Rattle.engine_desk.proofs.FileLemmas.{filed_turned}
use Rattle.engine_desk.proofs.desk.Desk.snapshot.Goals as goal

pub invariant_of-self : goal.invariant_of-self
invariant_of-self g c =
    (filed_turned (g.C.Chair.known c.self.inside.chair) (g.C.Chair.known c.snapshot.new.self) c.self.inside.own c.self.inside.refs.items c.snapshot.ensures.turned c.self.invariant.0, c.self.invariant.1)
