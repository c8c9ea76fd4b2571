use Rattle.engine_topos.proofs.CourseLemmas.{left_patient}
use Rattle.engine_topos.proofs.way.topo_leave.Goals as goal

pub returns-clause-patient : goal.returns-clause-patient
returns-clause-patient c =
    left_patient c.args.plan.now c.args.takes c.args.course.now c.set_way.new.self c.leave.new.self c.seen-way.result c.way.result c.in-Some.end c.in-Some.clock
    c.way.ensures c.seen-way.ensures.timed c.in-Some.ensures.timed c.set_way.ensures c.in_ok-leave.ensures.ok c.requires.patient
