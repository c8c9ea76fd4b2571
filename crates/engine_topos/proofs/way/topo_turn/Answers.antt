use Rattle.std.proofs.Common.{Option, ap, option_copied, slice_get, subst, sym, ◌∙◌}
use Rattle.plan_facts.specs.Plan.{moves_of}
use Rattle.engine_topos.specs.Courses.{Leaves}
use Rattle.engine_topos.specs.declared.deed.MoveEnd.{MoveEnd}
use Rattle.std.specs.Prelude.{Some}
use Rattle.engine_topos.proofs.CourseLemmas.{course_left, course_stays}
use Rattle.engine_topos.proofs.TurnLemmas.{ways_on}
use Rattle.engine_topos.proofs.way.topo_turn.Goals as goal

pub returns-in-Some-2-clause-course : goal.returns-in-Some-2-clause-course
returns-in-Some-2-clause-course g c =
    let plan = c.args.plan.now in
    let topo = c.args.topo in
    let course = c.args.course.now in
    let state = c.topo_look.new.core.core.state in
    let known = c.topo_look.new.desk.known in
    let stays = ways_on c.args.desk.now.known c.topo_take.new.desk.known known topo c.topo_take.ensures.ways c.topo_look.ensures.ways in
    course_left plan known topo state c.in-Some.ask.now course c.topo_leave.new.course (Some c.in-Some-2.end)
    (ap (slice_get (moves_of plan topo)) (sym c.done.ensures) ∙ sym c.move_at.ensures ∙ ap option_copied c.in-Some.is)
    (subst (λ (e : Option MoveEnd). Leaves state course e c.topo_leave.new.course) c.in-Some-2.is c.in_ok-end.ensures.leaves)
    (course_stays (moves_of plan topo) c.args.desk.now.known known topo course.ends course.way.standing stays c.requires.course)
