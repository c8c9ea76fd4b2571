use Rattle.engine_topos.proofs.CourseLemmas.{courses_are_shared}
use Rattle.engine_topos.proofs.course.law_courses_are_shared.Goals as goal

pub returns : goal.returns
returns c = courses_are_shared
