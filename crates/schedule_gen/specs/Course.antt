-- The rounds of a schedule: what each writes, and what goes on from one to the next.
use Rattle.std.specs.Prelude.{ℕ, ◌+◌, ◌==◌, nat_lt, if◌then◌else◌, List, [], ◌∷◌, Option, None, Some, slice_index, slice_index_or, slice_set}
use Rattle.stage_graph.specs.declared.stage.Stage.{Stage}
use Rattle.stage_graph.specs.declared.stage.Stage.TheVariants.{AllowWriteBothReadOld}
use Rattle.schedule_gen.specs.declared.course.Action.{Action}
use Rattle.schedule_gen.specs.declared.course.Action.TheVariants.{Write, Read, Delete, Step}
use Rattle.schedule_gen.specs.declared.course.Course.{Course}
use Rattle.schedule_gen.specs.declared.course.TabletMove.{TabletMove}
use Rattle.schedule_gen.specs.Draws.{generator_of, drawn_number, generator_after}
use Rattle.schedule_gen.specs.Moves.{next_forward, least_absent}
use Rattle.schedule_gen.specs.Lines.{write_line, read_line, delete_line, start_line, advance_lines}

-- before the first round
abbrev pub opening_course : ℕ → Course
opening_course n = record {
  generator = generator_of n;
  steps = 0;
  replicas = (0 ∷ 1 ∷ 2 ∷ []) ∷ (1 ∷ 2 ∷ 3 ∷ []) ∷ (2 ∷ 3 ∷ 4 ∷ []) ∷ (3 ∷ 4 ∷ 0 ∷ []) ∷ [];
  moving = None;
}

-- what a draw below 8 stands for: three times of eight a write, three times a read, once a deletion, and once a step
abbrev pub action_of : ℕ → Action
action_of a = if nat_lt a 3 then Write else if nat_lt a 6 then Read else if a == 6 then Delete else Step

-- the hosts of a tablet's replicas
abbrev pub course_hosts : Course → ℕ → List ℕ
course_hosts course tablet = slice_index_or course.replicas tablet []

-- ---- a start, where no move goes on

-- the drawn tablet goes from the first host of its replicas to the least host that has none; the session's number is
-- the count of `step` lines, this one included
abbrev pub started_move : Course → TabletMove
started_move course = record {
  tablet = drawn_number 0 4 course.generator;
  pending = least_absent (course_hosts course (drawn_number 0 4 course.generator));
  session = course.steps + 1;
  stage = AllowWriteBothReadOld;
}

abbrev pub start_text : Course → List ℕ
start_text course =
    let move = started_move course in
    start_line move.tablet (slice_index (course_hosts course move.tablet) 0) move.pending

abbrev pub course_after_start : Course → Course
course_after_start course = record course {
  generator = generator_after 1 course.generator;
  steps = course.steps + 1;
  moving = Some (started_move course);
}

-- ---- a step of the move that goes on

abbrev pub advance_text : TabletMove → List ℕ
advance_text moving = advance_lines moving.session (next_forward moving.stage)

-- the move is at its next stage; at its end the pending host has the first one's place
abbrev pub course_after_advance : TabletMove → Option Stage → Course → Course
course_after_advance moving (Some stage) course = record course {
  steps = course.steps + 1;
  moving = Some (record moving { stage = stage });
}
course_after_advance moving None course = record course {
  steps = course.steps + 1;
  replicas = slice_set course.replicas moving.tablet (slice_set (course_hosts course moving.tablet) 0 moving.pending);
  moving = None;
}

-- ---- a round

-- the text of a step: a start where no move goes on, else its next stage
abbrev pub step_text : Option TabletMove → Course → List ℕ
step_text None course = start_text course
step_text (Some moving) course = advance_text moving

-- the course after a step
abbrev pub course_after_step : Option TabletMove → Course → Course
course_after_step None course = course_after_start course
course_after_step (Some moving) course = course_after_advance moving (next_forward moving.stage) course

-- the text of a round after its action is drawn
abbrev pub action_text : Action → ℕ → Course → List ℕ
action_text Write round course = write_line round course.generator
action_text Read round course = read_line course.generator
action_text Delete round course = delete_line round course.generator
action_text Step round course = step_text course.moving course

-- the course after an action, for which as many numbers are drawn as its line needs
abbrev pub course_after_action : Action → Course → Course
course_after_action Write course = record course { generator = generator_after 3 course.generator }
course_after_action Read course = record course { generator = generator_after 2 course.generator }
course_after_action Delete course = record course { generator = generator_after 2 course.generator }
course_after_action Step course = course_after_step course.moving course

-- the action of the next round, and the course once it is drawn
abbrev pub next_action : Course → Action
next_action course = action_of (drawn_number 0 8 course.generator)

abbrev pub course_after_draw : Course → Course
course_after_draw course = record course { generator = generator_after 1 course.generator }

-- the text of a round, and the course after it
abbrev pub round_text : ℕ → Course → List ℕ
round_text round course = action_text (next_action course) round (course_after_draw course)

abbrev pub next_course : Course → Course
next_course course = course_after_action (next_action course) (course_after_draw course)
