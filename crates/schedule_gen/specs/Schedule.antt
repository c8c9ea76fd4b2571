-- The text of a schedule.
use Rattle.std.specs.Prelude.{ℕ, zero, suc, List, [], ◌++◌}
use Rattle.schedule_gen.specs.declared.course.Course.{Course}
use Rattle.schedule_gen.specs.Lines.{header}
use Rattle.schedule_gen.specs.Course.{opening_course, round_text, next_course}

-- the course of the schedule of a number after so many rounds
unfoldable pub course_after : ℕ → ℕ → Course
course_after n zero = opening_course n
course_after n (suc round) = next_course (course_after n round)

-- the text of its first rounds, which are counted from 1
unfoldable pub rounds_text : ℕ → ℕ → List ℕ
rounds_text n zero = []
rounds_text n (suc round) = rounds_text n round ++ round_text (suc round) (course_after n round)

-- the header, and a thousand rounds
unfoldable pub schedule_text : ℕ → List ℕ
schedule_text n = header ++ rounds_text n 1000
