use Rattle.std.proofs.Common.{◌≡◌, ◌++◌}
use Rattle.std.specs.String.{string_bytes}
use Rattle.schedule_gen.specs.Lines.{header}
use Rattle.schedule_gen.specs.Schedule.{course_after, rounds_text}
use Rattle.schedule_gen.proofs.schedule.Given as goal

abbrev pub invariant-loop-done : goal.invariant-loop-done
invariant-loop-done l =
    (string_bytes l.text ≡ header ++ rounds_text l.n l.done) × (l.course ≡ course_after l.n l.done)
