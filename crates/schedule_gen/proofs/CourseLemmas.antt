-- The course of a schedule, round by round.
use Rattle.std.proofs.Common.{◌≡◌, ℕ, zero, suc, ◌+◌, ◌<◌, ◌≤◌, ◌++◌, List, Option, None, Some, IfSome, refl, ap, sym, ◌∙◌, arith, add-one, append_assoc, append-nil}
use Rattle.stage_graph.specs.declared.stage.Stage.{Stage}
use Rattle.schedule_gen.specs.declared.course.Action.{Action}
use Rattle.schedule_gen.specs.declared.course.Action.TheVariants.{Write, Read, Delete, Step}
use Rattle.schedule_gen.specs.declared.course.Course.{Course}
use Rattle.schedule_gen.specs.declared.course.TabletMove.{TabletMove}
use Rattle.schedule_gen.specs.Moves.{next_forward}
use Rattle.schedule_gen.specs.Course.{opening_course, course_after_advance, course_after_step, course_after_action, next_action, course_after_draw, next_course, round_text}
use Rattle.schedule_gen.specs.Schedule.{course_after, rounds_text, schedule_text}
use Rattle.schedule_gen.specs.Lines.{header}

-- at most so many steps, and the tablet that moves is one of the four
pub record IsWithin (steps : ℕ) (course : Course) : Type 0 where
  pub few : course.steps ≤ steps
  pub tablet : IfSome course.moving (λ moving. moving.tablet < 4)

advance-within : (steps : ℕ) (moving : TabletMove) (to : Option Stage) (course : Course) → moving.tablet < 4 → IsWithin steps course → IsWithin (steps + 1) (course_after_advance moving to course)
advance-within steps moving None course four within = record { few = omega (arith, within.few); tablet = tt }
advance-within steps moving (Some stage) course four within = record { few = omega (arith, within.few); tablet = four }

step-within : (steps : ℕ) (moving : Option TabletMove) (course : Course) → IfSome moving (λ m. m.tablet < 4) → IsWithin steps course → IsWithin (steps + 1) (course_after_step moving course)
step-within steps None course four within = record { few = omega (arith, within.few); tablet = omega arith }
step-within steps (Some moving) course four within = advance-within steps moving (next_forward moving.stage) course four within

action-within : (steps : ℕ) (action : Action) (course : Course) → IsWithin steps course → IsWithin (steps + 1) (course_after_action action course)
action-within steps Write course within = record { few = omega (arith, within.few); tablet = within.tablet }
action-within steps Read course within = record { few = omega (arith, within.few); tablet = within.tablet }
action-within steps Delete course within = record { few = omega (arith, within.few); tablet = within.tablet }
action-within steps Step course within = step-within steps course.moving course within.tablet within

next-within : (steps : ℕ) (course : Course) → IsWithin steps course → IsWithin (steps + 1) (next_course course)
next-within steps course within =
    action-within steps (next_action course) (course_after_draw course) (record { few = within.few; tablet = within.tablet })

pub course-within : (n rounds : ℕ) → IsWithin rounds (course_after n rounds)
unfolding course_after
course-within n zero = record { few = omega arith; tablet = tt }
course-within n (suc rounds) =
    let more : IsWithin (rounds + 1) (next_course (course_after n rounds)) = next-within rounds (course_after n rounds) (course-within n rounds) in
    rw (← add-one) more

-- one round more
pub course_after-more : (n rounds : ℕ) → course_after n (rounds + 1) ≡ next_course (course_after n rounds)
unfolding course_after
course_after-more n rounds = rw add-one refl

pub rounds_text-more : (n rounds : ℕ) → rounds_text n (rounds + 1) ≡ rounds_text n rounds ++ round_text (rounds + 1) (course_after n rounds)
unfolding rounds_text
rounds_text-more n rounds = rw add-one refl

-- the text is the header and the rounds so far; a round's lines are added
pub text-more : (n done : ℕ) (text more lines : List ℕ) (course : Course) → text ≡ header ++ rounds_text n done → course ≡ course_after n done → lines ≡ round_text (done + 1) course → more ≡ text ++ lines → more ≡ header ++ rounds_text n (done + 1)
text-more n done text more lines course so_far is line added =
    added
    ∙ ap (λ l. text ++ l) (line ∙ ap (round_text (done + 1)) is)
    ∙ ap (λ l. l ++ round_text (done + 1) (course_after n done)) so_far
    ∙ append_assoc header (rounds_text n done) (round_text (done + 1) (course_after n done))
    ∙ ap (λ l. header ++ l) (sym (rounds_text-more n done))

pub text-none : (n : ℕ) (text : List ℕ) → text ≡ header → text ≡ header ++ rounds_text n 0
unfolding rounds_text
text-none n text e = e ∙ sym (append-nil header)

pub text-whole : (n done : ℕ) (text : List ℕ) → done ≡ 1000 → text ≡ header ++ rounds_text n done → text ≡ schedule_text n
unfolding schedule_text
text-whole n done text all e = e ∙ ap (λ r. header ++ rounds_text n r) all

-- the course before the first round
pub course_after-none : (n : ℕ) (course : Course) → course ≡ opening_course n → course ≡ course_after n 0
unfolding course_after
course_after-none n course e = e
