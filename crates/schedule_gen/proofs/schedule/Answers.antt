use Rattle.std.proofs.Common.{◌≡◌, ◌∙◌, ap, sym, subst, arith}
use Rattle.schedule_gen.specs.Course.{next_course}
use Rattle.std.specs.String.{string_bytes}
use Rattle.schedule_gen.specs.declared.course.Course.{Course}
use Rattle.schedule_gen.specs.Lines.{header}
use Rattle.schedule_gen.proofs.CourseLemmas.{IsWithin, course-within, course_after-more, course_after-none, text-none, text-more, text-whole}
use Rattle.schedule_gen.proofs.schedule.Goals as goal

pub loop-done-init : goal.loop-done-init
unfolding header
loop-done-init c =
    (text-none c.args.n (string_bytes c.in_ok-text.text) c.in_ok-text.ensures.ok, course_after-none c.args.n c.new-course.result c.new-course.ensures)

pub next-requires-clause-steps : goal.next-requires-clause-steps
next-requires-clause-steps c =
    let P : Course → Type 0 = λ course. IsWithin c.loop-done.done course in
    let within = subst P (sym c.loop-done.invariant.1) (course-within c.args.n c.loop-done.done) in
    omega (arith, within.few, c.loop-done-test.true)

pub next-requires-clause-tablet : goal.next-requires-clause-tablet
next-requires-clause-tablet c =
    let P : Course → Type 0 = λ course. IsWithin c.loop-done.done course in
    (subst P (sym c.loop-done.invariant.1) (course-within c.args.n c.loop-done.done)).tablet

pub loop-done-preserved : goal.loop-done-preserved
loop-done-preserved c = (
  text-more c.args.n c.loop-done.done (string_bytes c.loop-done.text) (string_bytes c.push_str.new.self) c.as_str.result.now c.loop-done.course c.loop-done.invariant.0 c.loop-done.invariant.1 (c.as_str.ensures.value ∙ c.in_ok-lines.ensures.text) c.in_ok-push_str.ensures.bytes,
  c.in_ok-lines.ensures.after ∙ ap next_course c.loop-done.invariant.1 ∙ sym (course_after-more c.args.n c.loop-done.done),
)

pub returns : goal.returns
returns c =
    let all : c.loop-done.done ≡ 1000 = omega (arith, c.loop-done-test.false, c.loop-done.auto) in
    ap (λ v. v.items) c.into_bytes.ensures.value ∙ text-whole c.args.n c.loop-done.done (string_bytes c.loop-done.text) all c.loop-done.invariant.0
