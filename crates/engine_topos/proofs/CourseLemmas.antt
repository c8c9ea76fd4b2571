-- A coordinator's moves, one after the other.
use Rattle.std.proofs.Common.{ap, arith, refl, subst, sym, ◌∙◌}
use Rattle.std.specs.Prelude.{List, None, Option, Some, [], length, slice_get, ℕ, ◌∷◌, ◌≡◌}
use Rattle.base_ids.specs.declared.ids.HostId.{HostId}
use Rattle.base_ids.specs.declared.rules.Appended.{Appended}
use Rattle.topo_state.specs.declared.command.Rule.{Rule}
use Rattle.stage_graph.specs.declared.stage.Stage.{Stage}
use Rattle.topo_state.specs.State.{Topology}
use Rattle.plan_facts.specs.Moves.{CarryMoves, Proposal, due_command, joined, standing_by}
use Rattle.plan_facts.specs.Plan.{moves_of}
use Rattle.plan_facts.specs.declared.standing.Standing.{Standing}
use Rattle.plan_facts.specs.declared.standing.Standing.TheVariants.{Before}
use Rattle.run_plan.specs.declared.plan.MoveAsk.{MoveAsk}
use Rattle.run_plan.specs.declared.plan.RunPlan.{RunPlan}
use Rattle.engine_desk.specs.Chairs.{Known}
use Rattle.engine_topos.specs.Courses.{AreEnded, CourseView, CoursesAreShared, EndsAs, EndsIn, IsOnCourse, IsPatient, KeepsCourse, Leaves, StandsAs, first_way, stage_of, unfinished_in}
use Rattle.engine_topos.specs.Clocks.{IsTimed}
use Rattle.engine_topos.specs.declared.clock.Clock.{Clock}
use Rattle.engine_topos.specs.declared.way.Way.{Way}
use Rattle.engine_topos.specs.Deeds.{HasGone, WayGoes}
use Rattle.engine_topos.specs.Turns.{WaysStay}
use Rattle.engine_topos.proofs.DeedLemmas.{goes_after}
use Rattle.engine_topos.specs.declared.deed.Deed.{Deed}
use Rattle.engine_topos.specs.declared.deed.Deed.TheVariants.{Hindered, Idle, Inquired, Proposed, Silent}
use Rattle.engine_topos.specs.declared.deed.MoveEnd.{MoveEnd}
use Rattle.engine_topos.specs.declared.deed.MoveEnd.TheVariants.{Ended, Unfinished}

-- ---- a course goes on

pub course_stays : (moves : List MoveAsk) (old new : Known) (topo : HostId) (ends : List MoveEnd) (standing : Standing) → WaysStay old topo new → IsOnCourse moves old.opening topo old.seen ends standing → IsOnCourse moves new.opening topo new.seen ends standing
course_stays moves old new topo ends standing same w =
    record { share = w.share; older = w.older; whole = w.whole ∙ sym same; ended = w.ended; stands = w.stands }

course_gone : (moves : List MoveAsk) (old new : Known) (topo : HostId) (ends : List MoveEnd) (move : MoveAsk) (before after : Standing) (outcome : Appended Rule) → slice_get moves (length ends) ≡ Some move → HasGone old topo move before after outcome new → IsOnCourse moves old.opening topo old.seen ends before → IsOnCourse moves new.opening topo new.seen ends after
course_gone moves old new topo ends move stood_as after outcome there g w =
    let proposal : Proposal = record { command = g.command; stage = g.stage; outcome = outcome } in
    let stood : StandsAs (Some move) w.share stood_as = subst (λ (o : Option MoveAsk). StandsAs o w.share stood_as) there w.stands in
    let stands : StandsAs (Some move) (proposal ∷ w.share) after = (
      (ap (λ (s : Standing). due_command move s g.stage) stood.1 ∙ g.due, g.comes, stood.0),
      ap (λ (s : Standing). standing_by move s g.command g.stage outcome) stood.1 ∙ sym g.stands,
    ) in
    record {
      share = proposal ∷ w.share;
      older = w.older;
      whole = ap (λ (l : List Proposal). proposal ∷ l) w.whole ∙ sym g.whole;
      ended = w.ended;
      stands = subst (λ (o : Option MoveAsk). StandsAs o (proposal ∷ w.share) after) (sym there) stands;
    }

pub course_goes : (moves : List MoveAsk) (old new : Known) (topo : HostId) (ends : List MoveEnd) (move : MoveAsk) (before after : Standing) (deed : Deed) → slice_get moves (length ends) ≡ Some move → WayGoes old topo move before deed after new → IsOnCourse moves old.opening topo old.seen ends before → IsOnCourse moves new.opening topo new.seen ends after
course_goes moves old new topo ends move stood after (Proposed outcome) there g w = course_gone moves old new topo ends move stood after outcome there g w
course_goes moves old new topo ends move stood after (Hindered hindrance) there g w = subst (IsOnCourse moves new.opening topo new.seen ends) (sym g.1) (course_stays moves old new topo ends stood g.0 w)
course_goes moves old new topo ends move stood after (Inquired number asked) there g w = subst (IsOnCourse moves new.opening topo new.seen ends) (sym g.1) (course_stays moves old new topo ends stood g.0 w)
course_goes moves old new topo ends move stood after (Silent cause) there g w = subst (IsOnCourse moves new.opening topo new.seen ends) (sym g.1) (course_stays moves old new topo ends stood g.0 w)
course_goes moves old new topo ends move stood after Idle there g w = subst (IsOnCourse moves new.opening topo new.seen ends) (sym g.1) (course_stays moves old new topo ends stood g.0 w)

-- ---- the next move

fresh_stands : (move : Option MoveAsk) → StandsAs move [] Before
fresh_stands None = refl
fresh_stands (Some move) = (tt, refl)

pub ends_as : (standing : Standing) (stage : Option Stage) (end : MoveEnd) → EndsIn standing stage end → EndsAs standing end
ends_as standing stage (Ended ending) e = e
ends_as standing stage (Unfinished last) e = e.0

pub course_next : (moves : List MoveAsk) (known : Known) (topo : HostId) (ends : List MoveEnd) (move : MoveAsk) (standing : Standing) (end : MoveEnd) → slice_get moves (length ends) ≡ Some move → EndsAs standing end → IsOnCourse moves known.opening topo known.seen ends standing → IsOnCourse moves known.opening topo known.seen (end ∷ ends) Before
course_next moves known topo ends move standing end there ending w =
    let stood : StandsAs (Some move) w.share standing = subst (λ (o : Option MoveAsk). StandsAs o w.share standing) there w.stands in
    record {
      share = [];
      older = w.share ∷ w.older;
      whole = w.whole;
      ended = ((move, there, stood.0, subst (λ (s : Standing). EndsAs s end) (sym stood.1) ending), w.ended);
      stands = fresh_stands (slice_get moves (length (end ∷ ends)));
    }

pub course_left : (plan : RunPlan) (known : Known) (topo : HostId) (state : Topology) (move : MoveAsk) (old new : CourseView) (end : Option MoveEnd) → slice_get (moves_of plan topo) (length old.ends) ≡ Some move → Leaves state old end new → KeepsCourse plan known topo old → KeepsCourse plan known topo new
course_left plan known topo state move old new None there l w =
    subst (λ (e : List MoveEnd). IsOnCourse (moves_of plan topo) known.opening topo known.seen e new.way.standing) (sym l.0)
    (subst (IsOnCourse (moves_of plan topo) known.opening topo known.seen old.ends) (sym l.1) w)
course_left plan known topo state move old new (Some end) there l w =
    subst (λ (e : List MoveEnd). IsOnCourse (moves_of plan topo) known.opening topo known.seen e new.way.standing) (sym l.0)
    (subst (IsOnCourse (moves_of plan topo) known.opening topo known.seen (end ∷ old.ends)) (sym l.1)
    (course_next (moves_of plan topo) known topo old.ends move old.way.standing end there (ends_as old.way.standing (stage_of old.way.standing state) end l.2) w))

-- ---- the shares of the moves

ended_count : (moves : List MoveAsk) (shares : List (List Proposal)) (ends : List MoveEnd) → AreEnded moves shares ends → length ends ≡ length shares
ended_count moves [] [] e = refl
ended_count moves [] (end ∷ ends) e = absurd e
ended_count moves (share ∷ shares) [] e = absurd e
ended_count moves (share ∷ shares) (end ∷ ends) e = let rest = ended_count moves shares ends e.1 in omega (arith, rest)

ended_carry : (moves : List MoveAsk) (shares : List (List Proposal)) (ends : List MoveEnd) → AreEnded moves shares ends → CarryMoves moves shares
ended_carry moves [] [] e = tt
ended_carry moves [] (end ∷ ends) e = absurd e
ended_carry moves (share ∷ shares) [] e = absurd e
ended_carry moves (share ∷ shares) (end ∷ ends) e =
    let first = e.0 in
    ((first.0, ap (slice_get moves) (sym (ended_count moves shares ends e.1)) ∙ first.1, first.2), ended_carry moves shares ends e.1)

carried_last : (moves : List MoveAsk) (next : Option MoveAsk) (share : List Proposal) (older : List (List Proposal)) (standing : Standing) → slice_get moves (length older) ≡ next → StandsAs next share standing → CarryMoves moves older → (shares : List (List Proposal)) × (joined shares ≡ joined (share ∷ older)) × CarryMoves moves shares
carried_last moves None share older standing is s carry = (older, sym (ap (λ (l : List Proposal). joined (l ∷ older)) s), carry)
carried_last moves (Some move) share older standing is s carry = (share ∷ older, refl, ((move, is, s.0), carry))

pub courses_are_shared : CoursesAreShared
courses_are_shared moves opening topo history ends standing w =
    let count = ended_count moves w.older ends w.ended in
    let last = carried_last moves (slice_get moves (length ends)) w.share w.older standing (ap (slice_get moves) (sym count)) w.stands (ended_carry moves w.older ends w.ended) in
    record { shares = last.0; whole = last.1 ∙ w.whole; carried = last.2 }

-- ---- a course's time

pub left_patient : (plan : RunPlan) (takes : ℕ) (old set new : CourseView) (way first : Way) (end : MoveEnd) (clock : Clock)
    → first ≡ old.way
    → ((patience drain given : ℕ) → IsTimed patience drain given takes first.clock → IsTimed patience drain given takes way.clock)
    → ((drain : ℕ) (ends : List MoveEnd) → IsTimed plan.patience drain (unfinished_in ends) takes way.clock → IsTimed plan.patience drain (unfinished_in (end ∷ ends)) takes clock)
    → set ≡ record old { way = way }
    → new ≡ record { ends = end ∷ set.ends; way = first_way clock }
    → IsPatient plan takes old
    → IsPatient plan takes new
left_patient plan takes old set new way first end clock first_is seen later set_is new_is p =
    let is : new ≡ record { ends = end ∷ old.ends; way = first_way clock } = new_is ∙ ap (λ (v : CourseView). record { ends = end ∷ v.ends; way = first_way clock }) set_is in
    let timed : IsTimed plan.patience plan.drain (unfinished_in old.ends) takes first.clock = subst (λ (w : Way). IsTimed plan.patience plan.drain (unfinished_in old.ends) takes w.clock) (sym first_is) p in
    subst (IsPatient plan takes) (sym is) (later plan.drain old.ends (seen plan.patience plan.drain (unfinished_in old.ends) timed))

-- ---- an act as a whole

pub went_course : (plan : RunPlan) (old mid new : Known) (topo : HostId) (move : MoveAsk) (course last : CourseView) (way : Way) (after : Standing) (deed : Deed)
    → way ≡ course.way
    → slice_get (moves_of plan topo) (length course.ends) ≡ Some move
    → WayGoes old topo move way.standing deed after mid
    → WaysStay mid topo new
    → last.ends ≡ course.ends
    → last.way.standing ≡ after
    → KeepsCourse plan old topo course
    → KeepsCourse plan new topo last
went_course plan old mid new topo move course last way after deed way_is there goes stays ends_are stands_is w =
    let moves = moves_of plan topo in
    let first = subst (λ (s : Standing). IsOnCourse moves old.opening topo old.seen course.ends s) (ap (λ (w : Way). w.standing) (sym way_is)) w in
    let on = course_goes moves old new topo course.ends move way.standing after deed there (goes_after old mid new topo move way.standing after deed goes stays) first in
    subst (λ (e : List MoveEnd). IsOnCourse moves new.opening topo new.seen e last.way.standing) (sym ends_are)
    (subst (IsOnCourse moves new.opening topo new.seen course.ends) (sym stands_is) on)
