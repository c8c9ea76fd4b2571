-- A coordinator's moves, one after the other: how each ended, and how the one under way stands.
use Rattle.std.specs.Prelude.{Bool, List, None, Option, Some, [], false, length, slice_get, true, ℕ, ◌+◌, ◌<◌, ◌∷◌, ◌≡◌}
use Rattle.base_ids.specs.Names.{same_host}
use Rattle.base_ids.specs.declared.ids.HostId.{HostId}
use Rattle.cluster_history.specs.History.{History}
use Rattle.cluster_history.specs.declared.data.Opening.{Opening}
use Rattle.stage_graph.specs.declared.stage.Stage.{Stage}
use Rattle.topo_state.specs.State.{Topology}
use Rattle.plan_facts.specs.Moves.{AreShared, CarriesMove, Proposal, joined, proposals_of, stage_in, standing_after}
use Rattle.plan_facts.specs.Plan.{moves_of}
use Rattle.plan_facts.specs.declared.standing.Standing.{Standing}
use Rattle.plan_facts.specs.declared.standing.Standing.TheVariants.{Before, Going, Over}
use Rattle.run_plan.specs.declared.plan.MoveAsk.{MoveAsk}
use Rattle.run_plan.specs.declared.plan.RunPlan.{RunPlan}
use Rattle.engine_desk.specs.Chairs.{Known}
use Rattle.engine_topos.specs.Clocks.{IsTimed}
use Rattle.engine_topos.specs.declared.clock.Clock.{Clock}
use Rattle.engine_topos.specs.declared.deed.MoveEnd.{MoveEnd}
use Rattle.engine_topos.specs.declared.deed.MoveEnd.TheVariants.{Ended, Unfinished}
use Rattle.engine_topos.specs.Deeds.{DeedSends}
use Rattle.engine_topos.specs.Turns.{SentStays}
use Rattle.engine_topos.specs.declared.deed.Deed.{Deed}
use Rattle.engine_topos.specs.declared.deed.Deed.TheVariants.{Inquired}
use Rattle.engine_topos.specs.declared.way.Turn.{Turn}
use Rattle.engine_topos.specs.declared.way.Turn.TheVariants.{Did, Left, Through}
use Rattle.engine_topos.specs.declared.way.Way.{Way}

-- the ends of the moves that have ended, the newest first, and how the next one stands
pub record CourseView : Type 0 where
  pub ends : List MoveEnd
  pub way : Way

-- a move of this coordinator
abbrev pub is_move_by : HostId → MoveAsk → Bool
is_move_by topo move = same_host move.by topo

-- a move that is not begun
abbrev pub first_way : Clock → Way
first_way clock = record { standing = Before; stage = None; clock = clock }

abbrev pub first_course : Clock → CourseView
first_course clock = record { ends = []; way = first_way clock }

abbrev pub is_over : Standing → Bool
is_over (Over ending) = true
is_over standing = false

-- a move that stands so ends so: it is over, or is given up before it is
abbrev pub EndsAs : Standing → MoveEnd → Type 0
EndsAs standing (Ended ending) = standing ≡ Over ending
EndsAs standing (Unfinished stage) = is_over standing ≡ false

-- and now, when it is in this stage
abbrev pub EndsIn : Standing → Option Stage → MoveEnd → Type 0
EndsIn standing stage (Ended ending) = standing ≡ Over ending
EndsIn standing stage (Unfinished last) = (is_over standing ≡ false) × (last ≡ stage)

-- the stage in which the tablet of a move is seen
abbrev pub stage_of : Standing → Topology → Option Stage
stage_of (Going session) state = stage_in state session
stage_of standing state = None

-- how many moves were given up
abbrev pub unfinished_in : List MoveEnd → ℕ
unfinished_in [] = 0
unfinished_in (Ended ending ∷ ends) = unfinished_in ends
unfinished_in (Unfinished stage ∷ ends) = unfinished_in ends + 1

-- shares of proposals, one for each of the first moves, the last of these first: each carries out its move, and ends it
abbrev pub AreEnded : List MoveAsk → List (List Proposal) → List MoveEnd → Type 0
AreEnded moves [] [] = Unit {0}
AreEnded moves [] (end ∷ ends) = ⊥
AreEnded moves (share ∷ shares) [] = ⊥
AreEnded moves (share ∷ shares) (end ∷ ends) =
    ((move : MoveAsk)
    × (slice_get moves (length ends) ≡ Some move)
    × CarriesMove move share
    × EndsAs (standing_after move share) end)
    × AreEnded moves shares ends

-- the move under way stands so after these proposals; there are none once no move is left
abbrev pub StandsAs : Option MoveAsk → List Proposal → Standing → Type 0
StandsAs None share standing = share ≡ []
StandsAs (Some move) share standing = CarriesMove move share × (standing_after move share ≡ standing)

-- the proposals of a coordinator are those of the moves that have ended, and those of the next one
pub record IsOnCourse (moves : List MoveAsk) (opening : Opening) (topo : HostId) (history : History)
    (ends : List MoveEnd) (standing : Standing) : Type 0 where
  pub share : List Proposal
  pub older : List (List Proposal)
  pub whole : joined (share ∷ older) ≡ proposals_of opening history topo
  pub ended : AreEnded moves older ends
  pub stands : StandsAs (slice_get moves (length ends)) share standing

abbrev pub KeepsCourse : RunPlan → Known → HostId → CourseView → Type 0
KeepsCourse plan known topo course =
    IsOnCourse (moves_of plan topo) known.opening topo known.seen course.ends course.way.standing

-- it has asked for messages so often, and for each move that it gave up as often as the patience says
abbrev pub IsPatient : RunPlan → ℕ → CourseView → Type 0
IsPatient plan takes course = IsTimed plan.patience plan.drain (unfinished_in course.ends) takes course.way.clock

-- ---- turns

-- a move that is seen in this state was left, and ended so, or goes on as it stood
abbrev pub Leaves : Topology → CourseView → Option MoveEnd → CourseView → Type 0
Leaves state old None new =
    (new.ends ≡ old.ends)
    × (new.way.standing ≡ old.way.standing)
    × (new.way.stage ≡ stage_of old.way.standing state)
Leaves state old (Some end) new =
    (new.ends ≡ end ∷ old.ends)
    × (new.way.standing ≡ Before)
    × EndsIn old.way.standing (stage_of old.way.standing state) end

-- a move that goes on is not over, and its stage has lasted less than the patience
abbrev pub IsLate : RunPlan → ℕ → Option MoveEnd → CourseView → Type 0
IsLate plan takes (Some end) new = Unit {0}
IsLate plan takes None new = (is_over new.way.standing ≡ false) × (takes < new.way.clock.since + plan.patience)

-- what a turn did is what was to be done, for a coordinator that sees this state
abbrev pub IsTurn : RunPlan → HostId → Topology → CourseView → Turn → CourseView → Type 0
IsTurn plan topo state old Through new = (slice_get (moves_of plan topo) (length old.ends) ≡ None) × (new ≡ old)
IsTurn plan topo state old (Left end) new = Leaves state old (Some end) new
IsTurn plan topo state old (Did went) new = new.ends ≡ old.ends

abbrev pub is_inquiry : Deed → Bool
is_inquiry (Inquired number asked) = true
is_inquiry deed = false

abbrev pub TurnSends : Known → HostId → Turn → Known → Type 0
TurnSends old topo (Did went) new = DeedSends old topo went.deed new
TurnSends old topo turn new = SentStays old topo new

-- so the proposals fall into shares of the moves
abbrev pub CoursesAreShared : Type 0
CoursesAreShared =
    (moves : List MoveAsk) (opening : Opening) (topo : HostId) (history : History) (ends : List MoveEnd)
    (standing : Standing) →
    IsOnCourse moves opening topo history ends standing →
    AreShared moves (proposals_of opening history topo)
