-- The moves within the greatest number of moves are the plan.
use Rattle.std.proofs.Common.{Err, List, None, Ok, OnOk, Option, Result, Some, [], ap, ap₂, append_assoc, arith, inl, length, map, nat_lt, refl, subst, suc, sym, zero, ℕ, ◌+◌, ◌++◌, ◌<◌, ◌≡◌, ◌≤◌, ◌∙◌, ◌∷◌}
use Rattle.std.specs.Option.{option_map_or}
use Rattle.balance_plan.specs.Laws.{IsAtRest, IsPlanned, PlansEvenOut}
use Rattle.balance_plan.specs.Loads.{load, loads, spread}
use Rattle.balance_plan.specs.Moves.{moved, moved_by}
use Rattle.balance_plan.specs.Plans.{IsPlan, TabletPlace, first_moving, next_move}
use Rattle.balance_plan.specs.declared.data.Move.{Move}
use Rattle.balance_plan.specs.declared.data.Plan.{Plan}
use Rattle.balance_plan.proofs.LoadLemmas.{shifts}
use Rattle.balance_plan.proofs.PlanLemmas.{next_is, plans_even_out}
use Rattle.balance_plan.proofs.RestLemmas.{rest_kept}
use Rattle.balance_plan.proofs.SumLemmas.{total, total_shift}
use Rattle.base_ids.specs.declared.ids.HostId.{HostId}
use Rattle.topo_state.specs.Sound.{IsTopology}
use Rattle.topo_state.specs.State.{Topology}
use Rattle.topo_state.specs.declared.data.Table.{Table}
use Rattle.further_report.specs.Lines.{balance_line, balance_lines, balance_lines_by, move_line, moves_lines, moving_line}
use Rattle.further_report.specs.Planned.{IsEvened, PlansAreMade, moves_within, most_moves, plan_of, sum_below}

-- ---- how many moves there are at most

sum_more : (n m : ℕ) → n ≡ m + 1 → sum_below n ≡ sum_below m + m
sum_more n m e = let same : n ≡ suc m = omega (arith, e) in ap sum_below same

abbrev weight : List Table → List HostId → ℕ
weight tables members = total (λ h. sum_below (load tables h)) members

same_most : (tables : List Table) (members : List HostId) → weight tables members ≡ most_moves (map (load tables) members)
same_most tables [] = refl
same_most tables (host ∷ rest) = ap (λ (n : ℕ). sum_below (load tables host) + n) (same_most tables rest)

-- a next move lowers the weight
falls : (state : Topology) (move : Move) → IsAtRest state → next_move state ≡ Some move → weight (moved state move).tables state.members < weight state.tables state.members
falls state move rest found =
    let next = next_is state move rest found in
    let f : HostId → ℕ = load state.tables in
    let g : HostId → ℕ = load (moved state move).tables in
    let one = shifts state move rest.sound next.legal in
    let changed = total_shift sum_below f g move.from.host move.to.host state.members rest.sound.members.once one.giver one.taker one.shift in
    let gives : g move.from.host + 1 ≡ f move.from.host = one.shift.gives in
    let takes : g move.to.host ≡ f move.to.host + 1 = one.shift.takes in
    let a : sum_below (f move.from.host) ≡ sum_below (g move.from.host) + g move.from.host = sum_more (f move.from.host) (g move.from.host) (sym gives) in
    let b : sum_below (g move.to.host) ≡ sum_below (f move.to.host) + f move.to.host = sum_more (g move.to.host) (f move.to.host) takes in
    let wide : f move.to.host + 2 ≤ f move.from.host = next.wide in
    omega (arith, changed, gives, takes, a, b, wide)

-- ---- the moves within are the plan

abbrev AreWithin : ℕ → Type 0
AreWithin n = (state : Topology) → IsAtRest state → weight state.tables state.members ≤ n → IsPlan state (moves_within n state)

none_within : (state : Topology) → IsAtRest state → weight state.tables state.members ≤ 0 → (next : Option Move) → next_move state ≡ next → next_move state ≡ None
none_within state rest few None is = is
none_within state rest few (Some move) is = let less = falls state move rest is in absurd (omega (arith, less, few))

more_within : (n : ℕ) → AreWithin n → (state : Topology) → IsAtRest state → weight state.tables state.members ≤ suc n → (next : Option Move) → next_move state ≡ next
    → IsPlan state (option_map_or (λ (move : Move). move ∷ moves_within n (moved state move)) next [])
more_within n within state rest few None is = is
more_within n within state rest few (Some move) is =
    let less : weight (moved state move).tables state.members < weight state.tables state.members = falls state move rest is in
    let next = next_is state move rest is in
    (is, within (moved state move) (rest_kept state move rest next.legal) (omega (arith, less, few)))

within_is : (n : ℕ) → AreWithin n
within_is zero state rest few = none_within state rest few (next_move state) refl
within_is (suc n) state rest few = more_within n (within_is n) state rest few (next_move state) refl

at_most : (n m : ℕ) → n ≡ m → n ≤ m
at_most n m same = omega (arith, same)

pub plan_is : (state : Topology) → IsAtRest state → IsPlan state (plan_of state)
unfolding plan_of
plan_is state rest = within_is (most_moves (loads state)) state rest (at_most _ _ (same_most state.tables state.members))

pub plans_are_made : PlansAreMade
plans_are_made state sound still =
    let rest : IsAtRest state = record { sound = sound; still = still } in
    record { plan = plan_is state rest; evens = plans_even_out state (plan_of state) rest (plan_is state rest) }

-- ---- a state has one plan

some_is : (a b : Move) → Some a ≡ Some b → a ≡ b
some_is a b e = cc

never_next : (state : Topology) (move : Move) → next_move state ≡ None → next_move state ≡ Some move → ⊥
never_next state move none some = cc

pub one_plan : (state : Topology) (one other : List Move) → IsPlan state one → IsPlan state other → one ≡ other
one_plan state [] [] plan also = refl
one_plan state [] (move ∷ moves) plan also = absurd (never_next state move plan also.0)
one_plan state (move ∷ moves) [] plan also = absurd (never_next state move also plan.0)
one_plan state (move ∷ moves) (next ∷ others) plan also =
    let same : next ≡ move = some_is next move (sym also.0 ∙ plan.0) in
    let P : Move → Type 0 = λ m. IsPlan (moved state m) others in
    ap₂ (λ (m : Move) (rest : List Move). m ∷ rest) (sym same) (one_plan (moved state move) moves others plan.1 (subst P same also.1))

-- ---- the lines

-- the lines of a plan that was made are those of the state
pub made_lines :
    (state : Topology) (made : Plan) → IsTopology state → IsPlanned state made →
    map move_line made.moves ++ balance_line (length made.moves) made.spread ∷ [] ≡ balance_lines state
made_lines state made sound planned =
    let rest : IsAtRest state = record { sound = sound; still = planned.still } in
    let P : List Move → List (List ℕ) = moves_lines state in
    ap (λ (n : ℕ). map move_line made.moves ++ balance_line (length made.moves) n ∷ []) planned.spread_is
    ∙ (ap P (one_plan state made.moves (plan_of state) planned.plan (plan_is state rest))
    ∙ sym (ap (balance_lines_by state) planned.still))

pub moving_lines :
    (state : Topology) (place : TabletPlace) → first_moving state.tables ≡ Some place → moving_line place ∷ [] ≡ balance_lines state
moving_lines state place moving = sym (ap (balance_lines_by state) moving)

-- the lines that are added where a plan was made
pub plan_added :
    (state : Topology) (made : Plan) (old moves all : List (List ℕ)) (last : List ℕ) → IsTopology state → IsPlanned state made →
    moves ≡ old ++ map move_line made.moves → last ≡ balance_line (length made.moves) made.spread → all ≡ moves ++ last ∷ [] →
    all ≡ old ++ balance_lines state
plan_added state made old moves all last sound planned moves_are last_is all_are =
    all_are
    ∙ (ap₂ (λ (a : List (List ℕ)) (l : List ℕ). a ++ l ∷ []) moves_are last_is
    ∙ (append_assoc old (map move_line made.moves) (balance_line (length made.moves) made.spread ∷ [])
    ∙ ap (λ (l : List (List ℕ)). old ++ l) (made_lines state made sound planned)))

pub on_ok : {A E P Q : Type 0} → (result : Result A E) → (P → Q) → OnOk result P → OnOk result Q
on_ok (Ok value) f h = f h
on_ok (Err error) f h = tt
