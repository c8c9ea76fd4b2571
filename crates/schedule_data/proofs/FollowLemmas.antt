-- Lines with one more behind them.
use Rattle.std.proofs.Common.{List, [], append_assoc, append-nil, arith, length, refl, slice_index_or, subst, sym, ℕ, ◌++◌, ◌<◌, ◌∷◌, ◌≡◌}
use Rattle.std.proofs.lemmas.Grind.{common_steps}
use Rattle.std.proofs.lemmas.List.Quantifiers.{Any-push}
use Rattle.std.specs.List.{Any}
use Rattle.cluster_history.specs.declared.data.Opening.{Opening}
use Rattle.schedule_data.specs.Playable.{HasEventLine, IsEvent, MayAllFollow, MayFollow}
use Rattle.schedule_data.specs.declared.data.SchedLine.{SchedLine}

-- what holds of one of the lines still does
any_stays : {X : Type 0} (P : X → Type 0) (xs : List X) (y : X) → Any P xs → Any P (xs ++ y ∷ [])
any_stays P xs y any =
    let more : any.0 < length (xs ++ y ∷ []) = grind (arith, common_steps, any.2) in
    let same : slice_index_or (xs ++ y ∷ []) any.0 any.1 ≡ any.1 = grind (arith, common_steps, any.2, any.3) in
    (any.0, any.1, more, same, any.4)

-- a line with an event stays one
pub event_line_stays : (lines : List SchedLine) (line : SchedLine) (number : ℕ) → HasEventLine lines number → HasEventLine (lines ++ line ∷ []) number
event_line_stays lines line number has = any_stays (λ (other : SchedLine). (other.line ≡ number) × IsEvent other.act) lines line has

-- the line behind them is one, where it has an event
pub event_line_here : (lines : List SchedLine) (line : SchedLine) → IsEvent line.act → HasEventLine (lines ++ line ∷ []) line.line
event_line_here lines line is = Any-push (λ (other : SchedLine). (other.line ≡ line.line) × IsEvent other.act) lines line (refl, is)

-- one line more may follow
pub one_more_follows : (opening : Opening) (earlier lines : List SchedLine) (line : SchedLine) → MayAllFollow opening earlier lines → MayFollow opening (earlier ++ lines) line → MayAllFollow opening earlier (lines ++ line ∷ [])
one_more_follows opening earlier [] line all may = (subst (λ ls. MayFollow opening ls line) (append-nil earlier) may, tt)
one_more_follows opening earlier (other ∷ lines) line all may = (
  all.0,
  one_more_follows opening (earlier ++ other ∷ []) lines line all.1 (subst (λ ls. MayFollow opening ls line) (sym (append_assoc earlier (other ∷ []) lines)) may),
)
