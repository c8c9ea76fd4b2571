-- For each request that a lane gives up it has asked for messages often enough.
use Rattle.std.proofs.Common.{ap, arith, refl, subst, sym, ◌∙◌}
use Rattle.std.specs.Prelude.{Bool, List, None, Option, Some, false, if◌then◌else◌, true, ℕ, ◌*◌, ◌+◌, ◌∷◌, ◌≡◌, ◌≤◌}
use Rattle.base_ids.specs.declared.ids.Actor.{Actor}
use Rattle.base_ids.specs.declared.ids.Actor.TheVariants.{Lane as ByLane}
use Rattle.base_ids.specs.declared.ids.LaneId.{LaneId}
use Rattle.base_ids.specs.declared.ids.MsgRef.{MsgRef}
use Rattle.cluster_history.specs.History.{History}
use Rattle.cluster_history.specs.declared.data.Entry.{Entry}
use Rattle.cluster_history.specs.declared.data.Opening.{Opening}
use Rattle.plan_facts.specs.Own.{is_timeout_of, timeout_count}
use Rattle.run_plan.specs.declared.plan.RunPlan.{RunPlan}
use Rattle.plan_facts.proofs.OtherLemmas.{timeouts-other}
use Rattle.engine_desk.specs.Chairs.{HasCommitted, HasTurned, IsLater, Known}
use Rattle.engine_desk.specs.Desks.{DeskCommitted, DeskTurned, DeskView, taking}
use Rattle.engine_desk.specs.Lanes.{IsPatient, LanesArePatient}
use Rattle.engine_desk.proofs.LaterLemmas.{since}

timeouts_since : (opening : Opening) (actor : Actor) (lane : LaneId) (old new : History) → actor ≡ ByLane lane → IsLater opening actor old new → timeout_count lane new ≡ timeout_count lane old
timeouts_since opening actor lane old new is later =
    since opening (ByLane lane) (timeout_count lane) (λ history entry legal other. timeouts-other history entry lane other) old new (subst (λ (a : Actor). IsLater opening a old new) is later)

-- the numbers alone
lasting : (patience count later from takes now : ℕ) → later ≡ count → takes ≤ now → patience * count ≤ from → from ≤ takes → (patience * later ≤ from) × (from ≤ now)
lasting patience count later from takes now is le few asked = (subst (λ n. patience * n ≤ from) (sym is) few, omega (arith, asked, le))

one_more : (patience count from takes : ℕ) → from + patience ≤ takes → patience * count ≤ from → patience * (count + 1) ≤ takes
one_more patience count from takes ran few =
    let more : patience * (count + 1) ≡ patience * count + patience = omega arith in
    omega (arith, more, ran, few)

at_most : (patience count from takes : ℕ) (b : Bool) → from + patience ≤ takes → patience * count ≤ from → patience * (if b then count + 1 else count) ≤ takes
at_most patience count from takes true ran few = one_more patience count from takes ran few
at_most patience count from takes false ran few = omega (arith, ran, few)

-- a desk's lane from known to known
moved : (plan : RunPlan) (old new : DeskView) (lane : LaneId) (from : ℕ) → timeout_count lane new.known.seen ≡ timeout_count lane old.known.seen → old.takes ≤ new.takes → IsPatient plan old lane from → IsPatient plan new lane from
moved plan old new lane from same le p =
    let both = lasting plan.patience (timeout_count lane old.known.seen) (timeout_count lane new.known.seen) from old.takes new.takes same le p.given_up p.asked in
    record { given_up = both.0; asked = both.1 }

turned_count : (old new : Known) (lane : LaneId) → old.actor ≡ ByLane lane → HasTurned old new → timeout_count lane new.seen ≡ timeout_count lane old.seen
turned_count old new lane is t = ap (λ (k : Known). timeout_count lane k.seen) t.is ∙ timeouts_since old.opening old.actor lane old.seen t.now is t.later

committed_count : (old new : Known) (entry : Entry) (number : ℕ) (lane : LaneId) → old.actor ≡ ByLane lane → HasCommitted old entry number new → timeout_count lane new.seen ≡ (if is_timeout_of lane entry.event then timeout_count lane old.seen + 1 else timeout_count lane old.seen)
committed_count old new entry number lane is c =
    ap (λ (k : Known). timeout_count lane k.seen) c.is
    ∙ ap (λ n. if is_timeout_of lane entry.event then n + 1 else n) (timeouts_since old.opening old.actor lane old.seen c.now is c.later)

took_takes : (at : Option MsgRef) (old : DeskView) → (timeout_lane : LaneId) → ((taking at old).takes ≡ old.takes + 1) × (timeout_count timeout_lane (taking at old).known.seen ≡ timeout_count timeout_lane old.known.seen)
took_takes None old lane = (refl, refl)
took_takes (Some at) old lane = (refl, refl)

pub patience_lasts : LanesArePatient
patience_lasts plan old new lane from =
    record {
      turned = λ is t p.
          let same = ap (λ (d : DeskView). d.takes) t.is in
          moved plan old new lane from (turned_count old.known new.known lane is t.turned) (omega (arith, same)) p;
      took = λ at is p.
          let more = took_takes at old lane in
          let first = more.0 in
          let takes = ap (λ (d : DeskView). d.takes) is in
          moved plan old new lane from (ap (λ (d : DeskView). timeout_count lane d.known.seen) is ∙ more.1) (omega (arith, takes, first)) p;
      committed = λ entry number is other c p.
          let same = ap (λ (d : DeskView). d.takes) c.is in
          let count : timeout_count lane new.known.seen ≡ timeout_count lane old.known.seen =
          committed_count old.known new.known entry number lane is c.committed ∙ ap (λ b. if b then timeout_count lane old.known.seen + 1 else timeout_count lane old.known.seen) other in
          moved plan old new lane from count (omega (arith, same)) p;
      given_up = λ entry number is ran c p.
          let same = ap (λ (d : DeskView). d.takes) c.is in
          record {
            given_up = subst (λ n. plan.patience * n ≤ old.takes) (sym (committed_count old.known new.known entry number lane is c.committed))
                (at_most plan.patience (timeout_count lane old.known.seen) from old.takes (is_timeout_of lane entry.event) ran p.given_up);
            asked = omega (arith, same);
          };
    }
