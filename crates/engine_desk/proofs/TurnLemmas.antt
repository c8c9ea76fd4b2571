-- What an event that suits the plan leaves of a desk.
use Rattle.std.proofs.Common.{ap, arith, refl, subst, sym, ◌∙◌, length-append}
use Rattle.std.proofs.lemmas.Bool.Decides.{nat_tests}
use Rattle.std.specs.Prelude.{Bool, Err, IfOk, List, None, Ok, OnOk, Option, Result, Some, [], false, if◌then◌else◌, length, nat_le, nat_lt, true, ℕ, ◌++◌, ◌+◌, ◌∷◌, ◌≡◌, ◌≤◌, ◌<◌}
use Rattle.base_ids.specs.Names.{same_lane}
use Rattle.base_ids.specs.declared.ids.Actor.{Actor}
use Rattle.base_ids.specs.declared.ids.Actor.TheVariants.{Lane as ByLane}
use Rattle.base_ids.specs.declared.ids.LaneId.{LaneId}
use Rattle.base_ids.specs.declared.ids.MsgRef.{MsgRef}
use Rattle.cluster_history.specs.History.{History, actor_of, is_by, message_at, output_at}
use Rattle.cluster_history.specs.Messages.{is_answer, is_for}
use Rattle.cluster_history.specs.Rules.{message_rule}
use Rattle.cluster_history.specs.declared.data.Entry.{Entry}
use Rattle.cluster_history.specs.declared.data.Event.{Event}
use Rattle.cluster_history.specs.declared.data.Event.TheVariants.{Take}
use Rattle.cluster_history.specs.declared.data.Message.{Message}
use Rattle.cluster_history.specs.declared.data.Message.TheVariants.{Answer as AnswerSent}
use Rattle.cluster_history.specs.declared.data.Opening.{Opening}
use Rattle.history_facts.proofs.LegalLemmas.{message_sent}
use Rattle.base_ids.proofs.NameLemmas.{same_actor-refl}
use Rattle.lane_core.specs.Lane.{LaneView, lane_out}
use Rattle.lane_core.specs.declared.data.LaneInput.{LaneInput}
use Rattle.lane_core.specs.declared.data.LaneInput.TheVariants.{Take as TakeIn}
use Rattle.lane_ties.specs.LaneTies.{lane_outputs, take_input}
use Rattle.quorum_ops.specs.declared.data.Answer.{Answer}
use Rattle.plan_facts.specs.Own.{own_past, taken_count}
use Rattle.plan_facts.specs.Plan.{most_takes}
use Rattle.plan_facts.specs.Posts.{sent_by, with_sent}
use Rattle.plan_facts.specs.Skips.{IsCaused, is_others}
use Rattle.plan_facts.specs.Suits.{Suits}
use Rattle.run_plan.specs.declared.plan.RunPlan.{RunPlan}
use Rattle.plan_facts.specs.declared.skips.SkipCause.TheVariants.{Repeat, Wrong}
use Rattle.plan_facts.proofs.CauseLemmas.{taken_past}
use Rattle.plan_facts.proofs.PostLemmas.{sent-other, sent-own}
use Rattle.engine_desk.specs.Chairs.{HasCommitted, IsLater, Known}
use Rattle.engine_desk.specs.Desks.{DeskCommitted, DeskTurned, DeskView, HasSent, IsDesk, skip_of}
use Rattle.engine_desk.specs.Lanes.{IsLane, IsLaneDue, IsLanePlayed, lane_entry}
use Rattle.engine_desk.specs.declared.chair.Refused.{Refused}
use Rattle.engine_desk.proofs.DeskLemmas.{desk_committed, desk_turned}
use Rattle.engine_desk.proofs.LaterLemmas.{since}

pub event_kept : (plan : RunPlan) (desk after : DeskView) (lane played : LaneView) (event : Event) (input : LaneInput) (result : Result ℕ Refused) → IsDesk plan desk → IsLane desk.known lane → IsLaneDue desk lane event input → Suits plan desk.known.opening desk.known.seen event → IsLanePlayed desk lane event input result after played → IsDesk plan after
event_kept plan desk after lane played event input (Ok number) d is due suits p =
    desk_committed plan desk (lane_entry lane event input) number after d (due.author ∙ sym is.actor) due.held suits p.0
event_kept plan desk after lane played event input (Err refused) d is due suits p = desk_turned plan desk after d p

pub event_lane : (desk after : DeskView) (lane played : LaneView) (event : Event) (input : LaneInput) (result : Result ℕ Refused) → IsLanePlayed desk lane event input result after played → OnOk result (IsLane after.known played)
event_lane desk after lane played event input (Ok number) p = p.1
event_lane desk after lane played event input (Err refused) p = tt

pub event_free : (desk after : DeskView) (lane played : LaneView) (event : Event) (input : LaneInput) (result : Result ℕ Refused) → IsLanePlayed desk lane event input result after played → OnOk result (after.held ≡ None)
event_free desk after lane played event input (Ok number) p = ap (λ (d : DeskView). d.held) p.0.is
event_free desk after lane played event input (Err refused) p = tt

pub event_takes : (desk after : DeskView) (lane played : LaneView) (event : Event) (input : LaneInput) (result : Result ℕ Refused) → IsLanePlayed desk lane event input result after played → after.takes ≡ desk.takes
event_takes desk after lane played event input (Ok number) p = ap (λ (d : DeskView). d.takes) p.0.is
event_takes desk after lane played event input (Err refused) p = ap (λ (d : DeskView). d.takes) p.is

length_later : (opening : Opening) (actor : Actor) (old new : History) → IsLater opening actor old new → length old ≤ length new
length_later opening actor old new later =
    let is = ap length later.is ∙ length-append later.between old in omega (arith, is)

pub committed_sent : (old new : Known) (entry : Entry) (number : ℕ) → actor_of entry.event ≡ old.actor → HasCommitted old entry number new → HasSent old number entry.outputs new
committed_sent old new entry number author c =
    let mine : is_by old.actor entry.event ≡ true = subst (λ (a : Actor). is_by a entry.event ≡ true) author (same_actor-refl (actor_of entry.event)) in
    let same : sent_by old.actor c.now ≡ sent_by old.actor old.seen = since old.opening old.actor (sent_by old.actor) (λ history other legal foreign. sent-other old.actor history other foreign) old.seen c.now c.later in
    let more = length_later old.opening old.actor old.seen c.now c.later in
    let is = c.number_is in
    record {
      sent =
          ap (λ (k : Known). sent_by old.actor k.seen) c.is
          ∙ sent-own old.actor c.now entry mine
          ∙ (λ i. with_sent old.actor (sym c.number_is i) 0 entry.outputs (same i));
      above = omega (arith, more, is);
    }

pub event_sent : (desk after : DeskView) (lane played : LaneView) (event : Event) (input : LaneInput) (result : Result ℕ Refused) → IsLane desk.known lane → IsLaneDue desk lane event input → IsLanePlayed desk lane event input result after played → IfOk result (λ number. HasSent desk.known number (lane_outputs (lane_out lane input)) after.known)
event_sent desk after lane played event input (Ok number) is due p =
    committed_sent desk.known after.known (lane_entry lane event input) number (due.author ∙ sym is.actor) p.0.committed
event_sent desk after lane played event input (Err refused) is due p = tt

-- ---- a take of an answer

pub answer_due : (desk : DeskView) (lane : LaneView) (at : MsgRef) (answer : Answer) → desk.held ≡ Some at → message_at desk.known.seen at ≡ Some (AnswerSent answer) → same_lane answer.lane lane.lane ≡ true → IsLaneDue desk lane (Take lane.lane at) (TakeIn answer)
answer_due desk lane at answer held found mine =
    let there = message_sent (output_at desk.known.seen at) (AnswerSent answer) found in
    record {
      author = refl;
      enabled = ap (message_rule (is_for (ByLane lane.lane) is_answer)) there ∙ rw mine refl;
      input_is = ap take_input found;
      holds = tt;
      held = held;
    }

pub answer_suits : (plan : RunPlan) (desk : DeskView) (lane : LaneView) (at : MsgRef) (taken : ℕ) → IsLane desk.known lane → taken ≡ taken_count desk.known.actor desk.known.seen at → taken < most_takes plan → Suits plan desk.known.opening desk.known.seen (Take lane.lane at)
answer_suits plan desk lane at taken is counted few =
    let same : taken_count (ByLane lane.lane) desk.known.seen at ≡ taken = ap (λ (a : Actor). taken_count a desk.known.seen at) (sym is.actor) ∙ sym counted in
    (tt, grind (arith, nat_tests))

-- ---- why a message is skipped

pub wrong_caused : (plan : RunPlan) (desk : DeskView) (lane : LaneView) (at : MsgRef) (message : Message) → IsLane desk.known lane → message_at desk.known.seen at ≡ Some message → is_others (ByLane lane.lane) (Some message) ≡ true → IsCaused plan desk.known.opening desk.known.actor desk.known.seen (skip_of Wrong desk at) Wrong
wrong_caused plan desk lane at message is found wrong =
    (λ i. is_others (is.actor i) (found i)) ∙ wrong

pub repeat_caused : (plan : RunPlan) (desk : DeskView) (at : MsgRef) (taken : ℕ) → taken ≡ taken_count desk.known.actor desk.known.seen at → most_takes plan ≤ taken → IsCaused plan desk.known.opening desk.known.actor desk.known.seen (skip_of Repeat desk at) Repeat
repeat_caused plan desk at taken counted many =
    ap (λ n. nat_le (most_takes plan) n) (taken_past desk.known.actor desk.known.seen at ∙ sym counted) ∙ grind (arith, nat_tests)
