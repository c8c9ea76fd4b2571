-- What stands behind a refusal and a timeout that a client is told.
use Rattle.std.proofs.Common.{ap, arith, inl, inr, refl, subst, sym, ◌∙◌}
use Rattle.std.specs.Prelude.{Bool, List, None, Some, false, if◌then◌else◌, length, true, ℕ, ◌-◌, ◌<◌, ◌∷◌, ◌≡◌, ◌≤◌}
use Rattle.base_ids.specs.Names.{same_lane, same_op}
use Rattle.base_ids.specs.declared.ids.LaneId.{LaneId}
use Rattle.base_ids.specs.declared.ids.MsgRef.{MsgRef}
use Rattle.base_ids.specs.declared.ids.OpId.{OpId}
use Rattle.base_ids.specs.declared.ids.Replica.{Replica}
use Rattle.base_ids.specs.declared.ids.Version.{Version}
use Rattle.cluster_history.proofs.MessageLemmas.{entry_within}
use Rattle.cluster_history.specs.History.{History, message_at}
use Rattle.cluster_history.specs.Legal.{IsLegalHistory}
use Rattle.cluster_history.specs.Messages.{kind_of}
use Rattle.cluster_history.specs.Openings.{IsValidOpening}
use Rattle.cluster_history.specs.Requests.{Request, answer_to, answers_of, is_live, request_at, taken_answer, with_answer}
use Rattle.cluster_history.specs.Topology.{fence_of}
use Rattle.cluster_history.specs.declared.data.Entry.{Entry}
use Rattle.cluster_history.specs.declared.data.Event.{Event}
use Rattle.cluster_history.specs.declared.data.Event.TheVariants.{Take, Timeout}
use Rattle.cluster_history.specs.declared.data.Message.TheVariants.{Answer as AnswerSent}
use Rattle.cluster_history.specs.declared.data.Opening.{Opening}
use Rattle.history_facts.proofs.BegunLemmas.{request_at-later}
use Rattle.history_facts.proofs.EntryLemmas.{next_at}
use Rattle.base_ids.proofs.NameLemmas.{and_true, same_lane-refl, same_op-refl}
use Rattle.history_facts.proofs.ReplyLemmas.{Decides, Replies}
use Rattle.history_facts.proofs.ReplyLemmas.Replies.{replies_at_once, replies_decided, replies_given_up}
use Rattle.history_facts.specs.Prefixes.{history_before}
use Rattle.quorum_ops.specs.Decision.{answered_count, first_said, greatest_told, refused_count, timeout_reply}
use Rattle.quorum_ops.specs.declared.data.Answer.{Answer}
use Rattle.quorum_ops.specs.declared.data.Reply.{Reply}
use Rattle.quorum_ops.specs.declared.data.Reply.TheVariants.{NoTable, NotMember, Stale, Timeout as TimedOut}
use Rattle.quorum_ops.specs.declared.data.Said.TheVariants.{Stale as Refused}
use Rattle.stage_graph.specs.declared.kind.Kind.{Kind}
use Rattle.answer_law.proofs.DecisionLemmas.{decided, no_stale, no_timeout}
use Rattle.answer_law.proofs.PrefixLemmas.{message-later, message_in, request_at-since}
use Rattle.answer_law.proofs.ToldLemmas.{told_replies}
use Rattle.answer_law.proofs.ServedLemmas.{answers_were_served, fence_of-since}
use Rattle.answer_law.proofs.TakenLemmas.{IsSaidFirst, answers_sent, said_first, some_same}
use Rattle.answer_law.proofs.UndecidedLemmas.{IsNewest, hopeful, newest_refusal, unanswered}
use Rattle.answer_law.proofs.WayLemmas.{IsTurnedAway, turned_away}
use Rattle.answer_law.proofs.WayLemmas.IsTurnedAway.{HasNoTable, IsNoMember}
use Rattle.answer_law.specs.Answers.{IsBelowFences, IsRefusedAt, IsRefusedEarlier, IsShort}
use Rattle.answer_law.specs.Laws.{StaleRepliesAreBelowFences, TimeoutsAreShort}
use Rattle.answer_law.specs.Served.{AllSentTo, IsServedAt}

-- ---- the answers that a decision is by

-- the answers that a request has taken once the answer is taken
pub answers_now :
    (opening : Opening) (history : History) (entry : Entry) (lane : LaneId) (at : MsgRef) (reply : Reply) (decides : Decides opening history lane at reply) →
    entry.event ≡ Take lane at → answers_of (entry ∷ history) lane decides.answer.op ≡ decides.answer ∷ answers_of history lane decides.answer.op
answers_now opening history entry lane at reply decides event =
    let answer = decides.answer in
    ap (λ b. if b then with_answer (taken_answer history entry.event lane answer.op) (answers_of history lane answer.op) else answers_of history lane answer.op) decides.live
    ∙ ap (λ taken. with_answer taken (answers_of history lane answer.op))
    (ap (λ v. taken_answer history v lane answer.op) event
    ∙ ap (λ b. if b then answer_to lane answer.op (message_at history at) else None) (same_lane-refl lane)
    ∙ ap (answer_to lane answer.op) decides.sent
    ∙ ap (λ b. if b then Some answer else None) (and_true (same_lane answer.lane lane) (same_op answer.op answer.op) (ap (λ l. same_lane l lane) decides.addressed ∙ same_lane-refl lane) (same_op-refl answer.op)))

-- all of them were sent to the request
pub decides_sent :
    (opening : Opening) (history : History) (lane : LaneId) (at : MsgRef) (reply : Reply) (decides : Decides opening history lane at reply) →
    AllSentTo history lane decides.answer.op (decides.answer ∷ answers_of history lane decides.answer.op)
decides_sent opening history lane at reply decides = (
  record { at = at; sent = decides.sent; lane_is = decides.addressed; op_is = refl },
  answers_sent history lane decides.answer.op,
)

-- ---- stale

-- a refusal of the request that was sent to it, by the entry that gave it
refusal :
    (opening : Opening) (history : History) (entry : Entry) (lane : LaneId) (op : OpId) (request : Request) (from : Replica) (fence : Version) (at : MsgRef) → IsLegalHistory opening (entry ∷ history) →
    request_at opening history lane op ≡ Some request → message_at history at ≡ Some (AnswerSent (record { lane = lane; op = op; from = from; said = Refused fence })) →
    IsRefusedEarlier opening (entry ∷ history) lane op request from fence
refusal opening history entry lane op request from fence at legal begun sent =
    let answer : Answer = record { lane = lane; op = op; from = from; said = Refused fence } in
    let served : IsServedAt opening (entry ∷ history) at.event answer =
    answers_were_served opening (entry ∷ history) at answer legal (message-later history entry at (AnswerSent answer) sent) in
    let same : served.request ≡ request = some_same served.request request
    (sym (request_at-since opening (entry ∷ history) at.event lane op served.request legal served.begun) ∙ request_at-later opening history entry lane op request begun) in
    let there = message_in history at (AnswerSent answer) sent in
    let within = entry_within history at.event there.entry there.stands in
    record {
      number = at.event;
      earlier = omega (arith, within);
      refused = subst (λ (q : Request). IsRefusedAt opening (entry ∷ history) at.event lane op q from fence) same
          (record {
            entry = served.entry;
            at = served.at;
            place = served.place;
            stands = served.stands;
            serves = served.serves;
            asked = served.asked;
            among = served.among;
            tells = served.tells;
            of_host = served.said.told;
            above = served.said.above;
          });
    }

stale_take :
    (opening : Opening) (history : History) (entry : Entry) (lane : LaneId) (at : MsgRef) (reply : Reply) (decides : Decides opening history lane at reply) (refused : ℕ) (fence : Version) →
    IsValidOpening opening → IsLegalHistory opening (entry ∷ history) → entry.event ≡ Take lane at → reply ≡ Stale refused fence → IsBelowFences opening (entry ∷ history) lane decides.answer.op refused fence
stale_take opening history entry lane at reply decides refused fence valid legal event is =
    let answers = decides.answer ∷ answers_of history lane decides.answer.op in
    let request = decides.request in
    elim (decided (kind_of request.operation) request.targets request.need decides.answer (answers_of history lane decides.answer.op) reply decides.decided) [
      | inl told ↦ absurd (no_stale (kind_of request.operation) (greatest_told answers request.targets) refused fence (sym is ∙ told.reply_is))
      | inr few ↦
          let same : Stale refused fence ≡ Stale (refused_count answers request.targets) few.fence = sym is ∙ few.reply_is in
          let count : refused ≡ refused_count answers request.targets = cc same in
          let given : fence ≡ few.fence = cc same in
          let now : answers_of (entry ∷ history) lane decides.answer.op ≡ answers = answers_now opening history entry lane at reply decides event in
          let newest : IsNewest decides.answer (answers_of history lane decides.answer.op) = by_newest few.few in
          record {
            request = request;
            begun = request_at-later opening history entry lane decides.answer.op request decides.begun;
            counted = subst (λ (a : List Answer). refused ≡ refused_count a request.targets) (sym now) count;
            few = omega (arith, few.few, count);
            refusals = λ replica other first. tells replica other (ap (λ a. first_said a replica) (sym now) ∙ first);
            refuser = newest.replica;
            carried = ap (λ a. first_said a newest.replica) now ∙ newest.first ∙ ap (λ s. Some s) (few.said_is ∙ ap Refused (sym given));
          }
    ]
  where
    tells : (replica : Replica) (other : Version) → first_said (decides.answer ∷ answers_of history lane decides.answer.op) replica ≡ Some (Refused other) → IsRefusedEarlier opening (entry ∷ history) lane decides.answer.op decides.request replica other
    tells replica other first =
        let sent : IsSaidFirst history lane decides.answer.op replica (Refused other) = said_first history lane decides.answer.op (decides.answer ∷ answers_of history lane decides.answer.op) replica (Refused other) (decides_sent opening history lane at reply decides) first in
        refusal opening history entry lane decides.answer.op decides.request replica other sent.at legal decides.begun sent.sent

    by_newest : length decides.request.targets - refused_count (decides.answer ∷ answers_of history lane decides.answer.op) decides.request.targets < decides.request.need → IsNewest decides.answer (answers_of history lane decides.answer.op)
    by_newest few =
        let enough = hopeful opening valid history legal.1 lane decides.answer.op decides.request decides.live decides.begun in
        newest_refusal decides.answer (answers_of history lane decides.answer.op) decides.request.targets (omega (arith, few, enough))

no_stale_away : (reply : Reply) (refused : ℕ) (fence : Version) → IsTurnedAway reply → reply ≡ Stale refused fence → ⊥
no_stale_away reply refused fence (HasNoTable is) e = let wrong : NoTable ≡ Stale refused fence = sym is ∙ e in cc wrong
no_stale_away reply refused fence (IsNoMember is) e = let wrong : NotMember ≡ Stale refused fence = sym is ∙ e in cc wrong

stale_by :
    (opening : Opening) (history : History) (entry : Entry) (lane : LaneId) (event : Event) (op : OpId) (version : Version) (kind : Kind) (reply : Reply) (refused : ℕ) (fence : Version) →
    IsValidOpening opening → IsLegalHistory opening (entry ∷ history) → entry.event ≡ event → Replies opening history lane event op version kind reply → reply ≡ Stale refused fence →
    IsBelowFences opening (entry ∷ history) lane op refused fence
stale_by opening history entry lane event op version kind reply refused fence valid legal is (replies_at_once {operation = operation} told ends) e =
    absurd (no_stale_away told refused fence (turned_away opening history lane operation version told ends) e)
stale_by opening history entry lane event op version kind reply refused fence valid legal is (replies_decided {at = at} decides) e =
    stale_take opening history entry lane at reply decides refused fence valid legal is e
stale_by opening history entry lane event op version kind reply refused fence valid legal is (replies_given_up request live begun) e = cc e

pub stale_replies_are_below_fences : StaleRepliesAreBelowFences
stale_replies_are_below_fences opening history valid legal number lane op refused fence told =
    let came = next_at opening history legal number told.entry told.stands in
    stale_by opening (history_before history number) told.entry lane told.entry.event op told.version told.kind (Stale refused fence) refused fence valid (came.next, came.legal) refl
    (told_replies opening history number lane op (Stale refused fence) legal told) refl

-- the version is below the fence that the reply carries
pub carried_above :
    (opening : Opening) (history : History) (lane : LaneId) (op : OpId) (refused : ℕ) (fence : Version) → (below : IsBelowFences opening history lane op refused fence) →
    below.request.version.0 < fence.0
carried_above opening history lane op refused fence below = (below.refusals below.refuser fence below.carried).refused.above

-- a host that refused has no lower fence at the reply
pub refused_fence-kept :
    (opening : Opening) (history : History) (lane : LaneId) (op : OpId) (refused : ℕ) (fence : Version) → IsLegalHistory opening history → IsBelowFences opening history lane op refused fence →
    (replica : Replica) (given : Version) → first_said (answers_of history lane op) replica ≡ Some (Refused given) → given.0 ≤ (fence_of opening history replica.host).0
refused_fence-kept opening history lane op refused fence legal below replica given first =
    let was = below.refusals replica given first in
    subst (λ (f : Version). f.0 ≤ (fence_of opening history replica.host).0) (sym was.refused.of_host) (fence_of-since opening history was.number replica.host legal)

-- ---- timeouts

answers_kept : (history : History) (entry : Entry) (lane : LaneId) (op : OpId) → entry.event ≡ Timeout lane op → answers_of (entry ∷ history) lane op ≡ answers_of history lane op
answers_kept history entry lane op event =
    ap (λ v. if is_live history lane op then with_answer (taken_answer history v lane op) (answers_of history lane op) else answers_of history lane op) event
    ∙ same (is_live history lane op)
  where
    same : (b : Bool) → (if b then answers_of history lane op else answers_of history lane op) ≡ answers_of history lane op
    same true = refl
    same false = refl

given_up :
    (opening : Opening) (history : History) (entry : Entry) (lane : LaneId) (op : OpId) (request : Request) (answered required : ℕ) → IsValidOpening opening → IsLegalHistory opening history →
    entry.event ≡ Timeout lane op → is_live history lane op ≡ true → request_at opening history lane op ≡ Some request →
    timeout_reply request.targets request.need (answers_of history lane op) ≡ TimedOut answered required → IsShort opening (entry ∷ history) lane op answered required
given_up opening history entry lane op request answered required valid legal event live begun same =
    let count : answered ≡ answered_count (answers_of history lane op) request.targets = cc same in
    let need : required ≡ request.need = cc same in
    let few = unanswered opening valid history legal lane op request live begun in
    record {
      request = request;
      begun = request_at-later opening history entry lane op request begun;
      counted = subst (λ (a : List Answer). answered ≡ answered_count a request.targets) (sym (answers_kept history entry lane op event)) count;
      needed = need;
      short = omega (arith, count, need, few);
    }

no_timeout_away : (reply : Reply) (answered required : ℕ) → IsTurnedAway reply → reply ≡ TimedOut answered required → ⊥
no_timeout_away reply answered required (HasNoTable is) e = let wrong : NoTable ≡ TimedOut answered required = sym is ∙ e in cc wrong
no_timeout_away reply answered required (IsNoMember is) e = let wrong : NotMember ≡ TimedOut answered required = sym is ∙ e in cc wrong

timeout_by :
    (opening : Opening) (history : History) (entry : Entry) (lane : LaneId) (event : Event) (op : OpId) (version : Version) (kind : Kind) (reply : Reply) (answered required : ℕ) →
    IsValidOpening opening → IsLegalHistory opening history → entry.event ≡ event → Replies opening history lane event op version kind reply → reply ≡ TimedOut answered required →
    IsShort opening (entry ∷ history) lane op answered required
timeout_by opening history entry lane event op version kind reply answered required valid legal is (replies_at_once {operation = operation} told ends) e =
    absurd (no_timeout_away told answered required (turned_away opening history lane operation version told ends) e)
timeout_by opening history entry lane event op version kind reply answered required valid legal is (replies_decided {at = at} decides) e =
    elim (decided (kind_of decides.request.operation) decides.request.targets decides.request.need decides.answer (answers_of history lane decides.answer.op) reply decides.decided) [
      | inl told ↦ absurd (no_timeout (kind_of decides.request.operation) (greatest_told (decides.answer ∷ answers_of history lane decides.answer.op) decides.request.targets) answered required (sym e ∙ told.reply_is))
      | inr few ↦ let wrong : TimedOut answered required ≡ Stale (refused_count (decides.answer ∷ answers_of history lane decides.answer.op) decides.request.targets) few.fence = sym e ∙ few.reply_is in cc wrong
    ]
timeout_by opening history entry lane event op version kind reply answered required valid legal is (replies_given_up request live begun) e =
    given_up opening history entry lane op request answered required valid legal is live begun e

pub timeouts_are_short : TimeoutsAreShort
timeouts_are_short opening history valid legal number lane op answered required told =
    let came = next_at opening history legal number told.entry told.stands in
    timeout_by opening (history_before history number) told.entry lane told.entry.event op told.version told.kind (TimedOut answered required) answered required valid came.legal refl
    (told_replies opening history number lane op (TimedOut answered required) legal told) refl
