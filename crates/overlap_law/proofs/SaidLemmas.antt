-- What replicas said: an answer to a request stands among the outputs of a serve.
use Rattle.std.proofs.Common.{ap, inl, inr, refl, subst, sym, ◌∙◌}
use Rattle.std.specs.List.{list_any}
use Rattle.std.specs.Prelude.{Bool, List, None, Some, [], false, slice_get, true, ℕ, ◌&&◌, ◌||◌, ◌∷◌, ◌≡◌, ◌⊎◌}
use Rattle.barrier_law.proofs.AskedLemmas.{IsAsked, ask_fact}
use Rattle.base_ids.specs.Names.{same_lane, same_op}
use Rattle.base_ids.specs.Replicas.{has_replica, same_replica}
use Rattle.base_ids.specs.declared.ids.HostId.{HostId}
use Rattle.base_ids.specs.declared.ids.LaneId.{LaneId}
use Rattle.base_ids.specs.declared.ids.MsgRef.{MsgRef}
use Rattle.base_ids.specs.declared.ids.OpId.{OpId}
use Rattle.base_ids.specs.declared.ids.Replica.{Replica}
use Rattle.base_ids.specs.declared.ids.Version.{Version}
use Rattle.cluster_history.specs.Held.{held_cell}
use Rattle.cluster_history.specs.History.{History, message_at}
use Rattle.cluster_history.specs.Legal.{IsLegalHistory, broken_rule, entry_of, outputs_of}
use Rattle.cluster_history.specs.Messages.{read_key}
use Rattle.cluster_history.specs.Outputs.{ask_of, said_to}
use Rattle.cluster_history.specs.Requests.{Request, next_op, request_at}
use Rattle.cluster_history.specs.Topology.{fence_of}
use Rattle.cluster_history.specs.declared.data.Entry.{Entry}
use Rattle.cluster_history.specs.declared.data.Event.{Event}
use Rattle.cluster_history.specs.declared.data.Event.TheVariants.{Serve}
use Rattle.cluster_history.specs.declared.data.Message.{Message}
use Rattle.cluster_history.specs.declared.data.Message.TheVariants.{Answer as AnswerSent, Read as ReadSent, Write as WriteSent}
use Rattle.cluster_history.specs.declared.data.Opening.{Opening}
use Rattle.cluster_history.specs.declared.data.Operation.{Operation}
use Rattle.cluster_history.specs.declared.data.Operation.TheVariants.{Read as ReadOf, Write as WriteOf}
use Rattle.stage_graph.specs.declared.level.Level.{Level}
use Rattle.cluster_history.specs.declared.data.Output.{Output}
use Rattle.cluster_history.specs.declared.data.Output.TheVariants.{Sent}
use Rattle.history_facts.proofs.BegunLemmas.{request_at-kept, request_at-later, request_begun}
use Rattle.history_facts.proofs.LegalLemmas.{legal_induction, sent_split}
use Rattle.base_ids.proofs.NameLemmas.{and_true, both_true, or_first, or_second, same_lane-refl, same_lane-same, same_op-refl, same_op-same, same_replica-refl, same_replica-same}
use Rattle.history_facts.proofs.SentLemmas.{Sends, sends}
use Rattle.history_facts.proofs.SentLemmas.Sends.{sends_ask, sends_chunk, sends_chunk_ask, sends_cleaned, sends_fact, sends_found, sends_not_mine, sends_question, sends_written}
use Rattle.quorum_ops.specs.declared.data.Answer.{Answer}
use Rattle.quorum_ops.specs.declared.data.ReadAsk.{ReadAsk}
use Rattle.quorum_ops.specs.declared.data.Said.{Said}
use Rattle.quorum_ops.specs.declared.data.Said.TheVariants.{Found, Written}
use Rattle.quorum_ops.specs.declared.data.WriteAsk.{WriteAsk}
use Rattle.overlap_law.proofs.CountLemmas.{IsFound, any_found, found_any}
use Rattle.stream_law.specs.Settled.{has_said, is_answer_of}
use Rattle.barrier_law.proofs.LateLemmas.{answer_same}

pub some_same : {X : Type 0} (a b : X) → Some a ≡ Some b → a ≡ b
some_same a b e = cc

-- ---- answers among outputs

-- an answer of the replica to the request stands there, and what it says passes the test
pub record IsSaid (outputs : List Output) (lane : LaneId) (op : OpId) (from : Replica) (test : Said → Bool) : Type 0 where
  pub place : ℕ
  pub said : Said
  pub stands : slice_get outputs place ≡ Some (Sent (AnswerSent (record { lane = lane; op = op; from = from; said = said })))
  pub passes : test said ≡ true

pub said_found : (outputs : List Output) (lane : LaneId) (op : OpId) (from : Replica) (test : Said → Bool) → list_any (is_answer_of lane op from test) outputs ≡ true → IsSaid outputs lane op from test
said_found outputs lane op from test e =
    let found : IsFound (is_answer_of lane op from test) outputs = any_found (is_answer_of lane op from test) outputs e in
    by_item found.item found.place found.stands found.passes
  where
    by_item : (item : Output) (place : ℕ) → slice_get outputs place ≡ Some item → is_answer_of lane op from test item ≡ true → IsSaid outputs lane op from test
    by_item (Sent (AnswerSent answer)) place stands h =
        let one = both_true (same_lane answer.lane lane) (same_op answer.op op && (same_replica answer.from from && test answer.said)) h in
        let two = both_true (same_op answer.op op) (same_replica answer.from from && test answer.said) one.1 in
        let three = both_true (same_replica answer.from from) (test answer.said) two.1 in
        let same : answer ≡ record { lane = lane; op = op; from = from; said = answer.said } =
        (λ i. record { lane = same_lane-same answer.lane lane one.0 i; op = same_op-same answer.op op two.0 i; from = same_replica-same answer.from from three.0 i; said = answer.said }) in
        record { place = place; said = answer.said; stands = stands ∙ ap (λ (a : Answer). Some (Sent (AnswerSent a))) same; passes = three.1 }
    by_item item place stands h = cc h

-- an answer that was sent was said
pub sent_said : (history : History) (at : MsgRef) (answer : Answer) (test : Said → Bool) → message_at history at ≡ Some (AnswerSent answer) → test answer.said ≡ true → has_said history answer.lane answer.op answer.from test ≡ true
sent_said [] at answer test e h = cc
sent_said (entry ∷ history) at answer test e h =
    elim (sent_split entry history at (AnswerSent answer) e) [
      | inl fresh ↦
          or_second (has_said history answer.lane answer.op answer.from test) (list_any (is_answer_of answer.lane answer.op answer.from test) entry.outputs)
          (found_any (is_answer_of answer.lane answer.op answer.from test) entry.outputs at.out (Sent (AnswerSent answer)) fresh
          (and_true (same_lane answer.lane answer.lane) (same_op answer.op answer.op && (same_replica answer.from answer.from && test answer.said)) (same_lane-refl answer.lane)
          (and_true (same_op answer.op answer.op) (same_replica answer.from answer.from && test answer.said) (same_op-refl answer.op)
          (and_true (same_replica answer.from answer.from) (test answer.said) (same_replica-refl answer.from) h))))
      | inr old ↦
          or_first (has_said history answer.lane answer.op answer.from test) (list_any (is_answer_of answer.lane answer.op answer.from test) entry.outputs)
          (sent_said history at answer test old h)
    ]

-- ---- what is said at a serve

pub record IsWriteSaid (opening : Opening) (history : History) (event : Event) (lane : LaneId) (op : OpId) (from : Replica) (said : Said) : Type 0 where
  pub host : HostId
  pub at : MsgRef
  pub event_is : event ≡ Serve host at
  pub ask : WriteAsk
  pub asked : message_at history at ≡ Some (WriteSent ask)
  pub addressed : ask.to.host ≡ host
  pub lane_is : ask.lane ≡ lane
  pub op_is : ask.op ≡ op
  pub from_is : ask.to ≡ from
  pub said_is : said ≡ said_to ask.version (fence_of opening history host) Written

pub record IsReadSaid (opening : Opening) (history : History) (event : Event) (lane : LaneId) (op : OpId) (from : Replica) (said : Said) : Type 0 where
  pub host : HostId
  pub at : MsgRef
  pub event_is : event ≡ Serve host at
  pub ask : ReadAsk
  pub asked : message_at history at ≡ Some (ReadSent ask)
  pub addressed : ask.to.host ≡ host
  pub lane_is : ask.lane ≡ lane
  pub op_is : ask.op ≡ op
  pub from_is : ask.to ≡ from
  pub said_is : said ≡ said_to ask.version (fence_of opening history host) (Found (held_cell opening history host (read_key ask)))

said_by :
    (opening : Opening) (history : History) (event : Event) (message : Message) (answer : Answer) →
    Sends opening history event message → message ≡ AnswerSent answer →
    IsWriteSaid opening history event answer.lane answer.op answer.from answer.said ⊎ IsReadSaid opening history event answer.lane answer.op answer.from answer.said
said_by opening history event message answer (sends_written {host = host} {at = at} ask asked here) is =
    let made : Answer = record { lane = ask.lane; op = ask.op; from = ask.to; said = said_to ask.version (fence_of opening history host) Written } in
    let same : made ≡ answer = answer_same made answer is in
    inl (record {
      host = host;
      at = at;
      event_is = refl;
      ask = ask;
      asked = asked;
      addressed = here;
      lane_is = ap (λ (a : Answer). a.lane) same;
      op_is = ap (λ (a : Answer). a.op) same;
      from_is = ap (λ (a : Answer). a.from) same;
      said_is = ap (λ (a : Answer). a.said) (sym same);
    })
said_by opening history event message answer (sends_found {host = host} {at = at} ask asked here) is =
    let made : Answer = record { lane = ask.lane; op = ask.op; from = ask.to; said = said_to ask.version (fence_of opening history host) (Found (held_cell opening history host (read_key ask))) } in
    let same : made ≡ answer = answer_same made answer is in
    inr (record {
      host = host;
      at = at;
      event_is = refl;
      ask = ask;
      asked = asked;
      addressed = here;
      lane_is = ap (λ (a : Answer). a.lane) same;
      op_is = ap (λ (a : Answer). a.op) same;
      from_is = ap (λ (a : Answer). a.from) same;
      said_is = ap (λ (a : Answer). a.said) (sym same);
    })
said_by opening history event message answer (sends_ask {lane = lane} {operation = operation} {version = version} route to there among) is =
    absurd (no_answer operation is)
  where
    no_answer : (operation : Operation) → ask_of lane (next_op history lane) version operation to ≡ AnswerSent answer → ⊥
    no_answer (WriteOf table token cell level) e = cc e
    no_answer (ReadOf table token level) e = cc e
said_by opening history event message answer (sends_chunk ask asked here) is = cc is
said_by opening history event message answer (sends_fact ask asked here so) is = cc is
said_by opening history event message answer (sends_cleaned ask session asked here what mine) is = cc is
said_by opening history event message answer (sends_not_mine ask session asked here what mine) is = cc is
said_by opening history event message answer (sends_chunk_ask pull there) is = cc is
said_by opening history event message answer sends_question is = cc is

-- an answer among an event's outputs was said at a serve
pub says :
    (opening : Opening) (history : History) (event : Event) (out : ℕ) (lane : LaneId) (op : OpId) (from : Replica) (said : Said) →
    broken_rule opening history event ≡ None →
    slice_get (outputs_of opening history event) out ≡ Some (Sent (AnswerSent (record { lane = lane; op = op; from = from; said = said }))) →
    IsWriteSaid opening history event lane op from said ⊎ IsReadSaid opening history event lane op from said
says opening history event out lane op from said fine e =
    let answer : Answer = record { lane = lane; op = op; from = from; said = said } in
    said_by opening history event (AnswerSent answer) answer (sends opening history event out (AnswerSent answer) fine e) refl

-- ---- who said something was asked

-- the request was begun
pub record IsKnown (opening : Opening) (history : History) (lane : LaneId) (op : OpId) : Type 0 where
  pub request : Request
  pub begun : request_at opening history lane op ≡ Some request

asked_of :
    (opening : Opening) (history : History) (lane by : LaneId) (op number : OpId) (version : Version) (operation : Operation) (from to : Replica) →
    by ≡ lane → number ≡ op → to ≡ from → IsAsked opening history by number version operation to → IsAsked opening history lane op version operation from
asked_of opening history lane by op number version operation from to l n r asked =
    subst (λ b. IsAsked opening history b op version operation from) l
    (subst (λ o. IsAsked opening history by o version operation from) n
    (subst (λ t. IsAsked opening history by number version operation t) r asked))

-- what a write ask, or a read ask, that was served asked
pub write_asked :
    (opening : Opening) (history : History) (event : Event) (lane : LaneId) (op : OpId) (from : Replica) (said : Said) → IsLegalHistory opening history →
    (write : IsWriteSaid opening history event lane op from said) → (level : Level) × IsAsked opening history lane op write.ask.version (WriteOf write.ask.table write.ask.token write.ask.cell level) from
write_asked opening history event lane op from said legal write =
    let fact = ask_fact opening history legal write.at (WriteSent write.ask) write.asked in
    (fact.0, asked_of opening history lane write.ask.lane op write.ask.op write.ask.version (WriteOf write.ask.table write.ask.token write.ask.cell fact.0) from write.ask.to write.lane_is write.op_is write.from_is fact.1)

pub read_asked :
    (opening : Opening) (history : History) (event : Event) (lane : LaneId) (op : OpId) (from : Replica) (said : Said) → IsLegalHistory opening history →
    (read : IsReadSaid opening history event lane op from said) → (level : Level) × IsAsked opening history lane op read.ask.version (ReadOf read.ask.table read.ask.token level) from
read_asked opening history event lane op from said legal read =
    let fact = ask_fact opening history legal read.at (ReadSent read.ask) read.asked in
    (fact.0, asked_of opening history lane read.ask.lane op read.ask.op read.ask.version (ReadOf read.ask.table read.ask.token fact.0) from read.ask.to read.lane_is read.op_is read.from_is fact.1)

-- of whom something was said by an event, he was asked before
pub newly_known :
    (opening : Opening) (history : History) (event : Event) (lane : LaneId) (op : OpId) (from : Replica) (test : Said → Bool) →
    IsLegalHistory opening history → broken_rule opening history event ≡ None → list_any (is_answer_of lane op from test) (outputs_of opening history event) ≡ true →
    IsKnown opening history lane op
newly_known opening history event lane op from test legal fine h =
    let found : IsSaid (outputs_of opening history event) lane op from test = said_found (outputs_of opening history event) lane op from test h in
    elim (says opening history event found.place lane op from found.said fine found.stands) [
      | inl write ↦ let asked = (write_asked opening history event lane op from found.said legal write).1 in record { request = asked.request; begun = asked.begun }
      | inr read ↦ let asked = (read_asked opening history event lane op from found.said legal read).1 in record { request = asked.request; begun = asked.begun }
    ]

pub said_known :
    (opening : Opening) (history : History) → IsLegalHistory opening history →
    (lane : LaneId) (op : OpId) (from : Replica) (test : Said → Bool) → has_said history lane op from test ≡ true → IsKnown opening history lane op
said_known opening =
    legal_induction opening (λ history. (lane : LaneId) (op : OpId) (from : Replica) (test : Said → Bool) → has_said history lane op from test ≡ true → IsKnown opening history lane op)
    (λ lane op from test said. cc)
    (λ history event legal actor fit fine before lane op from test said.
    elim (has_said history lane op from test) as (λ b. has_said history lane op from test ≡ b → (b || list_any (is_answer_of lane op from test) (outputs_of opening history event)) ≡ true → IsKnown opening (entry_of opening history event ∷ history) lane op) [
      | true ↦ λ old h.
          let known : IsKnown opening history lane op = before lane op from test old in
          record { request = known.request; begun = request_at-later opening history (entry_of opening history event) lane op known.request known.begun }
      | false ↦ λ old h.
          let known : IsKnown opening history lane op = newly_known opening history event lane op from test legal fine h in
          record { request = known.request; begun = request_at-later opening history (entry_of opening history event) lane op known.request known.begun }
    ] refl said)

-- he is one of the request's targets
pub record IsTarget (opening : Opening) (history : History) (lane : LaneId) (op : OpId) (from : Replica) : Type 0 where
  pub request : Request
  pub begun : request_at opening history lane op ≡ Some request
  pub among : has_replica request.targets from ≡ true

pub said_target :
    (opening : Opening) (history : History) → IsLegalHistory opening history →
    (lane : LaneId) (op : OpId) (from : Replica) (test : Said → Bool) → has_said history lane op from test ≡ true → IsTarget opening history lane op from
said_target opening =
    legal_induction opening (λ history. (lane : LaneId) (op : OpId) (from : Replica) (test : Said → Bool) → has_said history lane op from test ≡ true → IsTarget opening history lane op from)
    (λ lane op from test said. cc)
    (λ history event legal actor fit fine before lane op from test said.
    elim (has_said history lane op from test) as (λ b. has_said history lane op from test ≡ b → (b || list_any (is_answer_of lane op from test) (outputs_of opening history event)) ≡ true → IsTarget opening (entry_of opening history event ∷ history) lane op from) [
      | true ↦ λ old h.
          let was : IsTarget opening history lane op from = before lane op from test old in
          record { request = was.request; begun = request_at-later opening history (entry_of opening history event) lane op was.request was.begun; among = was.among }
      | false ↦ λ old h.
          let found : IsSaid (outputs_of opening history event) lane op from test = said_found (outputs_of opening history event) lane op from test h in
          elim (says opening history event found.place lane op from found.said fine found.stands) [
            | inl write ↦
                let asked = (write_asked opening history event lane op from found.said legal write).1 in
                record { request = asked.request; begun = request_at-later opening history (entry_of opening history event) lane op asked.request asked.begun; among = asked.among }
            | inr read ↦
                let asked = (read_asked opening history event lane op from found.said legal read).1 in
                record { request = asked.request; begun = request_at-later opening history (entry_of opening history event) lane op asked.request asked.begun; among = asked.among }
          ]
    ] refl said)

-- a request that was begun before is the one that it is now
pub request-then : (opening : Opening) (history : History) (entry : Entry) (lane : LaneId) (op : OpId) (request : Request) → IsKnown opening history lane op → request_at opening (entry ∷ history) lane op ≡ Some request → request_at opening history lane op ≡ Some request
request-then opening history entry lane op request known begun =
    sym (request_at-kept opening history entry lane op (request_begun opening history lane op known.request known.begun)) ∙ begun
