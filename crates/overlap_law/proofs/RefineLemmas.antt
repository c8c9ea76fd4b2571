-- What clients see of a legal run is a run of the register machine.
use Rattle.std.proofs.Common.{ap, append_assoc, arith, inl, inr, refl, subst, sym, ◌∙◌}
use Rattle.std.proofs.lemmas.List.{append-nil}
use Rattle.std.proofs.lemmas.Option.{slice_get_within}
use Rattle.std.specs.List.{count_by}
use Rattle.std.specs.Prelude.{Bool, List, None, Option, Some, [], false, length, map, not, slice_get, suc, true, zero, ℕ, ◌++◌, ◌+◌, ◌-◌, ◌<◌, ◌∷◌, ◌≡◌, ◌≤◌, ◌⊎◌}
use Rattle.answer_law.proofs.DecisionLemmas.{decided, operations}
use Rattle.answer_law.proofs.ReadLemmas.{IsTold, read_counts, told_written}
use Rattle.history_facts.proofs.ReplyLemmas.{Decides, answer_addressed, live_is}
use Rattle.answer_law.proofs.TakenLemmas.{IsSaidFirst, said_first}
use Rattle.answer_law.proofs.TellLemmas.{decides_sent}
use Rattle.answer_law.proofs.WayLemmas.{IsTurnedAway, turned_away}
use Rattle.answer_law.proofs.WayLemmas.IsTurnedAway.{HasNoTable, IsNoMember}
use Rattle.answer_law.specs.Told.{IsWritten}
use Rattle.base_ids.specs.declared.ids.LaneId.{LaneId}
use Rattle.base_ids.specs.declared.ids.MsgRef.{MsgRef}
use Rattle.base_ids.specs.declared.ids.OpId.{OpId}
use Rattle.base_ids.specs.declared.ids.Replica.{Replica}
use Rattle.base_ids.specs.declared.ids.TableId.{TableId}
use Rattle.base_ids.specs.declared.ids.Version.{Version}
use Rattle.cell_merge.specs.Cell.{IsNotBelow, is_not_below}
use Rattle.cell_merge.specs.declared.cell.Cell.{Cell}
use Rattle.cluster_history.specs.History.{History, message_at}
use Rattle.cluster_history.specs.Legal.{IsLegalHistory, broken_rule, outputs_of}
use Rattle.cluster_history.specs.Messages.{key_of, kind_of}
use Rattle.cluster_history.specs.Openings.{IsValidOpening}
use Rattle.cluster_history.specs.Outputs.{begin_outputs, decided_by, reply_list, sent_ask, take_outputs, timeout_outputs}
use Rattle.cluster_history.specs.Requests.{Request, Way, answers_of, live_request, next_op, way_of}
use Rattle.cluster_history.specs.Requests.Way.{Ends, Goes}
use Rattle.cluster_history.specs.declared.data.Event.{Event}
use Rattle.cluster_history.specs.declared.data.Event.TheVariants.{Begin, Take, Timeout}
use Rattle.cluster_history.specs.declared.data.Message.{Message}
use Rattle.cluster_history.specs.declared.data.Message.TheVariants.{Answer as AnswerSent}
use Rattle.cluster_history.specs.declared.data.Opening.{Opening}
use Rattle.cluster_history.specs.declared.data.Operation.{Operation}
use Rattle.cluster_history.specs.declared.data.Operation.TheVariants.{Read as ReadOf, Write as WriteOf}
use Rattle.cluster_history.specs.declared.data.Output.{Output}
use Rattle.cluster_history.specs.declared.data.Output.TheVariants.{Reply as Replied}
use Rattle.history_facts.proofs.LegalLemmas.{legal_induction}
use Rattle.base_ids.proofs.NameLemmas.{is_false}
use Rattle.quorum_ops.specs.Decision.{answered_count, decision, first_said, greatest_told, good_reply, has_answered, said_cell}
use Rattle.quorum_ops.specs.declared.data.Answer.{Answer}
use Rattle.quorum_ops.specs.declared.data.Reply.{Reply}
use Rattle.quorum_ops.specs.declared.data.Said.TheVariants.{Found}
use Rattle.register_model.proofs.RunLemmas.{MayCome, run-empty, run-longer}
use Rattle.register_model.specs.Register.{BeginsAt, EndsAt, IsRegisterRun, ReadBeganBefore, Stands, WriteBeganBefore, WrittenBefore, begun_by, ended_by}
use Rattle.register_model.specs.declared.data.ClientEvent.{ClientEvent}
use Rattle.register_model.specs.declared.data.ClientEvent.TheVariants.{Ended, ReadBegun, ReadOk, WriteAcked, WriteBegun}
use Rattle.register_model.specs.declared.data.Key.{Key}
use Rattle.register_model.specs.declared.data.Request.{Request as Named}
use Rattle.stage_graph.specs.Needs.{base_need}
use Rattle.stage_graph.specs.declared.level.Level.{Level}
use Rattle.tablet_map.specs.declared.tablet.Tablet.{Tablet}
use Rattle.token_ring.specs.declared.token.Token.{Token}
use Rattle.overlap_law.proofs.AckedLemmas.{acked_settled}
use Rattle.overlap_law.proofs.BoundLemmas.{told_bound}
use Rattle.overlap_law.proofs.EndedLemmas.{live_unended, seen_begun, seen_ended}
use Rattle.overlap_law.proofs.EntryLemmas.{Began, BeganBy, request_seen, written_seen}
use Rattle.overlap_law.proofs.GoodLemmas.{found_below, good_parts, good_set, is_good, read_need, read_size}
use Rattle.overlap_law.proofs.SaidLemmas.{IsKnown, sent_said, some_same}
use Rattle.overlap_law.proofs.SeenLemmas.{begin_begins, begin_ends, stands_at, stands_split}
use Rattle.overlap_law.proofs.SettledLemmas.{settled_known}
use Rattle.overlap_law.specs.ClientEvents.{asked_at, begin_event, blind_of, named_request, reply_event, reply_events, seen_in, seen_of, strength_of}
use Rattle.overlap_law.specs.Covered.{view_at}
use Rattle.overlap_law.proofs.AskedLemmas.{same_size}
use Rattle.stream_law.specs.Settled.{has_said}

-- ---- events that may come next

-- a request that was not begun may begin
may_begin : (events : List ClientEvent) (request : Named) (operation : Operation) (asked : Option Tablet) → ((i : ℕ) → BeginsAt events i request → ⊥) → MayCome events (begin_event request operation asked)
may_begin events request (WriteOf table token cell level) asked fresh =
    record {
      fresh = λ i other e begins. let same : request ≡ other = cc in let P : Named → Type 0 = λ n. BeginsAt events i n in fresh i (subst P (sym same) begins);
      unended = λ i other e ends. cc;
      begun = tt;
      written = λ begin other key blind cell e stands. cc;
      not_below = λ wrote acked begin writer reader key written strength blind cell over e w a before b. cc;
    }
may_begin events request (ReadOf table token level) asked fresh =
    record {
      fresh = λ i other e begins. let same : request ≡ other = cc in let P : Named → Type 0 = λ n. BeginsAt events i n in fresh i (subst P (sym same) begins);
      unended = λ i other e ends. cc;
      begun = tt;
      written = λ begin other key blind cell e stands. cc;
      not_below = λ wrote acked begin writer reader key written strength blind cell over e w a before b. cc;
    }

-- a request that was begun and has not ended may end
may_end : (events : List ClientEvent) (request : Named) (operation : Operation) (asked : Option Tablet) → Began events request operation asked → ((i : ℕ) → EndsAt events i request → ⊥) → MayCome events (Ended request)
may_end events request operation asked began open_yet =
    record {
      fresh = λ i other e begins. cc;
      unended = λ i other e ends. let same : request ≡ other = cc in let P : Named → Type 0 = λ n. EndsAt events i n in open_yet i (subst P (sym same) ends);
      begun = by_operation operation began;
      written = λ begin other key blind cell e stands. cc;
      not_below = λ wrote acked begin writer reader key written strength blind cell over e w a before b. cc;
    }
  where
    by_operation : (operation : Operation) → Began events request operation asked → WriteBeganBefore events (length events) request ⊎ ReadBeganBefore events (length events) request
    by_operation (WriteOf table token cell level) began =
        inl (record { at = began.at; key = key_of (WriteOf table token cell level); cell = cell; strength = strength_of level asked; earlier = slice_get_within events began.at (begin_event request (WriteOf table token cell level) asked) began.stands; stands = began.stands })
    by_operation (ReadOf table token level) began =
        inr (record { at = began.at; key = key_of (ReadOf table token level); blind = blind_of level asked; earlier = slice_get_within events began.at (begin_event request (ReadOf table token level) asked) began.stands; stands = began.stands })

-- a write that was begun and has not ended may be acknowledged
may_ack : (events : List ClientEvent) (request : Named) (table : TableId) (token : Token) (cell : Cell) (level : Level) (asked : Option Tablet) → Began events request (WriteOf table token cell level) asked → ((i : ℕ) → EndsAt events i request → ⊥) → MayCome events (WriteAcked request)
may_ack events request table token cell level asked began open_yet =
    record {
      fresh = λ i other e begins. cc;
      unended = λ i other e ends. let same : request ≡ other = cc in let P : Named → Type 0 = λ n. EndsAt events i n in open_yet i (subst P (sym same) ends);
      begun = record { at = began.at; key = key_of (WriteOf table token cell level); cell = cell; strength = strength_of level asked; earlier = slice_get_within events began.at (begin_event request (WriteOf table token cell level) asked) began.stands; stands = began.stands };
      written = λ begin other key blind cell e stands. cc;
      not_below = λ wrote acked begin writer reader key written strength blind cell over e w a before b. cc;
    }

-- events at one place are one event
at_place : (events : List ClientEvent) (i j : ℕ) (a b : ClientEvent) → i ≡ j → Stands events i a → Stands events j b → a ≡ b
at_place events i j a b same p q = some_same a b (sym p ∙ ap (λ n. slice_get events n) same ∙ q)

-- a request is begun as one thing
pub begun_as : (events : List ClientEvent) (request : Named) (operation : Operation) (asked : Option Tablet) (place : ℕ) (event : ClientEvent) → IsRegisterRun events → Began events request operation asked → Stands events place event → begun_by event ≡ Some request → begin_event request operation asked ≡ event
begun_as events request operation asked place event run began stands begins =
    at_place events began.at place (begin_event request operation asked) event
    (run.begins_once began.at place request (record { event = begin_event request operation asked; stands = began.stands; begins = begin_begins request operation asked }) (record { event = event; stands = stands; begins = begins }))
    began.stands stands

-- what is seen of a write tells its key, its cell and its strength
record IsSeenWrite (operation : Operation) (asked : Option Tablet) (key : Key) (cell : Cell) (strength : ℕ) : Type 0 where
  pub table : TableId
  pub token : Token
  pub level : Level
  pub is : operation ≡ WriteOf table token cell level
  pub key_is : record { table = table; token = token } ≡ key
  pub strong : strength_of level asked ≡ strength

write_is : (request : Named) (operation : Operation) (asked : Option Tablet) (key : Key) (cell : Cell) (strength : ℕ) → begin_event request operation asked ≡ WriteBegun request key cell strength → IsSeenWrite operation asked key cell strength
write_is request (WriteOf table token other level) asked key cell strength e =
    let same : other ≡ cell = cc in
    record { table = table; token = token; level = level; is = ap (λ c. WriteOf table token c level) same; key_is = cc; strong = cc }
write_is request (ReadOf table token level) asked key cell strength e = cc

read_key_is : (request : Named) (table : TableId) (token : Token) (level : Level) (asked : Option Tablet) (key : Key) (blind : ℕ) → begin_event request (ReadOf table token level) asked ≡ ReadBegun request key blind → (record { table = table; token = token } ≡ key) × (blind_of level asked ≡ blind)
read_key_is request table token level asked key blind e = (cc, cc)

-- a write of a strength above what the read is blind to and the read ask together for more than there are
meets : (n reads writes blind strength : ℕ) → n - reads ≡ blind → writes ≡ strength → blind < strength → n < reads + writes
meets n reads writes blind strength b s over = omega (arith, b, s, over)

not_found_below : (cell : Cell) (found : Option Cell) → found_below cell (Found found) ≡ false → is_not_below found (Some cell) ≡ true
not_found_below cell found e = not_twice (is_not_below found (Some cell)) e
  where
    not_twice : (b : Bool) → not b ≡ false → b ≡ true
    not_twice true h = refl
    not_twice false h = cc

-- ---- a read that returns

module _ (opening : Opening) (history : History) (valid : IsValidOpening opening) (legal : IsLegalHistory opening history) (run : IsRegisterRun (seen_in opening history)) (lane : LaneId) (at : MsgRef) (reply : Reply) (decides : Decides opening history lane at reply) where
  -- what the read returns is not below a write that was acknowledged before it began
  read_bound :
      (table : TableId) (token : Token) (level : Level) (cell : Cell) (wrote acked begin : ℕ) (writer : Named) (strength blind : ℕ) → blind < strength → decides.request.operation ≡ ReadOf table token level →
      decides.request.need ≤ answered_count (decides.answer ∷ answers_of history lane decides.answer.op) decides.request.targets →
      Stands (seen_in opening history) wrote (WriteBegun writer (key_of (ReadOf table token level)) cell strength) → Stands (seen_in opening history) acked (WriteAcked writer) → acked < begin →
      Stands (seen_in opening history) begin (ReadBegun (named_request lane decides.answer.op) (key_of (ReadOf table token level)) blind) →
      IsNotBelow (greatest_told (decides.answer ∷ answers_of history lane decides.answer.op) decides.request.targets) (Some cell)
  read_bound table token level cell wrote acked begin writer strength blind over is enough writes acks before begins =
      let answers = decides.answer ∷ answers_of history lane decides.answer.op in
      let key = key_of (ReadOf table token level) in
      let known : IsKnown opening history writer.lane writer.op = settled_known opening history writer.lane writer.op (acked_settled opening history legal acked writer.lane writer.op acks) in
      let by_write : BeganBy opening history writer.lane writer.op known.request = request_seen opening history writer.lane writer.op known.request known.begun in
      let as_write : IsSeenWrite known.request.operation (Some by_write.tablet) key cell strength =
      write_is writer known.request.operation (Some by_write.tablet) key cell strength (begun_as (seen_in opening history) writer known.request.operation (Some by_write.tablet) wrote (WriteBegun writer key cell strength) run by_write.began writes refl) in
      let table_is : as_write.table ≡ table = ap (λ (k : Key). k.table) as_write.key_is in
      let token_is : as_write.token ≡ token = ap (λ (k : Key). k.token) as_write.key_is in
      let wrote_is : known.request.operation ≡ WriteOf table token cell as_write.level = as_write.is ∙ ap (λ (t : TableId). WriteOf t as_write.token cell as_write.level) table_is ∙ ap (λ (k : Token). WriteOf table k cell as_write.level) token_is in
      let by_read : BeganBy opening history lane decides.answer.op decides.request = request_seen opening history lane decides.answer.op decides.request decides.begun in
      let began : Began (seen_in opening history) (named_request lane decides.answer.op) (ReadOf table token level) (Some by_read.tablet) =
      (let P : Operation → Type 0 = λ o. Began (seen_in opening history) (named_request lane decides.answer.op) o (Some by_read.tablet) in subst P is by_read.began) in
      let as_read = read_key_is (named_request lane decides.answer.op) table token level (Some by_read.tablet) key blind
      (begun_as (seen_in opening history) (named_request lane decides.answer.op) (ReadOf table token level) (Some by_read.tablet) begin (ReadBegun (named_request lane decides.answer.op) key blind) run began begins refl) in
      let size : length by_read.tablet.replicas ≡ length decides.request.targets = read_size opening history lane decides.answer.op decides.request table token level by_read.tablet valid legal decides.begun is by_read.shown in
      let wrote_size : length by_write.tablet.replicas ≡ length by_read.tablet.replicas =
      same_size opening history known.request.version decides.request.version key by_write.tablet by_read.tablet valid legal
      (ap (λ (o : Operation). view_at opening history known.request.version (key_of o)) (sym wrote_is) ∙ by_write.shown)
      (ap (λ (o : Operation). view_at opening history decides.request.version (key_of o)) (sym is) ∙ by_read.shown) in
      let n = length decides.request.targets in
      let blinded : n - base_need level n ≡ blind = ap (λ m. m - base_need level m) (sym size) ∙ as_read.1 in
      let strong : base_need as_write.level n ≡ strength = ap (base_need as_write.level) (sym (wrote_size ∙ size)) ∙ as_write.strong in
      let meet : n < base_need level n + base_need as_write.level n = meets n (base_need level n) (base_need as_write.level n) blind strength blinded strong over in
      let good : base_need as_write.level (length decides.request.targets) ≤ count_by (is_good opening history lane decides.answer.op decides.request.version key cell) decides.request.targets =
      good_set opening valid history legal begin acked blind lane writer.lane decides.answer.op writer.op decides.request known.request table token cell level as_write.level decides.live decides.begun is begins acks before known.begun wrote_is in
      let need = read_need opening history lane decides.answer.op decides.request table token level valid legal decides.begun is in
      told_bound answers (Some cell) (is_good opening history lane decides.answer.op decides.request.version key cell)
      (λ replica answered is_one. each replica answered is_one)
      decides.request.targets
      (omega (arith, good, enough, meet, need))
    where
      each : (replica : Replica) → has_answered (decides.answer ∷ answers_of history lane decides.answer.op) replica ≡ true → is_good opening history lane decides.answer.op decides.request.version (key_of (ReadOf table token level)) cell replica ≡ true → IsNotBelow (said_cell (first_said (decides.answer ∷ answers_of history lane decides.answer.op) replica)) (Some cell)
      each replica answered is_one =
          let answers = decides.answer ∷ answers_of history lane decides.answer.op in
          let all = decides_sent opening history lane at reply decides in
          let told : IsTold answers replica = read_counts opening history lane decides.answer.op answers decides.request table token level legal all decides.begun is replica answered in
          let first : IsSaidFirst history lane decides.answer.op replica (Found told.found) = said_first history lane decides.answer.op answers replica (Found told.found) all told.first in
          let parts = good_parts opening history lane decides.answer.op decides.request.version (key_of (ReadOf table token level)) cell replica is_one in
          let fine_cell : found_below cell (Found told.found) ≡ false =
          is_false (found_below cell (Found told.found))
          (λ e. let low : has_said history lane decides.answer.op replica (found_below cell) ≡ true = sent_said history first.at (record { lane = lane; op = decides.answer.op; from = replica; said = Found told.found }) (found_below cell) first.sent e in
          let wrong : true ≡ false = sym low ∙ parts.0 in cc wrong) in
          let P : Option Cell → Type 0 = λ c. IsNotBelow c (Some cell) in
          subst P (sym (ap said_cell told.first)) (not_found_below cell told.found fine_cell)

  may_read :
      (table : TableId) (token : Token) (level : Level) → decides.request.operation ≡ ReadOf table token level →
      decides.request.need ≤ answered_count (decides.answer ∷ answers_of history lane decides.answer.op) decides.request.targets →
      MayCome (seen_in opening history) (ReadOk (named_request lane decides.answer.op) (greatest_told (decides.answer ∷ answers_of history lane decides.answer.op) decides.request.targets))
  may_read table token level is enough =
      record {
        fresh = λ i other e begins. cc;
        unended = λ i other e ends. let same : named_request lane decides.answer.op ≡ other = cc in let P : Named → Type 0 = λ n. EndsAt (seen_in opening history) i n in live_unended opening history legal i lane decides.answer.op decides.live (subst P (sym same) ends);
        begun = record { at = began.at; key = key_of (ReadOf table token level); blind = blind_of level (Some by_read.tablet); earlier = slice_get_within (seen_in opening history) began.at (ReadBegun (named_request lane decides.answer.op) (key_of (ReadOf table token level)) (blind_of level (Some by_read.tablet))) began.stands; stands = began.stands };
        written = λ begin reader key blind cell e begins. from_write begin reader key blind cell e begins;
        not_below = λ wrote acked begin writer reader key written strength blind cell over e writes acks before begins. bound wrote acked begin writer reader key written strength blind cell over e writes acks before begins;
      }
    where
      by_read : BeganBy opening history lane decides.answer.op decides.request
      by_read = request_seen opening history lane decides.answer.op decides.request decides.begun

      began : Began (seen_in opening history) (named_request lane decides.answer.op) (ReadOf table token level) (Some by_read.tablet)
      began = let P : Operation → Type 0 = λ o. Began (seen_in opening history) (named_request lane decides.answer.op) o (Some by_read.tablet) in subst P is by_read.began

      same_key_at : (begin : ℕ) (key : Key) (blind : ℕ) → Stands (seen_in opening history) begin (ReadBegun (named_request lane decides.answer.op) key blind) → key_of (ReadOf table token level) ≡ key
      same_key_at begin key blind begins =
          (read_key_is (named_request lane decides.answer.op) table token level (Some by_read.tablet) key blind
          (begun_as (seen_in opening history) (named_request lane decides.answer.op) (ReadOf table token level) (Some by_read.tablet) begin (ReadBegun (named_request lane decides.answer.op) key blind) run began begins refl)).0

      from_write : (begin : ℕ) (reader : Named) (key : Key) (blind : ℕ) (cell : Cell) → ReadOk (named_request lane decides.answer.op) (greatest_told (decides.answer ∷ answers_of history lane decides.answer.op) decides.request.targets) ≡ ReadOk reader (Some cell) → Stands (seen_in opening history) begin (ReadBegun reader key blind) → WrittenBefore (seen_in opening history) (length (seen_in opening history)) key cell
      from_write begin reader key blind cell e begins =
          let who : named_request lane decides.answer.op ≡ reader = cc in
          let what : greatest_told (decides.answer ∷ answers_of history lane decides.answer.op) decides.request.targets ≡ Some cell = cc in
          let P : Named → Type 0 = λ n. Stands (seen_in opening history) begin (ReadBegun n key blind) in
          let same : key_of (ReadOf table token level) ≡ key = same_key_at begin key blind (subst P (sym who) begins) in
          let written : IsWritten history (key_of decides.request.operation) cell = told_written opening history lane decides.answer.op (decides.answer ∷ answers_of history lane decides.answer.op) decides.request valid legal (decides_sent opening history lane at reply decides) decides.begun decides.request.targets cell what in
          let Q : Key → Type 0 = λ k. WrittenBefore (seen_in opening history) (length (seen_in opening history)) k cell in
          subst Q (ap key_of is ∙ same) (written_seen opening history (key_of decides.request.operation) cell written)

      bound : (wrote acked begin : ℕ) (writer reader : Named) (key : Key) (written : Cell) (strength blind : ℕ) (cell : Option Cell) → blind < strength → ReadOk (named_request lane decides.answer.op) (greatest_told (decides.answer ∷ answers_of history lane decides.answer.op) decides.request.targets) ≡ ReadOk reader cell → Stands (seen_in opening history) wrote (WriteBegun writer key written strength) → Stands (seen_in opening history) acked (WriteAcked writer) → acked < begin → Stands (seen_in opening history) begin (ReadBegun reader key blind) → IsNotBelow cell (Some written)
      bound wrote acked begin writer reader key written strength blind cell over e writes acks before begins =
          let who : named_request lane decides.answer.op ≡ reader = cc in
          let what : greatest_told (decides.answer ∷ answers_of history lane decides.answer.op) decides.request.targets ≡ cell = cc in
          let P : Named → Type 0 = λ n. Stands (seen_in opening history) begin (ReadBegun n key blind) in
          let begins_now : Stands (seen_in opening history) begin (ReadBegun (named_request lane decides.answer.op) key blind) = subst P (sym who) begins in
          let same : key_of (ReadOf table token level) ≡ key = same_key_at begin key blind begins_now in
          let Q : Key → Type 0 = λ k. Stands (seen_in opening history) begin (ReadBegun (named_request lane decides.answer.op) k blind) in
          let R : Key → Type 0 = λ k. Stands (seen_in opening history) wrote (WriteBegun writer k written strength) in
          let S : Option Cell → Type 0 = λ c. IsNotBelow c (Some written) in
          subst S what (read_bound table token level written wrote acked begin writer strength blind over is enough (subst R (sym same) writes) acks before (subst Q (sym same) begins_now))

  -- what the client is told may come next
  may_decide : MayCome (seen_in opening history) (reply_event (named_request lane decides.answer.op) reply)
  may_decide =
      elim (decided (kind_of decides.request.operation) decides.request.targets decides.request.need decides.answer (answers_of history lane decides.answer.op) reply decides.decided) [
        | inr refusal ↦
            let P : Reply → Type 0 = λ r. MayCome (seen_in opening history) (reply_event (named_request lane decides.answer.op) r) in
            subst P (sym refusal.reply_is) (let by = request_seen opening history lane decides.answer.op decides.request decides.begun in may_end (seen_in opening history) (named_request lane decides.answer.op) decides.request.operation (Some by.tablet) by.began
            (λ i ends. live_unended opening history legal i lane decides.answer.op decides.live ends))
        | inl told ↦
            let P : Reply → Type 0 = λ r. MayCome (seen_in opening history) (reply_event (named_request lane decides.answer.op) r) in
            elim (operations decides.request.operation) [
              | inl write ↦
                  let by = request_seen opening history lane decides.answer.op decides.request decides.begun in
                  let Q : Operation → Type 0 = λ o. Began (seen_in opening history) (named_request lane decides.answer.op) o (Some by.tablet) in
                  subst P (sym (told.reply_is ∙ ap (λ (o : Operation). good_reply (kind_of o) (greatest_told (decides.answer ∷ answers_of history lane decides.answer.op) decides.request.targets)) write.is))
                  (may_ack (seen_in opening history) (named_request lane decides.answer.op) write.table write.token write.cell write.level (Some by.tablet)
                  (subst Q write.is by.began)
                  (λ i ends. live_unended opening history legal i lane decides.answer.op decides.live ends))
              | inr read ↦
                  subst P (sym (told.reply_is ∙ ap (λ (o : Operation). good_reply (kind_of o) (greatest_told (decides.answer ∷ answers_of history lane decides.answer.op) decides.request.targets)) read.is))
                  (may_read read.table read.token read.level read.is told.enough)
            ]
      ]

-- ---- one event more

-- a take has no outputs, or the one reply that it decides
record DecidesOne (opening : Opening) (history : History) (lane : LaneId) (at : MsgRef) : Type 0 where
  pub reply : Reply
  pub decides : Decides opening history lane at reply
  pub outputs : outputs_of opening history (Take lane at) ≡ Replied decides.answer.op decides.request.version (kind_of decides.request.operation) reply ∷ []

take_cases : (opening : Opening) (history : History) (lane : LaneId) (at : MsgRef) → broken_rule opening history (Take lane at) ≡ None → (outputs_of opening history (Take lane at) ≡ []) ⊎ DecidesOne opening history lane at
take_cases opening history lane at fine = by_message (message_at history at) refl
  where
    by_answer : (answer : Answer) → message_at history at ≡ Some (AnswerSent answer) → (request : Option Request) → live_request opening history lane answer.op ≡ request → (outputs_of opening history (Take lane at) ≡ []) ⊎ DecidesOne opening history lane at
    by_answer answer sent None r =
        inl (ap (take_outputs (live_request opening history lane) (answers_of history lane)) sent ∙ ap (decided_by answer.op (answer ∷ answers_of history lane answer.op)) r)
    by_answer answer sent (Some request) r =
        by_decision (decision (kind_of request.operation) request.targets request.need (answer ∷ answers_of history lane answer.op)) refl
      where
        is : outputs_of opening history (Take lane at) ≡ reply_list answer.op request (decision (kind_of request.operation) request.targets request.need (answer ∷ answers_of history lane answer.op))
        is = ap (take_outputs (live_request opening history lane) (answers_of history lane)) sent ∙ ap (decided_by answer.op (answer ∷ answers_of history lane answer.op)) r

        by_decision : (reply : Option Reply) → decision (kind_of request.operation) request.targets request.need (answer ∷ answers_of history lane answer.op) ≡ reply → (outputs_of opening history (Take lane at) ≡ []) ⊎ DecidesOne opening history lane at
        by_decision None d = inl (is ∙ ap (reply_list answer.op request) d)
        by_decision (Some reply) d =
            let live = live_is opening history lane answer.op request r in
            inr (record {
              reply = reply;
              decides = record { answer = answer; request = request; sent = sent; addressed = answer_addressed history lane at answer fine sent; live = live.0; begun = live.1; decided = d };
              outputs = is ∙ ap (reply_list answer.op request) d;
            })

    by_message : (message : Option Message) → message_at history at ≡ message → (outputs_of opening history (Take lane at) ≡ []) ⊎ DecidesOne opening history lane at
    by_message (Some (AnswerSent answer)) sent = by_answer answer sent (live_request opening history lane answer.op) refl
    by_message message sent = inl (ap (take_outputs (live_request opening history lane) (answers_of history lane)) sent)

same_run : (opening : Opening) (history : History) → IsRegisterRun (seen_in opening history) → IsRegisterRun (seen_in opening history ++ [])
same_run opening history run = let Q : List ClientEvent → Type 0 = λ l. IsRegisterRun l in subst Q (sym (append-nil (seen_in opening history))) run

run_take : (opening : Opening) (history : History) → IsValidOpening opening → IsLegalHistory opening history → IsRegisterRun (seen_in opening history) → (lane : LaneId) (at : MsgRef) → broken_rule opening history (Take lane at) ≡ None → IsRegisterRun (seen_in opening history ++ reply_events lane (outputs_of opening history (Take lane at)))
run_take opening history valid legal run lane at fine =
    let P : List Output → Type 0 = λ o. IsRegisterRun (seen_in opening history ++ reply_events lane o) in
    elim (take_cases opening history lane at fine) [
      | inl none ↦ subst P (sym none) (same_run opening history run)
      | inr one ↦ subst P (sym one.outputs) (run-longer (seen_in opening history) (reply_event (named_request lane one.decides.answer.op) one.reply) run (may_decide opening history valid legal run lane at one.reply one.decides))
    ]

run_timeout : (opening : Opening) (history : History) → IsLegalHistory opening history → IsRegisterRun (seen_in opening history) → (lane : LaneId) (op : OpId) → (request : Option Request) → live_request opening history lane op ≡ request → IsRegisterRun (seen_in opening history ++ reply_events lane (timeout_outputs op request (answers_of history lane op)))
run_timeout opening history legal run lane op None r = same_run opening history run
run_timeout opening history legal run lane op (Some request) r =
    let live = live_is opening history lane op request r in
    run-longer (seen_in opening history) (Ended (named_request lane op)) run
    (may_end (seen_in opening history) (named_request lane op) request.operation (Some (request_seen opening history lane op request live.1).tablet) (request_seen opening history lane op request live.1).began
    (λ i ends. live_unended opening history legal i lane op live.0 ends))

no_replies : (lane : LaneId) (op : OpId) (version : Version) (operation : Operation) (targets : List Replica) → reply_events lane (map (sent_ask lane op version operation) targets) ≡ []
no_replies lane op version operation [] = refl
no_replies lane op version (WriteOf table token cell level) (target ∷ targets) = no_replies lane op version (WriteOf table token cell level) targets
no_replies lane op version (ReadOf table token level) (target ∷ targets) = no_replies lane op version (ReadOf table token level) targets

run_begin : (opening : Opening) (history : History) → IsLegalHistory opening history → IsRegisterRun (seen_in opening history) → (lane : LaneId) (operation : Operation) (version : Version) (way : Way) → way_of opening history lane operation version ≡ way → IsRegisterRun (seen_in opening history ++ begin_event (named_request lane (next_op history lane)) operation (asked_at opening history lane operation version) ∷ reply_events lane (begin_outputs lane (next_op history lane) version operation way))
run_begin opening history legal run lane operation version way is = by_way way is
  where
    begun_run : IsRegisterRun (seen_in opening history ++ begin_event (named_request lane (next_op history lane)) operation (asked_at opening history lane operation version) ∷ [])
    begun_run = run-longer (seen_in opening history) (begin_event (named_request lane (next_op history lane)) operation (asked_at opening history lane operation version)) run
        (may_begin (seen_in opening history) (named_request lane (next_op history lane)) operation (asked_at opening history lane operation version)
        (λ i begins. absurd (omega (arith, seen_begun opening history legal i begins.event (named_request lane (next_op history lane)) begins.stands begins.begins))))

    unended : (i : ℕ) → EndsAt (seen_in opening history ++ begin_event (named_request lane (next_op history lane)) operation (asked_at opening history lane operation version) ∷ []) i (named_request lane (next_op history lane)) → ⊥
    unended i ends =
        elim (stands_split (seen_in opening history) (begin_event (named_request lane (next_op history lane)) operation (asked_at opening history lane operation version) ∷ []) i ends.event ends.stands) [
          | inl old ↦
              let was : EndsAt (seen_in opening history) i (named_request lane (next_op history lane)) = record { event = ends.event; stands = old; ends = ends.ends } in
              absurd (omega (arith, seen_ended opening history legal i (named_request lane (next_op history lane)) was))
          | inr behind ↦ last behind.offset behind.stands
        ]
      where
        last : (offset : ℕ) → slice_get (begin_event (named_request lane (next_op history lane)) operation (asked_at opening history lane operation version) ∷ []) offset ≡ Some ends.event → ⊥
        last zero e =
            let same : begin_event (named_request lane (next_op history lane)) operation (asked_at opening history lane operation version) ≡ ends.event = some_same (begin_event (named_request lane (next_op history lane)) operation (asked_at opening history lane operation version)) ends.event e in
            let wrong : Some (named_request lane (next_op history lane)) ≡ None = sym ends.ends ∙ ap ended_by (sym same) ∙ begin_ends (named_request lane (next_op history lane)) operation (asked_at opening history lane operation version) in cc wrong
        last (suc offset) e = cc

    ended_run : IsRegisterRun (seen_in opening history ++ begin_event (named_request lane (next_op history lane)) operation (asked_at opening history lane operation version) ∷ Ended (named_request lane (next_op history lane)) ∷ [])
    ended_run =
        let P : List ClientEvent → Type 0 = λ l. IsRegisterRun l in
        subst P (append_assoc (seen_in opening history) (begin_event (named_request lane (next_op history lane)) operation (asked_at opening history lane operation version) ∷ []) (Ended (named_request lane (next_op history lane)) ∷ []))
        (run-longer (seen_in opening history ++ begin_event (named_request lane (next_op history lane)) operation (asked_at opening history lane operation version) ∷ []) (Ended (named_request lane (next_op history lane))) begun_run
        (may_end (seen_in opening history ++ begin_event (named_request lane (next_op history lane)) operation (asked_at opening history lane operation version) ∷ []) (named_request lane (next_op history lane)) operation (asked_at opening history lane operation version)
        (record { at = length (seen_in opening history); stands = stands_at (seen_in opening history) [] (begin_event (named_request lane (next_op history lane)) operation (asked_at opening history lane operation version)) })
        unended))

    by_way : (way : Way) → way_of opening history lane operation version ≡ way → IsRegisterRun (seen_in opening history ++ begin_event (named_request lane (next_op history lane)) operation (asked_at opening history lane operation version) ∷ reply_events lane (begin_outputs lane (next_op history lane) version operation way))
    by_way (Goes to) r =
        let P : List ClientEvent → Type 0 = λ l. IsRegisterRun (seen_in opening history ++ begin_event (named_request lane (next_op history lane)) operation (asked_at opening history lane operation version) ∷ l) in
        subst P (sym (no_replies lane (next_op history lane) version operation to.targets)) begun_run
    by_way (Ends reply) r = away reply (turned_away opening history lane operation version reply r)
      where
        away : (reply : Reply) → IsTurnedAway reply → IsRegisterRun (seen_in opening history ++ begin_event (named_request lane (next_op history lane)) operation (asked_at opening history lane operation version) ∷ reply_event (named_request lane (next_op history lane)) reply ∷ [])
        away reply (HasNoTable told) =
            let P : Reply → Type 0 = λ r. IsRegisterRun (seen_in opening history ++ begin_event (named_request lane (next_op history lane)) operation (asked_at opening history lane operation version) ∷ reply_event (named_request lane (next_op history lane)) r ∷ []) in
            subst P (sym told) ended_run
        away reply (IsNoMember told) =
            let P : Reply → Type 0 = λ r. IsRegisterRun (seen_in opening history ++ begin_event (named_request lane (next_op history lane)) operation (asked_at opening history lane operation version) ∷ reply_event (named_request lane (next_op history lane)) r ∷ []) in
            subst P (sym told) ended_run

run_next : (opening : Opening) (history : History) (event : Event) → IsValidOpening opening → IsLegalHistory opening history → broken_rule opening history event ≡ None → IsRegisterRun (seen_in opening history) → IsRegisterRun (seen_in opening history ++ seen_of opening history event (outputs_of opening history event))
run_next opening history (Begin lane operation version) valid legal fine run = run_begin opening history legal run lane operation version (way_of opening history lane operation version) refl
run_next opening history (Take lane at) valid legal fine run = run_take opening history valid legal run lane at fine
run_next opening history (Timeout lane op) valid legal fine run = run_timeout opening history legal run lane op (live_request opening history lane op) refl
run_next opening history event valid legal fine run = same_run opening history run

pub run_of : (opening : Opening) → IsValidOpening opening → (history : History) → IsLegalHistory opening history → IsRegisterRun (seen_in opening history)
run_of opening valid =
    legal_induction opening (λ history. IsRegisterRun (seen_in opening history)) run-empty
    (λ history event legal actor fit fine run. run_next opening history event valid legal fine run)
