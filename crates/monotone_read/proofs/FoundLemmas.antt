-- The list of repaired reads has them all.
use Rattle.std.proofs.Common.{◌≡◌, ◌+◌, ◌-◌, ◌<◌, ◌≤◌, ◌⊎◌, inl, inr, ◌==◌, ◌&&◌, ◌||◌, not, ℕ, zero, suc, Bool, true, false, cond, Option, Some, None, List, [], ◌∷◌, ◌++◌, length, arith, refl, ap, sym, subst, ◌∙◌}
use Rattle.std.specs.Prelude.{slice_get, option_to_list, if◌then◌else◌}
use Rattle.std.specs.List.{list_any}
use Rattle.base_ids.specs.Names.{same_lane, same_op}
use Rattle.base_ids.specs.declared.ids.Actor.TheVariants.{Lane as ByLane}
use Rattle.base_ids.specs.declared.ids.LaneId.{LaneId}
use Rattle.base_ids.specs.declared.ids.MsgRef.{MsgRef}
use Rattle.base_ids.specs.declared.ids.OpId.{OpId}
use Rattle.base_ids.specs.declared.ids.TableId.{TableId}
use Rattle.base_ids.specs.declared.ids.Version.{Version}
use Rattle.cell_merge.specs.declared.cell.Cell.{Cell}
use Rattle.token_ring.specs.declared.token.Token.{Token}
use Rattle.stage_graph.specs.declared.kind.Kind.{Kind}
use Rattle.stage_graph.specs.declared.level.Level.TheVariants.{Quorum}
use Rattle.quorum_ops.specs.Decision.{decision}
use Rattle.quorum_ops.specs.declared.data.Answer.{Answer}
use Rattle.quorum_ops.specs.declared.data.Reply.{Reply}
use Rattle.quorum_ops.specs.declared.data.Reply.TheVariants.{Ok, Read}
use Rattle.register_model.specs.declared.data.Key.{Key}
use Rattle.cluster_history.proofs.MessageLemmas.{entry_within}
use Rattle.cluster_history.specs.History.{History, entry_at, is_restart_of, message_at}
use Rattle.cluster_history.specs.Legal.{IsLegalHistory, outputs_of}
use Rattle.cluster_history.specs.Openings.{IsValidOpening}
use Rattle.cluster_history.specs.Outputs.{take_outputs, decided_by, reply_list}
use Rattle.cluster_history.specs.Requests.{Request, begins_request, begun_count, is_begin_of, is_event_of, is_live, is_reply_to, next_op, replies_to}
use Rattle.cluster_history.specs.declared.data.Entry.{Entry}
use Rattle.cluster_history.specs.declared.data.Event.{Event}
use Rattle.cluster_history.specs.declared.data.Event.TheVariants.{Begin, Take, Timeout}
use Rattle.cluster_history.specs.declared.data.Message.{Message}
use Rattle.cluster_history.specs.declared.data.Message.TheVariants.{Answer as AnswerSent}
use Rattle.cluster_history.specs.declared.data.Opening.{Opening}
use Rattle.cluster_history.specs.declared.data.Operation.{Operation}
use Rattle.cluster_history.specs.declared.data.Operation.TheVariants.{Read as ReadOf, Write as WriteOf}
use Rattle.cluster_history.specs.declared.data.Output.{Output}
use Rattle.cluster_history.specs.declared.data.Output.TheVariants.{Reply as Replied}
use Rattle.history_facts.proofs.BegunLemmas.{begins-again, live_begun, request_begun}
use Rattle.history_facts.proofs.EntryLemmas.{entry_cases, before_newest, before_older}
use Rattle.base_ids.proofs.NameLemmas.{same_lane-same, same_lane-refl, same_op-refl, and_true, same_op-same}
use Rattle.history_facts.specs.Prefixes.{history_before}
use Rattle.answer_law.proofs.BegunAtLemmas.{begun_within}
use Rattle.answer_law.proofs.ReadLemmas.{reads_return_written, told_read, told_ok, IsReturned, IsAcked}
use Rattle.answer_law.specs.Told.{IsBegunAt, IsToldAt, IsReadEarlier}
use Rattle.monotone_read.specs.declared.data.Note.{Note}
use Rattle.monotone_read.specs.declared.data.Note.TheVariants.{Reading, Found, Back}
use Rattle.monotone_read.specs.declared.data.Repaired.{Repaired}
use Rattle.monotone_read.specs.Lists.{IsAmong, IsRead}
use Rattle.monotone_read.specs.Notes.{previous_of, operation_in, cell_told, back_note, begun_note, told_note, is_take_of, note, written_back, none_read, answered_by, answered_in, answered_at, repaired_in}
use Rattle.monotone_read.specs.Repaired.{IsWrittenBack, IsAnswered, IsRepaired, next_of}
use Rattle.monotone_read.proofs.NoteLemmas.{write_itself, HasFound, Stands, notes_stand, among_left, among_right, answered_has}

-- ---- by the newest entry

record BeginsNow (first : Entry) (history : History) (number : ℕ) (lane : LaneId) (op : OpId) (operation : Operation) : Type 0 where
  number_is : number ≡ length history + 1
  version : Version
  event_is : first.event ≡ Begin lane operation version
  next : op ≡ next_op history lane

begun_split : (first : Entry) (history : History) (number : ℕ) (lane : LaneId) (op : OpId) (operation : Operation) → IsBegunAt (first ∷ history) number lane op operation → BeginsNow first history number lane op operation ⊎ IsBegunAt history number lane op operation
begun_split first history number lane op operation begun =
    elim (entry_cases first history number begun.entry begun.stands) [
      | inl newest ↦ inl (record {
        number_is = newest.0;
        version = begun.version;
        event_is = ap (λ (x : Entry). x.event) newest.1 ∙ begun.begins;
        next = begun.next ∙ ap (λ (h : History). next_op h lane) (before_newest first history number newest.2);
      })
      | inr older ↦ inr (record { entry = begun.entry; version = begun.version; stands = older.1; begins = begun.begins; next = begun.next ∙ ap (λ (h : History). next_op h lane) (before_older first history number older.0) })
    ]

record TellsNow (first : Entry) (history : History) (number : ℕ) (lane : LaneId) (op : OpId) (reply : Reply) : Type 0 where
  number_is : number ≡ length history + 1
  version : Version
  kind : Kind
  place : ℕ
  own : is_event_of lane first.event ≡ true
  tells : slice_get first.outputs place ≡ Some (Replied op version kind reply)

told_split : (first : Entry) (history : History) (number : ℕ) (lane : LaneId) (op : OpId) (reply : Reply) → IsToldAt (first ∷ history) number lane op reply → TellsNow first history number lane op reply ⊎ IsToldAt history number lane op reply
told_split first history number lane op reply told =
    elim (entry_cases first history number told.entry told.stands) [
      | inl newest ↦ inl (record {
        number_is = newest.0;
        version = told.version;
        kind = told.kind;
        place = told.place;
        own = ap (λ (x : Entry). is_event_of lane x.event) newest.1 ∙ told.own;
        tells = ap (λ (x : Entry). slice_get x.outputs told.place) newest.1 ∙ told.tells;
      })
      | inr older ↦ inr (record { entry = told.entry; version = told.version; kind = told.kind; place = told.place; stands = older.1; own = told.own; tells = told.tells })
    ]

told_within : (history : History) (number : ℕ) (lane : LaneId) (op : OpId) (reply : Reply) → IsToldAt history number lane op reply → number ≤ length history
told_within history number lane op reply told = entry_within history number told.entry told.stands

-- a request that is told something has begun
told_begun : (opening : Opening) (history : History) (number : ℕ) (lane : LaneId) (op : OpId) (cell : Option Cell) → IsValidOpening opening → IsLegalHistory opening history → IsToldAt history number lane op (Read cell) → op.0 ≤ begun_count history lane
told_begun opening history number lane op cell valid legal told =
    let began = (reads_return_written opening history valid legal).begun number lane op cell told in
    begun_within history began.at lane op (ReadOf began.table began.token began.level) began.begins

-- the newest entry that tells a read something takes an answer, and the read was live
record Took (opening : Opening) (history : History) (entry : Entry) (lane : LaneId) (op : OpId) : Type 0 where
  at : MsgRef
  event_is : entry.event ≡ Take lane at
  live : is_live history lane op ≡ true

took_read : (opening : Opening) (history : History) (entry : Entry) (number : ℕ) (lane : LaneId) (op : OpId) (cell : Option Cell) → IsLegalHistory opening (entry ∷ history) → (told : IsToldAt (entry ∷ history) number lane op (Read cell)) → number ≡ length history + 1 → Took opening history entry lane op
took_read opening history entry number lane op cell legal told newest =
    let back : IsReturned opening (history_before (entry ∷ history) number) lane told.entry.event op cell = told_read opening (entry ∷ history) number lane op cell legal told in
    elim (entry_cases entry history number told.entry told.stands) [
      | inl now ↦ record {
        at = back.at;
        event_is = ap (λ (x : Entry). x.event) now.1 ∙ back.event_is;
        live = ap (λ (h : History). is_live h lane op) (sym (before_newest entry history number now.2)) ∙ (ap (λ (o : OpId). is_live (history_before (entry ∷ history) number) lane o) (sym back.op_is) ∙ back.decides.live);
      }
      | inr older ↦ (let within : number ≤ length history = entry_within history number told.entry older.1 in absurd (omega arith))
    ]

took_ok : (opening : Opening) (history : History) (entry : Entry) (number : ℕ) (lane : LaneId) (op : OpId) → IsLegalHistory opening (entry ∷ history) → (told : IsToldAt (entry ∷ history) number lane op Ok) → number ≡ length history + 1 → Took opening history entry lane op
took_ok opening history entry number lane op legal told newest =
    let back : IsAcked opening (history_before (entry ∷ history) number) lane told.entry.event op = told_ok opening (entry ∷ history) number lane op legal told in
    elim (entry_cases entry history number told.entry told.stands) [
      | inl now ↦ record {
        at = back.at;
        event_is = ap (λ (x : Entry). x.event) now.1 ∙ back.event_is;
        live = ap (λ (h : History). is_live h lane op) (sym (before_newest entry history number now.2)) ∙ (ap (λ (o : OpId). is_live (history_before (entry ∷ history) number) lane o) (sym back.op_is) ∙ back.decides.live);
      }
      | inr older ↦ (let within : number ≤ length history = entry_within history number told.entry older.1 in absurd (omega arith))
    ]

-- ---- a read that was told is not live

any_got : (test : Output → Bool) (outputs : List Output) (n : ℕ) (output : Output) → slice_get outputs n ≡ Some output → test output ≡ true → list_any test outputs ≡ true
any_got test [] n output got is = cc got
any_got test (x ∷ xs) zero output got is =
    let same : x ≡ output = cc in
    let here : test x ≡ true = ap test same ∙ is in rw here refl
any_got test (x ∷ xs) (suc n) output got is =
    let later : list_any test xs ≡ true = any_got test xs n output got is in
    elim (test x) as (λ v. (v || list_any test xs) ≡ true) [ true ↦ refl | false ↦ later ]

dead_now : (begins live replies restart : Bool) → replies ≡ true → ((begins || live) && not (replies || restart)) ≡ false
dead_now true live true restart e = refl
dead_now false true true restart e = refl
dead_now false false true restart e = refl
dead_now begins live false restart e = cc e

dead_still : (begins live replies restart : Bool) → begins ≡ false → live ≡ false → ((begins || live) && not (replies || restart)) ≡ false
dead_still false false replies restart a b = refl
dead_still true live replies restart a b = cc a
dead_still false true replies restart a b = cc b

dead : (opening : Opening) (history : History) (number : ℕ) (lane : LaneId) (op : OpId) (cell : Option Cell) → IsValidOpening opening → IsLegalHistory opening history → IsToldAt history number lane op (Read cell) → is_live history lane op ≡ false
dead opening [] number lane op cell valid legal told = refl
dead opening (entry ∷ history) number lane op cell valid legal told =
    elim (told_split entry history number lane op (Read cell) told) [
      | inl now ↦
          let replies : replies_to entry lane op ≡ true =
          and_true (is_event_of lane entry.event) (list_any (is_reply_to op) entry.outputs) now.own
          (any_got (is_reply_to op) entry.outputs now.place (Replied op now.version now.kind (Read cell)) now.tells (same_op-refl op)) in
          dead_now (begins_request history entry.event lane op) (is_live history lane op) (replies_to entry lane op) (is_restart_of (ByLane lane) entry.event) replies
      | inr was ↦
          dead_still (begins_request history entry.event lane op) (is_live history lane op) (replies_to entry lane op) (is_restart_of (ByLane lane) entry.event)
          (begins-again history entry.event lane op (told_begun opening history number lane op cell valid legal.1 was))
          (dead opening history number lane op cell valid legal.1 was)
    ]

-- ---- what is noted

-- an entry that does not begin the request
note_kept : (history : History) (entry : Entry) (lane : LaneId) (op : OpId) → begins_request history entry.event lane op ≡ false → note (entry ∷ history) lane op ≡ cond (is_take_of lane entry.event) (told_note (note history lane op) (cell_told entry.outputs op)) (note history lane op)
note_kept history entry lane op other = rw other refl

abbrev IsNoteOf : Key → Option Note → Type 0
IsNoteOf key None = ⊥
IsNoteOf key (Some (Reading other)) = other ≡ key
IsNoteOf key (Some (Found other cell)) = other ≡ key
IsNoteOf key (Some (Back cell)) = ⊥

note_of_told : (key : Key) (n : Option Note) (told : Option Cell) → IsNoteOf key n → IsNoteOf key (told_note n told)
note_of_told key None told is = is
note_of_told key (Some (Reading other)) None is = is
note_of_told key (Some (Reading other)) (Some cell) is = is
note_of_told key (Some (Found other cell)) told is = is
note_of_told key (Some (Back cell)) told is = is

note_of_cond : (key : Key) (b : Bool) (n : Option Note) (told : Option Cell) → IsNoteOf key n → IsNoteOf key (cond b (told_note n told) n)
note_of_cond key true n told is = note_of_told key n told is
note_of_cond key false n told is = is

-- the newest entry begins the request
begins_it : (history : History) (entry : Entry) (number : ℕ) (lane : LaneId) (op : OpId) (operation : Operation) → BeginsNow entry history number lane op operation → begins_request history entry.event lane op ≡ true
begins_it history entry number lane op operation now =
    and_true (is_begin_of lane entry.event) (op.0 == begun_count history lane + 1)
    (ap (is_begin_of lane) now.event_is ∙ same_lane-refl lane)
    (ap (λ (o : OpId). o.0 == begun_count history lane + 1) now.next ∙ same_op-refl (next_op history lane))

begun_read : (history : History) (number : ℕ) (lane : LaneId) (op : OpId) (key : Key) → IsBegunAt history number lane op (ReadOf key.table key.token Quorum) → IsNoteOf key (note history lane op)
begun_read [] number lane op key begun = cc (begun.stands)
begun_read (entry ∷ history) number lane op key begun =
    elim (begun_split entry history number lane op (ReadOf key.table key.token Quorum) begun) [
      | inl now ↦
          let begins : begins_request history entry.event lane op ≡ true = begins_it history entry number lane op (ReadOf key.table key.token Quorum) now in
          let found : operation_in entry.event ≡ Some (ReadOf key.table key.token Quorum) = ap operation_in now.event_is in
          let P : Option Operation → Type 0 = λ o. IsNoteOf key (cond true (begun_note (note history lane (previous_of op)) o) (cond (is_take_of lane entry.event) (told_note (note history lane op) (cell_told entry.outputs op)) (note history lane op))) in
          let B : Bool → Type 0 = λ b. IsNoteOf key (cond b (begun_note (note history lane (previous_of op)) (operation_in entry.event)) (cond (is_take_of lane entry.event) (told_note (note history lane op) (cell_told entry.outputs op)) (note history lane op))) in
          subst B (sym begins) (subst P (sym found) refl)
      | inr was ↦
          let other : begins_request history entry.event lane op ≡ false = begins-again history entry.event lane op (begun_within history number lane op (ReadOf key.table key.token Quorum) was) in
          let P : Option Note → Type 0 = IsNoteOf key in
          subst P (sym (note_kept history entry lane op other)) (note_of_cond key (is_take_of lane entry.event) (note history lane op) (cell_told entry.outputs op) (begun_read history number lane op key was))
    ]

-- ---- the outputs of a take

few_list : (op : OpId) (request : Request) (reply : Option Reply) → length (reply_list op request reply) ≤ 1
few_list op request None = omega arith
few_list op request (Some reply) = omega arith

few_decided : (op : OpId) (answers : List Answer) (request : Option Request) → length (decided_by op answers request) ≤ 1
few_decided op answers None = omega arith
few_decided op answers (Some request) = few_list op request _

few_take : (live : OpId → Option Request) (answers : OpId → List Answer) (message : Option Message) → length (take_outputs live answers message) ≤ 1
few_take live answers (Some (AnswerSent answer)) = few_decided answer.op (answer ∷ answers answer.op) (live answer.op)
few_take live answers message = omega arith

few_outputs : (opening : Opening) (history : History) (entry : Entry) (lane : LaneId) (at : MsgRef) → IsLegalHistory opening (entry ∷ history) → entry.event ≡ Take lane at → length entry.outputs ≤ 1
few_outputs opening history entry lane at legal is =
    let same : entry.outputs ≡ outputs_of opening history (Take lane at) = legal.0.outputs ∙ ap (outputs_of opening history) is in
    let P : List Output → Type 0 = λ l. length l ≤ 1 in
    subst P (sym same) (few_take _ _ (message_at history at))

told_cell : (outputs : List Output) (n : ℕ) (op : OpId) (version : Version) (kind : Kind) (cell : Cell) → length outputs ≤ 1 → slice_get outputs n ≡ Some (Replied op version kind (Read (Some cell))) → cell_told outputs op ≡ Some cell
told_cell [] n op version kind cell few got = cc got
told_cell (output ∷ outputs) zero op version kind cell few got =
    let same : output ≡ Replied op version kind (Read (Some cell)) = cc in
    let P : Output → Type 0 = λ o. cell_told (o ∷ outputs) op ≡ Some cell in
    subst P (sym same) (rw (same_op-refl op) refl)
told_cell (output ∷ []) (suc n) op version kind cell few got = cc got
told_cell (output ∷ next ∷ outputs) (suc n) op version kind cell few got = absurd (omega arith)

-- ---- a read that was told a cell

found_kept : (history : History) (entry : Entry) (lane : LaneId) (op : OpId) (n : Note) → ((told : Option Cell) → told_note (Some n) told ≡ Some n) → op.0 ≤ begun_count history lane → note history lane op ≡ Some n → note (entry ∷ history) lane op ≡ Some n
found_kept history entry lane op n stays below was =
    note_kept history entry lane op (begins-again history entry.event lane op below)
    ∙ (ap (λ (o : Option Note). cond (is_take_of lane entry.event) (told_note o (cell_told entry.outputs op)) o) was
    ∙ elim (is_take_of lane entry.event) as (λ v. cond v (told_note (Some n) (cell_told entry.outputs op)) (Some n) ≡ Some n) [ true ↦ stays (cell_told entry.outputs op) | false ↦ refl ])

told_found : (opening : Opening) (history : History) (entry : Entry) (lane : LaneId) (op : OpId) (key : Key) (cell : Cell) (n : Option Note) → IsValidOpening opening → IsLegalHistory opening history → is_live history lane op ≡ true → Stands history lane op n → IsNoteOf key n → told_note n (Some cell) ≡ Some (Found key cell)
told_found opening history entry lane op key cell None valid legal live stands is = absurd is
told_found opening history entry lane op key cell (Some (Reading other)) valid legal live stands is = ap (λ (k : Key). Some (Found k cell)) is
told_found opening history entry lane op key cell (Some (Found other told)) valid legal live stands is =
    let gone : is_live history lane op ≡ false = dead opening history stands.told lane op (Some told) valid legal stands.reads in cc
told_found opening history entry lane op key cell (Some (Back told)) valid legal live stands is = absurd is

-- a live quorum read that is noted is one that was not told anything
still_reading : (opening : Opening) (history : History) (lane : LaneId) (op : OpId) (key : Key) (n : Option Note) → IsValidOpening opening → IsLegalHistory opening history → is_live history lane op ≡ true → Stands history lane op n → IsNoteOf key n → n ≡ Some (Reading key)
still_reading opening history lane op key None valid legal live stands is = absurd is
still_reading opening history lane op key (Some (Reading other)) valid legal live stands is = ap (λ (k : Key). Some (Reading k)) is
still_reading opening history lane op key (Some (Found other told)) valid legal live stands is =
    let gone : is_live history lane op ≡ false = dead opening history stands.told lane op (Some told) valid legal stands.reads in cc
still_reading opening history lane op key (Some (Back told)) valid legal live stands is = absurd is

-- a take does not begin a request
no_begin : (history : History) (entry : Entry) (number : ℕ) (lane other : LaneId) (op : OpId) (operation : Operation) (at : MsgRef) → entry.event ≡ Take other at → BeginsNow entry history number lane op operation → ⊥
no_begin history entry number lane other op operation at is now = (let both : Take other at ≡ Begin lane operation now.version = sym is ∙ now.event_is in cc both)

pub read_is_found : (opening : Opening) (history : History) (begin told : ℕ) (lane : LaneId) (op : OpId) (key : Key) (cell : Cell) → IsValidOpening opening → IsLegalHistory opening history → IsBegunAt history begin lane op (ReadOf key.table key.token Quorum) → IsToldAt history told lane op (Read (Some cell)) → note history lane op ≡ Some (Found key cell)
read_is_found opening [] begin told lane op key cell valid legal begun reads = cc (begun.stands)
read_is_found opening (entry ∷ history) begin told lane op key cell valid legal begun reads =
    elim (told_split entry history told lane op (Read (Some cell)) reads) [
      | inl now ↦
          let took = took_read opening history entry told lane op (Some cell) legal reads now.number_is in
          elim (begun_split entry history begin lane op (ReadOf key.table key.token Quorum) begun) [
            | inl new ↦ absurd (no_begin history entry begin lane lane op (ReadOf key.table key.token Quorum) took.at took.event_is new)
            | inr was ↦
                let below : op.0 ≤ begun_count history lane = live_begun history lane op took.live in
                let cell_is : cell_told entry.outputs op ≡ Some cell = told_cell entry.outputs now.place op now.version now.kind cell (few_outputs opening history entry lane took.at legal took.event_is) now.tells in
                note_kept history entry lane op (begins-again history entry.event lane op below)
                ∙ (ap (λ (b : Bool). cond b (told_note (note history lane op) (cell_told entry.outputs op)) (note history lane op)) (ap (is_take_of lane) took.event_is ∙ same_lane-refl lane)
                ∙ (ap (told_note (note history lane op)) cell_is
                ∙ told_found opening history entry lane op key cell (note history lane op) valid legal.1 took.live (notes_stand history lane op) (begun_read history begin lane op key was)))
          ]
      | inr old ↦
          let below : op.0 ≤ begun_count history lane = told_begun opening history told lane op (Some cell) valid legal.1 old in
          elim (begun_split entry history begin lane op (ReadOf key.table key.token Quorum) begun) [
            | inl new ↦ (let count : op.0 ≡ begun_count history lane + 1 = ap (λ (o : OpId). o.0) new.next in absurd (omega arith))
            | inr was ↦ found_kept history entry lane op (Found key cell) (λ _. refl) below (read_is_found opening history begin told lane op key cell valid legal.1 was old)
          ]
    ]

-- ---- a write back

previous_next : (op : OpId) → previous_of (next_of op) ≡ op
previous_next op = (let same : op.0 + 1 - 1 ≡ op.0 = omega arith in ap (λ (n : ℕ). let o : OpId = record { 0 = n } in o) same)

pub write_is_back : (opening : Opening) (history : History) (begin told wrote : ℕ) (lane : LaneId) (op : OpId) (key : Key) (cell : Cell) → IsValidOpening opening → IsLegalHistory opening history → told < wrote → IsBegunAt history begin lane op (ReadOf key.table key.token Quorum) → IsToldAt history told lane op (Read (Some cell)) → IsBegunAt history wrote lane (next_of op) (WriteOf key.table key.token cell Quorum) → note history lane (next_of op) ≡ Some (Back cell)
write_is_back opening [] begin told wrote lane op key cell valid legal later begun reads writes = cc (begun.stands)
write_is_back opening (entry ∷ history) begin told wrote lane op key cell valid legal later begun reads writes =
    elim (begun_split entry history wrote lane (next_of op) (WriteOf key.table key.token cell Quorum) writes) [
      | inl now ↦
          elim (told_split entry history told lane op (Read (Some cell)) reads) [
            | inl new ↦ (let a : told ≡ length history + 1 = new.number_is in let b : wrote ≡ length history + 1 = now.number_is in absurd (omega arith))
            | inr old ↦
                elim (begun_split entry history begin lane op (ReadOf key.table key.token Quorum) begun) [
                  | inl also ↦ (let a : op.0 ≡ begun_count history lane + 1 = ap (λ (o : OpId). o.0) also.next in let b : op.0 + 1 ≡ begun_count history lane + 1 = ap (λ (o : OpId). o.0) now.next in absurd (omega arith))
                  | inr was ↦
                      let found : note history lane op ≡ Some (Found key cell) = read_is_found opening history begin told lane op key cell valid legal.1 was old in
                      let begins : begins_request history entry.event lane (next_of op) ≡ true = begins_it history entry wrote lane (next_of op) (WriteOf key.table key.token cell Quorum) now in
                      let what : operation_in entry.event ≡ Some (WriteOf key.table key.token cell Quorum) = ap operation_in now.event_is in
                      let tail : Option Note = cond (is_take_of lane entry.event) (told_note (note history lane (next_of op)) (cell_told entry.outputs (next_of op))) (note history lane (next_of op)) in
                      ap (λ (b : Bool). cond b (begun_note (note history lane (previous_of (next_of op))) (operation_in entry.event)) tail) begins
                      ∙ (ap (λ (o : OpId). begun_note (note history lane o) (operation_in entry.event)) (previous_next op)
                      ∙ (ap (λ (n : Option Note). begun_note n (operation_in entry.event)) found
                      ∙ (ap (begun_note (Some (Found key cell))) what
                      ∙ ap (λ (b : Bool). cond b (Some (Back cell)) None) (write_itself key cell))))
                ]
          ]
      | inr was ↦
          let below : (next_of op).0 ≤ begun_count history lane = begun_within history wrote lane (next_of op) (WriteOf key.table key.token cell Quorum) was in
          let within : wrote ≤ length history = entry_within history wrote was.entry was.stands in
          elim (told_split entry history told lane op (Read (Some cell)) reads) [
            | inl new ↦ (let a : told ≡ length history + 1 = new.number_is in absurd (omega arith))
            | inr old ↦
                elim (begun_split entry history begin lane op (ReadOf key.table key.token Quorum) begun) [
                  | inl also ↦ (let a : op.0 ≡ begun_count history lane + 1 = ap (λ (o : OpId). o.0) also.next in absurd (omega arith))
                  | inr had ↦ found_kept history entry lane (next_of op) (Back cell) (λ _. refl) below (write_is_back opening history begin told wrote lane op key cell valid legal.1 later had old was)
                ]
          ]
    ]

-- ---- the list has it

-- the entry at which it is answered is the newest one
now_none : (history : History) (entry : Entry) (lane : LaneId) (op : OpId) (key : Key) (r : Repaired) (at : MsgRef) → entry.event ≡ Take lane at → TellsNow entry history (length history + 1) lane op (Read None) → note history lane op ≡ Some (Reading key) → (let x : Repaired = record { lane = lane; op = op; cell = None; place = length history + 1 } in x) ≡ r → IsAmong (repaired_in (entry ∷ history)) r
now_none history entry lane op key r at is now kept same =
    let place : ℕ = length history + 1 in
    let here : IsAmong (answered_in history lane place entry.outputs) r =
    answered_has history lane place entry.outputs now.place op now.version now.kind (Read None) r now.tells (ap (none_read lane op place) kept ∙ ap Some same) in
    let P : Event → Type 0 = λ event. IsAmong (repaired_in history ++ answered_at history event place entry.outputs) r in
    subst P (sym is) (among_right (repaired_in history) (answered_in history lane place entry.outputs) r here)

now_back : (history : History) (entry : Entry) (lane : LaneId) (op : OpId) (cell : Cell) (r : Repaired) (at : MsgRef) → entry.event ≡ Take lane at → TellsNow entry history (length history + 1) lane (next_of op) Ok → note history lane (next_of op) ≡ Some (Back cell) → (let x : Repaired = record { lane = lane; op = op; cell = Some cell; place = length history + 1 } in x) ≡ r → IsAmong (repaired_in (entry ∷ history)) r
now_back history entry lane op cell r at is now kept same =
    let place : ℕ = length history + 1 in
    let answer : answered_by lane (next_of op) place (note history lane (next_of op)) Ok ≡ Some r =
    ap (written_back lane (next_of op) place) kept
    ∙ (ap (λ (o : OpId). let x : Repaired = record { lane = lane; op = o; cell = Some cell; place = place } in Some x) (previous_next op) ∙ ap Some same) in
    let here : IsAmong (answered_in history lane place entry.outputs) r =
    answered_has history lane place entry.outputs now.place (next_of op) now.version now.kind Ok r now.tells answer in
    let P : Event → Type 0 = λ event. IsAmong (repaired_in history ++ answered_at history event place entry.outputs) r in
    subst P (sym is) (among_right (repaired_in history) (answered_in history lane place entry.outputs) r here)

-- an older one
older : (history : History) (entry : Entry) (r : Repaired) → IsAmong (repaired_in history) r → IsAmong (repaired_in (entry ∷ history)) r
older history entry r among = among_left (repaired_in history) (answered_at history entry.event (length history + 1) entry.outputs) among.at r among.stands

-- the count of a prefix is at most that of the whole
count_before : (history : History) (number : ℕ) (lane : LaneId) → begun_count (history_before history number) lane ≤ begun_count history lane
count_before [] number lane = omega arith
count_before (entry ∷ history) number lane =
    let more : begun_count history lane ≤ begun_count (entry ∷ history) lane =
    elim (is_begin_of lane entry.event) as (λ b. begun_count history lane ≤ (if b then begun_count history lane + 1 else begun_count history lane)) [ true ↦ omega arith | false ↦ omega arith ] in
    elim (number == length history + 1) as (λ b. begun_count (if b then history else history_before history number) lane ≤ begun_count (entry ∷ history) lane) [
      | true ↦ more
      | false ↦ (let was : begun_count (history_before history number) lane ≤ begun_count history lane = count_before history number lane in omega arith)
    ]

-- a write that is acknowledged has begun
acked_begun : (opening : Opening) (history : History) (number : ℕ) (lane : LaneId) (op : OpId) → IsLegalHistory opening history → IsToldAt history number lane op Ok → op.0 ≤ begun_count history lane
acked_begun opening history number lane op legal told =
    let back : IsAcked opening (history_before history number) lane told.entry.event op = told_ok opening history number lane op legal told in
    let begun : back.decides.answer.op.0 ≤ begun_count (history_before history number) lane = request_begun opening (history_before history number) lane back.decides.answer.op back.decides.request back.decides.begun in
    let same : back.decides.answer.op.0 ≡ op.0 = ap (λ (o : OpId). o.0) back.op_is in
    let within : begun_count (history_before history number) lane ≤ begun_count history lane = count_before history number lane in
    omega arith

all_none : (opening : Opening) (history : History) (begin told : ℕ) (lane : LaneId) (op : OpId) (key : Key) (place : ℕ) → IsValidOpening opening → IsLegalHistory opening history → IsBegunAt history begin lane op (ReadOf key.table key.token Quorum) → IsToldAt history told lane op (Read None) → place ≡ told → IsAmong (repaired_in history) (record { lane = lane; op = op; cell = None; place = place })
all_none opening [] begin told lane op key place valid legal begun reads is = cc (reads.stands)
all_none opening (entry ∷ history) begin told lane op key place valid legal begun reads is =
    let r : Repaired = record { lane = lane; op = op; cell = None; place = place } in
    elim (told_split entry history told lane op (Read None) reads) [
      | inl now ↦
          let took = took_read opening history entry told lane op None legal reads now.number_is in
          let T : ℕ → Type 0 = λ n. TellsNow entry history n lane op (Read None) in
          elim (begun_split entry history begin lane op (ReadOf key.table key.token Quorum) begun) [
            | inl new ↦ absurd (no_begin history entry begin lane lane op (ReadOf key.table key.token Quorum) took.at took.event_is new)
            | inr was ↦
                now_none history entry lane op key r took.at took.event_is (subst T now.number_is now)
                (still_reading opening history lane op key (note history lane op) valid legal.1 took.live (notes_stand history lane op) (begun_read history begin lane op key was))
                (ap (λ (n : ℕ). let x : Repaired = record { lane = lane; op = op; cell = None; place = n } in x) (sym now.number_is ∙ sym is))
          ]
      | inr old ↦
          let below : op.0 ≤ begun_count history lane = told_begun opening history told lane op None valid legal.1 old in
          elim (begun_split entry history begin lane op (ReadOf key.table key.token Quorum) begun) [
            | inl new ↦ (let count : op.0 ≡ begun_count history lane + 1 = ap (λ (o : OpId). o.0) new.next in absurd (omega arith))
            | inr was ↦ older history entry r (all_none opening history begin told lane op key place valid legal.1 was old is)
          ]
    ]

all_back : (opening : Opening) (history : History) (begin told wrote : ℕ) (lane : LaneId) (op : OpId) (key : Key) (cell : Cell) (place : ℕ) → IsValidOpening opening → IsLegalHistory opening history → told < wrote → IsBegunAt history begin lane op (ReadOf key.table key.token Quorum) → IsToldAt history told lane op (Read (Some cell)) → IsBegunAt history wrote lane (next_of op) (WriteOf key.table key.token cell Quorum) → IsToldAt history place lane (next_of op) Ok → IsAmong (repaired_in history) (record { lane = lane; op = op; cell = Some cell; place = place })
all_back opening [] begin told wrote lane op key cell place valid legal later begun reads writes acked = cc (acked.stands)
all_back opening (entry ∷ history) begin told wrote lane op key cell place valid legal later begun reads writes acked =
    let r : Repaired = record { lane = lane; op = op; cell = Some cell; place = place } in
    elim (told_split entry history place lane (next_of op) Ok acked) [
      | inl now ↦
          let took = took_ok opening history entry place lane (next_of op) legal acked now.number_is in
          let T : ℕ → Type 0 = λ n. TellsNow entry history n lane (next_of op) Ok in
          elim (begun_split entry history wrote lane (next_of op) (WriteOf key.table key.token cell Quorum) writes) [
            | inl new ↦ absurd (no_begin history entry wrote lane lane (next_of op) (WriteOf key.table key.token cell Quorum) took.at took.event_is new)
            | inr wrote_before ↦
                let within : wrote ≤ length history = entry_within history wrote wrote_before.entry wrote_before.stands in
                elim (told_split entry history told lane op (Read (Some cell)) reads) [
                  | inl new ↦ (let a : told ≡ length history + 1 = new.number_is in absurd (omega arith))
                  | inr old ↦
                      elim (begun_split entry history begin lane op (ReadOf key.table key.token Quorum) begun) [
                        | inl new ↦ absurd (no_begin history entry begin lane lane op (ReadOf key.table key.token Quorum) took.at took.event_is new)
                        | inr had ↦
                            now_back history entry lane op cell r took.at took.event_is (subst T now.number_is now)
                            (write_is_back opening history begin told wrote lane op key cell valid legal.1 later had old wrote_before)
                            (ap (λ (n : ℕ). let x : Repaired = record { lane = lane; op = op; cell = Some cell; place = n } in x) (sym now.number_is))
                      ]
                ]
          ]
      | inr acked_before ↦
          let below : (next_of op).0 ≤ begun_count history lane = acked_begun opening history place lane (next_of op) legal.1 acked_before in
          elim (begun_split entry history wrote lane (next_of op) (WriteOf key.table key.token cell Quorum) writes) [
            | inl new ↦ (let a : op.0 + 1 ≡ begun_count history lane + 1 = ap (λ (o : OpId). o.0) new.next in absurd (omega arith))
            | inr wrote_before ↦
                let within : wrote ≤ length history = entry_within history wrote wrote_before.entry wrote_before.stands in
                elim (told_split entry history told lane op (Read (Some cell)) reads) [
                  | inl new ↦ (let a : told ≡ length history + 1 = new.number_is in absurd (omega arith))
                  | inr old ↦
                      elim (begun_split entry history begin lane op (ReadOf key.table key.token Quorum) begun) [
                        | inl new ↦ (let a : op.0 ≡ begun_count history lane + 1 = ap (λ (o : OpId). o.0) new.next in absurd (omega arith))
                        | inr had ↦ older history entry r (all_back opening history begin told wrote lane op key cell place valid legal.1 later had old wrote_before acked_before)
                      ]
                ]
          ]
    ]

all_by : (opening : Opening) (history : History) (place begin told : ℕ) (lane : LaneId) (op : OpId) (table : TableId) (token : Token) (cell : Option Cell) → IsValidOpening opening → IsLegalHistory opening history → IsBegunAt history begin lane op (ReadOf table token Quorum) → IsToldAt history told lane op (Read cell) → IsAnswered history told place lane op table token cell → IsAmong (repaired_in history) (record { lane = lane; op = op; cell = cell; place = place })
all_by opening history place begin told lane op table token None valid legal begun reads answered = all_none opening history begin told lane op (record { table = table; token = token }) place valid legal begun reads answered
all_by opening history place begin told lane op table token (Some cell) valid legal begun reads answered =
    all_back opening history begin told answered.wrote lane op (record { table = table; token = token }) cell place valid legal answered.later begun reads answered.begins answered.acked

pub all_are_among : (opening : Opening) (history : History) → IsValidOpening opening → IsLegalHistory opening history → (r : Repaired) → IsRead history r → IsAmong (repaired_in history) r
all_are_among opening history valid legal r is =
    all_by opening history r.place is.repaired.begin is.repaired.told r.lane r.op is.table is.token r.cell valid legal is.repaired.begins is.repaired.reads is.repaired.answered
