-- Where clients saw what entries began and told.
use Rattle.std.proofs.Common.{ap, arith, inl, inr, subst, sym, ◌∙◌}
use Rattle.std.proofs.lemmas.List.{length-append}
use Rattle.std.specs.Prelude.{List, Option, Some, [], length, slice_get, suc, true, zero, ℕ, ◌++◌, ◌+◌, ◌<◌, ◌∷◌, ◌≡◌, ◌≤◌}
use Rattle.answer_law.proofs.BegunAtLemmas.{IsBegunBy, request_entry}
use Rattle.answer_law.specs.Told.{IsBegunAt, IsToldAt, IsWritten}
use Rattle.base_ids.specs.declared.ids.LaneId.{LaneId}
use Rattle.base_ids.specs.declared.ids.OpId.{OpId}
use Rattle.base_ids.specs.declared.ids.Version.{Version}
use Rattle.cell_merge.specs.declared.cell.Cell.{Cell}
use Rattle.cluster_history.proofs.MessageLemmas.{entry_within}
use Rattle.cluster_history.specs.History.{History, entry_at}
use Rattle.cluster_history.specs.Messages.{key_of}
use Rattle.cluster_history.specs.Requests.{Request, is_event_of, next_op, request_at}
use Rattle.cluster_history.specs.declared.data.Entry.{Entry}
use Rattle.cluster_history.specs.declared.data.Event.{Event}
use Rattle.cluster_history.specs.declared.data.Event.TheVariants.{Begin, Take, Timeout}
use Rattle.cluster_history.specs.declared.data.Opening.{Opening}
use Rattle.cluster_history.specs.declared.data.Operation.{Operation}
use Rattle.cluster_history.specs.declared.data.Operation.TheVariants.{Write as WriteOf}
use Rattle.cluster_history.specs.declared.data.Output.{Output}
use Rattle.cluster_history.specs.declared.data.Output.TheVariants.{Reply as Replied}
use Rattle.history_facts.proofs.EntryLemmas.{before_newest, before_older, entry_cases}
use Rattle.base_ids.proofs.NameLemmas.{same_lane-same}
use Rattle.history_facts.specs.Prefixes.{history_before}
use Rattle.quorum_ops.specs.declared.data.Reply.{Reply}
use Rattle.register_model.proofs.RunLemmas.{stands-more}
use Rattle.register_model.specs.Register.{Stands, WrittenBefore}
use Rattle.register_model.specs.declared.data.ClientEvent.{ClientEvent}
use Rattle.register_model.specs.declared.data.ClientEvent.TheVariants.{WriteBegun}
use Rattle.register_model.specs.declared.data.Key.{Key}
use Rattle.register_model.specs.declared.data.Request.{Request as Named}
use Rattle.stage_graph.specs.declared.kind.Kind.{Kind}
use Rattle.tablet_map.specs.declared.tablet.Tablet.{Tablet}
use Rattle.std.proofs.lemmas.Option.{slice_get_within}
use Rattle.overlap_law.specs.ClientEvents.{asked_at, begin_event, named_request, reply_event, reply_events, seen_in, seen_of, strength_of}
use Rattle.overlap_law.specs.Covered.{view_at}
use Rattle.overlap_law.proofs.AskedLemmas.{begun_asked}

-- ---- places of what clients saw

stands_behind : (xs ys : List ClientEvent) (offset : ℕ) (x : ClientEvent) → slice_get ys offset ≡ Some x → slice_get (xs ++ ys) (length xs + offset) ≡ Some x
stands_behind [] ys offset x e =
    let none : 0 + offset ≡ offset = omega arith in ap (λ n. slice_get ys n) none ∙ e
stands_behind (a ∷ xs) ys offset x e =
    let more : length (a ∷ xs) + offset ≡ suc (length xs + offset) = omega arith in
    ap (λ n. slice_get (a ∷ (xs ++ ys)) n) more ∙ stands_behind xs ys offset x e

-- what clients see of an entry stands behind what they saw before it
pub seen_at : (opening : Opening) (history : History) (number : ℕ) (entry : Entry) (offset : ℕ) (seen : ClientEvent) → entry_at history number ≡ Some entry → slice_get (seen_of opening (history_before history number) entry.event entry.outputs) offset ≡ Some seen → slice_get (seen_in opening history) (length (seen_in opening (history_before history number)) + offset) ≡ Some seen
seen_at opening [] number entry offset seen e h = cc
seen_at opening (first ∷ history) number entry offset seen e h =
    let P : History → Type 0 = λ b. slice_get (seen_of opening b entry.event entry.outputs) offset ≡ Some seen in
    let Q : History → Type 0 = λ b. slice_get (seen_in opening history ++ seen_of opening history first.event first.outputs) (length (seen_in opening b) + offset) ≡ Some seen in
    let R : Entry → Type 0 = λ x. slice_get (seen_of opening history x.event x.outputs) offset ≡ Some seen in
    elim (entry_cases first history number entry e) [
      | inl newest ↦
          subst Q (sym (before_newest first history number newest.2))
          (stands_behind (seen_in opening history) (seen_of opening history first.event first.outputs) offset seen (subst R (sym newest.1) (subst P (before_newest first history number newest.2) h)))
      | inr older ↦
          subst Q (sym (before_older first history number older.0))
          (stands-more (seen_in opening history) (seen_of opening history first.event first.outputs) (length (seen_in opening (history_before history number)) + offset) seen
          (seen_at opening history number entry offset seen older.1 (subst P (before_older first history number older.0) h)))
    ]

-- how much clients had seen when the entry came, and what they saw of it
abbrev pub seen_through : Opening → History → ℕ → Entry → ℕ
seen_through opening history number entry = length (seen_in opening (history_before history number)) + length (seen_of opening (history_before history number) entry.event entry.outputs)

-- what clients saw up to an entry is no more than what they saw in all
seen_whole : (opening : Opening) (history : History) (number : ℕ) (entry : Entry) → entry_at history number ≡ Some entry → seen_through opening history number entry ≤ length (seen_in opening history)
seen_whole opening [] number entry e = cc
seen_whole opening (first ∷ history) number entry e =
    let P : History → Type 0 = λ b. length (seen_in opening b) + length (seen_of opening b entry.event entry.outputs) ≤ length (seen_in opening history ++ seen_of opening history first.event first.outputs) in
    let R : Entry → Type 0 = λ x. length (seen_in opening history) + length (seen_of opening history x.event x.outputs) ≤ length (seen_in opening history ++ seen_of opening history first.event first.outputs) in
    elim (entry_cases first history number entry e) [
      | inl newest ↦ subst P (sym (before_newest first history number newest.2)) (subst R newest.1 (omega (arith, length-append (seen_in opening history) (seen_of opening history first.event first.outputs))))
      | inr older ↦ subst P (sym (before_older first history number older.0)) (omega (arith, seen_whole opening history number entry older.1, length-append (seen_in opening history) (seen_of opening history first.event first.outputs)))
    ]

-- entries in order were seen in order
pub seen_before : (opening : Opening) (history : History) (number later : ℕ) (entry other : Entry) → entry_at history number ≡ Some entry → entry_at history later ≡ Some other → number < later → seen_through opening history number entry ≤ length (seen_in opening (history_before history later))
seen_before opening [] number later entry other e f h = cc
seen_before opening (first ∷ history) number later entry other e f h =
    let P : History → Type 0 = λ b. length (seen_in opening b) + length (seen_of opening b entry.event entry.outputs) ≤ length (seen_in opening (history_before (first ∷ history) later)) in
    let Q : History → Type 0 = λ b. seen_through opening history number entry ≤ length (seen_in opening b) in
    elim (entry_cases first history number entry e) [
      | inl newest ↦ absurd (omega (arith, newest.0, h, entry_within (first ∷ history) later other f))
      | inr older ↦
          subst P (sym (before_older first history number older.0))
          (elim (entry_cases first history later other f) [
            | inl last ↦ subst Q (sym (before_newest first history later last.2)) (seen_whole opening history number entry older.1)
            | inr old ↦ subst Q (sym (before_older first history later old.0)) (seen_before opening history number later entry other older.1 old.1 h)
          ])
    ]

-- ---- begins and replies, as clients saw them

pub begun_seen : (opening : Opening) (history : History) (number : ℕ) (lane : LaneId) (op : OpId) (operation : Operation) → (begun : IsBegunAt history number lane op operation) → Stands (seen_in opening history) (length (seen_in opening (history_before history number)) + 0) (begin_event (named_request lane op) operation (asked_at opening (history_before history number) lane operation begun.version))
begun_seen opening history number lane op operation begun =
    let name : named_request lane (next_op (history_before history number) lane) ≡ named_request lane op = ap (λ o. named_request lane o) (sym begun.next) in
    let asked = asked_at opening (history_before history number) lane operation begun.version in
    let P : Event → Type 0 = λ v. slice_get (seen_of opening (history_before history number) v begun.entry.outputs) 0 ≡ Some (begin_event (named_request lane op) operation asked) in
    seen_at opening history number begun.entry 0 (begin_event (named_request lane op) operation asked) begun.stands
    (subst P (sym begun.begins) (ap (λ n. Some (begin_event n operation asked)) name))

-- a request that was begun was seen to begin
pub record Began (events : List ClientEvent) (request : Named) (operation : Operation) (asked : Option Tablet) : Type 0 where
  pub at : ℕ
  pub stands : Stands events at (begin_event request operation asked)

-- by the tablet of its key at its version
pub record BeganBy (opening : Opening) (history : History) (lane : LaneId) (op : OpId) (request : Request) : Type 0 where
  pub tablet : Tablet
  pub began : Began (seen_in opening history) (named_request lane op) request.operation (Some tablet)
  pub shown : view_at opening history request.version (key_of request.operation) ≡ Some tablet

pub request_seen : (opening : Opening) (history : History) (lane : LaneId) (op : OpId) (request : Request) → request_at opening history lane op ≡ Some request → BeganBy opening history lane op request
request_seen opening history lane op request begun =
    let first : IsBegunBy history lane op request.operation = request_entry opening history lane op request begun in
    let by = begun_asked opening history first.number lane op request.operation request first.begun begun in
    record {
      tablet = by.tablet;
      began = record {
        at = length (seen_in opening (history_before history first.number)) + 0;
        stands = begun_seen opening history first.number lane op request.operation first.begun ∙ ap (λ a. Some (begin_event (named_request lane op) request.operation a)) by.asked;
      };
      shown = subst (λ (v : Version). view_at opening history v (key_of request.operation) ≡ Some by.tablet) (sym by.version_is) by.shown;
    }

-- so was a write of a cell
pub written_seen : (opening : Opening) (history : History) (key : Key) (cell : Cell) → IsWritten history key cell → WrittenBefore (seen_in opening history) (length (seen_in opening history)) key cell
written_seen opening history key cell written =
    let place = length (seen_in opening (history_before history written.at)) + 0 in
    let strong : ℕ = strength_of written.level (asked_at opening (history_before history written.at) written.lane (WriteOf key.table key.token cell written.level) written.begins.version) in
    let stands : Stands (seen_in opening history) place (WriteBegun (named_request written.lane written.op) key cell strong) = begun_seen opening history written.at written.lane written.op (WriteOf key.table key.token cell written.level) written.begins in
    record { at = place; writer = named_request written.lane written.op; strength = strong; earlier = slice_get_within (seen_in opening history) place (WriteBegun (named_request written.lane written.op) key cell strong) stands; stands = stands }

-- a reply among outputs is seen
pub record IsSeenTold (events : List ClientEvent) (seen : ClientEvent) : Type 0 where
  pub offset : ℕ
  pub stands : slice_get events offset ≡ Some seen

reply_among : (lane : LaneId) (outputs : List Output) (place : ℕ) (op : OpId) (version : Version) (kind : Kind) (reply : Reply) → slice_get outputs place ≡ Some (Replied op version kind reply) → IsSeenTold (reply_events lane outputs) (reply_event (named_request lane op) reply)
reply_among lane [] place op version kind reply e = cc
reply_among lane (Replied number at what told ∷ outputs) zero op version kind reply e =
    let o : number ≡ op = cc in
    let r : told ≡ reply = cc in
    record { offset = 0; stands = ap (λ n. Some (reply_event (named_request lane n) told)) o ∙ ap (λ t. Some (reply_event (named_request lane op) t)) r }
reply_among lane (Replied number at what told ∷ outputs) (suc place) op version kind reply e =
    let rest : IsSeenTold (reply_events lane outputs) (reply_event (named_request lane op) reply) = reply_among lane outputs place op version kind reply e in
    record { offset = suc rest.offset; stands = rest.stands }
reply_among lane (output ∷ outputs) zero op version kind reply e = cc e
reply_among lane (output ∷ outputs) (suc place) op version kind reply e = reply_among lane outputs place op version kind reply e

told_among : (opening : Opening) (history : History) (event : Event) (outputs : List Output) (lane : LaneId) (seen : ClientEvent) → is_event_of lane event ≡ true → IsSeenTold (reply_events lane outputs) seen → IsSeenTold (seen_of opening history event outputs) seen
told_among opening history (Begin by operation version) outputs lane seen own told =
    let P : LaneId → Type 0 = λ l. slice_get (reply_events l outputs) told.offset ≡ Some seen in
    record { offset = suc told.offset; stands = subst P (sym (same_lane-same by lane own)) told.stands }
told_among opening history (Take by at) outputs lane seen own told =
    let P : LaneId → Type 0 = λ l. slice_get (reply_events l outputs) told.offset ≡ Some seen in
    record { offset = told.offset; stands = subst P (sym (same_lane-same by lane own)) told.stands }
told_among opening history (Timeout by op) outputs lane seen own told =
    let P : LaneId → Type 0 = λ l. slice_get (reply_events l outputs) told.offset ≡ Some seen in
    record { offset = told.offset; stands = subst P (sym (same_lane-same by lane own)) told.stands }
told_among opening history event outputs lane seen own told = cc own

pub told_seen : (opening : Opening) (history : History) (number : ℕ) (lane : LaneId) (op : OpId) (reply : Reply) → (told : IsToldAt history number lane op reply) → IsSeenTold (seen_of opening (history_before history number) told.entry.event told.entry.outputs) (reply_event (named_request lane op) reply)
told_seen opening history number lane op reply told =
    told_among opening (history_before history number) told.entry.event told.entry.outputs lane (reply_event (named_request lane op) reply) told.own
    (reply_among lane told.entry.outputs told.place op told.version told.kind reply told.tells)
