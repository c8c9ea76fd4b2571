-- Requests that clients saw begin or end: their numbers are those of begins, and a live request has not ended.
use Rattle.std.proofs.Common.{ap, arith, inl, inr, subst, sym, ◌∙◌}
use Rattle.std.specs.List.{list_any}
use Rattle.std.specs.Prelude.{None, Some, false, if◌then◌else◌, not, slice_get, true, ℕ, ◌+◌, ◌||◌, ◌∷◌, ◌≡◌, ◌≤◌}
use Rattle.history_facts.proofs.ReplyLemmas.{Replies, replies}
use Rattle.history_facts.proofs.ReplyLemmas.Replies.{replies_at_once, replies_decided, replies_given_up}
use Rattle.base_ids.specs.declared.ids.Actor.TheVariants.{Lane as ByLane}
use Rattle.base_ids.specs.declared.ids.LaneId.{LaneId}
use Rattle.base_ids.specs.declared.ids.OpId.{OpId}
use Rattle.base_ids.specs.declared.ids.Version.{Version}
use Rattle.cluster_history.specs.History.{History, is_restart_of}
use Rattle.cluster_history.specs.Legal.{IsLegalHistory, entry_of, outputs_of}
use Rattle.cluster_history.specs.Requests.{begins_request, begun_count, is_begin_of, is_event_of, is_live, is_reply_to, next_op, replies_to}
use Rattle.cluster_history.specs.declared.data.Entry.{Entry}
use Rattle.cluster_history.specs.declared.data.Event.{Event}
use Rattle.cluster_history.specs.declared.data.Event.TheVariants.{Begin}
use Rattle.cluster_history.specs.declared.data.Opening.{Opening}
use Rattle.cluster_history.specs.declared.data.Output.TheVariants.{Reply as Replied}
use Rattle.history_facts.proofs.BegunLemmas.{live_before, live_begun}
use Rattle.history_facts.proofs.LegalLemmas.{legal_induction}
use Rattle.base_ids.proofs.NameLemmas.{and_false, and_true, or_first, same_lane-refl, same_op-refl}
use Rattle.quorum_ops.specs.declared.data.Reply.{Reply}
use Rattle.register_model.specs.Register.{EndsAt, Stands, begun_by, ended_by}
use Rattle.register_model.specs.declared.data.ClientEvent.{ClientEvent}
use Rattle.register_model.specs.declared.data.Request.{Request as Named}
use Rattle.stage_graph.specs.declared.kind.Kind.{Kind}
use Rattle.overlap_law.proofs.CountLemmas.{found_any}
use Rattle.overlap_law.proofs.SaidLemmas.{some_same}
use Rattle.overlap_law.proofs.SeenLemmas.{IsBegun, begin_begins, begin_ends, reply_begins, reply_ends, seen_cases, stands_split}
use Rattle.overlap_law.specs.ClientEvents.{named_request, reply_event, seen_in, seen_of}
use Rattle.stream_law.proofs.SettledLemmas.{begun-rises}

-- ---- what was seen was begun

begun-now : (history : History) (entry : Entry) (lane : LaneId) → is_begin_of lane entry.event ≡ true → begun_count (entry ∷ history) lane ≡ begun_count history lane + 1
begun-now history entry lane e = ap (λ b. if b then begun_count history lane + 1 else begun_count history lane) e

-- what an event begins, by what is seen of it
begun_name : (history : History) (event : Event) (offset : ℕ) (seen : ClientEvent) (request : Named) → IsBegun history event offset seen → begun_by seen ≡ Some request → (lane : LaneId) × (is_begin_of lane event ≡ true) × (request ≡ named_request lane (next_op history lane))
begun_name history event offset seen request began e =
    let P : Event → Type 0 = λ v. is_begin_of began.lane v ≡ true in
    let there : Some request ≡ Some (named_request began.lane (next_op history began.lane)) = sym e ∙ ap begun_by began.is ∙ begin_begins (named_request began.lane (next_op history began.lane)) began.operation began.asked in
    (began.lane, subst P (sym began.event_is) (same_lane-refl began.lane), some_same request (named_request began.lane (next_op history began.lane)) there)

pub seen_begun : (opening : Opening) (history : History) → IsLegalHistory opening history → (place : ℕ) (seen : ClientEvent) (request : Named) → Stands (seen_in opening history) place seen → begun_by seen ≡ Some request → request.op.0 ≤ begun_count history request.lane
seen_begun opening =
    legal_induction opening (λ history. (place : ℕ) (seen : ClientEvent) (request : Named) → Stands (seen_in opening history) place seen → begun_by seen ≡ Some request → request.op.0 ≤ begun_count history request.lane)
    (λ place seen request e b. cc)
    (λ history event legal actor fit fine before place seen request e b.
    elim (stands_split (seen_in opening history) (seen_of opening history event (outputs_of opening history event)) place seen e) [
      | inl old ↦ omega (arith, before place seen request old b, begun-rises history (entry_of opening history event) request.lane)
      | inr behind ↦
          elim (seen_cases opening history event behind.offset seen behind.stands) [
            | inl began ↦
                let name = begun_name history event behind.offset seen request began b in
                let P : Named → Type 0 = λ n. n.op.0 ≤ begun_count (entry_of opening history event ∷ history) n.lane in
                subst P (sym name.2) (omega (arith, begun-now history (entry_of opening history event) name.0 name.1))
            | inr told ↦ let wrong : Some request ≡ None = sym b ∙ ap begun_by told.is ∙ reply_begins (named_request told.lane told.op) told.reply in cc
          ]
    ])

-- a reply is to a request that is live, or that the event begins
replied_begun : (opening : Opening) (history : History) (lane : LaneId) (event : Event) (op : OpId) (version : Version) (kind : Kind) (reply : Reply) → Replies opening history lane event op version kind reply → op.0 ≤ begun_count (entry_of opening history event ∷ history) lane
replied_begun opening history lane event op version kind reply (replies_at_once {operation = operation} {version = begun_at} told ends) =
    omega (arith, begun-now history (entry_of opening history (Begin lane operation begun_at)) lane (same_lane-refl lane))
replied_begun opening history lane event op version kind reply (replies_decided decides) =
    omega (arith, live_begun history lane decides.answer.op decides.live, begun-rises history (entry_of opening history event) lane)
replied_begun opening history lane event op version kind reply (replies_given_up request live begun) =
    omega (arith, live_begun history lane op live, begun-rises history (entry_of opening history event) lane)

ended_name : (lane : LaneId) (op : OpId) (reply : Reply) (seen : ClientEvent) (request : Named) → seen ≡ reply_event (named_request lane op) reply → ended_by seen ≡ Some request → request ≡ named_request lane op
ended_name lane op reply seen request is e =
    some_same request (named_request lane op) (sym e ∙ ap ended_by is ∙ reply_ends (named_request lane op) reply)

pub seen_ended : (opening : Opening) (history : History) → IsLegalHistory opening history → (place : ℕ) (request : Named) → EndsAt (seen_in opening history) place request → request.op.0 ≤ begun_count history request.lane
seen_ended opening =
    legal_induction opening (λ history. (place : ℕ) (request : Named) → EndsAt (seen_in opening history) place request → request.op.0 ≤ begun_count history request.lane)
    (λ place request ends. let wrong : None ≡ Some ends.event = ends.stands in cc)
    (λ history event legal actor fit fine before place request ends.
    elim (stands_split (seen_in opening history) (seen_of opening history event (outputs_of opening history event)) place ends.event ends.stands) [
      | inl old ↦ omega (arith, before place request (record { event = ends.event; stands = old; ends = ends.ends }), begun-rises history (entry_of opening history event) request.lane)
      | inr behind ↦
          elim (seen_cases opening history event behind.offset ends.event behind.stands) [
            | inl began ↦ let wrong : Some request ≡ None = sym ends.ends ∙ ap ended_by began.is ∙ begin_ends (named_request began.lane (next_op history began.lane)) began.operation began.asked in cc
            | inr told ↦
                let P : Named → Type 0 = λ n. n.op.0 ≤ begun_count (entry_of opening history event ∷ history) n.lane in
                subst P (sym (ended_name told.lane told.op told.reply ends.event request told.is ends.ends))
                (replied_begun opening history told.lane event told.op told.version told.kind told.reply (replies opening history told.lane event told.place told.op told.version told.kind told.reply told.own fine told.stands))
          ]
    ])

-- ---- a live request has not ended

-- an entry that replies to a request ends it
replies_now : (opening : Opening) (history : History) (event : Event) (lane : LaneId) (op : OpId) (version : Version) (kind : Kind) (reply : Reply) (place : ℕ) → is_event_of lane event ≡ true → slice_get (outputs_of opening history event) place ≡ Some (Replied op version kind reply) → replies_to (entry_of opening history event) lane op ≡ true
replies_now opening history event lane op version kind reply place own stands =
    and_true (is_event_of lane event) (list_any (is_reply_to op) (outputs_of opening history event)) own
    (found_any (is_reply_to op) (outputs_of opening history event) place (Replied op version kind reply) stands (same_op-refl op))

not_live : (opening : Opening) (history : History) (event : Event) (lane : LaneId) (op : OpId) → replies_to (entry_of opening history event) lane op ≡ true → is_live (entry_of opening history event ∷ history) lane op ≡ false
not_live opening history event lane op e =
    and_false (begins_request history event lane op || is_live history lane op) (not (replies_to (entry_of opening history event) lane op || is_restart_of (ByLane lane) event))
    (ap not (or_first (replies_to (entry_of opening history event) lane op) (is_restart_of (ByLane lane) event) e))

pub live_unended : (opening : Opening) (history : History) → IsLegalHistory opening history → (place : ℕ) (lane : LaneId) (op : OpId) → is_live history lane op ≡ true → EndsAt (seen_in opening history) place (named_request lane op) → ⊥
live_unended opening =
    legal_induction opening (λ history. (place : ℕ) (lane : LaneId) (op : OpId) → is_live history lane op ≡ true → EndsAt (seen_in opening history) place (named_request lane op) → ⊥)
    (λ place lane op live ends. cc)
    (λ history event legal actor fit fine before place lane op live ends.
    elim (stands_split (seen_in opening history) (seen_of opening history event (outputs_of opening history event)) place ends.event ends.stands) [
      | inl old ↦
          let was : EndsAt (seen_in opening history) place (named_request lane op) = record { event = ends.event; stands = old; ends = ends.ends } in
          before place lane op (live_before history (entry_of opening history event) lane op (seen_ended opening history legal place (named_request lane op) was) live).live was
      | inr behind ↦
          elim (seen_cases opening history event behind.offset ends.event behind.stands) [
            | inl began ↦ let wrong : Some (named_request lane op) ≡ None = sym ends.ends ∙ ap ended_by began.is ∙ begin_ends (named_request began.lane (next_op history began.lane)) began.operation began.asked in cc
            | inr told ↦
                let name : named_request lane op ≡ named_request told.lane told.op = ended_name told.lane told.op told.reply ends.event (named_request lane op) told.is ends.ends in
                let P : Named → Type 0 = λ n. is_live (entry_of opening history event ∷ history) n.lane n.op ≡ true in
                let still : is_live (entry_of opening history event ∷ history) told.lane told.op ≡ true = subst P name live in
                let gone : is_live (entry_of opening history event ∷ history) told.lane told.op ≡ false = not_live opening history event told.lane told.op (replies_now opening history event told.lane told.op told.version told.kind told.reply told.place told.own told.stands) in
                let wrong : true ≡ false = sym still ∙ gone in cc wrong
          ]
    ])
