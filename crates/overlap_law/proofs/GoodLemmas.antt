-- The good targets of a read: of a write of its key that was acknowledged before the read began, they have told no cell
-- that is below, and hold none that is, as long as the read's version is the log's or the one before it.
use Rattle.std.proofs.Common.{ap, arith, inl, inr, refl, subst, sym, ◌∙◌}
use Rattle.std.proofs.lemmas.Bool.Decides.{nat_tests}
use Rattle.std.proofs.lemmas.Option.{slice_get_within}
use Rattle.std.specs.List.{count_by, list_any}
use Rattle.std.specs.Prelude.{Bool, None, Option, Some, false, if◌then◌else◌, length, nat_le, nat_lt, not, true, ℕ, ◌&&◌, ◌+◌, ◌<◌, ◌||◌, ◌∷◌, ◌≡◌, ◌≤◌}
use Rattle.barrier_law.proofs.AskedLemmas.{IsAsked}
use Rattle.barrier_law.specs.Laws.{IsRefusal}
use Rattle.base_ids.specs.Replicas.{has_host}
use Rattle.base_ids.specs.declared.ids.HostId.{HostId}
use Rattle.base_ids.specs.declared.ids.LaneId.{LaneId}
use Rattle.base_ids.specs.declared.ids.OpId.{OpId}
use Rattle.base_ids.specs.declared.ids.Replica.{Replica}
use Rattle.base_ids.specs.declared.ids.TableId.{TableId}
use Rattle.base_ids.specs.declared.ids.Version.{Version}
use Rattle.cell_merge.specs.Cell.{is_not_below}
use Rattle.cell_merge.specs.declared.cell.Cell.{Cell}
use Rattle.cluster_history.specs.Held.{drops, held_cell}
use Rattle.cluster_history.specs.History.{History}
use Rattle.cluster_history.specs.Legal.{HasActor, IsFitEvent, IsLegalHistory, broken_rule, entry_of, outputs_of}
use Rattle.cluster_history.specs.Messages.{key_of, kind_of, level_of, read_key}
use Rattle.cluster_history.specs.Openings.{IsValidOpening, opening_state}
use Rattle.cluster_history.specs.Outputs.{said_to}
use Rattle.cluster_history.specs.Requests.{Request, begun_count, is_live, next_op, request_at, targets_of}
use Rattle.cluster_history.specs.Topology.{fence_of, log_of}
use Rattle.cluster_history.specs.declared.data.Event.{Event}
use Rattle.cluster_history.specs.declared.data.Opening.{Opening}
use Rattle.cluster_history.specs.declared.data.Operation.{Operation}
use Rattle.cluster_history.specs.declared.data.Operation.TheVariants.{Read as ReadOf, Write as WriteOf}
use Rattle.history_facts.proofs.BegunLemmas.{live_before, request_at-kept, request_begun}
use Rattle.history_facts.proofs.HostLemmas.{log_legal}
use Rattle.history_facts.proofs.LegalLemmas.{legal_induction, next_event}
use Rattle.base_ids.proofs.NameLemmas.{and_true, both_true, is_false, not_false, or_true}
use Rattle.history_facts.proofs.RouteLemmas.{routed}
use Rattle.history_facts.specs.Laws.{IsRouted}
use Rattle.log_law.proofs.LawLemmas.{sound_states_law}
use Rattle.log_law.specs.Laws.{IsSoundView}
use Rattle.quorum_ops.specs.declared.data.Said.{Said}
use Rattle.quorum_ops.specs.declared.data.Said.TheVariants.{Found, Stale as Refused, Written}
use Rattle.register_model.specs.Register.{Stands, begun_by}
use Rattle.register_model.specs.declared.data.ClientEvent.TheVariants.{ReadBegun, WriteAcked}
use Rattle.register_model.specs.declared.data.Key.{Key}
use Rattle.register_model.specs.declared.data.Request.{Request as Named}
use Rattle.stage_graph.proofs.Needs.{asks_no_more}
use Rattle.stage_graph.specs.Needs.{base_need, needed}
use Rattle.tablet_map.specs.declared.tablet.Tablet.{Tablet}
use Rattle.stage_graph.specs.declared.level.Level.{Level}
use Rattle.token_ring.specs.declared.token.Token.{Token}
use Rattle.topo_state.specs.Lists.{reads_of, stage_in}
use Rattle.stream_law.specs.Covered.{covered_count, held_at, holds, last_version}
use Rattle.overlap_law.proofs.AckedLemmas.{acked_settled}
use Rattle.overlap_law.proofs.CountLemmas.{count_all, count_more_in}
use Rattle.answer_law.proofs.CountLemmas.{count_more}
use Rattle.overlap_law.proofs.CoverLemmas.{route_shown}
use Rattle.overlap_law.proofs.LossLemmas.{dropped_unread}
use Rattle.overlap_law.proofs.EndedLemmas.{seen_begun}
use Rattle.overlap_law.proofs.JointLemmas.{cover}
use Rattle.overlap_law.proofs.KeptLemmas.{holds-later, recent-before, recent_last}
use Rattle.overlap_law.proofs.SaidLemmas.{IsKnown, IsSaid, newly_known, read_asked, request-then, said_found, said_known, says, some_same}
use Rattle.overlap_law.proofs.SeenLemmas.{reply_begins, seen_cases, stands_split}
use Rattle.overlap_law.proofs.SettledLemmas.{late_refused, settled-later, settled_known}
use Rattle.overlap_law.specs.ClientEvents.{begin_event, named_request, seen_in, seen_of}
use Rattle.overlap_law.specs.Covered.{IsCovered, is_recent, view_at, view_in}
use Rattle.stream_law.specs.Settled.{has_said, is_answer_of, is_settled}

-- ---- good targets

-- what was found is below the cell
abbrev pub found_below : Cell → Said → Bool
found_below cell (Found found) = not (is_not_below found (Some cell))
found_below cell said = false

abbrev pub is_good : Opening → History → LaneId → OpId → Version → Key → Cell → Replica → Bool
is_good opening history lane op version key cell replica =
    not (has_said history lane op replica (found_below cell)) && (not (is_recent opening history version) || holds (held_at opening history key) cell replica)

pub good_parts : (opening : Opening) (history : History) (lane : LaneId) (op : OpId) (version : Version) (key : Key) (cell : Cell) (replica : Replica) → is_good opening history lane op version key cell replica ≡ true → (has_said history lane op replica (found_below cell) ≡ false) × (is_recent opening history version ≡ true → holds (held_at opening history key) cell replica ≡ true)
good_parts opening history lane op version key cell replica good =
    let both = both_true (not (has_said history lane op replica (found_below cell))) (not (is_recent opening history version) || holds (held_at opening history key) cell replica) good in
    (not_false (has_said history lane op replica (found_below cell)) both.0, held_if (is_recent opening history version) (holds (held_at opening history key) cell replica) both.1)
  where
    held_if : (recent held : Bool) → (not recent || held) ≡ true → recent ≡ true → held ≡ true
    held_if true held h c = h
    held_if false held h c = cc

pub parts_good : (opening : Opening) (history : History) (lane : LaneId) (op : OpId) (version : Version) (key : Key) (cell : Cell) (replica : Replica) → has_said history lane op replica (found_below cell) ≡ false → (is_recent opening history version ≡ true → holds (held_at opening history key) cell replica ≡ true) → is_good opening history lane op version key cell replica ≡ true
parts_good opening history lane op version key cell replica said held =
    and_true (not (has_said history lane op replica (found_below cell))) (not (is_recent opening history version) || holds (held_at opening history key) cell replica)
    (ap not said) (if_held (is_recent opening history version) (holds (held_at opening history key) cell replica) held)
  where
    if_held : (recent held : Bool) → (recent ≡ true → held ≡ true) → (not recent || held) ≡ true
    if_held true held h = h refl
    if_held false held h = refl

-- As many of the read's targets as the write's level asks for are good.
abbrev pub GoodSet : Opening → History → Type 0
GoodSet opening history =
    (begin acked blind : ℕ) (lane by : LaneId) (op number : OpId) (request wrote : Request) (table : TableId) (token : Token) (cell : Cell) (level asks : Level) →
    is_live history lane op ≡ true → request_at opening history lane op ≡ Some request → request.operation ≡ ReadOf table token level →
    Stands (seen_in opening history) begin (ReadBegun (named_request lane op) (key_of (ReadOf table token level)) blind) →
    Stands (seen_in opening history) acked (WriteAcked (named_request by number)) → acked < begin →
    request_at opening history by number ≡ Some wrote → wrote.operation ≡ WriteOf table token cell asks →
    base_need asks (length request.targets) ≤ count_by (is_good opening history lane op request.version (key_of (ReadOf table token level)) cell) request.targets

read_of : (request other : Named) (key : Key) (blind : ℕ) (operation : Operation) (asked : Option Tablet) → ReadBegun other key blind ≡ begin_event request operation asked → other ≡ request
read_of request other key blind (WriteOf table token cell level) asked e = cc
read_of request other key blind (ReadOf table token level) asked e = cc

-- whatever a host says that does not tell a lower cell
not_low : (version fence : Version) (cell : Cell) (said : Said) → found_below cell said ≡ false → found_below cell (said_to version fence said) ≡ true → ⊥
not_low version fence cell said fine e = by_fence (nat_lt version.0 fence.0) e
  where
    by_fence : (below : Bool) → found_below cell (if below then Refused fence else said) ≡ true → ⊥
    by_fence true h = cc
    by_fence false h = let wrong : false ≡ true = sym fine ∙ h in cc wrong

-- a refusal tells no cell
refusal_not_low : (version : Version) (cell : Cell) (said : Said) → IsRefusal version said → found_below cell said ≡ true → ⊥
refusal_not_low version cell said refusal low =
    let wrong : found_below cell (Refused refusal.fence) ≡ true = ap (found_below cell) (sym refusal.is) ∙ low in cc wrong

-- a host that holds no less than the cell tells no less
tells_held : (cell : Cell) (found : Option Cell) → is_not_below found (Some cell) ≡ true → found_below cell (Found found) ≡ false
tells_held cell found h = ap not h

late_by : (last version : ℕ) → nat_le last (version + 1) ≡ false → version + 2 ≤ last
late_by last version e = grind (arith, nat_tests)

reads_targets : (operation : Operation) (table : TableId) (token : Token) (level : Level) (opening : Opening) (history : History) (lane : LaneId) (request : Request) (route : IsRouted opening history lane request) → request.operation ≡ operation → operation ≡ ReadOf table token level → request.targets ≡ reads_of route.tablet
reads_targets operation table token level opening history lane request route same is =
    route.targets ∙ ap (λ (o : Operation). targets_of (kind_of o) route.tablet) (same ∙ is)

module _ (opening : Opening) (history : History) (event : Event) (valid : IsValidOpening opening) (legal : IsLegalHistory opening history) (actor : HasActor opening event) (fit : IsFitEvent opening event) (fine : broken_rule opening history event ≡ None) where
  -- to a read that begins nobody has told anything
  silent : (lane : LaneId) (op : OpId) (test : Said → Bool) (replica : Replica) → begun_count history lane < op.0 → has_said (entry_of opening history event ∷ history) lane op replica test ≡ false
  silent lane op test replica above =
      is_false (has_said (entry_of opening history event ∷ history) lane op replica test)
      (λ e. unknown (newly_known opening history event lane op replica test legal fine
      (or_true (has_said history lane op replica test) (list_any (is_answer_of lane op replica test) (outputs_of opening history event)) e
      (λ old. unknown (said_known opening history legal lane op replica test old)))))
    where
      unknown : IsKnown opening history lane op → ⊥
      unknown known = absurd (let below = request_begun opening history lane op known.request known.begun in omega (arith, above, below))

  begins_good :
      (acked : ℕ) (lane by : LaneId) (op number : OpId) (request wrote : Request) (table : TableId) (token : Token) (cell : Cell) (level asks : Level) →
      request_at opening (entry_of opening history event ∷ history) lane op ≡ Some request → request.operation ≡ ReadOf table token level →
      Stands (seen_in opening history) acked (WriteAcked (named_request by number)) →
      request_at opening (entry_of opening history event ∷ history) by number ≡ Some wrote → wrote.operation ≡ WriteOf table token cell asks →
      begun_count history lane < op.0 →
      base_need asks (length request.targets) ≤ count_by (is_good opening (entry_of opening history event ∷ history) lane op request.version (key_of (ReadOf table token level)) cell) request.targets
  begins_good acked lane by op number request wrote table token cell level asks started is acks done wrote_is above =
      (elim (is_recent opening (entry_of opening history event ∷ history) request.version) as (λ b. is_recent opening (entry_of opening history event ∷ history) request.version ≡ b → base_need asks (length request.targets) ≤ count_by (is_good opening (entry_of opening history event ∷ history) lane op request.version (key_of (ReadOf table token level)) cell) request.targets) [
        | true ↦ recently
        | false ↦ late
      ]) refl
    where
      route : IsRouted opening (entry_of opening history event ∷ history) lane request
      route = routed opening (entry_of opening history event ∷ history) lane op request started

      legal_now : IsLegalHistory opening (entry_of opening history event ∷ history)
      legal_now = (next_event opening history event actor fit fine, legal)

      sound : IsSoundView route.state.members route.tablet
      sound =
          (sound_states_law (opening_state opening) valid.topology (log_of (entry_of opening history event ∷ history)) (log_legal opening (entry_of opening history event ∷ history) legal_now)).first_views
          request.version.0 route.state route.found (key_of request.operation).table (key_of request.operation).token route.tablet route.there

      targets : request.targets ≡ reads_of route.tablet
      targets = reads_targets request.operation table token level opening (entry_of opening history event ∷ history) lane request route refl is

      size : length request.targets ≡ length route.tablet.replicas
      size = ap length targets ∙ sound.reads_size

      recently : is_recent opening (entry_of opening history event ∷ history) request.version ≡ true → base_need asks (length request.targets) ≤ count_by (is_good opening (entry_of opening history event ∷ history) lane op request.version (key_of (ReadOf table token level)) cell) request.targets
      recently recent =
          let later = entry_of opening history event ∷ history in
          let key = key_of (ReadOf table token level) in
          let settled : is_settled opening later by number ≡ true = settled-later opening history (entry_of opening history event) by number (acked_settled opening history legal acked by number acks) in
          let shown : view_at opening later request.version key ≡ Some route.tablet = ap (λ s. view_in s key) route.found ∙ ap (λ (o : Operation). view_in (Some route.state) (key_of o)) (sym is) ∙ route.there in
          let covered : IsCovered opening later request.version route.tablet key cell (base_need asks (length route.tablet.replicas)) = cover opening valid later legal_now by number wrote table token cell asks request.version route.tablet settled done wrote_is recent shown in
          let there : base_need asks (length route.tablet.replicas) ≤ covered_count opening later key cell request.targets = subst (λ replicas. base_need asks (length route.tablet.replicas) ≤ covered_count opening later key cell replicas) (sym targets) covered.reads in
          let here : base_need asks (length request.targets) ≤ covered_count opening later key cell request.targets = subst (λ n. base_need asks n ≤ covered_count opening later key cell request.targets) (sym size) there in
          let more = count_more (holds (held_at opening later key) cell) (is_good opening later lane op request.version key cell)
          (λ replica h. parts_good opening later lane op request.version key cell replica (silent lane op (found_below cell) replica above) (λ recent. h))
          request.targets in
          omega (arith, here, more)

      late : is_recent opening (entry_of opening history event ∷ history) request.version ≡ false → base_need asks (length request.targets) ≤ count_by (is_good opening (entry_of opening history event ∷ history) lane op request.version (key_of (ReadOf table token level)) cell) request.targets
      late old =
          let later = entry_of opening history event ∷ history in
          let key = key_of (ReadOf table token level) in
          let all = count_all (is_good opening later lane op request.version key cell)
          (λ replica. parts_good opening later lane op request.version key cell replica (silent lane op (found_below cell) replica above) (λ recent. let wrong : true ≡ false = sym recent ∙ old in cc wrong))
          request.targets in
          let some = sound.sound.replicas.some in
          let most = asks_no_more asks (length request.targets) (omega (arith, some, size)) in
          omega (arith, all, most)

  -- a target that was good before stays so
  stays_good :
      (lane : LaneId) (op : OpId) (request : Request) (table : TableId) (token : Token) (level : Level) (cell : Cell) (replica : Replica) → is_live history lane op ≡ true → request_at opening history lane op ≡ Some request →
      request.operation ≡ ReadOf table token level → has_host request.targets replica.host ≡ true →
      is_good opening history lane op request.version (key_of (ReadOf table token level)) cell replica ≡ true →
      is_good opening (entry_of opening history event ∷ history) lane op request.version (key_of (ReadOf table token level)) cell replica ≡ true
  stays_good lane op request table token level cell replica live started is there good =
      let parts = good_parts opening history lane op request.version (key_of (ReadOf table token level)) cell replica good in
      parts_good opening (entry_of opening history event ∷ history) lane op request.version (key_of (ReadOf table token level)) cell replica
      (is_false (has_said history lane op replica (found_below cell) || list_any (is_answer_of lane op replica (found_below cell)) (outputs_of opening history event))
      (λ e. by_said parts.1 (or_true (has_said history lane op replica (found_below cell)) (list_any (is_answer_of lane op replica (found_below cell)) (outputs_of opening history event)) e
      (λ old. let wrong : true ≡ false = sym old ∙ parts.0 in cc wrong))))
      (λ recent. let recent_then = recent-before opening history (entry_of opening history event) request.version recent in
      holds-later opening history (entry_of opening history event) (key_of (ReadOf table token level)) cell replica (kept recent_then) (parts.1 recent_then))
    where
      -- what reads go to is not dropped
      kept : is_recent opening history request.version ≡ true → drops opening history (entry_of opening history event) replica.host (key_of (ReadOf table token level)) ≡ false
      kept recent =
          let route : IsRouted opening history lane request = routed opening history lane op request started in
          let shown = route_shown opening history lane request (ReadOf table token level) route is in
          let targets = reads_targets request.operation table token level opening history lane request route refl is in
          is_false (drops opening history (entry_of opening history event) replica.host (key_of (ReadOf table token level)))
          (λ dropped.
          let gone = dropped_unread opening history event valid legal replica.host (key_of (ReadOf table token level)) dropped request.version route.tablet (recent_last (last_version opening history) request.version.0 recent) shown in
          let wrong : true ≡ false = sym there ∙ ap (λ replicas. has_host replicas replica.host) targets ∙ gone in cc wrong)

      -- a host that is asked by a live request of a recent version tells what it holds, and refuses any other
      by_said : (is_recent opening history request.version ≡ true → holds (held_at opening history (key_of (ReadOf table token level))) cell replica ≡ true) → list_any (is_answer_of lane op replica (found_below cell)) (outputs_of opening history event) ≡ true → ⊥
      by_said held h =
          let found : IsSaid (outputs_of opening history event) lane op replica (found_below cell) = said_found (outputs_of opening history event) lane op replica (found_below cell) h in
          (elim (is_recent opening history request.version) as (λ b. is_recent opening history request.version ≡ b → ⊥) [
            | true ↦ λ recent. tells found (held recent)
            | false ↦ λ old. refusal_not_low request.version cell found.said
                (late_refused opening history event lane op replica found.said found.place request valid legal fine found.stands live started (late_by (last_version opening history) request.version.0 old))
                found.passes
          ]) refl
        where
          tells : IsSaid (outputs_of opening history event) lane op replica (found_below cell) → holds (held_at opening history (key_of (ReadOf table token level))) cell replica ≡ true → ⊥
          tells found held_now =
              elim (says opening history event found.place lane op replica found.said fine found.stands) [
                | inl write ↦ not_low write.ask.version (fence_of opening history write.host) cell Written refl (ap (found_below cell) (sym write.said_is) ∙ found.passes)
                | inr read ↦
                    let fact = read_asked opening history event lane op replica found.said legal read in
                    let asked : IsAsked opening history lane op read.ask.version (ReadOf read.ask.table read.ask.token fact.0) replica = fact.1 in
                    let same : asked.request ≡ request = some_same asked.request request (sym asked.begun ∙ started) in
                    let what : key_of (ReadOf table token level) ≡ read_key read.ask = ap key_of (sym is ∙ ap (λ (q : Request). q.operation) (sym same) ∙ asked.operation_is) in
                    let where_is : replica.host ≡ read.host = ap (λ (r : Replica). r.host) (sym read.from_is) ∙ read.addressed in
                    let P : HostId → Type 0 = λ h. is_not_below (held_cell opening history h (key_of (ReadOf table token level))) (Some cell) ≡ true in
                    let Q : Key → Type 0 = λ k. is_not_below (held_cell opening history read.host k) (Some cell) ≡ true in
                    let there : is_not_below (held_cell opening history read.host (read_key read.ask)) (Some cell) ≡ true = subst Q what (subst P where_is held_now) in
                    not_low read.ask.version (fence_of opening history read.host) cell (Found (held_cell opening history read.host (read_key read.ask))) (tells_held cell (held_cell opening history read.host (read_key read.ask)) there) (ap (found_below cell) (sym read.said_is) ∙ found.passes)
              ]

-- a read needs as many of its targets as its level asks for
pub read_need : (opening : Opening) (history : History) (lane : LaneId) (op : OpId) (request : Request) (table : TableId) (token : Token) (level : Level) → IsValidOpening opening → IsLegalHistory opening history → request_at opening history lane op ≡ Some request → request.operation ≡ ReadOf table token level → request.need ≡ base_need level (length request.targets)
read_need opening history lane op request table token level valid legal begun is =
    let route : IsRouted opening history lane request = routed opening history lane op request begun in
    let sound : IsSoundView route.state.members route.tablet =
    (sound_states_law (opening_state opening) valid.topology (log_of history) (log_legal opening history legal)).first_views
    request.version.0 route.state route.found (key_of request.operation).table (key_of request.operation).token route.tablet route.there in
    let targets = reads_targets request.operation table token level opening history lane request route refl is in
    route.need ∙ ap (λ (o : Operation). needed (kind_of o) (level_of o) (length route.tablet.replicas) (stage_in route.tablet)) is
    ∙ ap (base_need level) (sym (ap length targets ∙ sound.reads_size))

-- the tablet by which a request was sent has a replica
pub some_replica : (opening : Opening) (history : History) (lane : LaneId) (op : OpId) (request : Request) (tablet : Tablet) → IsValidOpening opening → IsLegalHistory opening history → request_at opening history lane op ≡ Some request → view_at opening history request.version (key_of request.operation) ≡ Some tablet → 1 ≤ length tablet.replicas
some_replica opening history lane op request tablet valid legal begun shown =
    let route : IsRouted opening history lane request = routed opening history lane op request begun in
    let sound : IsSoundView route.state.members route.tablet =
    (sound_states_law (opening_state opening) valid.topology (log_of history) (log_legal opening history legal)).first_views
    request.version.0 route.state route.found (key_of request.operation).table (key_of request.operation).token route.tablet route.there in
    let one : route.tablet ≡ tablet = some_tablet route.tablet tablet (sym (route_shown opening history lane request request.operation route refl) ∙ shown) in
    subst (λ (t : Tablet). 1 ≤ length t.replicas) one sound.sound.replicas.some
  where
    some_tablet : (a b : Tablet) → Some a ≡ Some b → a ≡ b
    some_tablet a b e = cc e

-- the tablet of a read's key at its version has as many replicas as the read asks
pub read_size : (opening : Opening) (history : History) (lane : LaneId) (op : OpId) (request : Request) (table : TableId) (token : Token) (level : Level) (tablet : Tablet) → IsValidOpening opening → IsLegalHistory opening history → request_at opening history lane op ≡ Some request → request.operation ≡ ReadOf table token level → view_at opening history request.version (key_of request.operation) ≡ Some tablet → length tablet.replicas ≡ length request.targets
read_size opening history lane op request table token level tablet valid legal begun is shown =
    let route : IsRouted opening history lane request = routed opening history lane op request begun in
    let sound : IsSoundView route.state.members route.tablet =
    (sound_states_law (opening_state opening) valid.topology (log_of history) (log_legal opening history legal)).first_views
    request.version.0 route.state route.found (key_of request.operation).table (key_of request.operation).token route.tablet route.there in
    let targets = reads_targets request.operation table token level opening history lane request route refl is in
    let one : route.tablet ≡ tablet = some_tablet route.tablet tablet (sym (route_shown opening history lane request request.operation route refl) ∙ shown) in
    ap (λ (t : Tablet). length t.replicas) (sym one) ∙ sym sound.reads_size ∙ sym (ap length targets)
  where
    some_tablet : (a b : Tablet) → Some a ≡ Some b → a ≡ b
    some_tablet a b e = cc e

pub good_set : (opening : Opening) → IsValidOpening opening → (history : History) → IsLegalHistory opening history → GoodSet opening history
good_set opening valid =
    legal_induction opening (GoodSet opening)
    (λ begin acked blind lane by op number request wrote table token cell level asks live started is begins acks earlier done wrote_is. cc)
    (λ history event legal actor fit fine before begin acked blind lane by op number request wrote table token cell level asks live started is begins acks earlier done wrote_is.
    elim (stands_split (seen_in opening history) (seen_of opening history event (outputs_of opening history event)) begin (ReadBegun (named_request lane op) (key_of (ReadOf table token level)) blind) begins) [
      | inl old ↦
          let below : op.0 ≤ begun_count history lane = seen_begun opening history legal begin (ReadBegun (named_request lane op) (key_of (ReadOf table token level)) blind) (named_request lane op) old refl in
          let started_then : request_at opening history lane op ≡ Some request = sym (request_at-kept opening history (entry_of opening history event) lane op below) ∙ started in
          let live_then = (live_before history (entry_of opening history event) lane op below live).live in
          elim (stands_split (seen_in opening history) (seen_of opening history event (outputs_of opening history event)) acked (WriteAcked (named_request by number)) acks) [
            | inr behind ↦ absurd (omega (arith, earlier, behind.place_is, slice_get_within (seen_in opening history) begin (ReadBegun (named_request lane op) (key_of (ReadOf table token level)) blind) old))
            | inl acked_then ↦
                let settled : is_settled opening history by number ≡ true = acked_settled opening history legal acked by number acked_then in
                let done_then : request_at opening history by number ≡ Some wrote = request-then opening history (entry_of opening history event) by number wrote (settled_known opening history by number settled) done in
                omega (
                  arith,
                  before begin acked blind lane by op number request wrote table token cell level asks live_then started_then is old acked_then earlier done_then wrote_is,
                  count_more_in (is_good opening history lane op request.version (key_of (ReadOf table token level)) cell) (is_good opening (entry_of opening history event ∷ history) lane op request.version (key_of (ReadOf table token level)) cell) request.targets
                      (λ replica there good. stays_good opening history event valid legal actor fit fine lane op request table token level cell replica live_then started_then is there good),
                )
          ]
      | inr now ↦
          elim (seen_cases opening history event now.offset (ReadBegun (named_request lane op) (key_of (ReadOf table token level)) blind) now.stands) [
            | inr told ↦ let wrong : Some (named_request lane op) ≡ None = ap begun_by told.is ∙ reply_begins (named_request told.lane told.op) told.reply in cc wrong
            | inl began ↦
                elim (stands_split (seen_in opening history) (seen_of opening history event (outputs_of opening history event)) acked (WriteAcked (named_request by number)) acks) [
                  | inr behind ↦ absurd (omega (arith, earlier, behind.place_is, now.place_is, began.first))
                  | inl acked_then ↦
                      let name : named_request lane op ≡ named_request began.lane (next_op history began.lane) = read_of (named_request began.lane (next_op history began.lane)) (named_request lane op) (key_of (ReadOf table token level)) blind began.operation began.asked began.is in
                      let P : Named → Type 0 = λ n. begun_count history n.lane < n.op.0 in
                      let above : begun_count history lane < op.0 = subst P (sym name) (omega arith) in
                      begins_good opening history event valid legal actor fit fine acked lane by op number request wrote table token cell level asks started is acked_then done wrote_is above
                ]
          ]
    ])
