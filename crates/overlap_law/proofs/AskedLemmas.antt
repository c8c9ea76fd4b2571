-- The tablet by which a request was begun, and how many replicas a key's tablets have: always as many.
use Rattle.std.proofs.Common.{ap, arith, inl, inr, refl, sym, ◌∙◌}
use Rattle.std.proofs.lemmas.Bool.{cases_lt}
use Rattle.std.specs.Prelude.{None, Option, Some, [], false, if◌then◌else◌, length, suc, true, zero, ℕ, ◌+◌, ◌-◌, ◌∷◌, ◌≡◌, ◌≤◌}
use Rattle.answer_law.proofs.BegunAtLemmas.{begun_within}
use Rattle.answer_law.specs.Told.{IsBegunAt}
use Rattle.base_ids.specs.declared.ids.HostId.{HostId}
use Rattle.base_ids.specs.declared.ids.LaneId.{LaneId}
use Rattle.base_ids.specs.declared.ids.OpId.{OpId}
use Rattle.base_ids.specs.declared.ids.Version.{Version}
use Rattle.cluster_history.specs.History.{History}
use Rattle.cluster_history.specs.Legal.{IsLegalHistory}
use Rattle.cluster_history.specs.Messages.{key_of, kind_of, level_of}
use Rattle.cluster_history.specs.Openings.{IsValidOpening, opening_state}
use Rattle.cluster_history.specs.Requests.{Request, begins_request, is_begin_of, next_op, request_at, request_on, started_request, targets_of, way_by, way_in}
use Rattle.cluster_history.specs.Requests.Way.{Ends}
use Rattle.cluster_history.specs.Topology.{log_of, state_of_version}
use Rattle.cluster_history.specs.declared.data.Entry.{Entry}
use Rattle.cluster_history.specs.declared.data.Event.TheVariants.{Begin}
use Rattle.cluster_history.specs.declared.data.Opening.{Opening}
use Rattle.cluster_history.specs.declared.data.Operation.{Operation}
use Rattle.history_facts.proofs.BegunLemmas.{begins-again, begins-next}
use Rattle.history_facts.proofs.EntryLemmas.{before_newest, before_older, entry_cases}
use Rattle.history_facts.proofs.HostLemmas.{log_legal}
use Rattle.base_ids.proofs.NameLemmas.{same_lane-refl}
use Rattle.history_facts.specs.Prefixes.{history_before}
use Rattle.log_law.proofs.LawLemmas.{views_law}
use Rattle.log_law.specs.Laws.{IsNextView}
use Rattle.log_law.specs.Stages.{view_with}
use Rattle.quorum_ops.specs.declared.data.Reply.TheVariants.{NotMember}
use Rattle.register_model.specs.declared.data.Key.{Key}
use Rattle.stage_graph.specs.Needs.{needed}
use Rattle.stream_law.specs.Covered.{last_version}
use Rattle.tablet_map.specs.declared.tablet.Tablet.{Tablet}
use Rattle.topo_state.specs.Lists.{stage_in}
use Rattle.topo_state.specs.State.{Topology, is_member}
use Rattle.topo_state.specs.Views.{view}
use Rattle.overlap_law.proofs.LossLemmas.{view_is, view_known}
use Rattle.overlap_law.proofs.RaiseLemmas.{view-later}
use Rattle.overlap_law.proofs.SaidLemmas.{some_same}
use Rattle.overlap_law.specs.ClientEvents.{asked_at, asked_in}
use Rattle.overlap_law.specs.Covered.{view_at, view_in}

-- ---- the tablet by which a request was begun

-- a request that is sent to replicas is sent by a tablet of its key
record IsSentBy (state : Option Topology) (host : HostId) (operation : Operation) (version : Version) (request : Request) : Type 0 where
  pub tablet : Tablet
  pub asked : asked_in state host operation ≡ Some tablet
  pub shown : view_in state (key_of operation) ≡ Some tablet
  pub operation_is : request.operation ≡ operation
  pub version_is : request.version ≡ version

sent_by : (state : Option Topology) (host : HostId) (operation : Operation) (version : Version) (request : Request) → request_on operation version (way_in state host operation) ≡ Some request → IsSentBy state host operation version request
sent_by None host operation version request e = cc e
sent_by (Some state) host operation version request e =
    (elim (is_member state.members host) as (λ b. is_member state.members host ≡ b → request_on operation version (if b then way_by (kind_of operation) (level_of operation) (view state (key_of operation).table (key_of operation).token.value) else Ends NotMember) ≡ Some request → IsSentBy (Some state) host operation version request) [
      | true ↦ λ member f. by_view member (view state (key_of operation).table (key_of operation).token.value) refl f
      | false ↦ λ member f. cc f
    ]) refl e
  where
    by_view : is_member state.members host ≡ true → (shown : Option Tablet) → view state (key_of operation).table (key_of operation).token.value ≡ shown → request_on operation version (way_by (kind_of operation) (level_of operation) shown) ≡ Some request → IsSentBy (Some state) host operation version request
    by_view member None there f = cc f
    by_view member (Some tablet) there f =
        let made : Request = record { operation = operation; version = version; targets = targets_of (kind_of operation) tablet; need = needed (kind_of operation) (level_of operation) (length tablet.replicas) (stage_in tablet) } in
        let same : made ≡ request = cc f in
        record {
          tablet = tablet;
          asked = ap (λ b. if b then view state (key_of operation).table (key_of operation).token.value else None) member ∙ there;
          shown = there;
          operation_is = ap (λ (q : Request). q.operation) (sym same);
          version_is = ap (λ (q : Request). q.version) (sym same);
        }

-- the tablet of a key stays what it was at a version
pub view_at-later : (opening : Opening) (history : History) (entry : Entry) (version : Version) (key : Key) (tablet : Tablet) → view_at opening history version key ≡ Some tablet → view_at opening (entry ∷ history) version key ≡ Some tablet
view_at-later opening history entry version key tablet shown =
    view_is opening (entry ∷ history) version key ∙ view-later opening history entry version.0 key tablet (sym (view_is opening history version key) ∙ shown)

-- a request that was begun by the entry was sent by this tablet, which its key has at the request's version
pub record IsAskedAt (opening : Opening) (history : History) (number : ℕ) (lane : LaneId) (operation : Operation) (version : Version) (request : Request) : Type 0 where
  pub tablet : Tablet
  pub asked : asked_at opening (history_before history number) lane operation version ≡ Some tablet
  pub shown : view_at opening history version (key_of operation) ≡ Some tablet
  pub operation_is : request.operation ≡ operation
  pub version_is : request.version ≡ version

pub begun_asked :
    (opening : Opening) (history : History) (number : ℕ) (lane : LaneId) (op : OpId) (operation : Operation) (request : Request) →
    (begun : IsBegunAt history number lane op operation) → request_at opening history lane op ≡ Some request → IsAskedAt opening history number lane operation begun.version request
begun_asked opening [] number lane op operation request begun e = cc e
begun_asked opening (first ∷ history) number lane op operation request begun e =
    elim (entry_cases first history number begun.entry begun.stands) [
      | inl newest ↦
          let here : history_before (first ∷ history) number ≡ history = before_newest first history number newest.2 in
          let is : first.event ≡ Begin lane operation begun.version = ap (λ (x : Entry). x.event) newest.1 ∙ begun.begins in
          let own : is_begin_of lane first.event ≡ true = ap (is_begin_of lane) is ∙ same_lane-refl lane in
          let next = begun.next ∙ ap (λ h. next_op h lane) here in
          let now : begins_request history first.event lane op ≡ true = ap (begins_request history first.event lane) next ∙ begins-next history lane first.event own in
          let started : started_request opening history (Begin lane operation begun.version) ≡ Some request =
          ap (started_request opening history) (sym is) ∙ sym (ap (λ b. if b then started_request opening history first.event else request_at opening history lane op) now) ∙ e in
          let sent : IsSentBy (state_of_version opening history begun.version) lane.host operation begun.version request =
          sent_by (state_of_version opening history begun.version) lane.host operation begun.version request started in
          record {
            tablet = sent.tablet;
            asked = ap (λ h. asked_at opening h lane operation begun.version) here ∙ sent.asked;
            shown = view_at-later opening history first begun.version (key_of operation) sent.tablet sent.shown;
            operation_is = sent.operation_is;
            version_is = sent.version_is;
          }
      | inr older ↦
          let here : history_before (first ∷ history) number ≡ history_before history number = before_older first history number older.0 in
          let was : IsBegunAt history number lane op operation =
          record { entry = begun.entry; version = begun.version; stands = older.1; begins = begun.begins; next = begun.next ∙ ap (λ h. next_op h lane) here } in
          let again : begins_request history first.event lane op ≡ false = begins-again history first.event lane op (begun_within history number lane op operation was) in
          let before : request_at opening history lane op ≡ Some request = sym (ap (λ b. if b then started_request opening history first.event else request_at opening history lane op) again) ∙ e in
          let rest : IsAskedAt opening history number lane operation begun.version request = begun_asked opening history number lane op operation request was before in
          record {
            tablet = rest.tablet;
            asked = ap (λ h. asked_at opening h lane operation begun.version) here ∙ rest.asked;
            shown = view_at-later opening history first begun.version (key_of operation) rest.tablet rest.shown;
            operation_is = rest.operation_is;
            version_is = rest.version_is;
          }
    ]

-- ---- a key's tablets have always as many replicas

pub record IsSized (opening : Opening) (history : History) (version : ℕ) (key : Key) (count : ℕ) : Type 0 where
  pub tablet : Tablet
  pub shown : view_with (opening_state opening) (log_of history) version key.table key.token.value ≡ Some tablet
  pub size : length tablet.replicas ≡ count

pub sized_later :
    (opening : Opening) (history : History) (version : ℕ) (key : Key) (tablet : Tablet) → IsValidOpening opening → IsLegalHistory opening history →
    view_with (opening_state opening) (log_of history) version key.table key.token.value ≡ Some tablet → (more : ℕ) → version + more ≤ last_version opening history → IsSized opening history (version + more) key (length tablet.replicas)
sized_later opening history version key tablet valid legal shown zero known =
    let same : version ≡ version + 0 = omega arith in
    record { tablet = tablet; shown = ap (λ v. view_with (opening_state opening) (log_of history) v key.table key.token.value) (sym same) ∙ shown; size = refl }
sized_later opening history version key tablet valid legal shown (suc more) known =
    let before : IsSized opening history (version + more) key (length tablet.replicas) = sized_later opening history version key tablet valid legal shown more (omega (arith, known)) in
    let same : (version + more) + 1 ≡ version + suc more = omega arith in
    let next : IsNextView before.tablet (view_with (opening_state opening) (log_of history) ((version + more) + 1) key.table key.token.value) =
    (views_law (opening_state opening) valid.topology (log_of history) (log_legal opening history legal)).next (version + more) (omega (arith, known)) key.table key.token before.tablet before.shown in
    record { tablet = next.new; shown = ap (λ v. view_with (opening_state opening) (log_of history) v key.table key.token.value) (sym same) ∙ next.here; size = next.size ∙ before.size }

sized_from :
    (opening : Opening) (history : History) (earlier later : Version) (key : Key) (a b : Tablet) → IsValidOpening opening → IsLegalHistory opening history → earlier.0 ≤ later.0 →
    view_at opening history earlier key ≡ Some a → view_at opening history later key ≡ Some b → length a.replicas ≡ length b.replicas
sized_from opening history earlier later key a b valid legal order first after =
    let known = view_known opening history later key b after in
    let at : earlier.0 + (later.0 - earlier.0) ≡ later.0 = omega (arith, order) in
    let up : IsSized opening history (earlier.0 + (later.0 - earlier.0)) key (length a.replicas) =
    sized_later opening history earlier.0 key a valid legal (sym (view_is opening history earlier key) ∙ first) (later.0 - earlier.0) (omega (arith, at, known)) in
    let there : view_with (opening_state opening) (log_of history) later.0 key.table key.token.value ≡ Some up.tablet = ap (λ v. view_with (opening_state opening) (log_of history) v key.table key.token.value) (sym at) ∙ up.shown in
    let one : up.tablet ≡ b = some_same up.tablet b (sym there ∙ sym (view_is opening history later key) ∙ after) in
    sym up.size ∙ ap (λ (t : Tablet). length t.replicas) one

-- at any two versions
pub same_size :
    (opening : Opening) (history : History) (one other : Version) (key : Key) (a b : Tablet) → IsValidOpening opening → IsLegalHistory opening history →
    view_at opening history one key ≡ Some a → view_at opening history other key ≡ Some b → length a.replicas ≡ length b.replicas
same_size opening history one other key a b valid legal first after =
    elim (cases_lt one.0 other.0) [
      | inl less ↦ sized_from opening history one other key a b valid legal (omega (arith, less)) first after
      | inr above ↦ sym (sized_from opening history other one key b a valid legal above after first)
    ]
