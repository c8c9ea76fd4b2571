-- Settled writes stay covered over each entry, given that a move whose pending replica begins to be read has fed it.
use Rattle.std.proofs.Common.{ap, arith, inl, inr, refl, subst, sym, ◌∙◌}
use Rattle.std.proofs.lemmas.Bool.{cases_lt}
use Rattle.std.proofs.lemmas.Bool.Decides.{nat_tests}
use Rattle.std.specs.List.{count_by}
use Rattle.std.specs.Prelude.{Bool, List, None, Option, Some, false, length, nat_le, not, suc, true, zero, ℕ, ◌&&◌, ◌+◌, ◌-◌, ◌<◌, ◌∷◌, ◌≡◌, ◌≤◌}
use Rattle.base_ids.specs.Replicas.{has_host}
use Rattle.base_ids.specs.declared.ids.LaneId.{LaneId}
use Rattle.base_ids.specs.declared.ids.OpId.{OpId}
use Rattle.base_ids.specs.declared.ids.Replica.{Replica}
use Rattle.base_ids.specs.declared.ids.TableId.{TableId}
use Rattle.base_ids.specs.declared.ids.Version.{Version}
use Rattle.cell_merge.specs.declared.cell.Cell.{Cell}
use Rattle.cluster_history.specs.Held.{drops, is_written}
use Rattle.cluster_history.specs.History.{History}
use Rattle.cluster_history.specs.Legal.{HasActor, IsFitEvent, IsLegalHistory, broken_rule, entry_of}
use Rattle.cluster_history.specs.Messages.{key_of, kind_of, level_of}
use Rattle.cluster_history.specs.Openings.{IsValidOpening, opening_state}
use Rattle.cluster_history.specs.Requests.{Request, request_at, targets_of}
use Rattle.cluster_history.specs.Topology.{log_of}
use Rattle.cluster_history.specs.declared.data.Entry.{Entry}
use Rattle.cluster_history.specs.declared.data.Event.{Event}
use Rattle.cluster_history.specs.declared.data.Opening.{Opening}
use Rattle.cluster_history.specs.declared.data.Operation.{Operation}
use Rattle.cluster_history.specs.declared.data.Operation.TheVariants.{Write as WriteOf}
use Rattle.history_facts.proofs.HostLemmas.{last-rises, log_legal}
use Rattle.history_facts.proofs.LegalLemmas.{next_event}
use Rattle.base_ids.proofs.NameLemmas.{both_true, not_false}
use Rattle.history_facts.proofs.RouteLemmas.{routed}
use Rattle.history_facts.specs.Laws.{IsRouted}
use Rattle.log_law.proofs.LawLemmas.{pairs_law, views_law}
use Rattle.log_law.specs.Laws.{IsNextView}
use Rattle.log_law.specs.Pairs.{IsPair, KeepsQuorum, Matters, ReadsGoOn, is_cleanable_host}
use Rattle.log_law.specs.Pairs.Matters.{OwnList, ReadBefore, ReadNow}
use Rattle.log_law.specs.Pairs.ReadsGoOn.{ReadsNew, ReadsOldAgain, SameReads}
use Rattle.log_law.specs.Stages.{view_with}
use Rattle.register_model.specs.declared.data.Key.{Key}
use Rattle.stage_graph.specs.Needs.{base_need, extra, needed}
use Rattle.stage_graph.specs.declared.level.Level.{Level}
use Rattle.stage_graph.specs.Table.{writes}
use Rattle.stage_graph.specs.declared.stage.Stage.{Stage}
use Rattle.stage_graph.specs.declared.stage.Stage.TheVariants.{Streaming, WriteBothReadNew}
use Rattle.stage_graph.specs.declared.table.Selector.TheVariants.{New, Old}
use Rattle.tablet_map.specs.declared.tablet.Tablet.{Tablet}
use Rattle.tablet_map.specs.declared.tablet.Transition.{Transition}
use Rattle.token_ring.specs.declared.token.Token.{Token}
use Rattle.topo_state.specs.Lists.{chosen_list, chosen_by, is_both, reads_of, stage_in, writes_both, writes_of}
use Rattle.stream_law.specs.Covered.{covered_count, held_at, holds, last_version}
use Rattle.overlap_law.proofs.CountLemmas.{count_more_in}
use Rattle.answer_law.proofs.CountLemmas.{count_more}
use Rattle.overlap_law.proofs.KeptLemmas.{HoldsOrLeft, holds-later, recent-before, recent_last, said_kept}
use Rattle.overlap_law.proofs.LossLemmas.{dropped_unread, dropped_unwritten, view_is, view_known}
use Rattle.overlap_law.proofs.RaiseLemmas.{last_by_one, raise_drops_none, view-before, view-later}
use Rattle.overlap_law.proofs.SaidLemmas.{request-then, some_same}
use Rattle.overlap_law.proofs.SettledLemmas.{IsNewlySettled, settled_cases, settled_known, settles_recent}
use Rattle.overlap_law.specs.Barriers.{IsRecent}
use Rattle.overlap_law.specs.Covered.{Cover, IsCovered, is_recent, view_at, view_in}
use Rattle.stream_law.specs.Settled.{has_said, is_settled, written_count}

-- ---- lists

pub chosen_old : (tablet : Tablet) → chosen_list Old tablet ≡ tablet.replicas
chosen_old tablet = by_transition tablet.transition
  where
    by_transition : (t : Option Transition) → chosen_by Old tablet.replicas t ≡ tablet.replicas
    by_transition None = refl
    by_transition (Some t) = refl

both_now : (tablet : Tablet) (stage : Stage) → is_both (writes (Some stage)) ≡ true → stage_in tablet ≡ Some stage → writes_both tablet ≡ true
both_now tablet stage both is = ap (λ s. is_both (writes s)) is ∙ both

-- ---- views

-- a key that was seen at a version is seen at each later one
pub record IsShown (opening : Opening) (history : History) (version : ℕ) (key : Key) : Type 0 where
  pub tablet : Tablet
  pub shown : view_with (opening_state opening) (log_of history) version key.table key.token.value ≡ Some tablet

stays_shown :
    (opening : Opening) (history : History) (version : ℕ) (key : Key) (tablet : Tablet) → IsValidOpening opening → IsLegalHistory opening history →
    view_with (opening_state opening) (log_of history) version key.table key.token.value ≡ Some tablet → (more : ℕ) → version + more ≤ last_version opening history → IsShown opening history (version + more) key
stays_shown opening history version key tablet valid legal shown zero known =
    let same : version ≡ version + 0 = omega arith in
    record { tablet = tablet; shown = ap (λ v. view_with (opening_state opening) (log_of history) v key.table key.token.value) (sym same) ∙ shown }
stays_shown opening history version key tablet valid legal shown (suc more) known =
    let before : IsShown opening history (version + more) key = stays_shown opening history version key tablet valid legal shown more (omega (arith, known)) in
    let same : (version + more) + 1 ≡ version + suc more = omega arith in
    let next : IsNextView before.tablet (view_with (opening_state opening) (log_of history) ((version + more) + 1) key.table key.token.value) =
    (views_law (opening_state opening) valid.topology (log_of history) (log_legal opening history legal)).next (version + more) (omega (arith, known)) key.table key.token before.tablet before.shown in
    record { tablet = next.new; shown = ap (λ v. view_with (opening_state opening) (log_of history) v key.table key.token.value) (sym same) ∙ next.here }

-- the tablet of a request's key at its version
pub route_shown :
    (opening : Opening) (history : History) (lane : LaneId) (request : Request) (operation : Operation) (route : IsRouted opening history lane request) → request.operation ≡ operation →
    view_at opening history request.version (key_of operation) ≡ Some route.tablet
route_shown opening history lane request operation route is =
    ap (λ s. view_in s (key_of operation)) route.found ∙ ap (λ (o : Operation). view_in (Some route.state) (key_of o)) (sym is) ∙ route.there

last_shown :
    (opening : Opening) (history : History) (lane : LaneId) (op : OpId) (request : Request) (operation : Operation) → IsValidOpening opening → IsLegalHistory opening history →
    request_at opening history lane op ≡ Some request → request.operation ≡ operation → IsShown opening history (last_version opening history) (key_of operation)
last_shown opening history lane op request operation valid legal begun is =
    let route = routed opening history lane op request begun in
    let shown = route_shown opening history lane request operation route is in
    let below = view_known opening history request.version (key_of operation) route.tablet shown in
    let at : request.version.0 + (last_version opening history - request.version.0) ≡ last_version opening history = omega (arith, below) in
    subst (λ v. IsShown opening history v (key_of operation)) at
    (stays_shown opening history request.version.0 (key_of operation) route.tablet valid legal (sym (view_is opening history request.version (key_of operation)) ∙ shown) (last_version opening history - request.version.0) (omega (arith, at)))

is_one : (a b : ℕ) → a ≤ b + 1 → nat_le a (b + 1) ≡ true
is_one a b h = grind (arith, nat_tests)

pub recent_of : (opening : Opening) (history : History) (request : Request) → IsRecent opening history request → is_recent opening history request.version ≡ true
recent_of opening history request recent = is_one (last_version opening history) request.version.0 recent.recent

-- ---- a write that becomes settled

-- the lists that matter hold the cell, where enough of those that the write went to have said so
quorum_holds :
    (opening : Opening) (history : History) (key : Key) (cell : Cell) (said : Replica → Bool) (old new written : Tablet) (list : List Replica) (need : ℕ) →
    view_with (opening_state opening) (log_of history) (last_version opening history) key.table key.token.value ≡ Some new →
    ((replica : Replica) → said replica ≡ true → HoldsOrLeft opening history key cell replica) →
    KeepsQuorum old new written → Matters old new written list → need + extra (writes (stage_in written)) ≤ count_by said (writes_of written) →
    need ≤ covered_count opening history key cell list
quorum_holds opening history key cell said old new written list need shown kept keeps matters enough =
    let some = keeps list matters said need enough in
    let more = count_more (λ (replica : Replica). said replica && not (is_cleanable_host new replica.host)) (holds (held_at opening history key) cell) each list in
    omega (arith, some, more)
  where
    each : (replica : Replica) → (said replica && not (is_cleanable_host new replica.host)) ≡ true → holds (held_at opening history key) cell replica ≡ true
    each replica e =
        let both = both_true (said replica) (not (is_cleanable_host new replica.host)) e in
        elim (kept replica both.0) [
          | inl held ↦ held
          | inr left ↦
              let one : left.tablet ≡ new = some_same left.tablet new (sym left.shown ∙ shown) in
              let wrong : true ≡ false = sym left.cleanable ∙ ap (λ (t : Tablet). is_cleanable_host t replica.host) one ∙ not_false (is_cleanable_host new replica.host) both.1 in cc wrong
        ]

covered_by :
    (opening : Opening) (history : History) (key : Key) (cell : Cell) (said : Replica → Bool) (level : Level) (old new written tablet : Tablet) (version : Version) →
    view_with (opening_state opening) (log_of history) (last_version opening history) key.table key.token.value ≡ Some new →
    ((replica : Replica) → said replica ≡ true → HoldsOrLeft opening history key cell replica) →
    base_need level (length written.replicas) + extra (writes (stage_in written)) ≤ count_by said (writes_of written) →
    KeepsQuorum old new written → Matters old new written (reads_of tablet) →
    (version.0 ≡ last_version opening history → writes_both tablet ≡ true → Matters old new written (chosen_list Old tablet)) →
    length written.replicas ≡ length tablet.replicas → IsCovered opening history version tablet key cell (base_need level (length tablet.replicas))
covered_by opening history key cell said level old new written tablet version shown kept enough keeps reads own size =
    record {
      reads = subst (λ n. base_need level n ≤ covered_count opening history key cell (reads_of tablet)) size
          (quorum_holds opening history key cell said old new written (reads_of tablet) (base_need level (length written.replicas)) shown kept keeps reads enough);
      old = λ newest both. subst (λ n. base_need level n ≤ covered_count opening history key cell tablet.replicas) size
          (subst (λ list. base_need level (length written.replicas) ≤ covered_count opening history key cell list) (chosen_old tablet)
          (quorum_holds opening history key cell said old new written (chosen_list Old tablet) (base_need level (length written.replicas)) shown kept keeps (own newest both) enough));
    }

not_newest : (last version : ℕ) → version < last → version ≡ last → ⊥
not_newest last version less same = absurd (omega (arith, less, same))

module _ (opening : Opening) (history : History) (valid : IsValidOpening opening) (legal : IsLegalHistory opening history) (key : Key) (cell : Cell) (said : Replica → Bool) (level : Level) (kept : (replica : Replica) → said replica ≡ true → HoldsOrLeft opening history key cell replica) (written : Tablet) (enough : base_need level (length written.replicas) + extra (writes (stage_in written)) ≤ count_by said (writes_of written)) where
  -- a write at the log's version
  covered_newest :
      view_with (opening_state opening) (log_of history) (last_version opening history) key.table key.token.value ≡ Some written →
      (version : Version) (tablet : Tablet) → version.0 ≤ last_version opening history → last_version opening history ≤ version.0 + 1 →
      view_with (opening_state opening) (log_of history) version.0 key.table key.token.value ≡ Some tablet → IsCovered opening history version tablet key cell (base_need level (length tablet.replicas))
  covered_newest shown version tablet below near there =
      let first = opening_state opening in
      let log = log_of history in
      let legal_log = log_legal opening history legal in
      let pairs = pairs_law first valid.topology log legal_log in
      elim (cases_lt version.0 (last_version opening history)) [
        | inr same ↦
            let at : version.0 ≡ last_version opening history = omega (arith, same, below) in
            let one : written ≡ tablet = some_same written tablet (sym shown ∙ ap (λ v. view_with first log v key.table key.token.value) (sym at) ∙ there) in
            let pair : IsPair written written = pairs.same (last_version opening history) key.table key.token written shown in
            subst (λ t. IsCovered opening history version t key cell (base_need level (length t.replicas))) one
            (covered_by opening history key cell said level written written written written version shown kept enough pair.kept_now ReadNow (λ newest both. OwnList both) refl)
        | inl less ↦
            let at : last_version opening history ≡ version.0 + 1 = omega (arith, less, near) in
            let next : IsNextView tablet (view_with first log (version.0 + 1) key.table key.token.value) = (views_law first valid.topology log legal_log).next version.0 (omega (arith, less)) key.table key.token tablet there in
            let later : view_with first log (version.0 + 1) key.table key.token.value ≡ Some written = ap (λ v. view_with first log v key.table key.token.value) (sym at) ∙ shown in
            let one : next.new ≡ written = some_same next.new written (sym next.here ∙ later) in
            let size : length written.replicas ≡ length tablet.replicas = ap (λ (t : Tablet). length t.replicas) (sym one) ∙ next.size in
            let pair : IsPair tablet written = pairs.next version.0 key.table key.token tablet written there later in
            covered_by opening history key cell said level tablet written written tablet version shown kept enough pair.kept_now ReadBefore
            (λ newest both. absurd (not_newest (last_version opening history) version.0 less newest)) size
      ]

  -- a write at the version before it
  covered_before :
      (at_version : ℕ) → at_version + 1 ≡ last_version opening history →
      view_with (opening_state opening) (log_of history) at_version key.table key.token.value ≡ Some written →
      (version : Version) (tablet : Tablet) → version.0 ≤ last_version opening history → last_version opening history ≤ version.0 + 1 →
      view_with (opening_state opening) (log_of history) version.0 key.table key.token.value ≡ Some tablet → IsCovered opening history version tablet key cell (base_need level (length tablet.replicas))
  covered_before at_version one_more shown version tablet below near there =
      let first = opening_state opening in
      let log = log_of history in
      let legal_log = log_legal opening history legal in
      let next : IsNextView written (view_with first log (at_version + 1) key.table key.token.value) = (views_law first valid.topology log legal_log).next at_version (omega (arith, one_more)) key.table key.token written shown in
      let now : view_with first log (last_version opening history) key.table key.token.value ≡ Some next.new = ap (λ v. view_with first log v key.table key.token.value) (sym one_more) ∙ next.here in
      let pair : IsPair written next.new = (pairs_law first valid.topology log legal_log).next at_version key.table key.token written next.new shown next.here in
      elim (cases_lt version.0 (last_version opening history)) [
        | inr same ↦
            let at : version.0 ≡ last_version opening history = omega (arith, same, below) in
            let one : next.new ≡ tablet = some_same next.new tablet (sym now ∙ ap (λ v. view_with first log v key.table key.token.value) (sym at) ∙ there) in
            subst (λ t. IsCovered opening history version t key cell (base_need level (length t.replicas))) one
            (covered_by opening history key cell said level written next.new written next.new version now kept enough pair.kept_before ReadNow (λ newest both. OwnList both) (sym next.size))
        | inl less ↦
            let at : at_version ≡ version.0 = omega (arith, less, near, one_more) in
            let one : written ≡ tablet = some_same written tablet (sym shown ∙ ap (λ v. view_with first log v key.table key.token.value) at ∙ there) in
            subst (λ t. IsCovered opening history version t key cell (base_need level (length t.replicas))) one
            (covered_by opening history key cell said level written next.new written written version now kept enough pair.kept_before ReadBefore
            (λ newest both. absurd (not_newest (last_version opening history) version.0 less newest)) refl)
      ]

module _ (opening : Opening) (history : History) (event : Event) (valid : IsValidOpening opening) (legal : IsLegalHistory opening history) (actor : HasActor opening event) (fit : IsFitEvent opening event) (fine : broken_rule opening history event ≡ None) where
  covered_now :
      (lane : LaneId) (op : OpId) (request : Request) (table : TableId) (token : Token) (cell : Cell) (level : Level) (version : Version) (tablet : Tablet) →
      IsNewlySettled opening history (entry_of opening history event) lane op → request_at opening (entry_of opening history event ∷ history) lane op ≡ Some request →
      request.operation ≡ WriteOf table token cell level → is_recent opening (entry_of opening history event ∷ history) version ≡ true →
      view_at opening (entry_of opening history event ∷ history) version (key_of (WriteOf table token cell level)) ≡ Some tablet →
      IsCovered opening (entry_of opening history event ∷ history) version tablet (key_of (WriteOf table token cell level)) cell (base_need level (length tablet.replicas))
  covered_now lane op request table token cell level version tablet new begun is recent shown =
      let later = entry_of opening history event ∷ history in
      let key = key_of (WriteOf table token cell level) in
      let legal_now : IsLegalHistory opening later = (next_event opening history event actor fit fine, legal) in
      let same : new.now.request ≡ request = some_same new.now.request request (sym new.now.begun ∙ begun) in
      let said = (λ (replica : Replica). has_said later lane op replica is_written) in
      let counted : request.need ≤ count_by said request.targets = subst (λ (q : Request). q.need ≤ written_count later lane op q.targets) same new.now.enough in
      let route : IsRouted opening later lane request = routed opening later lane op request begun in
      let targets : request.targets ≡ writes_of route.tablet = route.targets ∙ ap (λ (o : Operation). targets_of (kind_of o) route.tablet) is in
      let need : request.need ≡ base_need level (length route.tablet.replicas) + extra (writes (stage_in route.tablet)) = route.need ∙ ap (λ (o : Operation). needed (kind_of o) (level_of o) (length route.tablet.replicas) (stage_in route.tablet)) is in
      let enough : base_need level (length route.tablet.replicas) + extra (writes (stage_in route.tablet)) ≤ count_by said (writes_of route.tablet) = subst (λ list. base_need level (length route.tablet.replicas) + extra (writes (stage_in route.tablet)) ≤ count_by said list) targets (omega (arith, counted, need)) in
      let settles = settles_recent opening history event valid legal actor fit fine lane op request new begun in
      let kept = (λ (replica : Replica) (h : has_said later lane op replica is_written ≡ true). said_kept opening valid later legal_now lane op replica request table token cell level begun is (recent_of opening later request settles) h) in
      let went = sym (view_is opening later request.version key) ∙ route_shown opening later lane request (WriteOf table token cell level) route is in
      let there = sym (view_is opening later version key) ∙ shown in
      let below = view_known opening later version key tablet shown in
      let near = recent_last (last_version opening later) version.0 recent in
      elim (cases_lt request.version.0 (last_version opening later)) [
        | inr newest ↦
            let at : request.version.0 ≡ last_version opening later = omega (arith, newest, settles.known) in
            covered_newest opening later valid legal_now key cell said level kept route.tablet enough (ap (λ v. view_with (opening_state opening) (log_of later) v key.table key.token.value) (sym at) ∙ went) version tablet below near there
        | inl older ↦
            covered_before opening later valid legal_now key cell said level kept route.tablet enough request.version.0 (omega (arith, older, settles.recent)) went version tablet below near there
      ]

-- ---- a write that was settled before

-- Where a move's pending replica begins to be read in the leaving one's place, a settled write of the key is covered in the
-- new list.
abbrev pub IsFed : Opening → History → Entry → Type 0
IsFed opening history entry =
    (lane : LaneId) (op : OpId) (request : Request) (table : TableId) (token : Token) (cell : Cell) (level : Level) (old new : Tablet) →
    is_settled opening history lane op ≡ true → request_at opening history lane op ≡ Some request → request.operation ≡ WriteOf table token cell level →
    last_version opening (entry ∷ history) ≡ last_version opening history + 1 →
    view_with (opening_state opening) (log_of history) (last_version opening history) (key_of (WriteOf table token cell level)).table (key_of (WriteOf table token cell level)).token.value ≡ Some old →
    view_with (opening_state opening) (log_of (entry ∷ history)) (last_version opening (entry ∷ history)) (key_of (WriteOf table token cell level)).table (key_of (WriteOf table token cell level)).token.value ≡ Some new →
    stage_in old ≡ Some Streaming → stage_in new ≡ Some WriteBothReadNew →
    base_need level (length old.replicas) ≤ covered_count opening history (key_of (WriteOf table token cell level)) cell (chosen_list New old)

module _ (opening : Opening) (history : History) (event : Event) (valid : IsValidOpening opening) (legal : IsLegalHistory opening history) (legal_now : IsLegalHistory opening (entry_of opening history event ∷ history)) (covers : Cover opening history) (lane : LaneId) (op : OpId) (request : Request) (table : TableId) (token : Token) (cell : Cell) (level : Level) (settled : is_settled opening history lane op ≡ true) (begun : request_at opening history lane op ≡ Some request) (is : request.operation ≡ WriteOf table token cell level) where
  -- while the log's version stays: no host of a list that matters drops the key
  stays_covered :
      (version : Version) (tablet : Tablet) → last_version opening (entry_of opening history event ∷ history) ≡ last_version opening history →
      is_recent opening history version ≡ true → view_at opening history version (key_of (WriteOf table token cell level)) ≡ Some tablet →
      IsCovered opening (entry_of opening history event ∷ history) version tablet (key_of (WriteOf table token cell level)) cell (base_need level (length tablet.replicas))
  stays_covered version tablet same recent shown =
      let entry = entry_of opening history event in
      let key = key_of (WriteOf table token cell level) in
      let was : IsCovered opening history version tablet key cell (base_need level (length tablet.replicas)) = covers lane op request table token cell level version tablet settled begun is recent shown in
      record {
        reads = (let more = count_more_in (holds (held_at opening history key) cell) (holds (held_at opening (entry ∷ history) key) cell) (reads_of tablet) (λ replica there h. read_on replica there h) in omega (arith, was.reads, more));
        old = λ newest both.
            (let more = count_more (holds (held_at opening history key) cell) (holds (held_at opening (entry ∷ history) key) cell) (λ replica h. written_on both (newest ∙ same) replica h) tablet.replicas in
            omega (arith, was.old (newest ∙ same) both, more));
      }
    where
      read_on : (replica : Replica) → has_host (reads_of tablet) replica.host ≡ true → holds (held_at opening history (key_of (WriteOf table token cell level))) cell replica ≡ true → holds (held_at opening (entry_of opening history event ∷ history) (key_of (WriteOf table token cell level))) cell replica ≡ true
      read_on replica there h =
          (elim (drops opening history (entry_of opening history event) replica.host (key_of (WriteOf table token cell level))) as (λ b. drops opening history (entry_of opening history event) replica.host (key_of (WriteOf table token cell level)) ≡ b → holds (held_at opening (entry_of opening history event ∷ history) (key_of (WriteOf table token cell level))) cell replica ≡ true) [
            | true ↦ λ dropped. let wrong : true ≡ false = sym there ∙ dropped_unread opening history event valid legal replica.host (key_of (WriteOf table token cell level)) dropped version tablet (recent_last (last_version opening history) version.0 recent) shown in cc wrong
            | false ↦ λ none. holds-later opening history (entry_of opening history event) (key_of (WriteOf table token cell level)) cell replica none h
          ]) refl

      written_on : writes_both tablet ≡ true → version.0 ≡ last_version opening history → (replica : Replica) → holds (held_at opening history (key_of (WriteOf table token cell level))) cell replica ≡ true → holds (held_at opening (entry_of opening history event ∷ history) (key_of (WriteOf table token cell level))) cell replica ≡ true
      written_on both newest replica h =
          (elim (drops opening history (entry_of opening history event) replica.host (key_of (WriteOf table token cell level))) as (λ b. drops opening history (entry_of opening history event) replica.host (key_of (WriteOf table token cell level)) ≡ b → holds (held_at opening (entry_of opening history event ∷ history) (key_of (WriteOf table token cell level))) cell replica ≡ true) [
            | true ↦ λ dropped. let wrong : true ≡ false = sym both ∙ (dropped_unwritten opening history event valid legal replica.host (key_of (WriteOf table token cell level)) dropped version tablet newest shown).0 in cc wrong
            | false ↦ λ none. holds-later opening history (entry_of opening history event) (key_of (WriteOf table token cell level)) cell replica none h
          ]) refl

  -- where the log's version is raised nothing is dropped
  raised_holds : last_version opening history < last_version opening (entry_of opening history event ∷ history) → (list : List Replica) → covered_count opening history (key_of (WriteOf table token cell level)) cell list ≤ covered_count opening (entry_of opening history event ∷ history) (key_of (WriteOf table token cell level)) cell list
  raised_holds less list =
      count_more (holds (held_at opening history (key_of (WriteOf table token cell level))) cell) (holds (held_at opening (entry_of opening history event ∷ history) (key_of (WriteOf table token cell level))) cell)
      (λ replica h. holds-later opening history (entry_of opening history event) (key_of (WriteOf table token cell level)) cell replica (raise_drops_none opening history event replica.host (key_of (WriteOf table token cell level)) less) h)
      list

  -- at the version that was the log's
  raised_before :
      (version : Version) (tablet : Tablet) → last_version opening history < last_version opening (entry_of opening history event ∷ history) → version.0 ≡ last_version opening history →
      is_recent opening history version ≡ true → view_at opening history version (key_of (WriteOf table token cell level)) ≡ Some tablet →
      IsCovered opening (entry_of opening history event ∷ history) version tablet (key_of (WriteOf table token cell level)) cell (base_need level (length tablet.replicas))
  raised_before version tablet less at recent shown =
      let key = key_of (WriteOf table token cell level) in
      let was : IsCovered opening history version tablet key cell (base_need level (length tablet.replicas)) = covers lane op request table token cell level version tablet settled begun is recent shown in
      record {
        reads = (let more = raised_holds less (reads_of tablet) in omega (arith, was.reads, more));
        old = λ newest both. absurd (omega (arith, less, at, newest));
      }

  -- at the new version
  raised_now :
      IsFed opening history (entry_of opening history event) → (version : Version) (old new : Tablet) →
      last_version opening (entry_of opening history event ∷ history) ≡ last_version opening history + 1 → version.0 ≡ last_version opening (entry_of opening history event ∷ history) →
      view_with (opening_state opening) (log_of history) (last_version opening history) (key_of (WriteOf table token cell level)).table (key_of (WriteOf table token cell level)).token.value ≡ Some old →
      view_with (opening_state opening) (log_of (entry_of opening history event ∷ history)) (last_version opening (entry_of opening history event ∷ history)) (key_of (WriteOf table token cell level)).table (key_of (WriteOf table token cell level)).token.value ≡ Some new →
      IsPair old new → length new.replicas ≡ length old.replicas →
      IsCovered opening (entry_of opening history event ∷ history) version new (key_of (WriteOf table token cell level)) cell (base_need level (length new.replicas))
  raised_now fed version old new one_more at old_shown new_shown pair size =
      let later = entry_of opening history event ∷ history in
      let key = key_of (WriteOf table token cell level) in
      let last : Version = record { 0 = last_version opening history } in
      let was : IsCovered opening history last old key cell (base_need level (length old.replicas)) =
      covers lane op request table token cell level last old settled begun is (is_one (last_version opening history) (last_version opening history) (omega arith)) (view_is opening history last key ∙ old_shown) in
      let less : last_version opening history < last_version opening later = omega (arith, one_more) in
      record {
        reads = subst (λ n. base_need level n ≤ covered_count opening later key cell (reads_of new)) (sym size) (let more = raised_holds less (reads_of new) in let covered = by_reads was pair.reads in omega (arith, more, covered));
        old = λ newest both. subst (λ n. base_need level n ≤ covered_count opening later key cell new.replicas) (sym size) (let more = raised_holds less new.replicas in let covered = by_both was both (writes_both old) refl in omega (arith, more, covered));
      }
    where
      by_reads :
          IsCovered opening history (record { 0 = last_version opening history }) old (key_of (WriteOf table token cell level)) cell (base_need level (length old.replicas)) → ReadsGoOn old new →
          base_need level (length old.replicas) ≤ covered_count opening history (key_of (WriteOf table token cell level)) cell (reads_of new)
      by_reads was (SameReads alike) = let same = alike.counts (holds (held_at opening history (key_of (WriteOf table token cell level))) cell) in omega (arith, was.reads, same)
      by_reads was (ReadsNew streams reads_new before after) =
          let same = after.counts (holds (held_at opening history (key_of (WriteOf table token cell level))) cell) in
          let covered = fed lane op request table token cell level old new settled begun is one_more old_shown new_shown streams reads_new in
          omega (arith, same, covered)
      by_reads was (ReadsOldAgain reads_new falls_back before after) =
          let same = after.counts (holds (held_at opening history (key_of (WriteOf table token cell level))) cell) in
          let own = ap (covered_count opening history (key_of (WriteOf table token cell level)) cell) (chosen_old old) in
          let covered = was.old refl (both_now old WriteBothReadNew refl reads_new) in
          omega (arith, same, own, covered)

      by_both :
          IsCovered opening history (record { 0 = last_version opening history }) old (key_of (WriteOf table token cell level)) cell (base_need level (length old.replicas)) → writes_both new ≡ true → (both : Bool) → writes_both old ≡ both →
          base_need level (length old.replicas) ≤ covered_count opening history (key_of (WriteOf table token cell level)) cell new.replicas
      by_both was now false then_both =
          let begins = pair.both.begins now then_both in
          let same = begins.2.counts (holds (held_at opening history (key_of (WriteOf table token cell level))) cell) in
          let own = ap (covered_count opening history (key_of (WriteOf table token cell level)) cell) (chosen_old new) in
          omega (arith, was.reads, same, own)
      by_both was now true then_both =
          let same = ap (covered_count opening history (key_of (WriteOf table token cell level)) cell) (pair.both.same_list now then_both) in
          let covered = was.old refl then_both in
          omega (arith, same, covered)

-- ---- one entry more

pub cover-next :
    (opening : Opening) (history : History) (event : Event) → IsValidOpening opening → IsLegalHistory opening history → HasActor opening event → IsFitEvent opening event → broken_rule opening history event ≡ None →
    IsFed opening history (entry_of opening history event) → Cover opening history → Cover opening (entry_of opening history event ∷ history)
cover-next opening history event valid legal actor fit fine fed covers lane op request table token cell level version tablet settled begun is recent shown =
    let entry = entry_of opening history event in
    let legal_now : IsLegalHistory opening (entry ∷ history) = (next_event opening history event actor fit fine, legal) in
    elim (settled_cases opening history entry lane op settled) [
      | inr new ↦ covered_now opening history event valid legal actor fit fine lane op request table token cell level version tablet new begun is recent shown
      | inl old ↦ before legal_now old (request-then opening history entry lane op request (settled_known opening history lane op old) begun)
    ]
  where
    before :
        IsLegalHistory opening (entry_of opening history event ∷ history) → is_settled opening history lane op ≡ true → request_at opening history lane op ≡ Some request →
        IsCovered opening (entry_of opening history event ∷ history) version tablet (key_of (WriteOf table token cell level)) cell (base_need level (length tablet.replicas))
    before legal_now old begun_then =
        let entry = entry_of opening history event in
        let later = entry ∷ history in
        let key = key_of (WriteOf table token cell level) in
        let first = opening_state opening in
        let rises = last-rises opening history entry in
        let most = last_by_one opening history entry in
        let there = sym (view_is opening later version key) ∙ shown in
        let known = view_known opening later version key tablet shown in
        let near = recent_last (last_version opening later) version.0 recent in
        let recent_then = recent-before opening history entry version recent in
        elim (cases_lt (last_version opening history) (last_version opening later)) [
          | inr below ↦
              let same : last_version opening later ≡ last_version opening history = omega (arith, below, rises) in
              let shown_then : view_at opening history version key ≡ Some tablet = view_is opening history version key ∙ view-before opening history entry version.0 key tablet legal_now (omega (arith, known, same)) there in
              stays_covered opening history event valid legal legal_now covers lane op request table token cell level old begun_then is version tablet same recent_then shown_then
          | inl less ↦
              elim (cases_lt (last_version opening history) version.0) [
                | inr before_it ↦
                    let at : version.0 ≡ last_version opening history = omega (arith, before_it, near, less) in
                    let shown_then : view_at opening history version key ≡ Some tablet = view_is opening history version key ∙ view-before opening history entry version.0 key tablet legal_now before_it there in
                    raised_before opening history event valid legal legal_now covers lane op request table token cell level old begun_then is version tablet less at recent_then shown_then
                | inl newest ↦
                    let one_more : last_version opening later ≡ last_version opening history + 1 = omega (arith, less, most) in
                    let at : version.0 ≡ last_version opening later = omega (arith, newest, known, one_more) in
                    let was : IsShown opening history (last_version opening history) key = last_shown opening history lane op request (WriteOf table token cell level) valid legal begun_then is in
                    let stays = view-later opening history entry (last_version opening history) key was.tablet was.shown in
                    let legal_log = log_legal opening later legal_now in
                    let next : IsNextView was.tablet (view_with first (log_of later) (last_version opening history + 1) key.table key.token.value) = (views_law first valid.topology (log_of later) legal_log).next (last_version opening history) (omega (arith, one_more)) key.table key.token was.tablet stays in
                    let now : view_with first (log_of later) (last_version opening later) key.table key.token.value ≡ Some tablet = ap (λ v. view_with first (log_of later) v key.table key.token.value) (sym at) ∙ there in
                    let then_now : view_with first (log_of later) (last_version opening history + 1) key.table key.token.value ≡ Some tablet = ap (λ v. view_with first (log_of later) v key.table key.token.value) (sym one_more) ∙ now in
                    let one : next.new ≡ tablet = some_same next.new tablet (sym next.here ∙ then_now) in
                    let size : length tablet.replicas ≡ length was.tablet.replicas = ap (λ (t : Tablet). length t.replicas) (sym one) ∙ next.size in
                    let pair : IsPair was.tablet tablet = (pairs_law first valid.topology (log_of later) legal_log).next (last_version opening history) key.table key.token was.tablet tablet stays then_now in
                    raised_now opening history event valid legal legal_now covers lane op request table token cell level old begun_then is fed version was.tablet tablet one_more at was.shown now pair size
              ]
        ]
