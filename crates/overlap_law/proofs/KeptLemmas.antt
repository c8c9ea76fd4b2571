-- Said is kept: a host that said that it wrote a cell holds no less, as long as it drops nothing.
use Rattle.std.proofs.Common.{ap, arith, inl, inr, refl, subst, sym, ◌∙◌}
use Rattle.std.proofs.lemmas.Bool.Decides.{nat_tests}
use Rattle.std.specs.List.{list_any}
use Rattle.std.proofs.lemmas.Bool.{cases_lt}
use Rattle.base_ids.specs.Replicas.{has_host, has_replica}
use Rattle.cluster_history.specs.Legal.{HasActor, IsFitEvent}
use Rattle.cluster_history.specs.Openings.{opening_state}
use Rattle.cluster_history.specs.Messages.{kind_of}
use Rattle.cluster_history.specs.Requests.{targets_of}
use Rattle.history_facts.proofs.HostLemmas.{log_legal}
use Rattle.history_facts.proofs.RouteLemmas.{routed}
use Rattle.history_facts.specs.Laws.{IsRouted}
use Rattle.log_law.proofs.LawLemmas.{pairs_law}
use Rattle.log_law.specs.Pairs.{IsPair, is_cleanable_host}
use Rattle.log_law.specs.Stages.{view_with}
use Rattle.tablet_map.specs.declared.tablet.Tablet.{Tablet}
use Rattle.topo_state.specs.Lists.{writes_of}
use Rattle.std.specs.Prelude.{ℕ, nat_le, ◌+◌, ◌≤◌, ◌⊎◌, Bool, None, Option, Some, false, if◌then◌else◌, nat_lt, true, ◌||◌, ◌∷◌, ◌≡◌}
use Rattle.barrier_law.proofs.AskedLemmas.{IsAsked}
use Rattle.base_ids.specs.declared.ids.HostId.{HostId}
use Rattle.base_ids.specs.declared.ids.LaneId.{LaneId}
use Rattle.base_ids.specs.declared.ids.OpId.{OpId}
use Rattle.base_ids.specs.declared.ids.Replica.{Replica}
use Rattle.base_ids.specs.declared.ids.TableId.{TableId}
use Rattle.base_ids.specs.declared.ids.Version.{Version}
use Rattle.cell_merge.proofs.CellOrder.{greater-first, not_below}
use Rattle.cell_merge.specs.Cell.{IsNotBelow, greater_cell, is_not_below}
use Rattle.cell_merge.specs.declared.cell.Cell.{Cell}
use Rattle.cluster_history.specs.Held.{drops, held_cell, is_written, stored_cell}
use Rattle.cluster_history.specs.History.{History}
use Rattle.cluster_history.specs.Legal.{IsLegalHistory, broken_rule, entry_of, outputs_of}
use Rattle.cluster_history.specs.Messages.{key_of, read_key, written_key}
use Rattle.cluster_history.specs.Openings.{IsValidOpening}
use Rattle.cluster_history.specs.Outputs.{said_to}
use Rattle.cluster_history.specs.Requests.{Request, request_at}
use Rattle.cluster_history.specs.Topology.{fence_of, log_of}
use Rattle.cluster_history.specs.declared.data.Entry.{Entry}
use Rattle.cluster_history.specs.declared.data.Event.{Event}
use Rattle.cluster_history.specs.declared.data.Event.TheVariants.{Serve}
use Rattle.cluster_history.specs.declared.data.Opening.{Opening}
use Rattle.cluster_history.specs.declared.data.Operation.{Operation}
use Rattle.cluster_history.specs.declared.data.Operation.TheVariants.{Write as WriteOf}
use Rattle.stage_graph.specs.declared.level.Level.{Level}
use Rattle.history_facts.proofs.BegunLemmas.{request_at-later}
use Rattle.history_facts.proofs.HostLemmas.{last-rises}
use Rattle.history_facts.proofs.LegalLemmas.{legal_induction}
use Rattle.quorum_ops.specs.declared.data.Said.{Said}
use Rattle.quorum_ops.specs.declared.data.Said.TheVariants.{Found, Stale as Refused, Written}
use Rattle.register_model.specs.declared.data.Key.{Key}
use Rattle.token_ring.specs.declared.token.Token.{Token}
use Rattle.stream_law.specs.Covered.{held_at, holds, last_version}
use Rattle.overlap_law.proofs.CleanLemmas.{IsLeftBehind, clean_lemma}
use Rattle.tablet_map.proofs.Members.{host_of}
use Rattle.overlap_law.proofs.LossLemmas.{view_is, view_known}
use Rattle.overlap_law.proofs.RaiseLemmas.{drop_keeps_last, left-later}
use Rattle.overlap_law.proofs.SaidLemmas.{IsSaid, IsTarget, request-then, said_target, said_found, said_known, says, some_same, write_asked}
use Rattle.answer_law.proofs.StoredLemmas.{held-served}
use Rattle.overlap_law.specs.Covered.{is_recent, view_at, view_in}
use Rattle.stream_law.specs.Settled.{has_said, is_answer_of}

-- what is recent was so before
pub recent-before : (opening : Opening) (history : History) (entry : Entry) (version : Version) → is_recent opening (entry ∷ history) version ≡ true → is_recent opening history version ≡ true
recent-before opening history entry version e =
    let rises = last-rises opening history entry in grind (arith, nat_tests)

-- a host that drops nothing at the key holds no less than before
pub holds-later : (opening : Opening) (history : History) (entry : Entry) (key : Key) (cell : Cell) (replica : Replica) → drops opening history entry replica.host key ≡ false → holds (held_at opening history key) cell replica ≡ true → holds (held_at opening (entry ∷ history) key) cell replica ≡ true
holds-later opening history entry key cell replica none h =
    let was = held_cell opening history replica.host key in
    let more = stored_cell opening history entry replica.host key in
    not_below.transitive (held_cell opening (entry ∷ history) replica.host key) was (Some cell)
    (subst (λ b. IsNotBelow (greater_cell (if b then None else was) more) was) (sym none) (greater-first was more)) h

-- ---- what a host that says so holds

-- a cell that is not refused was written or found
written_fine : (version fence : Version) (said : Said) → is_written (said_to version fence said) ≡ true → said_to version fence said ≡ said
written_fine version fence said e = by_fence (nat_lt version.0 fence.0) e
  where
    by_fence : (below : Bool) → is_written (if below then Refused fence else said) ≡ true → (if below then Refused fence else said) ≡ said
    by_fence true h = cc
    by_fence false h = refl

no_found : (version fence : Version) (cell : Option Cell) → is_written (said_to version fence (Found cell)) ≡ true → ⊥
no_found version fence cell e = by_fence (nat_lt version.0 fence.0) e
  where
    by_fence : (below : Bool) → is_written (if below then Refused fence else Found cell) ≡ true → ⊥
    by_fence true h = cc
    by_fence false h = cc

holds_of : (opening : Opening) (history : History) (a b : Replica) (key other : Key) (cell same : Cell) → a ≡ b → key ≡ other → cell ≡ same → holds (held_at opening history key) cell a ≡ true → holds (held_at opening history other) same b ≡ true
holds_of opening history a b key other cell same r k c h =
    ap (λ (x : Replica). holds (held_at opening history other) same x) (sym r) ∙ ap (λ (x : Key). holds (held_at opening history x) same a) (sym k) ∙ ap (λ (x : Cell). holds (held_at opening history key) x a) (sym c) ∙ h

write_cell : (table other : TableId) (token same : Token) (cell is : Cell) (a b : Level) → WriteOf table token cell a ≡ WriteOf other same is b → cell ≡ is
write_cell table other token same cell is a b e = cc

-- a host that says by an event that it wrote holds no less after it
pub says_holds :
    (opening : Opening) (history : History) (event : Event) → IsLegalHistory opening history → broken_rule opening history event ≡ None →
    (lane : LaneId) (op : OpId) (from : Replica) (request : Request) (table : TableId) (token : Token) (cell : Cell) (level : Level) →
    request_at opening (entry_of opening history event ∷ history) lane op ≡ Some request → request.operation ≡ WriteOf table token cell level →
    list_any (is_answer_of lane op from is_written) (outputs_of opening history event) ≡ true →
    holds (held_at opening (entry_of opening history event ∷ history) (key_of (WriteOf table token cell level))) cell from ≡ true
says_holds opening history event legal fine lane op from request table token cell level begun is h =
    let found : IsSaid (outputs_of opening history event) lane op from is_written = said_found (outputs_of opening history event) lane op from is_written h in
    elim (says opening history event found.place lane op from found.said fine found.stands) [
      | inr read ↦ absurd (no_found read.ask.version (fence_of opening history read.host) (held_cell opening history read.host (read_key read.ask)) (ap is_written (sym read.said_is) ∙ found.passes))
      | inl write ↦
          let fact = write_asked opening history event lane op from found.said legal write in
          let asked : IsAsked opening history lane op write.ask.version (WriteOf write.ask.table write.ask.token write.ask.cell fact.0) from = fact.1 in
          let same : asked.request ≡ request = some_same asked.request request (sym (request_at-later opening history (entry_of opening history event) lane op asked.request asked.begun) ∙ begun) in
          let what : WriteOf write.ask.table write.ask.token write.ask.cell fact.0 ≡ WriteOf table token cell level = sym asked.operation_is ∙ ap (λ (q : Request). q.operation) same ∙ is in
          let P : Event → Type 0 = λ e. holds (held_at opening (entry_of opening history e ∷ history) (key_of (WriteOf table token cell level))) cell from ≡ true in
          let served = entry_of opening history (Serve write.host write.at) in
          let stored : IsNotBelow (held_cell opening (served ∷ history) write.host (written_key write.ask)) (Some write.ask.cell) =
          held-served opening history write.host write.at write.ask write.asked
          (written_fine write.ask.version (fence_of opening history write.host) Written (ap is_written (sym write.said_is) ∙ found.passes)) in
          let here : holds (held_at opening (served ∷ history) (written_key write.ask)) write.ask.cell write.ask.to ≡ true =
          subst (λ (host : HostId). is_not_below (held_cell opening (served ∷ history) host (written_key write.ask)) (Some write.ask.cell) ≡ true) (sym write.addressed) stored in
          subst P (sym write.event_is)
          (holds_of opening (served ∷ history) write.ask.to from (written_key write.ask) (key_of (WriteOf table token cell level)) write.ask.cell cell
          write.from_is (ap key_of what) (write_cell write.ask.table table write.ask.token token write.ask.cell cell fact.0 level what) here)
    ]

-- ---- said is kept

-- the replica's host holds no less than the cell, or the key's move has left it behind
abbrev pub HoldsOrLeft : Opening → History → Key → Cell → Replica → Type 0
HoldsOrLeft opening history key cell replica = (holds (held_at opening history key) cell replica ≡ true) ⊎ IsLeftBehind opening history replica.host key

-- So it is with a replica that said that it wrote the request's cell, as long as the request's version is the log's or
-- the one before it.
abbrev pub SaidKept : Opening → History → Type 0
SaidKept opening history =
    (lane : LaneId) (op : OpId) (from : Replica) (request : Request) (table : TableId) (token : Token) (cell : Cell) (level : Level) →
    request_at opening history lane op ≡ Some request → request.operation ≡ WriteOf table token cell level →
    is_recent opening history request.version ≡ true → has_said history lane op from is_written ≡ true →
    HoldsOrLeft opening history (key_of (WriteOf table token cell level)) cell from

pub recent_last : (last version : ℕ) → nat_le last (version + 1) ≡ true → last ≤ version + 1
recent_last last version e = grind (arith, nat_tests)

-- nobody to whom a write of the log's version went is left behind
pub target_stays :
    (opening : Opening) (history : History) (lane : LaneId) (op : OpId) (from : Replica) (request : Request) (table : TableId) (token : Token) (cell : Cell) (level : Level) →
    IsValidOpening opening → IsLegalHistory opening history →
    request_at opening history lane op ≡ Some request → request.operation ≡ WriteOf table token cell level →
    last_version opening history ≤ request.version.0 → has_replica request.targets from ≡ true →
    IsLeftBehind opening history from.host (key_of (WriteOf table token cell level)) → ⊥
target_stays opening history lane op from request table token cell level valid legal begun is newest among left =
    let first = opening_state opening in
    let log = log_of history in
    let key = key_of (WriteOf table token cell level) in
    let route : IsRouted opening history lane request = routed opening history lane op request begun in
    let shown : view_at opening history request.version key ≡ Some route.tablet = ap (λ s. view_in s key) route.found ∙ ap (λ (o : Operation). view_in (Some route.state) (key_of o)) (sym is) ∙ route.there in
    let below = view_known opening history request.version key route.tablet shown in
    let at : request.version.0 ≡ last_version opening history = omega (arith, below, newest) in
    let here : view_with first log (last_version opening history) key.table key.token.value ≡ Some route.tablet = ap (λ v. view_with first log v key.table key.token.value) (sym at) ∙ sym (view_is opening history request.version key) ∙ shown in
    let one : left.tablet ≡ route.tablet = some_same left.tablet route.tablet (sym left.shown ∙ here) in
    let pair : IsPair route.tablet route.tablet = (pairs_law first valid.topology log (log_legal opening history legal)).same (last_version opening history) key.table key.token route.tablet here in
    let targets : request.targets ≡ writes_of route.tablet = route.targets ∙ ap (λ (o : Operation). targets_of (kind_of o) route.tablet) is in
    let there : has_host (writes_of route.tablet) from.host ≡ true = ap (λ replicas. has_host replicas from.host) (sym targets) ∙ host_of request.targets from among in
    let wrong : true ≡ false = sym left.cleanable ∙ ap (λ (t : Tablet). is_cleanable_host t from.host) one ∙ pair.spares.written_now.hosts from.host there in
    cc wrong

pub said_kept : (opening : Opening) → IsValidOpening opening → (history : History) → IsLegalHistory opening history → SaidKept opening history
said_kept opening valid =
    legal_induction opening (SaidKept opening)
    (λ lane op from request table token cell level begun is recent said. cc)
    step
  where
    step : (history : History) (event : Event) → IsLegalHistory opening history → HasActor opening event → IsFitEvent opening event → broken_rule opening history event ≡ None → SaidKept opening history → SaidKept opening (entry_of opening history event ∷ history)
    step history event legal actor fit fine before lane op from request table token cell level begun is recent said =
        elim (has_said history lane op from is_written) as (λ b. has_said history lane op from is_written ≡ b → (b || list_any (is_answer_of lane op from is_written) (outputs_of opening history event)) ≡ true → HoldsOrLeft opening (entry_of opening history event ∷ history) (key_of (WriteOf table token cell level)) cell from) [
          | true ↦ λ old h. kept old (request-then opening history (entry_of opening history event) lane op request (said_known opening history legal lane op from is_written old) begun)
          | false ↦ λ old h. inl (says_holds opening history event legal fine lane op from request table token cell level begun is h)
        ] refl said
      where
        kept : has_said history lane op from is_written ≡ true → request_at opening history lane op ≡ Some request → HoldsOrLeft opening (entry_of opening history event ∷ history) (key_of (WriteOf table token cell level)) cell from
        kept old begun_then =
            let entry = entry_of opening history event in
            let key = key_of (WriteOf table token cell level) in
            elim (before lane op from request table token cell level begun_then is (recent-before opening history entry request.version recent) old) [
              | inl holds_then ↦
                  (elim (drops opening history entry from.host key) as (λ b. drops opening history entry from.host key ≡ b → HoldsOrLeft opening (entry ∷ history) key cell from) [
                    | true ↦ λ dropped. inr (left-later opening history entry from.host key (drop_keeps_last opening history event from.host key dropped) (clean_lemma opening history event valid legal from.host key dropped))
                    | false ↦ λ none. inl (holds-later opening history entry key cell from none holds_then)
                  ]) refl
              | inr left ↦
                  elim (cases_lt (last_version opening history) (last_version opening (entry ∷ history))) [
                    | inr below ↦
                        let rises = last-rises opening history entry in
                        inr (left-later opening history entry from.host key (omega (arith, below, rises)) left)
                    | inl less ↦
                        let target : IsTarget opening history lane op from = said_target opening history legal lane op from is_written old in
                        let same : target.request ≡ request = some_same target.request request (sym target.begun ∙ begun_then) in
                        let among : has_replica request.targets from ≡ true = ap (λ (q : Request). has_replica q.targets from) (sym same) ∙ target.among in
                        let near = recent_last (last_version opening (entry ∷ history)) request.version.0 recent in
                        absurd (target_stays opening history lane op from request table token cell level valid legal begun_then is (omega (arith, less, near)) among left)
                  ]
            ]
