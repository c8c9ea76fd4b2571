-- What hosts told is so.
use Rattle.std.proofs.Common.{ap, arith, inl, inr, refl, subst, sym, ◌∙◌}
use Rattle.std.proofs.lemmas.Bool.Decides.{nat_tests}
use Rattle.std.specs.Cmp.{unsigned_Decides}
use Rattle.std.specs.Prelude.{List, None, Option, Some, [], false, if◌then◌else◌, slice_get, true, ◌||◌, ◌∷◌, ◌≡◌, ◌≤◌}
use Rattle.barrier_core.specs.Facts.{has_told, noted_facts, same_told, same_what}
use Rattle.barrier_core.specs.declared.data.Fact.{Fact}
use Rattle.barrier_core.specs.declared.data.Told.{Told}
use Rattle.barrier_core.specs.declared.data.What.{What}
use Rattle.barrier_core.specs.declared.data.What.TheVariants.{Clean as CleanOf, Done, Drain, Fence as FenceAt, Ready}
use Rattle.base_ids.specs.Names.{same_host}
use Rattle.base_ids.specs.declared.ids.Actor.TheVariants.{Topo as ByTopo}
use Rattle.base_ids.specs.declared.ids.HostId.{HostId}
use Rattle.base_ids.specs.declared.ids.LaneId.{LaneId}
use Rattle.base_ids.specs.declared.ids.MsgRef.{MsgRef}
use Rattle.base_ids.specs.declared.ids.OpId.{OpId}
use Rattle.base_ids.specs.declared.ids.Replica.{Replica}
use Rattle.base_ids.specs.declared.ids.Version.{Version}
use Rattle.cluster_history.proofs.LogLemmas.{state_at-stays}
use Rattle.cluster_history.proofs.WithinLemmas.{applied_within}
use Rattle.cluster_history.specs.Held.{has_done}
use Rattle.cluster_history.specs.History.{History, is_restart_of, message_at}
use Rattle.cluster_history.specs.Legal.{IsLegalHistory}
use Rattle.cluster_history.specs.Openings.{opening_state}
use Rattle.cluster_history.specs.Outputs.{ask_of}
use Rattle.cluster_history.specs.Requests.{next_op}
use Rattle.cluster_history.specs.Rules.{is_so}
use Rattle.cluster_history.specs.Topology.{accepted_command, applied_count, applied_state, evidence_of, fact_in, fence_of, floor_of, heard_fact, log_of, with_fact}
use Rattle.cluster_history.specs.declared.data.Entry.{Entry}
use Rattle.cluster_history.specs.declared.data.Event.{Event}
use Rattle.cluster_history.specs.declared.data.Event.TheVariants.{Hear}
use Rattle.cluster_history.specs.declared.data.Message.{Message}
use Rattle.cluster_history.specs.declared.data.Message.TheVariants.{Fact as FactSent}
use Rattle.cluster_history.specs.declared.data.Opening.{Opening}
use Rattle.cluster_history.specs.declared.data.Operation.{Operation}
use Rattle.cluster_history.specs.declared.data.Operation.TheVariants.{Read as ReadOf, Write as WriteOf}
use Rattle.group0_log.specs.Log.{state_at}
use Rattle.history_facts.proofs.HostLemmas.{applied-rises, floor-rises, log_legal}
use Rattle.history_facts.proofs.LegalLemmas.{sent_split}
use Rattle.base_ids.proofs.NameLemmas.{both_true, same_host-same, same_session-same}
use Rattle.history_facts.proofs.SentLemmas.{Sends, sends}
use Rattle.history_facts.proofs.SentLemmas.Sends.{sends_ask, sends_chunk, sends_chunk_ask, sends_cleaned, sends_fact, sends_found, sends_not_mine, sends_question, sends_written}
use Rattle.log_law.proofs.RisingLemmas.{rising_states}
use Rattle.topo_state.specs.State.{Topology}
use Rattle.barrier_law.specs.Laws.{EvidenceIsTrue, HasReached, SentFactsAreTrue}

-- ---- fences do not fall

pub fence_of-rises :
    (opening : Opening) (history : History) (entry : Entry) (host : HostId) → IsLegalHistory opening (entry ∷ history) →
    (fence_of opening history host).0 ≤ (fence_of opening (entry ∷ history) host).0
fence_of-rises opening history entry host legal =
    let log = log_of (entry ∷ history) in
    let same : state_at (opening_state opening) log (applied_count history host) ≡ applied_state opening history host =
    state_at-stays (opening_state opening) (accepted_command entry.event entry.outputs) (log_of history) (applied_count history host) (applied_within opening history host legal.1) in
    let rises = (rising_states (opening_state opening) log (log_legal opening (entry ∷ history) legal) (applied_count history host) (applied_count (entry ∷ history) host) (applied-rises history entry host)).fence in
    subst (λ (state : Topology). state.fence.0 ≤ (fence_of opening (entry ∷ history) host).0) same rises

pub so-later :
    (opening : Opening) (history : History) (entry : Entry) (host : HostId) (what : What) → IsLegalHistory opening (entry ∷ history) →
    HasReached opening history host what → HasReached opening (entry ∷ history) host what
so-later opening history entry host (Drain version) legal so =
    let rises = floor-rises history entry host in omega (arith, so, rises)
so-later opening history entry host (FenceAt version) legal so =
    let rises = fence_of-rises opening history entry host legal in omega (arith, so, rises)
so-later opening history entry host what legal so = tt

-- ---- facts that were sent

told_so :
    (opening : Opening) (history : History) (host : HostId) (what : What) →
    is_so (floor_of history host) (applied_state opening history host) (has_done opening history host) what ≡ true → HasReached opening history host what
told_so opening history host (Drain version) e = grind (arith, nat_tests)
told_so opening history host (FenceAt version) e = grind (arith, nat_tests)
told_so opening history host what e = tt

-- what a message tells
abbrev Tells : Opening → History → Message → Type 0
Tells opening history (FactSent fact) = HasReached opening history fact.from fact.what
Tells opening history message = Unit {0}

asks_only : (opening : Opening) (history : History) (lane : LaneId) (op : OpId) (version : Version) (operation : Operation) (to : Replica) → Tells opening history (ask_of lane op version operation to)
asks_only opening history lane op version (WriteOf table token cell level) to = tt
asks_only opening history lane op version (ReadOf table token level) to = tt

told_fresh : (opening : Opening) (history : History) (event : Event) (message : Message) → Sends opening history event message → Tells opening history message
told_fresh opening history event message (sends_ask {lane = lane} {operation = operation} {version = version} route to is among) = asks_only opening history lane (next_op history lane) version operation to
told_fresh opening history event message (sends_fact ask asked here so) =
    subst (λ host. HasReached opening history host ask.what) (sym here) (told_so opening history _ ask.what so)
told_fresh opening history event message (sends_cleaned ask session asked here what mine) =
    subst (HasReached opening history ask.to) (sym what) tt
told_fresh opening history event message (sends_written ask asked here) = tt
told_fresh opening history event message (sends_found ask asked here) = tt
told_fresh opening history event message (sends_chunk ask asked here) = tt
told_fresh opening history event message (sends_not_mine ask session asked here what mine) = tt
told_fresh opening history event message (sends_chunk_ask pull is) = tt
told_fresh opening history event message sends_question = tt

tells-later : (opening : Opening) (history : History) (entry : Entry) (message : Message) → IsLegalHistory opening (entry ∷ history) → Tells opening history message → Tells opening (entry ∷ history) message
tells-later opening history entry (FactSent fact) legal tells = so-later opening history entry fact.from fact.what legal tells
tells-later opening history entry message legal tells = tt

all_tell : (opening : Opening) (history : History) → IsLegalHistory opening history → (at : MsgRef) (message : Message) → message_at history at ≡ Some message → Tells opening history message
all_tell opening [] legal at message e = cc e
all_tell opening (entry ∷ history) legal at message e =
    tells-later opening history entry message legal
    (elim (sent_split entry history at message e) [
      | inl fresh ↦
          told_fresh opening history entry.event message
          (sends opening history entry.event at.out message legal.0.enabled (ap (λ outputs. slice_get outputs at.out) (sym legal.0.outputs) ∙ fresh))
      | inr old ↦ all_tell opening history legal.1 at message old
    ])

pub sent_facts : SentFactsAreTrue
sent_facts opening history at fact legal e = all_tell opening history legal at (FactSent fact) e

-- ---- facts that were heard

what_same : (a b : What) → same_what a b ≡ true → a ≡ b
what_same (Drain a) (Drain b) e = ap (λ n. Drain (record { 0 = n })) ((unsigned_Decides a.0 b.0).0 e)
what_same (FenceAt a) (FenceAt b) e = ap (λ n. FenceAt (record { 0 = n })) ((unsigned_Decides a.0 b.0).0 e)
what_same (Done a) (Done b) e = ap Done (same_session-same a b e)
what_same (CleanOf a) (CleanOf b) e = ap CleanOf (same_session-same a b e)
what_same (Ready a) (Ready b) e = ap Ready (same_session-same a b e)
what_same a b e = cc e

heard_is : (history : History) (topo : HostId) (event : Event) (fact : Fact) → heard_fact history topo event ≡ Some fact → (at : MsgRef) × (message_at history at ≡ Some (FactSent fact))
heard_is history topo (Hear by at) fact e = (
  at,
  elim (same_host by topo) as (λ b. (if b then fact_in (message_at history at) else None) ≡ Some fact → message_at history at ≡ Some (FactSent fact)) [
    | true ↦ λ f. in_message (message_at history at) f
    | false ↦ λ f. cc f
  ] e,
)
  where
    in_message : (message : Option Message) → fact_in message ≡ Some fact → message ≡ Some (FactSent fact)
    in_message (Some (FactSent other)) f = let same : other ≡ fact = cc f in ap (λ x. Some (FactSent x)) same
    in_message message f = cc f
heard_is history topo event fact e = cc e

noted_so :
    (opening : Opening) (history : History) (facts : List Told) (fact : Fact) (host : HostId) (what : What) →
    HasReached opening history fact.from fact.what → (has_told facts what host ≡ true → HasReached opening history host what) →
    has_told (noted_facts facts fact) what host ≡ true → HasReached opening history host what
noted_so opening history facts fact host what so older told =
    (elim (has_told facts fact.what fact.from) as (λ b. has_told (if b then facts else record { from = fact.from; what = fact.what } ∷ facts) what host ≡ true → HasReached opening history host what) [
      | true ↦ older
      | false ↦ λ f.
          (elim (same_told (record { from = host; what = what }) (record { from = fact.from; what = fact.what })) as (λ b. same_told (record { from = host; what = what }) (record { from = fact.from; what = fact.what }) ≡ b → (b || has_told facts what host) ≡ true → HasReached opening history host what) [
            | true ↦ λ same g.
                let both = both_true (same_host host fact.from) (same_what what fact.what) same in
                subst (λ x. HasReached opening history x what) (sym (same_host-same host fact.from both.0))
                (subst (HasReached opening history fact.from) (sym (what_same what fact.what both.1)) so)
            | false ↦ λ same g. older g
          ]) refl f
    ]) told

pub heard_facts : EvidenceIsTrue
heard_facts opening [] topo host what legal told = cc told
heard_facts opening (entry ∷ history) topo host what legal told =
    so-later opening history entry host what legal
    ((elim (is_restart_of (ByTopo topo) entry.event) as (λ b. has_told (if b then [] else with_fact (heard_fact history topo entry.event) (evidence_of history topo)) what host ≡ true → HasReached opening history host what) [
      | true ↦ λ f. cc f
      | false ↦ λ f. by_fact (heard_fact history topo entry.event) refl (heard_facts opening history topo host what legal.1) f
    ]) told)
  where
    by_fact : (heard : Option Fact) → heard_fact history topo entry.event ≡ heard → (has_told (evidence_of history topo) what host ≡ true → HasReached opening history host what) → has_told (with_fact heard (evidence_of history topo)) what host ≡ true → HasReached opening history host what
    by_fact None is older f = older f
    by_fact (Some fact) is older f =
        let sent = heard_is history topo entry.event fact is in
        noted_so opening history (evidence_of history topo) fact host what (sent_facts opening history sent.0 fact legal.1 sent.1) older f
