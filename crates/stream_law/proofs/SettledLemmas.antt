-- Settled requests: they were begun, and become settled by what their targets said.
use Rattle.std.proofs.Common.{ap, arith, inl, inr, refl, subst, sym, ◌∙◌}
use Rattle.std.proofs.lemmas.Bool.{cases_lt}
use Rattle.std.proofs.lemmas.Bool.Decides.{nat_tests}
use Rattle.std.specs.List.{count_by}
use Rattle.std.specs.Option.{option_map}
use Rattle.std.specs.Prelude.{Bool, List, Option, Some, [], false, if◌then◌else◌, length, nat_le, not, true, ℕ, ◌&&◌, ◌+◌, ◌||◌, ◌∷◌, ◌≡◌, ◌≤◌, ◌⊎◌}
use Rattle.answer_law.proofs.CountLemmas.{count_more}
use Rattle.base_ids.specs.declared.ids.LaneId.{LaneId}
use Rattle.base_ids.specs.declared.ids.OpId.{OpId}
use Rattle.base_ids.specs.declared.ids.HostId.{HostId}
use Rattle.base_ids.specs.declared.ids.Replica.{Replica}
use Rattle.cell_merge.specs.declared.cell.Cell.{Cell}
use Rattle.cluster_history.specs.Held.{is_written}
use Rattle.cluster_history.specs.History.{History}
use Rattle.cluster_history.specs.Legal.{IsLegalHistory}
use Rattle.cluster_history.specs.Messages.{key_of, kind_of, level_of}
use Rattle.cluster_history.specs.Openings.{IsValidOpening, opening_state}
use Rattle.cluster_history.specs.Requests.{Request, begun_count, is_begin_of, is_live, request_at, targets_of}
use Rattle.cluster_history.specs.Topology.{log_of}
use Rattle.cluster_history.specs.declared.data.Entry.{Entry}
use Rattle.cluster_history.specs.declared.data.Opening.{Opening}
use Rattle.cluster_history.specs.declared.data.Operation.{Operation}
use Rattle.group0_log.proofs.StateLemmas.{at_last}
use Rattle.group0_log.specs.Log.{IsLegalLog, state_at, state_of}
use Rattle.history_facts.proofs.BegunLemmas.{live_begun, request_at-kept}
use Rattle.history_facts.proofs.HostLemmas.{log_legal}
use Rattle.base_ids.proofs.NameLemmas.{both_true}
use Rattle.history_facts.proofs.RouteLemmas.{routed}
use Rattle.history_facts.specs.Laws.{IsRouted}
use Rattle.log_law.proofs.LawLemmas.{pairs_law}
use Rattle.log_law.proofs.VersionLemmas.{with_below}
use Rattle.log_law.proofs.ViewLemmas.{view_of_version, view_with_of}
use Rattle.log_law.specs.Pairs.{IsPair, KeepsQuorum, Matters, is_cleanable_host}
use Rattle.log_law.specs.Pairs.Matters.{NewList}
use Rattle.log_law.specs.Stages.{view_with}
use Rattle.register_model.specs.declared.data.Key.{Key}
use Rattle.stage_graph.specs.Needs.{base_need, extra, needed}
use Rattle.stage_graph.specs.Table.{writes}
use Rattle.stage_graph.specs.declared.kind.Kind.{Kind}
use Rattle.stage_graph.specs.declared.stage.Stage.{Stage}
use Rattle.stage_graph.specs.declared.stage.Stage.TheVariants.{Streaming}
use Rattle.stage_graph.specs.declared.table.Selector.TheVariants.{New}
use Rattle.tablet_map.specs.declared.tablet.Tablet.{Tablet}
use Rattle.tablet_map.specs.declared.tablet.Transition.{Transition}
use Rattle.topo_state.specs.Lists.{chosen_list, is_both, stage_in, writes_both, writes_of}
use Rattle.topo_state.specs.State.{Topology}
use Rattle.topo_state.specs.Views.{view}
use Rattle.topo_state.specs.declared.command.Command.{Command}
use Rattle.stream_law.specs.Covered.{IsWriteOf, base_of, covered_count, held_at, holds, last_version}
use Rattle.stream_law.specs.Fed.{IsStreaming, SaidIsKept}
use Rattle.stream_law.specs.Settled.{has_enough, has_said, is_settled, written_count}

-- ---- when a request is settled

at_least : (a b : ℕ) → nat_le a b ≡ true → a ≤ b
at_least a b h = grind (arith, nat_tests)

-- it was not settled before, and now it is live and has enough
pub record IsNewlySettled (opening : Opening) (history : History) (entry : Entry) (lane : LaneId) (op : OpId) : Type 0 where
  pub fresh : is_settled opening history lane op ≡ false
  pub live : is_live (entry ∷ history) lane op ≡ true
  pub enough : has_enough (entry ∷ history) lane op (request_at opening (entry ∷ history) lane op) ≡ true

pub settled_cases : (opening : Opening) (history : History) (entry : Entry) (lane : LaneId) (op : OpId) → is_settled opening (entry ∷ history) lane op ≡ true → (is_settled opening history lane op ≡ true) ⊎ IsNewlySettled opening history entry lane op
settled_cases opening history entry lane op e =
    elim (is_settled opening history lane op) as (λ b. is_settled opening history lane op ≡ b → (b || (is_live (entry ∷ history) lane op && has_enough (entry ∷ history) lane op (request_at opening (entry ∷ history) lane op))) ≡ true → (is_settled opening history lane op ≡ true) ⊎ IsNewlySettled opening history entry lane op) [
      | true ↦ λ old h. inl old
      | false ↦ λ old h.
          let both = both_true (is_live (entry ∷ history) lane op) (has_enough (entry ∷ history) lane op (request_at opening (entry ∷ history) lane op)) h in
          inr (record { fresh = old; live = both.0; enough = both.1 })
    ] refl e

pub enough_said : (opening : Opening) (history : History) (entry : Entry) (lane : LaneId) (op : OpId) (request : Request) → IsNewlySettled opening history entry lane op → request_at opening (entry ∷ history) lane op ≡ Some request → request.need ≤ written_count (entry ∷ history) lane op request.targets
enough_said opening history entry lane op request new begun =
    at_least request.need (written_count (entry ∷ history) lane op request.targets) (ap (has_enough (entry ∷ history) lane op) (sym begun) ∙ new.enough)

pub begun-rises : (history : History) (entry : Entry) (lane : LaneId) → begun_count history lane ≤ begun_count (entry ∷ history) lane
begun-rises history entry lane =
    elim (is_begin_of lane entry.event) as (λ b. begun_count history lane ≤ (if b then begun_count history lane + 1 else begun_count history lane)) [ true ↦ omega arith | false ↦ omega arith ]

pub settled_begun : (opening : Opening) (history : History) (lane : LaneId) (op : OpId) → is_settled opening history lane op ≡ true → op.0 ≤ begun_count history lane
settled_begun opening [] lane op e = cc e
settled_begun opening (entry ∷ history) lane op e =
    elim (settled_cases opening history entry lane op e) [
      | inl old ↦
          let before = settled_begun opening history lane op old in
          let rises = begun-rises history entry lane in
          omega (arith, before, rises)
      | inr new ↦ live_begun (entry ∷ history) lane op new.live
    ]

-- what was settled before an entry writes as it does after it
pub write_before : (opening : Opening) (history : History) (entry : Entry) (lane : LaneId) (op : OpId) (request : Request) (key : Key) (cell : Cell) → is_settled opening history lane op ≡ true → IsWriteOf opening (entry ∷ history) lane op request key cell → IsWriteOf opening history lane op request key cell
write_before opening history entry lane op request key cell settled write =
    record { level = write.level; begun = sym (request_at-kept opening history entry lane op (settled_begun opening history lane op settled)) ∙ write.begun; writes = write.writes }

-- ---- a write that settles while the tablet streams is covered in the new list

some_tablet : (a b : Tablet) → Some a ≡ Some b → a ≡ b
some_tablet a b e = cc e

pub at_streaming : (tablet : Tablet) (transition : Transition) → tablet.transition ≡ Some transition → transition.stage ≡ Streaming → stage_in tablet ≡ Some Streaming
at_streaming tablet transition moving streams =
    ap (option_map (λ (t : Transition). t.stage)) moving ∙ ap (λ (s : Stage). Some s) streams

pub streaming_both : (tablet : Tablet) → stage_in tablet ≡ Some Streaming → writes_both tablet ≡ true
streaming_both tablet at = ap (λ (s : Option Stage). is_both (writes s)) at

module _ (opening : Opening) (history : History) (valid : IsValidOpening opening) (legal : IsLegalHistory opening history) (lane : LaneId) (op : OpId) (request : Request) (key : Key) (cell : Cell) (tablet : Tablet) (transition : Transition) (write : IsWriteOf opening history lane op request key cell) (streaming : IsStreaming opening history key tablet transition) (recent : last_version opening history ≤ request.version.0 + 1) (kept : SaidIsKept opening history) (enough : request.need ≤ written_count history lane op request.targets) where
  abbrev said : Replica → Bool
  said replica = has_said history lane op replica is_written

  -- by the tablet that the write went by, where a quorum of its targets is one of the new list now
  by_quorum :
      (old written : Tablet) → KeepsQuorum old tablet written → Matters old tablet written (chosen_list New tablet) → ((host : HostId) → is_cleanable_host tablet host ≡ false) →
      request.targets ≡ writes_of written → request.need ≡ base_need (level_of request.operation) (length written.replicas) + extra (writes (stage_in written)) → tablet.replicas ≡ written.replicas →
      base_of request tablet ≤ covered_count opening history key cell (chosen_list New tablet)
  by_quorum old written keeps matters spared targets need same =
      let told : request.need ≤ count_by said (writes_of written) = subst (λ replicas. request.need ≤ count_by said replicas) targets enough in
      let base : base_of request tablet ≡ base_need (level_of request.operation) (length written.replicas) = ap (λ replicas. base_need (level_of request.operation) (length replicas)) same in
      let quorum = keeps (chosen_list New tablet) matters said (base_of request tablet) (omega (arith, told, need, base)) in
      let more = count_more (λ (replica : Replica). said replica && not (is_cleanable_host tablet replica.host)) (holds (held_at opening history key) cell)
      (λ replica h.
      kept lane op request key cell tablet replica write recent streaming.seen (both_true (said replica) (not (is_cleanable_host tablet replica.host)) h).0 (spared replica.host))
      (chosen_list New tablet) in
      omega (arith, quorum, more)

  abbrev first : Topology
  first = opening_state opening

  abbrev log : List Command
  log = log_of history

  legal_log : IsLegalLog first log
  legal_log = log_legal opening history legal

  seen_last : view_with first log (last_version opening history) key.table key.token.value ≡ Some tablet
  seen_last =
      let whole : state_at first log (length log) ≡ state_of first log = at_last first log (length log) (omega arith) in
      ap (λ (s : Topology). view_with first log s.version.0 key.table key.token.value) (sym whole)
      ∙ view_of_version first log (length log) key.table key.token.value
      ∙ ap (λ (s : Topology). view s key.table key.token.value) whole
      ∙ streaming.seen

  at : stage_in tablet ≡ Some Streaming
  at = at_streaming tablet transition streaming.moving streaming.streams

  both : writes_both tablet ≡ true
  both = streaming_both tablet at

  -- the tablet that the write went by
  route : IsRouted opening history lane request
  route = routed opening history lane op request write.begun

  seen_then : view_with first log request.version.0 key.table key.token.value ≡ Some route.tablet
  seen_then =
      view_with_of first log request.version.0 route.state key.table key.token.value route.found
      ∙ ap (λ (o : Operation). view route.state (key_of o).table (key_of o).token.value) (sym write.writes)
      ∙ route.there

  targets : request.targets ≡ writes_of route.tablet
  targets = route.targets ∙ ap (λ (o : Operation). targets_of (kind_of o) route.tablet) write.writes

  need : request.need ≡ base_need (level_of request.operation) (length route.tablet.replicas) + extra (writes (stage_in route.tablet))
  need = route.need ∙ ap (λ (k : Kind). needed k (level_of request.operation) (length route.tablet.replicas) (stage_in route.tablet)) (ap kind_of write.writes)

  at_last_version : request.version.0 ≡ last_version opening history → base_of request tablet ≤ covered_count opening history key cell (chosen_list New tablet)
  at_last_version same =
      let is : route.tablet ≡ tablet =
      some_tablet route.tablet tablet (sym seen_then ∙ ap (λ (v : ℕ). view_with first log v key.table key.token.value) same ∙ seen_last) in
      let pair : IsPair tablet tablet = (pairs_law first valid.topology log legal_log).same (last_version opening history) key.table key.token tablet seen_last in
      by_quorum tablet tablet pair.kept_now (NewList both both) (pair.spares.both both) (targets ∙ ap writes_of is)
      (need ∙ ap (λ (t : Tablet). base_need (level_of request.operation) (length t.replicas) + extra (writes (stage_in t))) is) refl

  one_before : request.version.0 + 1 ≡ last_version opening history → base_of request tablet ≤ covered_count opening history key cell (chosen_list New tablet)
  one_before same =
      let seen_now : view_with first log (request.version.0 + 1) key.table key.token.value ≡ Some tablet =
      ap (λ (v : ℕ). view_with first log v key.table key.token.value) same ∙ seen_last in
      let pair : IsPair route.tablet tablet =
      (pairs_law first valid.topology log legal_log).next request.version.0 key.table key.token route.tablet tablet seen_then seen_now in
      let both_then : writes_both route.tablet ≡ true = pair.both.streams at in
      by_quorum route.tablet route.tablet pair.kept_before (NewList both both_then) (pair.spares.both both) targets need (pair.both.same_list both both_then)

  pub covered_in_new : base_of request tablet ≤ covered_count opening history key cell (chosen_list New tablet)
  covered_in_new =
      let known : request.version.0 ≤ last_version opening history = with_below first log request.version.0 route.state route.found in
      elim (cases_lt request.version.0 (last_version opening history)) [
        | inl below ↦ one_before (omega (arith, below, recent))
        | inr above ↦ at_last_version (omega (arith, above, known))
      ]
