-- Whom a request asks is a host of the opening.
use Rattle.std.proofs.Common.{ap, refl, subst, sym, ◌∙◌, inl, inr}
use Rattle.std.specs.Prelude.{Bool, IfSome, List, None, Option, Some, [], false, if◌then◌else◌, reverse, slice_get, true, ℕ, ◌==◌, ◌||◌, ◌∷◌, ◌≡◌}
use Rattle.base_ids.specs.Replicas.{has_replica}
use Rattle.base_ids.specs.declared.ids.HostId.{HostId}
use Rattle.base_ids.specs.declared.ids.LaneId.{LaneId}
use Rattle.base_ids.specs.declared.ids.MsgRef.{MsgRef}
use Rattle.base_ids.specs.declared.ids.OpId.{OpId}
use Rattle.base_ids.specs.declared.ids.Replica.{Replica}
use Rattle.base_ids.specs.declared.ids.Version.{Version}
use Rattle.cluster_history.specs.History.{History, entry_at, output_at, output_of}
use Rattle.cluster_history.specs.Legal.{IsLegalHistory, IsLegalRun, history_of}
use Rattle.cluster_history.specs.Messages.{key_of, kind_of, level_of}
use Rattle.cluster_history.specs.Openings.{HasHost, IsValidOpening, opening_state}
use Rattle.cluster_history.specs.Outputs.{ask_of}
use Rattle.cluster_history.specs.Requests.{Route, is_live, next_op, targets_of, way_by, way_in}
use Rattle.cluster_history.specs.Requests.Way.{Ends, Goes}
use Rattle.cluster_history.specs.Topology.{log_of, state_of_version}
use Rattle.cluster_history.specs.declared.data.Entry.{Entry}
use Rattle.cluster_history.specs.declared.data.Event.{Event}
use Rattle.cluster_history.specs.declared.data.Journal.{Journal}
use Rattle.cluster_history.specs.declared.data.Message.{Message}
use Rattle.cluster_history.specs.declared.data.Opening.{Opening}
use Rattle.cluster_history.specs.declared.data.Operation.{Operation}
use Rattle.cluster_history.specs.declared.data.Operation.TheVariants.{Read as ReadOf, Write as WriteOf}
use Rattle.cluster_history.specs.declared.data.Output.{Output}
use Rattle.cluster_history.specs.declared.data.Output.TheVariants.{Proposed, Pulled, Reply as Replied, Sent}
use Rattle.group0_log.specs.Log.{IsLegalLog}
use Rattle.history_facts.proofs.EntryLemmas.{next_at}
use Rattle.history_facts.proofs.HostLemmas.{log_legal}
use Rattle.history_facts.proofs.SentLemmas.{Sends, sends}
use Rattle.history_facts.proofs.SentLemmas.Sends.{sends_ask, sends_chunk, sends_chunk_ask, sends_cleaned, sends_fact, sends_found, sends_not_mine, sends_question, sends_written}
use Rattle.log_law.proofs.StateLemmas.{topology_with}
use Rattle.log_law.proofs.ViewLemmas.{view_sound}
use Rattle.log_law.specs.Laws.{IsSoundView}
use Rattle.quorum_ops.specs.declared.data.Reply.TheVariants.{NotMember}
use Rattle.stage_graph.specs.Table.{reads, writes}
use Rattle.stage_graph.specs.declared.kind.Kind.{Kind}
use Rattle.stage_graph.specs.declared.level.Level.{Level}
use Rattle.stage_graph.specs.declared.kind.Kind.TheVariants.{Read as ReadKind, Write as WriteKind}
use Rattle.tablet_map.specs.declared.tablet.Tablet.{Tablet}
use Rattle.topo_state.specs.Lists.{stage_in}
use Rattle.topo_state.specs.State.{Topology, is_member}
use Rattle.topo_state.specs.Views.{view}
use Rattle.history_facts.specs.Prefixes.{history_before}
use Rattle.schedule_play.proofs.MemberLemmas.{member_with}
use Rattle.schedule_play.specs.Tasks.{ask_at, asked_by, asked_in, live_target, target_of}
use Rattle.schedule_play.specs.declared.tasks.Target.{Target}
use Rattle.tablet_map.proofs.Members.{host_of}

-- the host that is asked, if one is, is in the opening
abbrev IsWithin : Opening → Option (OpId × HostId) → Type 0
IsWithin opening asked = IfSome asked (λ (ask : OpId × HostId). HasHost opening ask.1)

or_first : (b c : Bool) → b ≡ true → (b || c) ≡ true
or_first true c e = refl
or_first false c e = cc e

or_second : (b c : Bool) → c ≡ true → (b || c) ≡ true
or_second true c e = refl
or_second false c e = e

-- a target of a sound tablet on members is on one
target_member : (members : List HostId) (kind : Kind) (tablet : Tablet) (to : Replica) → IsSoundView members tablet → has_replica (targets_of kind tablet) to ≡ true → is_member members to.host ≡ true
target_member members ReadKind tablet to sound is = sound.within (reads (stage_in tablet)) to.host (host_of (targets_of ReadKind tablet) to is)
target_member members WriteKind tablet to sound is = sound.within (writes (stage_in tablet)) to.host (host_of (targets_of WriteKind tablet) to is)

seen_target : (state : Topology) (kind : Kind) (level : Level) (operation : Operation) (shown : Option Tablet) (route : Route) (to : Replica)
    → ((tablet : Tablet) → shown ≡ Some tablet → IsSoundView state.members tablet)
    → way_by kind level shown ≡ Goes route → has_replica route.targets to ≡ true → is_member state.members to.host ≡ true
seen_target state kind level operation None route to sound goes is = cc goes
seen_target state kind level operation (Some tablet) route to sound goes is =
    let same : targets_of kind tablet ≡ route.targets = cc goes in
    target_member state.members kind tablet to (sound tablet refl) (ap (λ (l : List Replica). has_replica l to) same ∙ is)

state_target : (opening : Opening) (history : History) (host : HostId) (operation : Operation) (version : Version) (state : Option Topology) (route : Route) (to : Replica)
    → IsValidOpening opening → IsLegalLog (opening_state opening) (log_of history)
    → state_of_version opening history version ≡ state → way_in state host operation ≡ Goes route → has_replica route.targets to ≡ true → HasHost opening to.host
state_target opening history host operation version None route to valid legal found goes is = cc goes
state_target opening history host operation version (Some state) route to valid legal found goes is =
    elim (is_member state.members host) as (λ (b : Bool). (if b then way_by (kind_of operation) (level_of operation) (view state (key_of operation).table (key_of operation).token.value) else Ends NotMember) ≡ Goes route → HasHost opening to.host) [
      | true ↦ λ e.
          let sound = topology_with (opening_state opening) valid.topology.sound (log_of history) legal version.0 state found in
          member_with opening history version state to.host valid legal found
          (seen_target state (kind_of operation) (level_of operation) operation (view state (key_of operation).table (key_of operation).token.value) route to
          (λ tablet shown. view_sound state sound.each (key_of operation).table (key_of operation).token tablet shown) e is)
      | false ↦ λ e. cc e
    ] goes

asks_host : (opening : Opening) (lane : LaneId) (op : OpId) (version : Version) (operation : Operation) (to : Replica) → HasHost opening to.host → IsWithin opening (asked_in (ask_of lane op version operation to))
asks_host opening lane op version (WriteOf table token cell level) to has = has
asks_host opening lane op version (ReadOf table token level) to has = has

-- what an event sends asks a host of the opening, if it asks one to serve a request
sent_within : (opening : Opening) (history : History) (event : Event) (message : Message) → IsValidOpening opening → IsLegalLog (opening_state opening) (log_of history) → Sends opening history event message → IsWithin opening (asked_in message)
sent_within opening history event message valid legal (sends_ask {lane = lane} {operation = operation} {version = version} route to goes is) =
    asks_host opening lane (next_op history lane) version operation to
    (state_target opening history lane.host operation version (state_of_version opening history version) route to valid legal refl goes is)
sent_within opening history event message valid legal (sends_written ask at to) = tt
sent_within opening history event message valid legal (sends_found ask at to) = tt
sent_within opening history event message valid legal (sends_chunk ask at to) = tt
sent_within opening history event message valid legal (sends_fact ask at to so) = tt
sent_within opening history event message valid legal (sends_cleaned ask session at to what is) = tt
sent_within opening history event message valid legal (sends_not_mine ask session at to what is) = tt
sent_within opening history event message valid legal (sends_chunk_ask pull is) = tt
sent_within opening history event message valid legal sends_question = tt

output_within : (opening : Opening) (history : History) (event : Event) (outputs : List Output) (out : ℕ) → IsValidOpening opening → IsLegalLog (opening_state opening) (log_of history)
    → ((message : Message) → slice_get outputs out ≡ Some (Sent message) → Sends opening history event message)
    → (output : Option Output) → slice_get outputs out ≡ output → IsWithin opening (asked_by output)
output_within opening history event outputs out valid legal sent None is = tt
output_within opening history event outputs out valid legal sent (Some (Sent message)) is = sent_within opening history event message valid legal (sent message is)
output_within opening history event outputs out valid legal sent (Some (Replied op version kind reply)) is = tt
output_within opening history event outputs out valid legal sent (Some (Pulled session)) is = tt
output_within opening history event outputs out valid legal sent (Some (Proposed outcome)) is = tt

entry_within : (opening : Opening) (history : History) (number out : ℕ) → IsValidOpening opening → IsLegalHistory opening history
    → (entry : Option Entry) → entry_at history number ≡ entry → IsWithin opening (asked_by (output_of entry out))
entry_within opening history number out valid legal None is = tt
entry_within opening history number out valid legal (Some entry) is =
    let at = next_at opening history legal number entry is in
    let before = history_before history number in
    output_within opening before entry.event entry.outputs out valid (log_legal opening before at.legal)
    (λ message e. sends opening before entry.event out message at.next.enabled (ap (λ (l : List Output). slice_get l out) (sym at.next.outputs) ∙ e))
    (slice_get entry.outputs out) refl

run_within : (journal : Journal) (at : MsgRef) → IsLegalRun journal → IsWithin journal.opening (asked_by (output_at (history_of journal) at))
run_within journal at (inl legal) =
    entry_within journal.opening (history_of journal) at.event at.out legal.0 legal.1 (entry_at (history_of journal) at.event) refl
run_within journal at (inr none) =
    subst (λ (entries : List Entry). IsWithin journal.opening (asked_by (output_at (reverse entries) at))) (sym none.1) tt

live_has : (journal : Journal) (lane : LaneId) (asked : Option (OpId × HostId)) (host : HostId) → IsWithin journal.opening asked → live_target journal lane asked ≡ Some host → HasHost journal.opening host
live_has journal lane None host within is = cc is
live_has journal lane (Some asked) host within is =
    elim (is_live (history_of journal) lane asked.0) as (λ (b : Bool). (if b then Some asked.1 else None) ≡ Some host → HasHost journal.opening host) [
      | true ↦ λ e. (let same : asked.1 ≡ host = cc e in subst (λ (h : HostId). HasHost journal.opening h) same within)
      | false ↦ λ e. cc e
    ] is

-- the next target of a request is a host of the opening
pub target_has : (journal : Journal) (target : Target) (host : HostId) → IsLegalRun journal → target_of journal target ≡ Some host → HasHost journal.opening host
target_has journal target host legal is =
    live_has journal target.lane (asked_by (output_at (history_of journal) (ask_at target))) host (run_within journal (ask_at target) legal) is
