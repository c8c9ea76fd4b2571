-- What the book asks of the cluster, over its histories.
use Rattle.std.proofs.Common.{ap, arith, refl, subst, sym, ◌∙◌}
use Rattle.std.specs.Prelude.{Bool, List, None, Option, Some, [], false, is_some, length, true, ℕ, ◌+◌, ◌<◌, ◌∷◌, ◌≡◌, ◌≤◌}
use Rattle.base_ids.specs.Names.{same_actor, same_host}
use Rattle.base_ids.specs.declared.ids.Actor.{Actor}
use Rattle.base_ids.specs.declared.ids.Actor.TheVariants.{Host as ByHost, Lane as ByLane, Topo as ByTopo}
use Rattle.base_ids.specs.declared.ids.HostId.{HostId}
use Rattle.base_ids.specs.declared.ids.LaneId.{LaneId}
use Rattle.base_ids.specs.declared.ids.Version.{Version}
use Rattle.base_ids.specs.declared.rules.Appended.{Appended}
use Rattle.book_rule.specs.World.{IsBelow, IsForeign, IsLegal, IsQuiet, Laws, outcome_after, raised}
use Rattle.book_rule.specs.World.Kind.{begins, plain, quiets}
use Rattle.cluster_history.proofs.FrameLemmas.{floor_of-other, look_of-other}
use Rattle.cluster_history.proofs.LogLemmas.{has_version, version_below_last}
use Rattle.cluster_history.proofs.StayLemmas.{applied_state-other, enabled_events_stay, version_of-rises}
use Rattle.cluster_history.proofs.WithinLemmas.{applied_within}
use Rattle.cluster_history.specs.History.{History, actor_of}
use Rattle.cluster_history.specs.Legal.{IsLegalHistory, IsNext, entry_of}
use Rattle.cluster_history.specs.Openings.{HasHost, opening_state}
use Rattle.cluster_history.specs.Requests.{has_live_below}
use Rattle.cluster_history.specs.Rules.{quiet_rule}
use Rattle.cluster_history.specs.Stays.{hinders}
use Rattle.cluster_history.specs.Topology.{applied_count, floor_of, log_of, version_of}
use Rattle.cluster_history.specs.declared.data.Entry.{Entry}
use Rattle.cluster_history.specs.declared.data.Event.{Event}
use Rattle.cluster_history.specs.declared.data.Event.TheVariants.{Begin, Propose, Quiet}
use Rattle.cluster_history.specs.declared.data.Opening.{Opening}
use Rattle.cluster_history.specs.declared.data.Output.{Output}
use Rattle.cluster_history.specs.declared.data.Output.TheVariants.{Proposed}
use Rattle.history_facts.proofs.LegalLemmas.{as_event}
use Rattle.base_ids.proofs.NameLemmas.{same_host-refl}
use Rattle.topo_state.specs.Rules.{IsFit}
use Rattle.topo_state.specs.State.{Topology}
use Rattle.topo_state.specs.declared.command.Command.{Command}
use Rattle.topo_state.specs.declared.command.Rule.{Rule}
use Rattle.world_law.proofs.EntryLemmas.{begin_free, legal_of, log_alike, never_hindered, plain_event}
use Rattle.world_law.proofs.LiveLemmas.{live_at-next, live_at-other}
use Rattle.world_law.proofs.QuietLemmas.{may_promise}
use Rattle.world_law.specs.Worlds.{MayPropose, OpenedLog, author_of, kind_by, kind_of_entry, live_at, look_by, proposal_of, run_meaning, snapshot_of}

-- ---- what is enabled stays so

legal_with : (opening : Opening) (past : History) (entry : Entry) (actor : Actor) → IsForeign run_meaning opening past entry actor → IsLegalHistory opening (entry ∷ past)
legal_with opening past entry actor foreign = (foreign.next, legal_of opening past foreign.legal)

stays : (opening : Opening) (past : History) (entry mine : Entry) → IsForeign run_meaning opening past entry (author_of mine) → kind_of_entry mine ≡ plain → IsNext opening past mine → IsNext opening (entry ∷ past) mine
stays opening past entry mine foreign is next =
    let event = plain_event opening past mine next is in
    let kept = enabled_events_stay opening past entry mine.event (legal_with opening past entry (author_of mine) foreign) foreign.apart (never_hindered entry.event mine.event event.unused) next.enabled in
    record {
      actor = next.actor;
      fit = next.fit;
      enabled = kept.enabled;
      outputs = next.outputs ∙ sym (kept.outputs event.other);
    }

proposal_stays : (opening : Opening) (past : History) (entry : Entry) (topo : Actor) (command : Command) → IsForeign run_meaning opening past entry topo → MayPropose opening past topo command → MayPropose opening (entry ∷ past) topo command
proposal_stays opening past entry (ByTopo topo) command foreign may =
    let kept = enabled_events_stay opening past entry (Propose topo command) (legal_with opening past entry (ByTopo topo) foreign) foreign.apart (never_hindered entry.event (Propose topo command) refl) may.enabled in
    record { actor = may.actor; fit = may.fit; enabled = kept.enabled }
proposal_stays opening past entry actor command foreign may = absurd may

begin_by : (opening : Opening) (past : History) (entry : Entry) (event : Event) (outputs : List Output) (lane : LaneId) (version : Version) → IsForeign run_meaning opening past entry (ByLane lane) → actor_of event ≡ ByLane lane → kind_by event outputs ≡ begins version → (author_of entry ≡ ByHost lane.host → IsBelow (kind_of_entry entry) version) → IsNext opening past (record { event = event; outputs = outputs }) → IsNext opening (entry ∷ past) (record { event = event; outputs = outputs })
begin_by opening past entry (Begin by operation at) outputs lane version foreign is kind below next =
    let same : by ≡ lane = cc is in
    let number : at ≡ version = cc kind in
    let low : actor_of entry.event ≡ ByHost lane.host → IsBelow (kind_of_entry (entry_of opening past entry.event)) version =
    λ own. subst (λ (e : Entry). IsBelow (kind_of_entry e) version) (as_event opening past entry foreign.next) (below own) in
    let free : hinders entry.event (Begin by operation at) ≡ false =
    (λ i. hinders entry.event (Begin (same i) operation (number i))) ∙ begin_free opening past entry.event lane operation version low in
    let apart : same_actor (author_of entry) (ByLane by) ≡ false = ap (λ l. same_actor (author_of entry) (ByLane l)) same ∙ foreign.apart in
    let kept = enabled_events_stay opening past entry (Begin by operation at) (legal_with opening past entry (ByLane lane) foreign) apart free next.enabled in
    record {
      actor = next.actor;
      fit = next.fit;
      enabled = kept.enabled;
      outputs = next.outputs ∙ sym (kept.outputs refl);
    }
begin_by opening past entry event outputs lane version foreign is kind below next = cc kind

-- ---- the log

look_stays : (opening : Opening) (past : History) (entry : Entry) (topo : Actor) → IsForeign run_meaning opening past entry topo → look_by (entry ∷ past) topo ≡ look_by past topo
look_stays opening past entry (ByTopo topo) foreign = look_of-other past entry topo foreign.apart
look_stays opening past entry actor foreign = refl

proposer : (opening : Opening) (past : History) (topo : Actor) (command : Command) (outcome : Appended Rule) → MayPropose opening past topo command → author_of (proposal_of topo command outcome) ≡ topo
proposer opening past (ByTopo topo) command outcome may = refl
proposer opening past actor command outcome may = absurd may

fits : (opening : Opening) (past : History) (topo : Actor) (command : Command) → MayPropose opening past topo command → IsFit command
fits opening past (ByTopo topo) command may = may.fit
fits opening past actor command may = absurd may

proposal_next : (opening : Opening) (past : History) (topo : Actor) (command : Command) → MayPropose opening past topo command → IsNext opening past (proposal_of topo command (outcome_after run_meaning opening (log_of past) (look_by past topo) command))
proposal_next opening past (ByTopo topo) command may =
    record {
      actor = may.actor;
      fit = may.fit;
      enabled = may.enabled;
      outputs = refl;
    }
proposal_next opening past actor command may = absurd may

-- ---- versions in use

version_stays : (opening : Opening) (past : History) (entry : Entry) (host : HostId) → IsForeign run_meaning opening past entry (ByHost host) → version_of opening (entry ∷ past) host ≡ version_of opening past host
version_stays opening past entry host foreign =
    ap (λ (state : Topology). state.version) (applied_state-other opening past entry host (applied_within opening past host (legal_of opening past foreign.legal)) foreign.apart)

floor_by : (opening : Opening) (past : History) (event : Event) (host : HostId) → actor_of event ≡ ByHost host → floor_of (entry_of opening past event ∷ past) host ≡ raised (kind_of_entry (entry_of opening past event)) (floor_of past host)
floor_by opening past (Quiet by version) host is =
    let same : by ≡ host = cc in
    let here : same_host by host ≡ true = subst (λ h. same_host by h ≡ true) same (same_host-refl by) in
    rw here refl
floor_by opening past event host is = refl

floor_next : (opening : Opening) (past : History) (entry : Entry) (host : HostId) → IsNext opening past entry → author_of entry ≡ ByHost host → floor_of (entry ∷ past) host ≡ raised (kind_of_entry entry) (floor_of past host)
floor_next opening past entry host next own =
    subst (λ (e : Entry). floor_of (e ∷ past) host ≡ raised (kind_of_entry e) (floor_of past host)) (sym (as_event opening past entry next)) (floor_by opening past entry.event host own)

quiet_by : (opening : Opening) (past : History) (event : Event) (outputs : List Output) (host : HostId) (version : Version) → actor_of event ≡ ByHost host → kind_by event outputs ≡ quiets version → HasHost opening host → quiet_rule version (version_of opening past host) (has_live_below opening past host version) ≡ None → IsNext opening past (record { event = event; outputs = outputs })
quiet_by opening past (Quiet by at) [] host version is kind there fine =
    let same : by ≡ host = cc is in
    let number : at ≡ version = cc kind in
    record {
      actor = subst (HasHost opening) (sym same) there;
      fit = tt;
      enabled = (λ i. quiet_rule (number i) (version_of opening past (same i)) (has_live_below opening past (same i) (number i))) ∙ fine;
      outputs = refl;
    }
quiet_by opening past event outputs host version is kind there fine = cc kind

quiet_next : (opening : Opening) (past : History) (entry : Entry) (host : HostId) (version : Version) → HasHost opening host → author_of entry ≡ ByHost host → kind_of_entry entry ≡ quiets version → version.0 ≤ (version_of opening past host).0 → IsQuiet run_meaning opening past host version → IsNext opening past entry
quiet_next opening past entry host version there own kind reached quiet =
    quiet_by opening past entry.event entry.outputs host version own kind there
    (may_promise opening past host version (version_of opening past host) there reached
    (λ lane at inside is below. quiet lane at (subst (λ h. same_host lane.host h ≡ true) is (same_host-refl lane.host)) below))

-- ---- snapshots

found : (o : Option Topology) → is_some o ≡ true → (state : Topology) × (o ≡ Some state)
found (Some state) some = (state, refl)
found None some = cc some

snapshot_there : (opening : Opening) (past : History) (host : HostId) (version : Version) → 1 ≤ version.0 → version.0 ≤ (version_of opening past host).0 → (state : Topology) × (snapshot_of opening (log_of past) version ≡ Some state)
snapshot_there opening past host version above below =
    let last = version_below_last (opening_state opening) (log_of past) (applied_count past host) in
    found (snapshot_of opening (log_of past) version) (has_version (opening_state opening) (log_of past) version.0 above (omega (arith, below, last)))

-- ---- all of it

pub run_laws : Laws run_meaning
run_laws =
    record {
      proposer = proposer;
      fit = fits;
      proposed = λ topo command outcome. refl;
      stays = stays;
      proposal_stays = proposal_stays;
      begin_stays = λ opening past entry mine lane version foreign own kind below next.
          begin_by opening past entry mine.event mine.outputs lane version foreign own kind below next;
      log_first = λ opening. refl;
      log_next = λ opening past entry legal next. log_alike entry.event entry.outputs (log_of past);
      look_stays = look_stays;
      proposal_next = λ opening past topo command legal may. proposal_next opening past topo command may;
      floor_first = λ opening host. refl;
      version_first = λ opening host. refl;
      live_first = λ opening lane at. refl;
      floor_stays = λ opening past entry host foreign. floor_of-other past entry host foreign.apart;
      version_stays = version_stays;
      live_stays = λ opening past entry lane at foreign. live_at-other opening past entry lane at foreign.apart;
      version_rises = λ opening past entry host legal next own.
          version_of-rises opening past entry host (applied_within opening past host (legal_of opening past legal));
      floor_next = λ opening past entry host legal next own. floor_next opening past entry host next own;
      live_next = λ opening past entry lane at legal next own. live_at-next opening past entry lane at;
      quiet_next = λ opening past entry host version legal there own kind reached quiet.
          quiet_next opening past entry host version there own kind reached quiet;
      snapshot_there = λ opening past host version legal above below.
          snapshot_there opening past host version above below;
    }
