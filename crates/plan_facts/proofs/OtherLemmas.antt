-- What of a history is an actor's own stays as it is past an entry of another.
use Rattle.std.proofs.Common.{ap, refl, subst, sym, ◌∙◌}
use Rattle.std.specs.Bool.{OnTrue}
use Rattle.std.specs.Prelude.{List, None, Option, Some, false, length, nat_lt, slice_get, true, ℕ, ◌*◌, ◌∷◌, ◌≡◌}
use Rattle.barrier_core.specs.declared.data.What.{What}
use Rattle.barrier_core.specs.declared.data.What.TheVariants.{Drain}
use Rattle.base_ids.specs.declared.ids.Actor.{Actor}
use Rattle.base_ids.specs.declared.ids.Actor.TheVariants.{Host as ByHost, Lane as ByLane, Topo as ByTopo}
use Rattle.base_ids.specs.declared.ids.HostId.{HostId}
use Rattle.base_ids.specs.declared.ids.LaneId.{LaneId}
use Rattle.base_ids.specs.declared.ids.MsgRef.{MsgRef}
use Rattle.base_ids.specs.declared.ids.Session.{Session}
use Rattle.base_ids.specs.declared.ids.Version.{Version}
use Rattle.topo_state.specs.State.{Topology}
use Rattle.topo_state.specs.declared.command.Command.{Command}
use Rattle.topo_state.specs.declared.command.Command.TheVariants.{SetFence}
use Rattle.cluster_history.specs.Held.{taken_chunk}
use Rattle.cluster_history.specs.History.{History, actor_of, is_by}
use Rattle.cluster_history.specs.Topology.{seen_state}
use Rattle.cluster_history.specs.declared.data.Entry.{Entry}
use Rattle.cluster_history.specs.declared.data.Event.{Event}
use Rattle.cluster_history.specs.declared.data.Event.TheVariants.{Ask, Begin, Look, Propose, Pull, Quiet, Restart, TakeChunk, Timeout}
use Rattle.cluster_history.specs.declared.data.Opening.{Opening}
use Rattle.cluster_history.specs.declared.data.Output.{Output}
use Rattle.cluster_history.proofs.FrameLemmas.{begun_count-other, floor_of-other, live_ops-other, look-other, pull-other}
use Rattle.cluster_history.proofs.StayLemmas.{seen_state-other}
use Rattle.plan_facts.specs.Moves.{Proposal, proposals_of, with_proposal}
use Rattle.plan_facts.specs.Own.{ask_count, asks_it, asks_of_any, begun_number, chunk_count, has_acted, has_asked, has_looked, has_raised, is_ask_of, is_chunk_of, is_proposal_of, is_timeout_of, last_begun, own_count, pull_count, taken_count, taken_ref, timeout_count}
use Rattle.plan_facts.specs.Plan.{most_takes, moves_of, script_of}
use Rattle.plan_facts.specs.Suits.{Carries, IsAbout, IsFenceDue, IsTakenFew, Suits, SuitsKind}
use Rattle.run_plan.specs.declared.plan.RunPlan.{RunPlan}

-- ---- counts

pub own_count-other : (history : History) (entry : Entry) (actor : Actor) → is_by actor entry.event ≡ false → own_count actor (entry ∷ history) ≡ own_count actor history
own_count-other history entry actor e = rw e refl

pub taken_count-other : (history : History) (entry : Entry) (actor : Actor) (at : MsgRef) → is_by actor entry.event ≡ false → taken_count actor (entry ∷ history) at ≡ taken_count actor history at
taken_count-other history entry actor at e = rw e refl

pull_count-other : (history : History) (entry : Entry) (host : HostId) (session : Session) → is_by (ByHost host) entry.event ≡ false → pull_count (entry ∷ history) host session ≡ pull_count history host session
pull_count-other history entry host session e = rw (pull-other host session entry.event e) refl

no_chunk : (history : History) (host : HostId) (session : Session) (event : Event) → is_by (ByHost host) event ≡ false → is_chunk_of session (taken_chunk history host event) ≡ false
no_chunk history host session (TakeChunk by at) e = rw e refl
no_chunk history host session event e = refl

chunk_count-other : (history : History) (entry : Entry) (host : HostId) (session : Session) → is_by (ByHost host) entry.event ≡ false → chunk_count (entry ∷ history) host session ≡ chunk_count history host session
chunk_count-other history entry host session e = rw (no_chunk history host session entry.event e) refl

no_timeout : (lane : LaneId) (event : Event) → is_by (ByLane lane) event ≡ false → is_timeout_of lane event ≡ false
no_timeout lane (Timeout by op) e = e
no_timeout lane event e = refl

pub timeouts-other : (history : History) (entry : Entry) (lane : LaneId) → is_by (ByLane lane) entry.event ≡ false → timeout_count lane (entry ∷ history) ≡ timeout_count lane history
timeouts-other history entry lane e = rw (no_timeout lane entry.event e) refl

-- ---- coordinators

proposal-other : (topo : HostId) (event : Event) → is_by (ByTopo topo) event ≡ false → is_proposal_of topo event ≡ false
proposal-other topo (Propose by command) e = e
proposal-other topo event e = refl

ask-other : (topo : HostId) (event : Event) → is_by (ByTopo topo) event ≡ false → is_ask_of topo event ≡ false
ask-other topo (Ask by host what) e = e
ask-other topo event e = refl

pub has_looked-other : (history : History) (entry : Entry) (topo : HostId) → is_by (ByTopo topo) entry.event ≡ false → has_looked (entry ∷ history) topo ≡ has_looked history topo
has_looked-other history entry topo e = rw (look-other topo entry.event e, proposal-other topo entry.event e) refl

pub has_acted-other : (history : History) (entry : Entry) (topo : HostId) → is_by (ByTopo topo) entry.event ≡ false → has_acted (entry ∷ history) topo ≡ has_acted history topo
has_acted-other history entry topo e =
    rw (look-other topo entry.event e, proposal-other topo entry.event e, ask-other topo entry.event e) refl

asks_any-other : (topo : HostId) (what : What) (event : Event) → is_by (ByTopo topo) event ≡ false → asks_of_any topo what event ≡ false
asks_any-other topo what (Ask by host asked) e = rw e refl
asks_any-other topo what event e = refl

pub has_asked-other : (history : History) (entry : Entry) (topo : HostId) (what : What) → is_by (ByTopo topo) entry.event ≡ false → has_asked (entry ∷ history) topo what ≡ has_asked history topo what
has_asked-other history entry topo what e = rw (asks_any-other topo what entry.event e) refl

raised_by-other : (topo : HostId) (event : Event) (outputs : List Output) → is_by (ByTopo topo) event ≡ false → has_raised topo event outputs ≡ false
raised_by-other topo (Propose by command) outputs e = rw e refl
raised_by-other topo event outputs e = refl

asks_it-other : (topo : HostId) (host : HostId) (what : What) (event : Event) → is_by (ByTopo topo) event ≡ false → asks_it topo host what event ≡ false
asks_it-other topo host what (Ask by to asked) e = rw e refl
asks_it-other topo host what event e = refl

pub ask_count-other : (history : History) (entry : Entry) (topo : HostId) (host : HostId) (what : What) → is_by (ByTopo topo) entry.event ≡ false → ask_count (entry ∷ history) topo host what ≡ ask_count history topo host what
ask_count-other history entry topo host what e =
    rw (raised_by-other topo entry.event entry.outputs e, asks_it-other topo host what entry.event e) refl

begun-other : (topo : HostId) (event : Event) (outputs : List Output) → is_by (ByTopo topo) event ≡ false → begun_number topo event outputs ≡ None
begun-other topo (Propose by command) outputs e = rw e refl
begun-other topo event outputs e = refl

pub last_begun-other : (history : History) (entry : Entry) (topo : HostId) → is_by (ByTopo topo) entry.event ≡ false → last_begun (entry ∷ history) topo ≡ last_begun history topo
last_begun-other history entry topo e = rw (begun-other topo entry.event entry.outputs e) refl

proposed-other : (topo : HostId) (state : Topology) (event : Event) (outputs : List Output) (proposals : List Proposal) → is_by (ByTopo topo) event ≡ false → with_proposal topo state event outputs proposals ≡ proposals
proposed-other topo state (Propose by command) outputs proposals e = rw e refl
proposed-other topo state event outputs proposals e = refl

pub proposals_of-other : (opening : Opening) (history : History) (entry : Entry) (topo : HostId) → is_by (ByTopo topo) entry.event ≡ false → proposals_of opening (entry ∷ history) topo ≡ proposals_of opening history topo
proposals_of-other opening history entry topo e =
    proposed-other topo (seen_state opening history topo) entry.event entry.outputs (proposals_of opening history topo) e

-- ---- what the plan asks

about-other : (state other : Topology) (begun later : Option ℕ) (what : What) → other ≡ state → later ≡ begun → IsAbout state begun what → IsAbout other later what
about-other state other begun later what is same h =
    subst (λ (s : Topology). IsAbout s later what) (sym is) (subst (λ b. IsAbout state b what) (sym same) h)

fence-other : (history : History) (entry : Entry) (topo : HostId) (state other : Topology) (command : Command) → is_by (ByTopo topo) entry.event ≡ false → other ≡ state → IsFenceDue history topo state command → IsFenceDue (entry ∷ history) topo other command
fence-other history entry topo state other (SetFence version) e is h =
    (h.0 ∙ ap (λ (s : Topology). s.version) (sym is), ap (λ (s : Topology). nat_lt s.fence.0 version.0) is ∙ h.1, has_asked-other history entry topo (Drain version) e ∙ h.2)
fence-other history entry topo state other command e is h = h

pub kind-other : (plan : RunPlan) (opening : Opening) (history : History) (entry : Entry) (event : Event) → is_by (actor_of event) entry.event ≡ false → SuitsKind plan opening history event → SuitsKind plan opening (entry ∷ history) event
kind-other plan opening history entry (Begin lane operation version) e h =
    (live_ops-other history entry lane e ∙ h.0, ap (slice_get (script_of plan lane)) (begun_count-other history entry lane e) ∙ h.1)
kind-other plan opening history entry (Timeout lane op) e h = h
kind-other plan opening history entry (Quiet host version) e h =
    ap (λ (floor : Version). nat_lt floor.0 version.0) (floor_of-other history entry host e) ∙ h
kind-other plan opening history entry (Pull host session) e h =
    rw (pull_count-other history entry host session e, chunk_count-other history entry host session e) h
kind-other plan opening history entry (Look topo) e h = has_acted-other history entry topo e ∙ h
kind-other plan opening history entry (Ask topo host what) e h = (
  about-other (seen_state opening history topo) (seen_state opening (entry ∷ history) topo) (last_begun history topo) (last_begun (entry ∷ history) topo) what (seen_state-other opening history entry topo e) (last_begun-other history entry topo e) h.0,
  ap (λ n. nat_lt n (plan.patience * length (moves_of plan topo))) (ask_count-other history entry topo host what e) ∙ h.1,
)
kind-other plan opening history entry (Propose topo command) e h = (
  has_looked-other history entry topo e ∙ h.0,
  fence-other history entry topo (seen_state opening history topo) (seen_state opening (entry ∷ history) topo) command e (seen_state-other opening history entry topo e) h.1,
)
kind-other plan opening history entry (Restart actor) e h = h
kind-other plan opening history entry event e h = h

few-other : (plan : RunPlan) (actor : Actor) (history : History) (entry : Entry) (at : Option MsgRef) → is_by actor entry.event ≡ false → IsTakenFew plan actor history at → IsTakenFew plan actor (entry ∷ history) at
few-other plan actor history entry None e h = h
few-other plan actor history entry (Some at) e h =
    ap (λ n. nat_lt n (most_takes plan)) (taken_count-other history entry actor at e) ∙ h

pub suits-other : (plan : RunPlan) (opening : Opening) (history : History) (entry : Entry) (event : Event) → is_by (actor_of event) entry.event ≡ false → Suits plan opening history event → Suits plan opening (entry ∷ history) event
suits-other plan opening history entry event e h =
    (kind-other plan opening history entry event e h.0, few-other plan (actor_of event) history entry (taken_ref event) e h.1)

pub carries-other : (plan : RunPlan) (opening : Opening) (actor : Actor) (history : History) (entry : Entry) → is_by actor entry.event ≡ false → Carries plan opening actor history → Carries plan opening actor (entry ∷ history)
carries-other plan opening actor history entry e h =
    (subst (λ b. OnTrue b (Suits plan opening history entry.event)) (sym e) tt, h)

pub carries-own : (plan : RunPlan) (opening : Opening) (actor : Actor) (history : History) (entry : Entry) → is_by actor entry.event ≡ true → Suits plan opening history entry.event → Carries plan opening actor history → Carries plan opening actor (entry ∷ history)
carries-own plan opening actor history entry e suits h =
    (subst (λ b. OnTrue b (Suits plan opening history entry.event)) (sym e) suits, h)
