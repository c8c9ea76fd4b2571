-- What it is for a run to carry out a plan: of each entry, by the history before it, and of a coordinator's proposals.
use Rattle.std.specs.Bool.{OnTrue}
use Rattle.std.specs.Prelude.{None, Option, Some, [], length, nat_lt, slice_get, true, ℕ, ◌*◌, ◌+◌, ◌∷◌, ◌≡◌}
use Rattle.barrier_core.specs.declared.data.What.{What}
use Rattle.barrier_core.specs.declared.data.What.TheVariants.{Clean as CleanOf, Done, Drain, Fence as FenceAt, Ready}
use Rattle.base_ids.specs.declared.ids.Actor.{Actor}
use Rattle.base_ids.specs.declared.ids.HostId.{HostId}
use Rattle.base_ids.specs.declared.ids.MsgRef.{MsgRef}
use Rattle.topo_state.specs.State.{Topology}
use Rattle.topo_state.specs.declared.command.Command.{Command}
use Rattle.topo_state.specs.declared.command.Command.TheVariants.{SetFence}
use Rattle.cluster_history.specs.History.{History, actor_of, is_by}
use Rattle.cluster_history.specs.Requests.{begun_count, live_ops}
use Rattle.cluster_history.specs.Topology.{floor_of, seen_state}
use Rattle.cluster_history.specs.declared.data.Event.{Event}
use Rattle.cluster_history.specs.declared.data.Event.TheVariants.{Ask, Begin, Look, Propose, Pull, Quiet, Restart, Timeout}
use Rattle.cluster_history.specs.declared.data.Opening.{Opening}
use Rattle.plan_facts.specs.Moves.{AreShared, proposals_of}
use Rattle.plan_facts.specs.Own.{ask_count, chunk_count, has_acted, has_asked, has_looked, last_begun, pull_count, taken_count, taken_ref}
use Rattle.plan_facts.specs.Plan.{loses, most_takes, moves_of, script_of}
use Rattle.run_plan.specs.declared.plan.RunPlan.{RunPlan}

-- a coordinator asks after the version that it has seen, or after what it began last
abbrev pub IsAbout : Topology → Option ℕ → What → Type 0
IsAbout state begun (Drain version) = version ≡ state.version
IsAbout state begun (FenceAt version) = version ≡ state.version
IsAbout state begun (Done session) = begun ≡ Some session.0
IsAbout state begun (CleanOf session) = begun ≡ Some session.0
IsAbout state begun (Ready session) = begun ≡ Some session.0

-- a fence is set to the version that was seen, which is above its fence, once it was asked whether that is drained
abbrev pub IsFenceDue : History → HostId → Topology → Command → Type 0
IsFenceDue history topo state (SetFence version) =
    (version ≡ state.version)
    × (nat_lt state.fence.0 version.0 ≡ true)
    × (has_asked history topo (Drain version) ≡ true)
IsFenceDue history topo state command = Unit {0}

-- what the plan asks of an event by its kind, after the history before it
abbrev pub SuitsKind : RunPlan → Opening → History → Event → Type 0
SuitsKind plan opening history (Begin lane operation version) =
    (live_ops history lane ≡ []) × (slice_get (script_of plan lane) (begun_count history lane) ≡ Some operation)
SuitsKind plan opening history (Timeout lane op) = loses plan ≡ true
SuitsKind plan opening history (Quiet host version) = nat_lt (floor_of history host).0 version.0 ≡ true
SuitsKind plan opening history (Pull host session) =
    nat_lt (pull_count history host session) (chunk_count history host session + plan.patience) ≡ true
SuitsKind plan opening history (Look topo) = has_acted history topo ≡ true
SuitsKind plan opening history (Ask topo host what) =
    IsAbout (seen_state opening history topo) (last_begun history topo) what
    × (nat_lt (ask_count history topo host what) (plan.patience * length (moves_of plan topo)) ≡ true)
SuitsKind plan opening history (Propose topo command) =
    (has_looked history topo ≡ true) × IsFenceDue history topo (seen_state opening history topo) command
SuitsKind plan opening history (Restart actor) = ⊥
SuitsKind plan opening history event = Unit {0}

-- a message is taken no more often than the plan allows
abbrev pub IsTakenFew : RunPlan → Actor → History → Option MsgRef → Type 0
IsTakenFew plan actor history None = Unit {0}
IsTakenFew plan actor history (Some at) = nat_lt (taken_count actor history at) (most_takes plan) ≡ true

abbrev pub Suits : RunPlan → Opening → History → Event → Type 0
Suits plan opening history event =
    SuitsKind plan opening history event × IsTakenFew plan (actor_of event) history (taken_ref event)

-- each entry of the actor suits the plan
abbrev pub Carries : RunPlan → Opening → Actor → History → Type 0
Carries plan opening actor [] = Unit {0}
Carries plan opening actor (entry ∷ history) =
    OnTrue (is_by actor entry.event) (Suits plan opening history entry.event)
    × Carries plan opening actor history

-- each entry does, whoever's it is
abbrev pub AllCarry : RunPlan → Opening → History → Type 0
AllCarry plan opening [] = Unit {0}
AllCarry plan opening (entry ∷ history) =
    Suits plan opening history entry.event × AllCarry plan opening history

-- the run carries out the plan
pub record IsCarriedOut (plan : RunPlan) (opening : Opening) (history : History) : Type 0 where
  pub entries : AllCarry plan opening history
  pub moves : (topo : HostId) → AreShared (moves_of plan topo) (proposals_of opening history topo)
