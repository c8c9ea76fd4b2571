-- What a planned proposal shows.
use Rattle.std.proofs.Common.{◌≡◌, ◌∙◌, Bool, true, false, cond, ◌&&◌, ◌||◌, not, List, ◌++◌, Option, Some, None, is_some, is_none, refl, sym, ap, true≢false}
use Rattle.std.proofs.lemmas.List.Folds.{list_all-append}
use Rattle.base_ids.specs.declared.ids.HostId.{HostId}
use Rattle.base_ids.specs.declared.ids.Session.{Session}
use Rattle.barrier_core.specs.declared.data.Told.{Told}
use Rattle.barrier_core.specs.declared.data.Mode.TheVariants.{Drained, Fenced}
use Rattle.barrier_core.specs.Facts.{is_complete, is_complete_by, first_without, fact_of, has_told, all_told, least_without}
use Rattle.barrier_core.proofs.FactLemmas.{least_without-none}
use Rattle.stage_graph.specs.declared.stage.Stage.{Stage}
use Rattle.stage_graph.specs.declared.stage.Stage.TheVariants.{AllowWriteBothReadOld, WriteBothReadOld, Streaming, WriteBothReadNew, UseNew, Cleanup, EndMigration, FallbackCleanup, CleanupTarget, RevertMigration}
use Rattle.stage_graph.specs.Table.{next_ok}
use Rattle.tablet_map.specs.declared.tablet.Transition.{Transition}
use Rattle.topo_state.specs.declared.command.Command.{Command}
use Rattle.topo_state.specs.declared.command.Command.TheVariants.{Advance}
use Rattle.topo_state.specs.State.{Topology}
use Rattle.migrate_core.specs.declared.next.Next.{Next}
use Rattle.migrate_core.specs.declared.next.Next.TheVariants.{Barrier, Stream, Clean, Propose, Nothing}
use Rattle.migrate_core.specs.Plan.{awaited_or, awaited_pull, awaited_cleanup, awaited_barrier, unless_told, next_for, plan_next}
use Rattle.migrate_core.specs.Transitions.{transition_of, target}

-- each stage's move is in the table
pub target_ok : (stage : Stage) (back : Bool) → next_ok stage (target stage back) ≡ true
target_ok AllowWriteBothReadOld true = refl
target_ok AllowWriteBothReadOld false = refl
target_ok WriteBothReadOld true = refl
target_ok WriteBothReadOld false = refl
target_ok Streaming true = refl
target_ok Streaming false = refl
target_ok WriteBothReadNew true = refl
target_ok WriteBothReadNew false = refl
target_ok UseNew back = refl
target_ok Cleanup back = refl
target_ok EndMigration back = refl
target_ok FallbackCleanup back = refl
target_ok CleanupTarget back = refl
target_ok RevertMigration back = refl

-- ---- barriers

not_not : (b : Bool) → not (not b) ≡ b
not_not true = refl
not_not false = refl

some_none : {X : Type 0} (o : Option X) → is_some o ≡ not (is_none o)
some_none None = refl
some_none (Some x) = refl

-- none is waited for where each host of both lists has drained the version
drained_none : (facts : List Told) (state : Topology) → is_none (first_without facts Drained state.version state.members state.before) ≡ is_complete_by Drained facts state.version state.members state.before
drained_none facts state =
    let what = fact_of Drained state.version in
    least_without-none facts what (state.members ++ state.before) ∙ list_all-append (has_told facts what) state.members state.before

pub barrier_awaited : (facts : List Told) (state : Topology) → is_some (awaited_barrier facts state) ≡ not (is_complete facts state.version state.members state.before)
barrier_awaited facts state =
    by
    (is_complete_by Drained facts state.version state.members state.before)
    (is_complete_by Fenced facts state.version state.members state.before)
    (first_without facts Drained state.version state.members state.before)
    (drained_none facts state)
  where
    by : (drained fenced : Bool) (first : Option HostId) → is_none first ≡ drained → is_some (unless_told (drained || fenced) first) ≡ not (drained || fenced)
    by true fenced first e = refl
    by false true first e = refl
    by false false first e = some_none first ∙ ap not e

pub barrier_passed : (facts : List Told) (state : Topology) → awaited_barrier facts state ≡ None → is_complete facts state.version state.members state.before ≡ true
barrier_passed facts state none =
    sym (not_not (is_complete facts state.version state.members state.before)) ∙ ap not (sym (barrier_awaited facts state) ∙ ap is_some none)

-- ---- proposals

-- a proposal comes of a transition, when nobody is waited for
pub record IsPlanned (state : Topology) (facts : List Told) (session : Session) (back : Bool) (command : Command) : Type 0 where
  pub transition : Transition
  pub found : transition_of state session ≡ Some transition
  pub pulled : awaited_pull facts session back transition ≡ None
  pub cleaned : awaited_cleanup facts session transition ≡ None
  pub passed : awaited_barrier facts state ≡ None
  pub command_is : command ≡ Advance session (target transition.stage back)

pub awaited_none : (ask : HostId → Next) (host : Option HostId) (next : Next) (command : Command) → ((h : HostId) → ask h ≡ Propose command → ⊥) → awaited_or ask host next ≡ Propose command → (host ≡ None) × (next ≡ Propose command)
awaited_none ask None next command asks e = (refl, e)
awaited_none ask (Some h) next command asks e = absurd (asks h e)

pub planned : (state : Topology) (facts : List Told) (session : Session) (back : Bool) (command : Command) → plan_next state facts session back ≡ Propose command → IsPlanned state facts session back command
planned state facts session back command plan = by (transition_of state session) refl plan
  where
    by : (t : Option Transition) → transition_of state session ≡ t → next_for state facts session back t ≡ Propose command → IsPlanned state facts session back command
    by None found e = cc
    by (Some t) found e =
        let last : Next = Propose (Advance session (target t.stage back)) in
        let barrier : Next = awaited_or Barrier (awaited_barrier facts state) last in
        let cleanup : Next = awaited_or Clean (awaited_cleanup facts session t) barrier in
        let first = awaited_none Stream (awaited_pull facts session back t) cleanup command (λ h asks. cc) e in
        let second = awaited_none Clean (awaited_cleanup facts session t) barrier command (λ h asks. cc) first.1 in
        let third = awaited_none Barrier (awaited_barrier facts state) last command (λ h asks. cc) second.1 in
        let proposed : last ≡ Propose command = third.1 in
        let same : command ≡ Advance session (target t.stage back) = cc in
        record { transition = t; found = found; pulled = first.0; cleaned = second.0; passed = third.0; command_is = same }
