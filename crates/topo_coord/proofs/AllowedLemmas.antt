-- A planned proposal breaks no rule of the coordinator.
use Rattle.std.proofs.Common.{◌≡◌, ◌∙◌, Bool, true, false, cond, ◌&&◌, not, List, [], ◌∷◌, ◌++◌, map, Option, Some, None, is_some, is_none, refl, sym, ap}
use Rattle.std.proofs.lemmas.List.Folds.{list_all-append, list_all-map}
use Rattle.std.specs.List.{list_all}
use Rattle.base_ids.specs.Names.{same_session}
use Rattle.base_ids.specs.declared.ids.HostId.{HostId}
use Rattle.base_ids.specs.declared.ids.Replica.{Replica}
use Rattle.base_ids.specs.declared.ids.Session.{Session}
use Rattle.base_ids.specs.declared.ids.TableId.{TableId}
use Rattle.base_ids.specs.declared.rules.EventRule.TheVariants.{NoCleaned, NoDone, NoEvidence, NoReady}
use Rattle.barrier_core.specs.declared.data.Told.{Told}
use Rattle.barrier_core.specs.declared.data.What.TheVariants.{Clean as CleanOf, Done, Ready as ReadyFor}
use Rattle.barrier_core.specs.Facts.{has_told, is_told, all_told, least_without}
use Rattle.barrier_core.proofs.FactLemmas.{least_without-none}
use Rattle.stage_graph.specs.declared.stage.Stage.{Stage}
use Rattle.stage_graph.specs.declared.stage.Stage.TheVariants.{AllowWriteBothReadOld, WriteBothReadOld, Streaming, WriteBothReadNew, UseNew, Cleanup, EndMigration, FallbackCleanup, CleanupTarget, RevertMigration}
use Rattle.tablet_map.specs.declared.tablet.Tablet.{Tablet}
use Rattle.tablet_map.specs.declared.tablet.Transition.{Transition}
use Rattle.topo_state.specs.declared.command.Command.{Command}
use Rattle.topo_state.specs.declared.command.Command.TheVariants.{Advance, FinalizeResize}
use Rattle.topo_state.specs.declared.data.Resize.{Resize as Decision}
use Rattle.topo_state.specs.declared.data.ResizeKind.{ResizeKind}
use Rattle.topo_state.specs.declared.data.ResizeKind.TheVariants.{Split, Merge, Keep}
use Rattle.topo_state.specs.declared.data.Table.{Table}
use Rattle.topo_state.specs.State.{Topology}
use Rattle.topo_state.specs.Tables.{table_in}
use Rattle.migrate_core.specs.declared.next.Next.{Next}
use Rattle.migrate_core.specs.declared.next.Next.TheVariants.{Barrier, Ready, Propose, Nothing}
use Rattle.migrate_core.specs.Plan.{awaited_or, awaited_pull, awaited_cleanup, awaited_barrier, unless_told, plan_next}
use Rattle.migrate_core.specs.Transitions.{transition_of, target, streamed_at, cleaned_at, streamed_host, cleaned_host_in}
use Rattle.migrate_core.proofs.PlanLemmas.{planned, awaited_none, barrier_passed}
use Rattle.resize_core.specs.Plan.{hosts_of, replica_hosts, awaited_ready, next_for_decision, next_for_table, plan_resize}
use Rattle.topo_coord.specs.Rules.{first_lacking, proposal_rule, awaits_evidence, awaits_done, awaits_cleaned, awaits_ready, lacks_ready_in, is_ready_tablet, is_split_numbered, is_a_split}

-- no test breaks its rule
none_broken : (a b c d : Bool) → a ≡ false → b ≡ false → c ≡ false → d ≡ false → first_lacking ((a, NoEvidence) ∷ (b, NoDone) ∷ (c, NoCleaned) ∷ (d, NoReady) ∷ []) ≡ None
none_broken a b c d ea eb ec ed = rw (ea, eb, ec, ed) refl

and_false : (b : Bool) → (b && false) ≡ false
and_false true = refl
and_false false = refl

told_of : (told : Bool) (host : HostId) → unless_told told (Some host) ≡ None → told ≡ true
told_of true host e = refl
told_of false host e = cc

-- ---- moves

done_there : (state : Topology) (facts : List Told) (session : Session) (back : Bool) (t : Transition) → awaited_pull facts session back t ≡ None → awaits_done state facts (Advance session (target t.stage back)) ≡ false
done_there state facts session back t pulled = by t.stage back pulled
  where
    by : (stage : Stage) (way_back : Bool) → awaited_pull facts session way_back (record t { stage = stage }) ≡ None → awaits_done state facts (Advance session (target stage way_back)) ≡ false
    by AllowWriteBothReadOld true e = refl
    by AllowWriteBothReadOld false e = refl
    by WriteBothReadOld true e = refl
    by WriteBothReadOld false e = refl
    by Streaming true e = refl
    by Streaming false e =
        let told : is_told facts (Done session) ≡ true = told_of (is_told facts (Done session)) t.pending.host e in
        ap (λ b. is_some (streamed_host (transition_of state session)) && not b) told ∙ and_false (is_some (streamed_host (transition_of state session)))
    by WriteBothReadNew true e = refl
    by WriteBothReadNew false e = refl
    by UseNew way_back e = refl
    by Cleanup way_back e = refl
    by EndMigration way_back e = refl
    by FallbackCleanup way_back e = refl
    by CleanupTarget way_back e = refl
    by RevertMigration way_back e = refl

cleaned_there : (state : Topology) (facts : List Told) (session : Session) (to : Option Stage) (t : Transition) → transition_of state session ≡ Some t → awaited_cleanup facts session t ≡ None → awaits_cleaned state facts (Advance session to) ≡ false
cleaned_there state facts session to t found cleaned =
    ap (λ o. is_some (cleaned_host_in o) && not (is_told facts (CleanOf session))) found ∙ by (is_told facts (CleanOf session)) (cleaned_at t.stage t) cleaned
  where
    by : (told : Bool) (host : Option HostId) → unless_told told host ≡ None → (is_some host && not told) ≡ false
    by true host e = and_false (is_some host)
    by false None e = refl
    by false (Some h) e = cc

pub move_allowed : (state : Topology) (facts : List Told) (session : Session) (back : Bool) (command : Command) → plan_next state facts session back ≡ Propose command → proposal_rule state facts command ≡ None
move_allowed state facts session back command plan =
    let p = planned state facts session back command plan in
    let to : Option Stage = target p.transition.stage back in
    ap (proposal_rule state facts) p.command_is ∙ none_broken (awaits_evidence state facts (Advance session to)) (awaits_done state facts (Advance session to)) (awaits_cleaned state facts (Advance session to)) (awaits_ready state facts (Advance session to))
    (ap not (barrier_passed facts state p.passed)) (done_there state facts session back p.transition p.pulled) (cleaned_there state facts session to p.transition p.found p.cleaned) refl

-- ---- resizes

ready_tablets : (facts : List Told) (seq : Session) (tablets : List Tablet) → all_told facts (ReadyFor seq) (replica_hosts tablets) ≡ list_all (is_ready_tablet facts seq) tablets
ready_tablets facts seq [] = refl
ready_tablets facts seq (tablet ∷ rest) =
    list_all-append (has_told facts (ReadyFor seq)) (hosts_of tablet.replicas) (replica_hosts rest) ∙ ap (λ b. b && all_told facts (ReadyFor seq) (replica_hosts rest)) (list_all-map (has_told facts (ReadyFor seq)) (λ (replica : Replica). replica.host) tablet.replicas) ∙ ap (λ b. is_ready_tablet facts seq tablet && b) (ready_tablets facts seq rest)

ready_there : (facts : List Told) (seq : Session) (table : Table) (decision : Decision) → table.resize ≡ Some decision → awaited_ready facts decision.kind seq table.map.list ≡ None → lacks_ready_in facts seq (Some table) ≡ false
ready_there facts seq table decision decided ready =
    ap (λ d. is_split_numbered seq d && not (list_all (is_ready_tablet facts seq) table.map.list)) decided ∙ by decision.kind ready
  where
    by : (kind : ResizeKind) → awaited_ready facts kind seq table.map.list ≡ None → (same_session decision.seq seq && is_a_split kind && not (list_all (is_ready_tablet facts seq) table.map.list)) ≡ false
    by Split e =
        let all : list_all (is_ready_tablet facts seq) table.map.list ≡ true = sym (ready_tablets facts seq table.map.list) ∙ sym (least_without-none facts (ReadyFor seq) (replica_hosts table.map.list)) ∙ ap is_none e in
        ap (λ b. same_session decision.seq seq && true && not b) all ∙ and_false (same_session decision.seq seq && true)
    by Merge e = ap (λ b. b && not (list_all (is_ready_tablet facts seq) table.map.list)) (and_false (same_session decision.seq seq))
    by Keep e = ap (λ b. b && not (list_all (is_ready_tablet facts seq) table.map.list)) (and_false (same_session decision.seq seq))

-- a proposal comes of a decision, when nobody is waited for
record IsDecided (state : Topology) (facts : List Told) (id : TableId) (seq : Session) (command : Command) : Type 0 where
  pub passed : awaited_barrier facts state ≡ None
  pub ready : lacks_ready_in facts seq (table_in state.tables id) ≡ false
  pub command_is : command ≡ FinalizeResize id seq

decided : (state : Topology) (facts : List Told) (id : TableId) (seq : Session) (command : Command) → plan_resize state facts id seq ≡ Propose command → IsDecided state facts id seq command
decided state facts id seq command plan = by (table_in state.tables id) refl plan
  where
    last : Next
    last = Propose (FinalizeResize id seq)

    barrier : Next
    barrier = awaited_or Barrier (awaited_barrier facts state) last

    on_decision : (table : Table) (decision : Decision) → table_in state.tables id ≡ Some table → table.resize ≡ Some decision → (mine : Bool) → same_session decision.seq seq ≡ mine → cond mine (awaited_or Ready (awaited_ready facts decision.kind seq table.map.list) barrier) Nothing ≡ Propose command → IsDecided state facts id seq command
    on_decision table decision found resize false mine e = cc
    on_decision table decision found resize true mine e =
        let first = awaited_none Ready (awaited_ready facts decision.kind seq table.map.list) barrier command (λ h asks. cc) e in
        let second = awaited_none Barrier (awaited_barrier facts state) last command (λ h asks. cc) first.1 in
        let proposed : last ≡ Propose command = second.1 in
        let same : command ≡ FinalizeResize id seq = cc in
        record {
          passed = second.0;
          ready = ap (lacks_ready_in facts seq) found ∙ ready_there facts seq table decision resize first.0;
          command_is = same;
        }

    on_table : (table : Table) → table_in state.tables id ≡ Some table → (decision : Option Decision) → table.resize ≡ decision → next_for_decision state facts id table.map.list seq decision ≡ Propose command → IsDecided state facts id seq command
    on_table table found None resize e = cc
    on_table table found (Some decision) resize e = on_decision table decision found resize (same_session decision.seq seq) refl e

    by : (table : Option Table) → table_in state.tables id ≡ table → next_for_table state facts id seq table ≡ Propose command → IsDecided state facts id seq command
    by None found e = cc
    by (Some table) found e = on_table table found table.resize refl e

pub resize_allowed : (state : Topology) (facts : List Told) (id : TableId) (seq : Session) (command : Command) → plan_resize state facts id seq ≡ Propose command → proposal_rule state facts command ≡ None
resize_allowed state facts id seq command plan =
    let p = decided state facts id seq command plan in
    ap (proposal_rule state facts) p.command_is ∙ none_broken (awaits_evidence state facts (FinalizeResize id seq)) (awaits_done state facts (FinalizeResize id seq)) (awaits_cleaned state facts (FinalizeResize id seq)) (awaits_ready state facts (FinalizeResize id seq))
    (ap not (barrier_passed facts state p.passed)) refl refl p.ready
