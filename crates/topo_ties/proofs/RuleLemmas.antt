-- The rule that a proposal breaks is the one that the coordinator finds.
use Rattle.std.proofs.Common.{Bool, List, None, Option, Some, [], ap, false, not, refl, sym, true, ◌&&◌, ◌||◌, ◌∙◌, ◌∷◌, ◌≡◌}
use Rattle.std.proofs.lemmas.List.Folds.{list_all-map}
use Rattle.std.specs.List.{list_all}
use Rattle.barrier_core.specs.Facts.{has_told, is_told}
use Rattle.barrier_core.specs.declared.data.Told.{Told}
use Rattle.barrier_core.specs.declared.data.What.TheVariants.{Clean as CleanOf, Done, Ready}
use Rattle.base_ids.specs.declared.ids.Replica.{Replica}
use Rattle.base_ids.specs.declared.ids.Session.{Session}
use Rattle.stage_graph.specs.declared.stage.Stage.{Stage}
use Rattle.stage_graph.specs.declared.stage.Stage.TheVariants.{WriteBothReadNew}
use Rattle.tablet_map.specs.declared.tablet.Tablet.{Tablet}
use Rattle.topo_state.specs.Moves.{cleans, is_split_by, move_of, streams}
use Rattle.topo_state.specs.State.{Topology}
use Rattle.topo_state.specs.Tables.{have_distinct_ids, table_in}
use Rattle.topo_state.specs.declared.command.Command.{Command}
use Rattle.topo_state.specs.declared.command.Command.TheVariants.{Advance, FinalizeResize, SetFence}
use Rattle.topo_state.specs.declared.data.Resize.{Resize as Decision}
use Rattle.topo_state.specs.declared.data.ResizeKind.{ResizeKind}
use Rattle.topo_state.specs.declared.data.ResizeKind.TheVariants.{Keep, Merge, Split}
use Rattle.topo_state.specs.declared.data.Table.{Table}
use Rattle.cluster_history.specs.Rules.{is_ready_table, lacks_cleaned, lacks_done, lacks_evidence, lacks_ready, propose_rule, replicas_told}
use Rattle.topo_coord.specs.Rules.{is_ready_tablet, awaits_cleaned as finds_no_cleaned, awaits_done as finds_no_done, awaits_evidence as finds_no_evidence, awaits_ready as finds_no_ready, lacks_ready_in, proposal_rule as rule_found, is_split_numbered}
use Rattle.topo_ties.proofs.SessionLemmas.{session_cleans, session_streams}

same_evidence : (state : Topology) (facts : List Told) (command : Command) → lacks_evidence state facts command ≡ finds_no_evidence state facts command
same_evidence state facts (SetFence version) = refl
same_evidence state facts command = refl

same_done_at : (state : Topology) (facts : List Told) (session : Session) (to : Option Stage) → have_distinct_ids state.tables ≡ true → lacks_done state facts (Advance session to) ≡ finds_no_done state facts (Advance session to)
same_done_at state facts session (Some WriteBothReadNew) distinct =
    ap (λ b. b && not (is_told facts (Done session))) (sym (session_streams state session distinct))
same_done_at state facts session to distinct = refl

same_done : (state : Topology) (facts : List Told) (command : Command) → have_distinct_ids state.tables ≡ true → lacks_done state facts command ≡ finds_no_done state facts command
same_done state facts (Advance session to) distinct = same_done_at state facts session to distinct
same_done state facts command distinct = refl

same_cleaned : (state : Topology) (facts : List Told) (command : Command) → have_distinct_ids state.tables ≡ true → lacks_cleaned state facts command ≡ finds_no_cleaned state facts command
same_cleaned state facts (Advance session to) distinct =
    ap (λ b. b && not (is_told facts (CleanOf session))) (sym (session_cleans state session distinct))
same_cleaned state facts command distinct = refl

-- ---- splits

same_tablet : (facts : List Told) (number : Session) (tablet : Tablet) → replicas_told facts (Ready number) tablet ≡ is_ready_tablet facts number tablet
same_tablet facts number tablet =
    list_all-map (has_told facts (Ready number)) (λ (replica : Replica). replica.host) tablet.replicas

same_tablets : (facts : List Told) (number : Session) (tablets : List Tablet) → list_all (replicas_told facts (Ready number)) tablets ≡ list_all (is_ready_tablet facts number) tablets
same_tablets facts number [] = refl
same_tablets facts number (tablet ∷ rest) = rw (same_tablet facts number tablet, same_tablets facts number rest) refl

kept_apart : (split ready : Bool) → not (not split || ready) ≡ (split && not ready)
kept_apart true ready = refl
kept_apart false ready = refl

same_split : (number : Session) (table : Table) → is_split_by number table ≡ is_split_numbered number table.resize
same_split number table = by table.resize
  where
    by : (decision : Option Decision) → Rattle.topo_state.specs.Moves.splits_by number decision ≡ is_split_numbered number decision
    by None = refl
    by (Some decision) = ap (λ b. Rattle.base_ids.specs.Names.same_session decision.seq number && b) (of decision.kind)
      where
        of : (kind : ResizeKind) → Rattle.topo_state.specs.Moves.is_split kind ≡ Rattle.topo_coord.specs.Rules.is_a_split kind
        of Split = refl
        of Merge = refl
        of Keep = refl

same_ready_in : (facts : List Told) (number : Session) (table : Option Table) → not (is_ready_table facts number table) ≡ lacks_ready_in facts number table
same_ready_in facts number None = refl
same_ready_in facts number (Some table) =
    kept_apart (is_split_by number table) (list_all (replicas_told facts (Ready number)) table.map.list)
    ∙ rw (same_split number table, same_tablets facts number table.map.list) refl

same_ready : (state : Topology) (facts : List Told) (command : Command) → lacks_ready state facts command ≡ finds_no_ready state facts command
same_ready state facts (FinalizeResize id number) = same_ready_in facts number (table_in state.tables id)
same_ready state facts command = refl

-- ---- all rules of a proposal

pub same_rule : (state : Topology) (facts : List Told) (command : Command) → have_distinct_ids state.tables ≡ true → propose_rule state facts command ≡ rule_found state facts command
same_rule state facts command distinct =
    rw (same_evidence state facts command, same_done state facts command distinct, same_cleaned state facts command distinct, same_ready state facts command) refl
