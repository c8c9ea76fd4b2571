-- The rules of a proposal, by the state that the coordinator has seen and by what it has heard: the first that is
-- broken, in order.
use Rattle.std.specs.Prelude.{Bool, true, false, not, ◌&&◌, ◌||◌, List, [], ◌∷◌, Option, Some, None, is_some, if◌then◌else◌}
use Rattle.std.specs.List.{list_all}
use Rattle.barrier_core.specs.Facts.{has_told, is_complete, is_told}
use Rattle.barrier_core.specs.declared.data.Told.{Told}
use Rattle.barrier_core.specs.declared.data.What.TheVariants.{Clean as CleanOf, Done, Ready}
use Rattle.base_ids.specs.Names.{same_session}
use Rattle.base_ids.specs.declared.ids.Replica.{Replica}
use Rattle.base_ids.specs.declared.ids.Session.{Session}
use Rattle.base_ids.specs.declared.rules.EventRule.{EventRule}
use Rattle.base_ids.specs.declared.rules.EventRule.TheVariants.{NoCleaned, NoDone, NoEvidence, NoReady}
use Rattle.stage_graph.specs.declared.stage.Stage.TheVariants.{WriteBothReadNew}
use Rattle.tablet_map.specs.declared.tablet.Tablet.{Tablet}
use Rattle.topo_state.specs.State.{Topology}
use Rattle.topo_state.specs.Tables.{table_in}
use Rattle.topo_state.specs.declared.command.Command.{Command}
use Rattle.topo_state.specs.declared.command.Command.TheVariants.{Advance, FinalizeResize, SetFence}
use Rattle.topo_state.specs.declared.data.Resize.{Resize as Decision}
use Rattle.topo_state.specs.declared.data.ResizeKind.{ResizeKind}
use Rattle.topo_state.specs.declared.data.ResizeKind.TheVariants.{Split, Merge, Keep}
use Rattle.topo_state.specs.declared.data.Table.{Table}
use Rattle.migrate_core.specs.Transitions.{transition_of, cleaned_host_in, streamed_host}

abbrev pub sets_fence : Command → Bool
sets_fence (SetFence version) = true
sets_fence command = false

-- requests of a version below the one that was seen may still be under way; a fence needs no evidence
abbrev pub awaits_evidence : Topology → List Told → Command → Bool
awaits_evidence state facts command =
    not (sets_fence command || is_complete facts state.version state.members state.before)

-- no host has told that it pulled all of a session that is left for reading the new replicas
abbrev pub awaits_done : Topology → List Told → Command → Bool
awaits_done state facts (Advance session (Some WriteBothReadNew)) =
    is_some (streamed_host (transition_of state session)) && not (is_told facts (Done session))
awaits_done state facts command = false

-- no host has told that it cleaned what a stage that is left cleans
abbrev pub awaits_cleaned : Topology → List Told → Command → Bool
awaits_cleaned state facts (Advance session to) =
    is_some (cleaned_host_in (transition_of state session)) && not (is_told facts (CleanOf session))
awaits_cleaned state facts command = false

abbrev pub is_a_split : ResizeKind → Bool
is_a_split Split = true
is_a_split Merge = false
is_a_split Keep = false

-- a decision to split that has this number
abbrev pub is_split_numbered : Session → Option Decision → Bool
is_split_numbered seq None = false
is_split_numbered seq (Some decision) = same_session decision.seq seq && is_a_split decision.kind

-- each host with a replica of the tablet has told that it is ready
abbrev pub is_ready_tablet : List Told → Session → Tablet → Bool
is_ready_tablet facts seq tablet =
    list_all (λ (replica : Replica). has_told facts (Ready seq) replica.host) tablet.replicas

abbrev pub lacks_ready_in : List Told → Session → Option Table → Bool
lacks_ready_in facts seq None = false
lacks_ready_in facts seq (Some table) =
    is_split_numbered seq table.resize && not (list_all (is_ready_tablet facts seq) table.map.list)

-- a table is to be split, and a host with a replica of it has not told that it is ready
abbrev pub awaits_ready : Topology → List Told → Command → Bool
awaits_ready state facts (FinalizeResize id seq) = lacks_ready_in facts seq (table_in state.tables id)
awaits_ready state facts command = false

-- tests with the rules that they break, and the first that is broken
abbrev pub first_lacking : List (Bool × EventRule) → Option EventRule
first_lacking [] = None
first_lacking (test ∷ tests) = if test.0 then Some test.1 else first_lacking tests

abbrev pub proposal_rule : Topology → List Told → Command → Option EventRule
proposal_rule state facts command =
    first_lacking (
    (awaits_evidence state facts command, NoEvidence)
    ∷ (awaits_done state facts command, NoDone)
    ∷ (awaits_cleaned state facts command, NoCleaned)
    ∷ (awaits_ready state facts command, NoReady)
    ∷ []
    )
