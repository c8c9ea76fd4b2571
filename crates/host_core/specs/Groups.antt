-- Where a host lays the cells of a table into runs: one for each tablet when it applies the command that makes the
-- table or resizes it, and one for each tablet to come when it tells that it is ready for a split, which a split that
-- is taken back leaves so. Before such a moment a table is as it was in the store that the host was given.
use Rattle.std.specs.Prelude.{ℕ, ◌+◌, ◌≡◌, ◌⊎◌, ◌^◌, Bool, true, false, nat_lt, Option, Some, None, option_map, find, if◌then◌else◌}
use Rattle.base_ids.specs.Names.{same_table}
use Rattle.base_ids.specs.declared.ids.TableId.{TableId}
use Rattle.barrier_core.specs.declared.data.What.{What}
use Rattle.barrier_core.specs.declared.data.What.TheVariants.{Ready}
use Rattle.topo_state.specs.State.{Topology}
use Rattle.topo_state.specs.Tables.{table_in}
use Rattle.topo_state.specs.Moves.{is_split_by}
use Rattle.topo_state.specs.declared.command.Command.{Command}
use Rattle.topo_state.specs.declared.command.Command.TheVariants.{CreateTable, FinalizeResize}
use Rattle.topo_state.specs.declared.data.Table.{Table}
use Rattle.replica_store.specs.Cells.{IsRegrouped}
use Rattle.host_core.specs.Host.{HostView, next_state}
use Rattle.host_core.specs.declared.data.HostInput.{HostInput}
use Rattle.host_core.specs.declared.data.HostInput.TheVariants.{Apply, Answer as AnswerAsk}
use Rattle.host_core.specs.declared.data.Made.{Made}
use Rattle.host_core.specs.declared.data.Made.TheVariants.{State, Sent}
use Rattle.host_core.specs.declared.grouping.Grouping.{Grouping}

-- the table that a command makes or resizes
abbrev pub grouped_table : Command → Option TableId
grouped_table (CreateTable id log2 replicas) = Some id
grouped_table (FinalizeResize id seq) = Some id
grouped_table command = None

-- a table as it is divided
abbrev pub grouping_as : Option Table → Option Grouping
grouping_as None = None
grouping_as (Some table) = Some (record { table = table.id; log2 = table.map.log2 })

abbrev pub grouping_for : Topology → Option TableId → Option Grouping
grouping_for state None = None
grouping_for state (Some id) = grouping_as (table_in state.tables id)

-- a table as it will be divided once it is split
abbrev pub grouping_split : Option Table → Option Grouping
grouping_split None = None
grouping_split (Some table) =
    if nat_lt table.map.log2 10 then Some (record { table = table.id; log2 = table.map.log2 + 1 }) else None

abbrev pub grouping_told : Topology → What → Option Grouping
grouping_told state (Ready number) = grouping_split (find (is_split_by number) state.tables)
grouping_told state what = None

abbrev pub grouping_next : Option Topology → Option TableId → Option Grouping
grouping_next None id = None
grouping_next (Some next) id = grouping_for next id

-- the state after a command, where it was made
abbrev pub state_in : Option Made → Option Topology
state_in (Some (State next)) = Some next
state_in (Some (Sent chunk)) = None
state_in None = None

-- by the state and the one after the command, where one is applied
abbrev pub grouping_by : Topology → Option Topology → HostInput → Option Grouping
grouping_by state next (Apply command) = grouping_next next (grouped_table command)
grouping_by state next (AnswerAsk ask) = grouping_told state ask.what
grouping_by state next input = None

-- the table that is regrouped at an input, and the logarithm of its count of runs afterwards
abbrev pub grouping_of : HostView → HostInput → Option Grouping
grouping_of view input = grouping_by view.state (next_state view input) input

-- the run counts after it, where they are told
abbrev pub runs_with : Option Grouping → (TableId → Option ℕ) → TableId → Option ℕ
runs_with None runs table = runs table
runs_with (Some grouping) runs table =
    if same_table table grouping.table then option_map (λ _. 2 ^ grouping.log2) (runs table) else runs table

abbrev pub is_grouped : Option Grouping → TableId → Bool
is_grouped None table = false
is_grouped (Some grouping) table = same_table table grouping.table

-- after want of memory each table has its run count, but that the one to be regrouped may have some power of two
abbrev pub AreLeft : Option Grouping → (TableId → Option ℕ) → (TableId → Option ℕ) → Type 0
AreLeft grouping before now =
    (table : TableId)
    → (now table ≡ before table) ⊎ ((is_grouped grouping table ≡ true) × IsRegrouped (before table) (now table))
