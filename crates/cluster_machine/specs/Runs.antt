-- In how many runs a host's store lays the cells of each table that the host knows.
use Rattle.std.specs.Prelude.{All, Bool, List, None, Option, Some, [], length, not, slice_index_or, true, ℕ, ◌&&◌, ◌<◌, ◌^◌, ◌||◌, ◌∷◌, ◌≡◌}
use Rattle.base_ids.specs.Names.{same_table}
use Rattle.base_ids.specs.declared.ids.HostId.{HostId}
use Rattle.base_ids.specs.declared.ids.TableId.{TableId}
use Rattle.group0_log.specs.Log.{first_commands}
use Rattle.run_store.specs.Tables.{log2_of}
use Rattle.topo_state.specs.State.{Topology}
use Rattle.topo_state.specs.Tables.{table_in}
use Rattle.topo_state.specs.declared.command.Command.{Command}
use Rattle.topo_state.specs.declared.command.Command.TheVariants.{FinalizeResize, Resize}
use Rattle.topo_state.specs.declared.data.ResizeKind.TheVariants.{Merge, Split}
use Rattle.topo_state.specs.declared.data.Table.{Table}
use Rattle.cluster_history.specs.History.{History}
use Rattle.cluster_history.specs.Topology.{applied_count, applied_state, log_of}
use Rattle.cluster_history.specs.declared.data.Opening.{Opening}

-- ---- settled tables

-- the table is settled after a command, by whether it was before
abbrev pub settled_after : Command → TableId → Bool → Bool
settled_after (Resize id Split) table settled = not (same_table id table) && settled
settled_after (Resize id Merge) table settled = not (same_table id table) && settled
settled_after (FinalizeResize id seq) table settled = same_table id table || settled
settled_after command table settled = settled

-- By these commands, the newest first, no split and no merge of the table was decided since it was last resized, or at
-- all. A decision that was taken back leaves a table unsettled: hosts that were ready for it have its runs.
abbrev pub is_settled : List Command → TableId → Bool
is_settled [] table = true
is_settled (command ∷ commands) table = settled_after command table (is_settled commands table)

-- where it is settled no decision stands
abbrev pub IsWhole : List Command → Table → Type 0
IsWhole commands table = is_settled commands table.id ≡ true → table.resize ≡ None

-- ---- run counts

-- the run count of a table, as a store tells it
abbrev pub told_runs : List (TableId × ℕ) → TableId → Option ℕ
told_runs log2s table = Some (2 ^ log2_of log2s table)

-- each of these tables lies in as many runs as it has tablets
abbrev pub AreGrouped : List (TableId × ℕ) → List Table → Type 0
AreGrouped log2s tables = (place : ℕ) (none : Table) → place < length tables →
    2 ^ log2_of log2s (slice_index_or tables place none).id ≡ 2 ^ (slice_index_or tables place none).map.log2

-- after these commands each table of the state that is settled has no decision, and as many runs as it has tablets
pub record LieInRuns (state : Topology) (commands : List Command) (log2s : List (TableId × ℕ)) : Type 0 where
  pub whole : All (IsWhole commands) state.tables
  pub counts : (id : TableId) (table : Table) → table_in state.tables id ≡ Some table → is_settled commands id ≡ true →
      2 ^ log2_of log2s id ≡ 2 ^ table.map.log2

-- the commands that the host has applied, the newest first
abbrev pub applied_commands : History → HostId → List Command
applied_commands history host = first_commands (log_of history) (applied_count history host)

-- so it is of the host's state and the commands that it has applied
abbrev pub HaveRuns : Opening → History → HostId → List (TableId × ℕ) → Type 0
HaveRuns opening history host log2s =
    LieInRuns (applied_state opening history host) (applied_commands history host) log2s
