-- The first state of each version, along a log.
use Rattle.std.specs.Prelude.{List, None, Option, Some, if◌then◌else◌, length, slice_get, ℕ, ◌+◌, ◌-◌, ◌==◌, ◌≡◌, ◌∷◌}
use Rattle.base_ids.specs.declared.ids.Version.{Version}
use Rattle.base_ids.specs.declared.rules.Appended.{Appended}
use Rattle.base_ids.specs.declared.rules.Appended.TheVariants.{Accepted}
use Rattle.base_ids.specs.Outcomes.{outcome_of}
use Rattle.group0_log.specs.Log.{CommandLog, state_of, state_with}
use Rattle.topo_state.specs.Rules.{rule}
use Rattle.topo_state.specs.State.{Topology}
use Rattle.topo_state.specs.declared.command.Command.{Command}
use Rattle.topo_state.specs.declared.command.Command.TheVariants.{SetFence}
use Rattle.topo_state.specs.declared.command.Rule.{Rule}

-- the first state of a version of the log, or none
abbrev pub first_with : CommandLog → Version → Option Topology
first_with log version = state_with log.first log.commands version.0

-- at each place, from 0, the first state of the version above it, up to the version of the last state
pub record AreFirst (log : CommandLog) (snapshots : List Topology) : Type 0 where
  pub begins : log.first.version.0 ≡ 1
  pub count : length snapshots ≡ (state_of log.first log.commands).version.0
  pub each : (place : ℕ) → slice_get snapshots place ≡ state_with log.first log.commands (place + 1)

-- the one of this version, where it is there
abbrev pub snapshot_in : List Topology → Version → Option Topology
snapshot_in snapshots version = if version.0 == 0 then None else slice_get snapshots (version.0 - 1)

-- the state that a command makes, where it is the first of its version: a fence raises no version
abbrev pub raised : Command → Topology → Option Topology
raised (SetFence version) next = None
raised command next = Some next

-- what becomes of a command by one that has read the state of this number
abbrev pub outcome_in : CommandLog → ℕ → Command → Appended Rule
outcome_in log read command =
    outcome_of read (length log.commands) (rule (state_of log.first log.commands) command)

-- the first state of the next version, where an outcome makes one
abbrev pub next_first : CommandLog → Command → Appended Rule → Option Topology
next_first log command (Accepted index) = raised command (state_of log.first (command ∷ log.commands))
next_first log command outcome = None
