-- What the end line tells, kept up entry by entry: no state of the topology is needed for it.
use Rattle.std.specs.Prelude.{None, Option, Some, length, ◌+◌, ◌≡◌}
use Rattle.base_ids.specs.declared.ids.Version.{Version}
use Rattle.cluster_history.specs.History.{History}
use Rattle.cluster_history.specs.Topology.{last_state, log_of}
use Rattle.cluster_history.specs.declared.data.Opening.{Opening}
use Rattle.topo_state.specs.After.{fence_set}
use Rattle.topo_state.specs.declared.command.Command.{Command}
use Rattle.report_text.specs.Report.{reply_count}
use Rattle.report_text.specs.declared.report.Tally.{Tally}

-- it tells of a history
pub record IsTally (opening : Opening) (history : History) (tally : Tally) : Type 0 where
  pub replies : tally.replies ≡ reply_count history
  pub log : tally.log ≡ length (log_of history)
  pub version : tally.version ≡ (last_state opening history).version
  pub fence : tally.fence ≡ (last_state opening history).fence

-- one accepted command more: a fence is set, or the version rises by one
abbrev pub tally_by : Tally → Option Version → Tally
tally_by tally None = record tally { log = tally.log + 1; version = record { 0 = tally.version.0 + 1 } }
tally_by tally (Some fence) = record tally { log = tally.log + 1; fence = fence }

abbrev pub tally_after : Tally → Option Command → Tally
tally_after tally None = tally
tally_after tally (Some command) = tally_by tally (fence_set command)
