use Rattle.std.proofs.Common.{◌-◌, ◌≤◌, length}
use Rattle.cluster_history.specs.Topology.{log_of}
use Rattle.engine_desk.specs.Desks.{DeskTurned}
use Rattle.engine_topos.specs.Looks.{IsReached}
use Rattle.engine_topos.proofs.look.catch_up.Given as goal

abbrev pub invariant-commands : goal.invariant-commands
invariant-commands g l =
    DeskTurned l.initial.desk l.desk
    × IsReached l.desk.known.opening l.count l.state l.desk.known.seen
    × (l.count ≤ l.commands)
    × (l.commands ≤ length (log_of l.desk.known.seen))

abbrev pub decreases-commands : goal.decreases-commands
decreases-commands g l = l.commands - l.count
