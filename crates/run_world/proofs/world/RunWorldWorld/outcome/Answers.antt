use Rattle.std.proofs.Common.{ap, ◌∙◌}
use Rattle.book_rule.specs.World.{outcome_after}
use Rattle.group0_log.specs.Log.{CommandLog}
use Rattle.snapshot_log.specs.First.{outcome_in}
use Rattle.world_law.specs.Worlds.{OpenedLog, run_meaning}
use Rattle.run_world.proofs.KeptLemmas.{outcome_found}
use Rattle.run_world.proofs.world.RunWorldWorld.outcome.Goals as goal

pub returns : goal.returns
returns c =
    c.outcome.ensures
    ∙ ap (λ (l : CommandLog). outcome_in l c.args.read.0 c.args.command.now) c.log.ensures
    ∙ outcome_found c.self.inside.opening c.self.inside.shared c.self.inside.log c.args.read.0 c.args.command.now c.self.invariant
    ∙ ap (λ (w : OpenedLog). outcome_after run_meaning w.opening w.commands c.args.read.0 c.args.command.now) c.self.view_is
