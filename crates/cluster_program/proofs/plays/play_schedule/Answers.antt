use Rattle.cluster_program.specs.Endings.{play_ending}
use Rattle.cluster_program.proofs.EndingLemmas.{came-unopened}
use Rattle.cluster_program.proofs.plays.play_schedule.Goals as goal

pub returns-in-Err-clause-came : goal.returns-in-Err-clause-came
returns-in-Err-clause-came g c =
    came-unopened (play_ending c.args.form c.args.schedule.now) _ _ _ c.starved.ensures c.no_journal.ensures
