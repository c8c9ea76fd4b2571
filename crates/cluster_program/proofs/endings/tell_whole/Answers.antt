use Rattle.cluster_program.proofs.EndingLemmas.{came-whole}
use Rattle.cluster_program.proofs.endings.tell_whole.Goals as goal

pub returns-in-Err-clause-came : goal.returns-in-Err-clause-came
returns-in-Err-clause-came g c =
    came-whole
    c.args.form
    c.args.schedule.now
    c.kept_journal-journal.result
    c.args.machine
    c.starved.result
    (g.K.Sink.account c.args.sink.now)
    c.kept_journal-journal.ensures.same
    c.starved.ensures
