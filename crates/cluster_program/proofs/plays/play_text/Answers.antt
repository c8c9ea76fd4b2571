use Rattle.cluster_program.specs.Readings.{schedule_reading}
use Rattle.cluster_program.proofs.EndingLemmas.{came-faulty, came-read}
use Rattle.cluster_program.proofs.plays.play_text.Goals as goal

pub returns-in-Err-clause-came : goal.returns-in-Err-clause-came
unfolding schedule_reading
returns-in-Err-clause-came g c =
    came-faulty
    c.args.form
    c.in-Err.error
    (schedule_reading c.args.bytes.now)
    c.not_parsed.result
    (g.K.Sink.account c.args.sink.now)
    (g.K.Sink.account c.not_parsed.new.sink)
    c.not_parsed.ensures.journal
    c.in-Err.ensures.exact
    c.not_parsed.ensures.came

pub returns-in-Ok-clause-came : goal.returns-in-Ok-clause-came
unfolding schedule_reading
returns-in-Ok-clause-came g c =
    came-read
    c.args.form
    c.in-Ok.schedule
    (schedule_reading c.args.bytes.now)
    c.play_schedule.result
    (g.K.Sink.account c.args.sink.now)
    (g.K.Sink.account c.play_schedule.new.sink)
    c.in-Ok.ensures.exact
    c.play_schedule.ensures.came
