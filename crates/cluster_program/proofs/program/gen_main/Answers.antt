use Rattle.std.proofs.Common.{rules}
use Rattle.cluster_program.specs.Endings.{IsGenEnding}
use Rattle.cluster_program.specs.Readings.{gen_ending}
use Rattle.cluster_program.proofs.ReadingLemmas.{came-as, gen-ending, summed}
use Rattle.cluster_program.proofs.program.gen_main.Goals as goal

pub returns-in-Ok-clause-came : goal.returns-in-Ok-clause-came
returns-in-Ok-clause-came g c =
    came-as
    (IsGenEnding c.args.n)
    (gen_ending c.args.n)
    c.play_text-outcome.result
    (g.K.Sink.account c.args.sink.now)
    (g.K.Sink.account c.play_text-outcome.new.sink)
    (gen-ending c.law_texts_are_read.ensures.schedules c.law_texts_are_read.ensures.faults c.args.n)
    (search rules)

pub returns-in-Err-clause-came : goal.returns-in-Err-clause-came
returns-in-Err-clause-came g c =
    came-as
    (IsGenEnding c.args.n)
    (gen_ending c.args.n)
    c.starved-outcome.result
    (g.K.Sink.account c.args.sink.now)
    (g.K.Sink.account c.args.sink.now)
    (gen-ending c.law_texts_are_read.ensures.schedules c.law_texts_are_read.ensures.faults c.args.n)
    (search rules)

pub returns-in-Ok-clause-summary : goal.returns-in-Ok-clause-summary
returns-in-Ok-clause-summary g c =
    summed
    c.args.n
    c.play_text-outcome.result
    (g.K.Sink.account c.args.sink.now)
    (g.K.Sink.account c.play_text-outcome.new.sink)
    c.law_texts_are_read.ensures.schedules
    (search rules)
