use Rattle.std.proofs.Common.{arith, rules}
use Rattle.cluster_program.specs.Endings.{IsReadEnding}
use Rattle.cluster_program.specs.Readings.{ending_of}
use Rattle.cluster_program.proofs.ReadingLemmas.{answers-read, complete-of, read-ending, taken-as, told-as, written-of}
use Rattle.cluster_program.proofs.sources.play_source.Goals as goal

pub returns-in-Ok-clause-told : goal.returns-in-Ok-clause-told
returns-in-Ok-clause-told g c =
    told-as
    (IsReadEnding c.args.form)
    (ending_of c.args.form)
    (read-ending c.law_texts_are_read.ensures.schedules c.law_texts_are_read.ensures.faults c.args.form)
    (g.S.Source.account c.args.source.now).left
    c.play_text-outcome.result
    (g.S.Source.account c.args.source.now)
    (g.S.Source.account c.read_all.new.source)
    (g.K.Sink.account c.args.sink.now)
    (g.K.Sink.account c.play_text-outcome.new.sink)
    (search rules)

pub returns-in-Ok-clause-taken : goal.returns-in-Ok-clause-taken
returns-in-Ok-clause-taken g c = (
  c.in-Ok.bytes.items,
  (
    ending_of c.args.form c.in-Ok.bytes.items,
    read-ending c.law_texts_are_read.ensures.schedules c.law_texts_are_read.ensures.faults c.args.form c.in-Ok.bytes.items,
    record {
      bytes = c.in-Ok.ensures.ok;
      within = omega (arith, c.in-Ok.ensures.within);
      answer = answers-read
          c.args.form
          c.in-Ok.bytes.items
          c.play_text-outcome.result
          (g.S.Source.account c.args.source.now)
          (g.S.Source.account c.read_all.new.source)
          (g.K.Sink.account c.args.sink.now)
          (g.K.Sink.account c.play_text-outcome.new.sink)
          (search rules)
          (search rules)
          (search rules);
      over = λ more. absurd (omega (arith, more, c.in-Ok.ensures.within));
    },
  ),
)

pub returns-in-Ok-clause-complete : goal.returns-in-Ok-clause-complete
returns-in-Ok-clause-complete g c =
    complete-of
    c.args.form
    c.play_text-outcome.result
    (g.S.Source.account c.args.source.now)
    (g.S.Source.account c.read_all.new.source)
    (g.K.Sink.account c.args.sink.now)
    (g.K.Sink.account c.play_text-outcome.new.sink)
    c.law_texts_are_read.ensures.schedules
    (search rules)

pub returns-in-Err-clause-told : goal.returns-in-Err-clause-told
returns-in-Err-clause-told g c =
    told-as
    (IsReadEnding c.args.form)
    (ending_of c.args.form)
    (read-ending c.law_texts_are_read.ensures.schedules c.law_texts_are_read.ensures.faults c.args.form)
    (g.S.Source.account c.args.source.now).left
    c.not_read-outcome.result
    (g.S.Source.account c.args.source.now)
    (g.S.Source.account c.read_all.new.source)
    (g.K.Sink.account c.args.sink.now)
    (g.K.Sink.account c.not_read-outcome.new.sink)
    (search rules)

pub returns-in-Err-clause-taken : goal.returns-in-Err-clause-taken
returns-in-Err-clause-taken g c =
    taken-as
    (IsReadEnding c.args.form)
    (ending_of c.args.form)
    (read-ending c.law_texts_are_read.ensures.schedules c.law_texts_are_read.ensures.faults c.args.form)
    c.not_read-outcome.result
    (g.S.Source.account c.args.source.now)
    (g.S.Source.account c.read_all.new.source)
    (g.K.Sink.account c.args.sink.now)
    (g.K.Sink.account c.not_read-outcome.new.sink)
    (search rules)

pub returns-in-Ok-clause-written : goal.returns-in-Ok-clause-written
returns-in-Ok-clause-written g c =
    written-of
    c.args.form
    c.in-Ok.bytes.items
    c.play_text-outcome.result
    (g.K.Sink.account c.args.sink.now)
    (g.K.Sink.account c.play_text-outcome.new.sink)
    c.law_texts_are_read.ensures.schedules
    (search rules)
