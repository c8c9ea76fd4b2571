use Rattle.std.proofs.Common.{None, Some, [], refl, rules}
use Rattle.command_words.specs.Words.{asked_command}
use Rattle.command_words.specs.declared.words.Command.TheVariants.{Balance, Play, Reads}
use Rattle.cluster_program.specs.Endings.{IsCommandEnding, usage_ending}
use Rattle.cluster_program.specs.Readings.{command_ending}
use Rattle.cluster_program.specs.declared.texts.Form.TheVariants.{Planned, Repaired, Report}
use Rattle.cluster_program.proofs.ReadingLemmas.{came-as, came-asked, command-ending, complete-asked, taken-asked, taken-unread, told-asked, told-unread}
use Rattle.cluster_program.proofs.program.cluster_main.Goals as goal

pub returns-in-Ok-Some-Play-clause-told : goal.returns-in-Ok-Some-Play-clause-told
returns-in-Ok-Some-Play-clause-told g c =
    told-asked
    (asked_command c.args.words.now)
    (Some Play)
    (g.S.Source.account c.args.source.now).left
    c.play_main.result
    (g.S.Source.account c.args.source.now)
    (g.S.Source.account c.play_main.new.source)
    (g.K.Sink.account c.args.sink.now)
    (g.K.Sink.account c.play_main.new.sink)
    (search rules)
    c.play_main.ensures.told

pub returns-in-Ok-Some-Play-clause-taken : goal.returns-in-Ok-Some-Play-clause-taken
returns-in-Ok-Some-Play-clause-taken g c =
    taken-asked
    (asked_command c.args.words.now)
    (Some Play)
    c.play_main.result
    (g.S.Source.account c.args.source.now)
    (g.S.Source.account c.play_main.new.source)
    (g.K.Sink.account c.args.sink.now)
    (g.K.Sink.account c.play_main.new.sink)
    (search rules)
    c.play_main.ensures.taken

pub returns-in-Ok-Some-Gen-clause-taken : goal.returns-in-Ok-Some-Gen-clause-taken
returns-in-Ok-Some-Gen-clause-taken g c =
    taken-unread
    (IsCommandEnding (asked_command c.args.words.now))
    c.gen_main.result
    (g.S.Source.account c.args.source.now)
    (g.K.Sink.account c.args.sink.now)
    (g.K.Sink.account c.gen_main.new.sink)
    (search rules)

pub returns-in-Ok-None-clause-told : goal.returns-in-Ok-None-clause-told
returns-in-Ok-None-clause-told g c =
    told-unread
    (IsCommandEnding (asked_command c.args.words.now))
    (g.S.Source.account c.args.source.now).left
    c.say_usage-outcome.result
    (g.S.Source.account c.args.source.now)
    (g.K.Sink.account c.args.sink.now)
    (g.K.Sink.account c.say_usage-outcome.new.sink)
    (λ text.
    came-asked
    (asked_command c.args.words.now)
    None
    text
    c.say_usage-outcome.result
    (g.K.Sink.account c.args.sink.now)
    (g.K.Sink.account c.say_usage-outcome.new.sink)
    (search rules)
    (usage_ending, refl, (search rules)))

pub returns-in-Ok-None-clause-taken : goal.returns-in-Ok-None-clause-taken
returns-in-Ok-None-clause-taken g c =
    taken-unread
    (IsCommandEnding (asked_command c.args.words.now))
    c.say_usage-outcome.result
    (g.S.Source.account c.args.source.now)
    (g.K.Sink.account c.args.sink.now)
    (g.K.Sink.account c.say_usage-outcome.new.sink)
    (came-asked
    (asked_command c.args.words.now)
    None
    []
    c.say_usage-outcome.result
    (g.K.Sink.account c.args.sink.now)
    (g.K.Sink.account c.say_usage-outcome.new.sink)
    (search rules)
    (usage_ending, refl, (search rules)))

pub returns-in-Err-clause-told : goal.returns-in-Err-clause-told
returns-in-Err-clause-told g c =
    told-unread
    (IsCommandEnding (asked_command c.args.words.now))
    (g.S.Source.account c.args.source.now).left
    c.starved-outcome.result
    (g.S.Source.account c.args.source.now)
    (g.K.Sink.account c.args.sink.now)
    (g.K.Sink.account c.args.sink.now)
    (λ text.
    came-as
    (IsCommandEnding (asked_command c.args.words.now) text)
    (command_ending (asked_command c.args.words.now) text)
    c.starved-outcome.result
    (g.K.Sink.account c.args.sink.now)
    (g.K.Sink.account c.args.sink.now)
    (command-ending c.law_texts_are_read.ensures.schedules c.law_texts_are_read.ensures.faults (asked_command c.args.words.now) text)
    (search rules))

pub returns-in-Err-clause-taken : goal.returns-in-Err-clause-taken
returns-in-Err-clause-taken g c =
    taken-unread
    (IsCommandEnding (asked_command c.args.words.now))
    c.starved-outcome.result
    (g.S.Source.account c.args.source.now)
    (g.K.Sink.account c.args.sink.now)
    (g.K.Sink.account c.args.sink.now)
    (came-as
    (IsCommandEnding (asked_command c.args.words.now) [])
    (command_ending (asked_command c.args.words.now) [])
    c.starved-outcome.result
    (g.K.Sink.account c.args.sink.now)
    (g.K.Sink.account c.args.sink.now)
    (command-ending c.law_texts_are_read.ensures.schedules c.law_texts_are_read.ensures.faults (asked_command c.args.words.now) [])
    (search rules))

pub returns-in-Ok-Some-Reads-clause-told : goal.returns-in-Ok-Some-Reads-clause-told
returns-in-Ok-Some-Reads-clause-told g c =
    told-asked
    (asked_command c.args.words.now)
    (Some Reads)
    (g.S.Source.account c.args.source.now).left
    c.reads_main.result
    (g.S.Source.account c.args.source.now)
    (g.S.Source.account c.reads_main.new.source)
    (g.K.Sink.account c.args.sink.now)
    (g.K.Sink.account c.reads_main.new.sink)
    (search rules)
    c.reads_main.ensures.told

pub returns-in-Ok-Some-Reads-clause-taken : goal.returns-in-Ok-Some-Reads-clause-taken
returns-in-Ok-Some-Reads-clause-taken g c =
    taken-asked
    (asked_command c.args.words.now)
    (Some Reads)
    c.reads_main.result
    (g.S.Source.account c.args.source.now)
    (g.S.Source.account c.reads_main.new.source)
    (g.K.Sink.account c.args.sink.now)
    (g.K.Sink.account c.reads_main.new.sink)
    (search rules)
    c.reads_main.ensures.taken

pub returns-in-Ok-Some-Balance-clause-told : goal.returns-in-Ok-Some-Balance-clause-told
returns-in-Ok-Some-Balance-clause-told g c =
    told-asked
    (asked_command c.args.words.now)
    (Some Balance)
    (g.S.Source.account c.args.source.now).left
    c.balance_main.result
    (g.S.Source.account c.args.source.now)
    (g.S.Source.account c.balance_main.new.source)
    (g.K.Sink.account c.args.sink.now)
    (g.K.Sink.account c.balance_main.new.sink)
    (search rules)
    c.balance_main.ensures.told

pub returns-in-Ok-Some-Balance-clause-taken : goal.returns-in-Ok-Some-Balance-clause-taken
returns-in-Ok-Some-Balance-clause-taken g c =
    taken-asked
    (asked_command c.args.words.now)
    (Some Balance)
    c.balance_main.result
    (g.S.Source.account c.args.source.now)
    (g.S.Source.account c.balance_main.new.source)
    (g.K.Sink.account c.args.sink.now)
    (g.K.Sink.account c.balance_main.new.sink)
    (search rules)
    c.balance_main.ensures.taken

pub returns-in-Ok-Some-Play-clause-complete : goal.returns-in-Ok-Some-Play-clause-complete
returns-in-Ok-Some-Play-clause-complete g c = λ form is.
    complete-asked
    (asked_command c.args.words.now)
    (Some Play)
    Report
    form
    c.play_main.result
    (g.S.Source.account c.args.source.now)
    (g.S.Source.account c.play_main.new.source)
    (g.K.Sink.account c.args.sink.now)
    (g.K.Sink.account c.play_main.new.sink)
    (search rules)
    refl
    c.play_main.ensures.complete
    is

pub returns-in-Ok-Some-Reads-clause-complete : goal.returns-in-Ok-Some-Reads-clause-complete
returns-in-Ok-Some-Reads-clause-complete g c = λ form is.
    complete-asked
    (asked_command c.args.words.now)
    (Some Reads)
    Repaired
    form
    c.reads_main.result
    (g.S.Source.account c.args.source.now)
    (g.S.Source.account c.reads_main.new.source)
    (g.K.Sink.account c.args.sink.now)
    (g.K.Sink.account c.reads_main.new.sink)
    (search rules)
    refl
    c.reads_main.ensures.complete
    is

pub returns-in-Ok-Some-Balance-clause-complete : goal.returns-in-Ok-Some-Balance-clause-complete
returns-in-Ok-Some-Balance-clause-complete g c = λ form is.
    complete-asked
    (asked_command c.args.words.now)
    (Some Balance)
    Planned
    form
    c.balance_main.result
    (g.S.Source.account c.args.source.now)
    (g.S.Source.account c.balance_main.new.source)
    (g.K.Sink.account c.args.sink.now)
    (g.K.Sink.account c.balance_main.new.sink)
    (search rules)
    refl
    c.balance_main.ensures.complete
    is
