use Rattle.std.proofs.Common.{None, Some, refl}
use Rattle.schedule_play.specs.Play.{AtLimit, AtRule, played}
use Rattle.cluster_program.proofs.EndingLemmas.{came-at, came-front, front-at, front-starved, stopped-at, stopped-by-limit, stopped-by-memory, stopped-by-rule, told-by-limit, told-by-rule}
use Rattle.cluster_program.proofs.plays.play_on.Goals as goal

pub returns-in-Ok-clause-came : goal.returns-in-Ok-clause-came
returns-in-Ok-clause-came g c =
    came-at c.args.form c.args.schedule.now None _ _ _ _ _ c.in-Ok.ensures refl c.tell_whole.ensures.came

pub returns-in-Err-NotEnabled-clause-came : goal.returns-in-Err-NotEnabled-clause-came
returns-in-Err-NotEnabled-clause-came g c =
    came-at
    c.args.form
    c.args.schedule.now
    (Some (AtRule c.in-Err-NotEnabled.line c.in-Err-NotEnabled.rule))
    _
    _
    _
    _
    _
    (stopped-by-rule c.in-Err-NotEnabled.field-0 c.in-Err-NotEnabled.line c.in-Err-NotEnabled.rule (played c.args.schedule.now) _ c.in-Err-NotEnabled.ensures c.in-Err-NotEnabled.field-0-is)
    c.kept_journal.ensures.same
    (stopped-at c.args.form c.args.schedule.now (AtRule c.in-Err-NotEnabled.line c.in-Err-NotEnabled.rule) _ _ _ _ (told-by-rule c.in-Err-NotEnabled.field-0 c.in-Err-NotEnabled.line c.in-Err-NotEnabled.rule _ _ _ _ c.in-Err-NotEnabled.field-0-is c.tell_rule.ensures.came))

pub returns-in-Err-Limit-clause-came : goal.returns-in-Err-Limit-clause-came
returns-in-Err-Limit-clause-came g c =
    came-at
    c.args.form
    c.args.schedule.now
    (Some (AtLimit c.in-Err-Limit.name))
    _
    _
    _
    _
    _
    (stopped-by-limit c.in-Err-Limit.field-0 c.in-Err-Limit.name (played c.args.schedule.now) _ c.in-Err-Limit.ensures c.in-Err-Limit.field-0-is)
    c.kept_journal-in-Err-Limit.ensures.same
    (stopped-at c.args.form c.args.schedule.now (AtLimit c.in-Err-Limit.name) _ _ _ _ (told-by-limit c.in-Err-Limit.field-0 c.in-Err-Limit.name _ _ _ _ c.in-Err-Limit.field-0-is c.tell_limit.ensures.came))

pub returns-in-Err-NoMemory-clause-came : goal.returns-in-Err-NoMemory-clause-came
returns-in-Err-NoMemory-clause-came g c =
    came-front
    c.args.form
    c.args.schedule.now
    _
    _
    _
    _
    (stopped-by-memory c.in-Err-NoMemory.field-0 (played c.args.schedule.now) _ c.in-Err-NoMemory.ensures c.in-Err-NoMemory.field-0-is)
    c.kept_journal-in-Err-NoMemory.ensures.same
    c.starved.ensures

pub returns-in-Ok-clause-front : goal.returns-in-Ok-clause-front
returns-in-Ok-clause-front g c =
    front-at None (played c.args.schedule.now) _ _ c.tell_whole.result c.in-Ok.ensures refl c.tell_whole.ensures.journal

pub returns-in-Err-NotEnabled-clause-front : goal.returns-in-Err-NotEnabled-clause-front
returns-in-Err-NotEnabled-clause-front g c =
    front-at
    (Some (AtRule c.in-Err-NotEnabled.line c.in-Err-NotEnabled.rule))
    (played c.args.schedule.now)
    _
    _
    c.tell_rule.result
    (stopped-by-rule c.in-Err-NotEnabled.field-0 c.in-Err-NotEnabled.line c.in-Err-NotEnabled.rule (played c.args.schedule.now) _ c.in-Err-NotEnabled.ensures c.in-Err-NotEnabled.field-0-is)
    c.kept_journal.ensures.same
    c.tell_rule.ensures.journal

pub returns-in-Err-Limit-clause-front : goal.returns-in-Err-Limit-clause-front
returns-in-Err-Limit-clause-front g c =
    front-at
    (Some (AtLimit c.in-Err-Limit.name))
    (played c.args.schedule.now)
    _
    _
    c.tell_limit.result
    (stopped-by-limit c.in-Err-Limit.field-0 c.in-Err-Limit.name (played c.args.schedule.now) _ c.in-Err-Limit.ensures c.in-Err-Limit.field-0-is)
    c.kept_journal-in-Err-Limit.ensures.same
    c.tell_limit.ensures.journal

pub returns-in-Err-NoMemory-clause-front : goal.returns-in-Err-NoMemory-clause-front
returns-in-Err-NoMemory-clause-front g c =
    front-starved
    (played c.args.schedule.now)
    _
    _
    c.starved.result
    (stopped-by-memory c.in-Err-NoMemory.field-0 (played c.args.schedule.now) _ c.in-Err-NoMemory.ensures c.in-Err-NoMemory.field-0-is)
    c.kept_journal-in-Err-NoMemory.ensures.same
    c.starved.ensures
