use Rattle.std.proofs.Common.{rules}
use Rattle.further_report.proofs.PlannedLemmas.{on_ok, plan_added}
use Rattle.further_report.proofs.plans.add_balance.Goals as goal

pub returns-in_ok-last-in-Ok : goal.returns-in_ok-last-in-Ok
returns-in_ok-last-in-Ok c =
    on_ok c.push.result
    (plan_added c.args.state.now c.in-Ok.made c.args.lines.now c.add_moves.new.lines c.push.new.self c.in_ok-last-in-Ok.last
    c.tables-tables.ensures.sound (search rules) (search rules) (search rules))
    c.push.ensures.ok
