use Rattle.std.proofs.Common.{arith}
use Rattle.engine_desk.proofs.DeskLemmas.{desk_same, desk_turned_on}
use Rattle.engine_topos.proofs.LookLemmas.{seated_turned, there_turned}
use Rattle.engine_topos.proofs.look.catch_up.Goals as goal

pub commands-init : goal.commands-init
commands-init g c = (desk_same c.args.desk.now c.requires.seated, c.requires.reached, c.requires.from, c.requires.there)

pub apply_next-requires-clause-seated : goal.apply_next-requires-clause-seated
apply_next-requires-clause-seated g c = seated_turned c.args.desk.now c.commands.desk c.commands.invariant.0 c.requires.seated

pub commands-preserved : goal.commands-preserved
commands-preserved g c =
    let inv = c.commands.invariant in
    (desk_turned_on c.args.desk.now c.commands.desk c.apply_next.new.desk inv.0 c.apply_next.ensures.turned, c.in_ok-apply_next.ensures.reached, omega arith, there_turned c.commands.desk c.apply_next.new.desk c.args.commands c.apply_next.ensures.turned inv.3)

pub returns-in_err-apply_next-clause-turned : goal.returns-in_err-apply_next-clause-turned
returns-in_err-apply_next-clause-turned g c = desk_turned_on c.args.desk.now c.commands.desk c.apply_next.new.desk c.commands.invariant.0 c.apply_next.ensures.turned
