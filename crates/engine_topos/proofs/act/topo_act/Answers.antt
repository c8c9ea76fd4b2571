use Rattle.std.proofs.Common.{sym, ◌∙◌}
use Rattle.engine_topos.proofs.ActLemmas.{next_due}
use Rattle.engine_topos.proofs.act.topo_act.Goals as goal

pub propose_next-requires-clause-next : goal.propose_next-requires-clause-next
propose_next-requires-clause-next g c =
    let topo = c.args.core.now.core in
    (next_due c.args.ask.now c.args.way.standing topo.state topo.facts c.in-Propose.command (sym c.in_ok-next.ensures ∙ c.in-Propose.is)).due
