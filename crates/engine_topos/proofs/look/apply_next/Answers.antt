use Rattle.std.proofs.Common.{ap, subst, sym, ◌∙◌, ◌+◌}
use Rattle.topo_state.specs.Rules.{IsFit, rule}
use Rattle.cluster_history.specs.Topology.{log_of}
use Rattle.engine_topos.proofs.LookLemmas.{applied_reached, command_missing, leads_on, reached_turned, seated_turned, there_turned}
use Rattle.engine_topos.proofs.look.apply_next.Goals as goal

pub unreachable-requires : goal.unreachable-requires
unreachable-requires g c =
    command_missing (log_of c.command.new.self.known.seen) c.args.count
    (there_turned c.args.desk.now c.command.new.self (c.args.count + 1) c.in_ok-command.ensures.turned c.requires.more)
    (sym c.in_ok-command.ensures.found ∙ c.in_default.is)

pub apply-requires-clause-fit : goal.apply-requires-clause-fit
apply-requires-clause-fit g c =
    let turned = c.in_ok-command.ensures.turned in
    let lead = leads_on c.command.new.self.known c.args.count c.in-Some.command c.args.state.now (seated_turned c.args.desk.now c.command.new.self turned c.requires.seated) (reached_turned c.args.desk.now c.command.new.self c.args.count c.args.state.now turned c.requires.reached) (sym c.in_ok-command.ensures.found ∙ c.in-Some.is) in
    subst IsFit (sym c.get.ensures) lead.accepted.fit

pub apply-requires-clause-judged : goal.apply-requires-clause-judged
apply-requires-clause-judged g c =
    let turned = c.in_ok-command.ensures.turned in
    let lead = leads_on c.command.new.self.known c.args.count c.in-Some.command c.args.state.now (seated_turned c.args.desk.now c.command.new.self turned c.requires.seated) (reached_turned c.args.desk.now c.command.new.self c.args.count c.args.state.now turned c.requires.reached) (sym c.in_ok-command.ensures.found ∙ c.in-Some.is) in
    ap (rule c.args.state.now) c.get.ensures ∙ lead.accepted.judged

pub apply-requires-clause-version : goal.apply-requires-clause-version
apply-requires-clause-version g c =
    let turned = c.in_ok-command.ensures.turned in
    let lead = leads_on c.command.new.self.known c.args.count c.in-Some.command c.args.state.now (seated_turned c.args.desk.now c.command.new.self turned c.requires.seated) (reached_turned c.args.desk.now c.command.new.self c.args.count c.args.state.now turned c.requires.reached) (sym c.in_ok-command.ensures.found ∙ c.in-Some.is) in
    lead.below

pub returns-clause-reached : goal.returns-clause-reached
returns-clause-reached g c =
    let turned = c.in_ok-command.ensures.turned in
    let lead = leads_on c.command.new.self.known c.args.count c.in-Some.command c.args.state.now (seated_turned c.args.desk.now c.command.new.self turned c.requires.seated) (reached_turned c.args.desk.now c.command.new.self c.args.count c.args.state.now turned c.requires.reached) (sym c.in_ok-command.ensures.found ∙ c.in-Some.is) in
    applied_reached c.command.new.self.known c.args.count c.in-Some.command c.get.result.now c.args.state.now c.apply.new.self lead c.get.ensures c.in_ok-apply.ensures.ok
    (there_turned c.args.desk.now c.command.new.self (c.args.count + 1) turned c.requires.more)
