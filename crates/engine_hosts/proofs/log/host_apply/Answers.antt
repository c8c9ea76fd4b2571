use Rattle.std.proofs.Common.{ap, arith, sym, ◌+◌, ◌∙◌}
use Rattle.cluster_history.specs.Topology.{log_of}
use Rattle.cluster_history.specs.declared.data.Event.TheVariants.{Apply}
use Rattle.group0_log.specs.Log.{command_at}
use Rattle.host_core.specs.declared.data.HostInput.TheVariants.{Apply as ApplyInput}
use Rattle.engine_desk.proofs.DeskLemmas.{desk_turned}
use Rattle.engine_hosts.specs.Turns.{HasNoMore}
use Rattle.engine_hosts.proofs.LogLemmas.{applied_few, apply_added, apply_due}
use Rattle.engine_hosts.proofs.TurnLemmas.{at_played, at_turned, host_turned, no_more_on, on_err, still_on, still_turned, turned_none}
use Rattle.engine_hosts.proofs.log.host_apply.Goals as goal

pub returns-in_err-command-clause-still : goal.returns-in_err-command-clause-still
returns-in_err-command-clause-still g c = still_turned c.args.plan.now c.args.desk.now c.command.new.self c.requires.kept c.command.ensures.turned

pub returns-in_err-command-clause-lost : goal.returns-in_err-command-clause-lost
returns-in_err-command-clause-lost g c =
    on_err c.from_residual.result (HasNoMore c.args.desk.now.known c.command.new.self.known)
    (turned_none c.args.desk.now.known c.command.new.self.known c.command.ensures.turned.turned)

pub returns-in_default-clause-still : goal.returns-in_default-clause-still
returns-in_default-clause-still g c = still_turned c.args.plan.now c.args.desk.now c.command.new.self c.requires.kept c.command.ensures.turned

pub returns-in_default-clause-at_host : goal.returns-in_default-clause-at_host
returns-in_default-clause-at_host g c =
    at_turned c.args.plan.now c.args.host c.args.desk.now c.command.new.self c.args.core.now.core c.args.notes.now c.requires c.command.ensures.turned

pub returns-in_default-clause-applied : goal.returns-in_default-clause-applied
returns-in_default-clause-applied g c =
    let mid = c.command.new.self in
    record {
      none = turned_none c.args.desk.now.known mid.known c.command.ensures.turned.turned;
      end =
          ap (λ n. command_at (log_of mid.known.seen) (n + 1)) (sym c.applied-number.ensures)
          ∙ sym c.in_ok-command.ensures.found ∙ c.in_default.is;
    }

pub host_event-requires-clause-desk : goal.host_event-requires-clause-desk
host_event-requires-clause-desk g c = desk_turned c.args.plan.now c.args.desk.now c.command.new.self c.requires.kept c.command.ensures.turned

pub host_event-requires-clause-host : goal.host_event-requires-clause-host
host_event-requires-clause-host g c =
    host_turned c.args.desk.now.known c.command.new.self.known c.args.core.now.core c.command.ensures.turned.turned c.requires.host_is

pub host_event-requires-clause-due : goal.host_event-requires-clause-due
host_event-requires-clause-due g c =
    let mid = c.command.new.self in
    let core = c.args.core.now.core in
    let a = at_turned c.args.plan.now c.args.host c.args.desk.now mid core c.args.notes.now c.requires c.command.ensures.turned in
    apply_due mid core c.args.host c.in-Some.command a.named a.host_is a.free
    (sym c.in-Some.is ∙ c.in_ok-command.ensures.found ∙ ap (λ n. command_at (log_of c.command.new.self.known.seen) (n + 1)) c.applied-number.ensures)

pub host_event-requires-clause-suits : goal.host_event-requires-clause-suits
host_event-requires-clause-suits g c = (tt, tt)

pub returns-in_err-host_event-clause-still : goal.returns-in_err-host_event-clause-still
returns-in_err-host_event-clause-still g c =
    still_on c.args.plan.now c.args.desk.now c.command.new.self c.host_event.new.desk
    (still_turned c.args.plan.now c.args.desk.now c.command.new.self c.requires.kept c.command.ensures.turned)
    (record { kept = c.host_event.ensures.desk; same = c.host_event.ensures.same; takes = c.host_event.ensures.takes })

pub returns-in_err-host_event-clause-lost : goal.returns-in_err-host_event-clause-lost
returns-in_err-host_event-clause-lost g c =
    on_err c.from_residual-in_err-host_event.result (HasNoMore c.args.desk.now.known c.host_event.new.desk.known)
    (no_more_on c.args.desk.now.known c.command.new.self.known c.host_event.new.desk.known c.command.ensures.turned.turned c.in_err-host_event.ensures.lost)

pub returns-clause-still : goal.returns-clause-still
returns-clause-still g c =
    still_on c.args.plan.now c.args.desk.now c.command.new.self c.host_event.new.desk
    (still_turned c.args.plan.now c.args.desk.now c.command.new.self c.requires.kept c.command.ensures.turned)
    (record { kept = c.host_event.ensures.desk; same = c.host_event.ensures.same; takes = c.host_event.ensures.takes })

pub returns-clause-at_host : goal.returns-clause-at_host
returns-clause-at_host g c =
    let mid = c.command.new.self in
    let core = c.args.core.now.core in
    let a = at_turned c.args.plan.now c.args.host c.args.desk.now mid core c.args.notes.now c.requires c.command.ensures.turned in
    at_played c.args.plan.now c.args.host mid c.host_event.new.desk core c.host_event.new.core.core (Apply c.args.host) (ApplyInput c.in-Some.command) c.in_ok-host_event.field-0 c.args.notes.now a.named a.host_is
    (apply_due mid core c.args.host c.in-Some.command a.named a.host_is a.free
    (sym c.in-Some.is ∙ c.in_ok-command.ensures.found ∙ ap (λ n. command_at (log_of c.command.new.self.known.seen) (n + 1)) c.applied-number.ensures))
    c.host_event.ensures.desk a.noted c.in_ok-host_event.ensures.played

pub returns-clause-applied : goal.returns-clause-applied
returns-clause-applied g c =
    apply_added c.args.desk.now c.command.new.self c.host_event.new.desk c.args.core.now.core c.host_event.new.core.core c.args.host c.in-Some.command c.in_ok-host_event.field-0 c.requires.named
    c.command.ensures.turned.turned c.in_ok-host_event.ensures.played

pub overflow_add-number : goal.overflow_add-number
overflow_add-number g c =
    let few = applied_few c.args.desk.now.known c.args.core.now.core c.requires.kept.seated c.requires.host_is in
    let is = c.applied-number.ensures in
    omega (arith, few, is)
