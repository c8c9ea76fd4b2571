use Rattle.std.proofs.Common.{Ok, subst, sym, ◌∙◌, ap}
use Rattle.base_ids.specs.declared.ids.Actor.TheVariants.{Host as ByHost}
use Rattle.engine_desk.proofs.DeskLemmas.{fetched_kept, fetched_turned}
use Rattle.engine_desk.proofs.SameLemmas.{same_fetched, same_twice}
use Rattle.engine_desk.specs.Desks.{IsFetched}
use Rattle.engine_hosts.specs.Turns.{HasNoMore}
use Rattle.engine_hosts.proofs.TakeLemmas.{at_none, take_so}
use Rattle.engine_hosts.proofs.TurnLemmas.{host_turned, no_more_on, noted_turned, on_err, turned_none}
use Rattle.engine_hosts.proofs.taking.host_take.Goals as goal

pub returns-in_err-at-clause-desk : goal.returns-in_err-at-clause-desk
returns-in_err-at-clause-desk g c =
    fetched_kept c.args.plan.now c.args.desk.now c.next.new.self c.next.result c.requires.kept c.requires.free c.next.ensures

pub returns-in_err-at-clause-same : goal.returns-in_err-at-clause-same
returns-in_err-at-clause-same g c = same_fetched c.args.desk.now c.next.new.self c.next.result c.next.ensures

pub returns-in_err-at-clause-lost : goal.returns-in_err-at-clause-lost
returns-in_err-at-clause-lost g c =
    on_err c.from_residual.result (HasNoMore c.args.desk.now.known c.next.new.self.known)
    (turned_none c.args.desk.now.known c.next.new.self.known (fetched_turned c.args.desk.now c.next.new.self c.next.result c.requires.kept.seated.run c.next.ensures))

pub returns-in_default-clause-desk : goal.returns-in_default-clause-desk
returns-in_default-clause-desk g c =
    fetched_kept c.args.plan.now c.args.desk.now c.next.new.self c.next.result c.requires.kept c.requires.free c.next.ensures

pub returns-in_default-clause-same : goal.returns-in_default-clause-same
returns-in_default-clause-same g c = same_fetched c.args.desk.now c.next.new.self c.next.result c.next.ensures

pub returns-in_default-clause-at_host : goal.returns-in_default-clause-at_host
returns-in_default-clause-at_host g c =
    at_none c.args.plan.now c.args.host c.args.desk.now c.next.new.self c.args.core.now.core c.args.notes.now c.requires
    (subst (λ f. IsFetched c.args.desk.now (Ok f) c.next.new.self) c.in_default.is c.in_ok-at.ensures)

pub receive-requires-clause-desk : goal.receive-requires-clause-desk
receive-requires-clause-desk g c =
    fetched_kept c.args.plan.now c.args.desk.now c.next.new.self c.next.result c.requires.kept c.requires.free c.next.ensures

pub receive-requires-clause-host : goal.receive-requires-clause-host
receive-requires-clause-host g c =
    host_turned c.args.desk.now.known c.next.new.self.known c.args.core.now.core (fetched_turned c.args.desk.now c.next.new.self c.next.result c.requires.kept.seated.run c.next.ensures) c.requires.host_is

pub receive-requires-clause-noted : goal.receive-requires-clause-noted
receive-requires-clause-noted g c =
    noted_turned c.args.desk.now.known c.next.new.self.known c.args.host c.args.notes.now (c.requires.host_is.actor ∙ ap ByHost (sym c.requires.named))
    (fetched_turned c.args.desk.now c.next.new.self c.next.result c.requires.kept.seated.run c.next.ensures)
    c.requires.noted

pub returns-in_err-became-clause-same : goal.returns-in_err-became-clause-same
returns-in_err-became-clause-same g c =
    same_twice c.args.desk.now c.next.new.self c.receive.new.desk (same_fetched c.args.desk.now c.next.new.self c.next.result c.next.ensures) c.receive.ensures.still.same

pub returns-in_err-became-clause-lost : goal.returns-in_err-became-clause-lost
returns-in_err-became-clause-lost g c =
    on_err c.from_residual-in_err-became.result (HasNoMore c.args.desk.now.known c.receive.new.desk.known)
    (no_more_on c.args.desk.now.known c.next.new.self.known c.receive.new.desk.known
    (fetched_turned c.args.desk.now c.next.new.self c.next.result c.requires.kept.seated.run c.next.ensures) c.in_err-became.ensures.lost)

pub returns-clause-same : goal.returns-clause-same
returns-clause-same g c =
    same_twice c.args.desk.now c.next.new.self c.receive.new.desk (same_fetched c.args.desk.now c.next.new.self c.next.result c.next.ensures) c.receive.ensures.still.same

pub returns-clause-taken : goal.returns-clause-taken
returns-clause-taken g c =
    take_so c.args.desk.now c.next.new.self c.receive.new.desk c.args.core.now.core c.in-Some.at c.in-Some.message c.pull_in-session.result c.in_ok-became.became
    (subst (λ f. IsFetched c.args.desk.now (Ok f) c.next.new.self) c.in-Some.is c.in_ok-at.ensures) c.pull_in-session.ensures c.in_ok-became.ensures.taken
