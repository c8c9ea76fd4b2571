use Rattle.std.proofs.Common.{subst, sym, ◌∙◌, ap}
use Rattle.engine_desk.proofs.SameLemmas.{same_fetched, same_twice}
use Rattle.base_ids.specs.declared.ids.Actor.TheVariants.{Topo as ByTopo}
use Rattle.engine_desk.proofs.DeskLemmas.{fetched_kept, fetched_turned}
use Rattle.engine_topos.specs.Notes.{IsNoted}
use Rattle.engine_topos.proofs.SentLemmas.{sent_on, sent_turned}
use Rattle.engine_topos.proofs.TurnLemmas.{noted_turned, topo_turned, ways_on, ways_turned}
use Rattle.engine_topos.proofs.turn.topo_take.Goals as goal

pub returns-in_err-at-clause-desk : goal.returns-in_err-at-clause-desk
returns-in_err-at-clause-desk g c =
    fetched_kept c.args.plan.now c.args.desk.now c.next.new.self c.next.result c.requires.at_topo.kept c.requires.at_topo.free c.next.ensures

pub returns-in_err-at-clause-ways : goal.returns-in_err-at-clause-ways
returns-in_err-at-clause-ways g c =
    ways_turned c.args.desk.now.known c.next.new.self.known c.args.topo (c.requires.at_topo.topo_is.actor ∙ ap ByTopo (sym c.requires.named))
    (fetched_turned c.args.desk.now c.next.new.self c.next.result c.requires.at_topo.kept.seated.run c.next.ensures)

pub hear-requires-clause-desk : goal.hear-requires-clause-desk
hear-requires-clause-desk g c =
    fetched_kept c.args.plan.now c.args.desk.now c.next.new.self c.next.result c.requires.at_topo.kept c.requires.at_topo.free c.next.ensures

pub hear-requires-clause-topo_is : goal.hear-requires-clause-topo_is
hear-requires-clause-topo_is g c =
    topo_turned c.args.desk.now.known c.next.new.self.known c.args.core.now.core (fetched_turned c.args.desk.now c.next.new.self c.next.result c.requires.at_topo.kept.seated.run c.next.ensures) c.requires.at_topo.topo_is

pub hear-requires-clause-noted : goal.hear-requires-clause-noted
hear-requires-clause-noted g c =
    noted_turned c.args.desk.now.known c.next.new.self.known c.args.topo c.args.notes.now (c.requires.at_topo.topo_is.actor ∙ ap ByTopo (sym c.requires.named))
    (fetched_turned c.args.desk.now c.next.new.self c.next.result c.requires.at_topo.kept.seated.run c.next.ensures)
    (subst (λ h. IsNoted c.args.desk.now.known.seen h c.args.notes.now) (sym c.requires.named) c.requires.at_topo.noted)

pub returns-clause-ways : goal.returns-clause-ways
returns-clause-ways g c =
    ways_on c.args.desk.now.known c.next.new.self.known c.hear.new.desk.known c.args.topo
    (ways_turned c.args.desk.now.known c.next.new.self.known c.args.topo (c.requires.at_topo.topo_is.actor ∙ ap ByTopo (sym c.requires.named))
    (fetched_turned c.args.desk.now c.next.new.self c.next.result c.requires.at_topo.kept.seated.run c.next.ensures))
    c.hear.ensures.ways

pub returns-in_err-at-clause-same : goal.returns-in_err-at-clause-same
returns-in_err-at-clause-same g c = same_fetched c.args.desk.now c.next.new.self c.next.result c.next.ensures

pub returns-clause-same : goal.returns-clause-same
returns-clause-same g c =
    same_twice c.args.desk.now c.next.new.self c.hear.new.desk (same_fetched c.args.desk.now c.next.new.self c.next.result c.next.ensures) c.hear.ensures.same

pub returns-in_err-at-clause-sent : goal.returns-in_err-at-clause-sent
returns-in_err-at-clause-sent g c =
    sent_turned c.args.desk.now.known c.next.new.self.known c.args.topo (c.requires.at_topo.topo_is.actor ∙ ap ByTopo (sym c.requires.named))
    (fetched_turned c.args.desk.now c.next.new.self c.next.result c.requires.at_topo.kept.seated.run c.next.ensures)

pub returns-clause-sent : goal.returns-clause-sent
returns-clause-sent g c =
    sent_on c.args.desk.now.known c.next.new.self.known c.hear.new.desk.known c.args.topo
    (sent_turned c.args.desk.now.known c.next.new.self.known c.args.topo (c.requires.at_topo.topo_is.actor ∙ ap ByTopo (sym c.requires.named))
    (fetched_turned c.args.desk.now c.next.new.self c.next.result c.requires.at_topo.kept.seated.run c.next.ensures))
    c.hear.ensures.sent
