use Rattle.std.proofs.Common.{subst, sym}
use Rattle.cluster_history.specs.declared.data.Entry.{Entry}
use Rattle.topo_coord.specs.Topo.{TopoView}
use Rattle.engine_desk.specs.Chairs.{MayCommit}
use Rattle.engine_desk.specs.Desks.{IsDeskCommit}
use Rattle.engine_topos.specs.Turns.{IsTopoPlayed}
use Rattle.engine_topos.proofs.TurnLemmas.{due_rule, event_kept, event_same, event_takes, topo_may, topo_played}
use Rattle.engine_topos.proofs.turn.topo_event.Goals as goal

pub played_entry-requires : goal.played_entry-requires
played_entry-requires g c = record { rule = due_rule c.args.desk.now c.args.core.now.core c.args.event c.args.input c.requires.due }

pub commit-requires-clause-may : goal.commit-requires-clause-may
commit-requires-clause-may g c =
    subst (MayCommit c.args.desk.now.known) (sym c.in_ok-entry.ensures.entry)
    (topo_may c.args.desk.now c.args.core.now.core c.args.event c.args.input c.requires.desk.seated c.requires.topo c.requires.due)

pub returns-clause-desk : goal.returns-clause-desk
returns-clause-desk g c =
    let desk = c.args.desk.now in
    let topo = c.args.core.now.core in
    event_kept c.args.plan.now desk c.commit.new.self topo c.played_entry.new.core.core c.args.event c.args.input c.commit.result c.requires.desk c.requires.topo c.requires.due c.requires.suits
    (subst (λ (v : TopoView). IsTopoPlayed desk topo c.args.event c.args.input c.commit.result c.commit.new.self v) (sym c.in_ok-entry.ensures.core)
    (topo_played desk c.commit.new.self topo c.args.event c.args.input c.commit.result c.requires.desk.seated c.requires.topo c.requires.due
    (subst (λ (e : Entry). IsDeskCommit desk e c.commit.result c.commit.new.self) c.in_ok-entry.ensures.entry c.commit.ensures)))

pub returns-clause-played : goal.returns-clause-played
returns-clause-played g c =
    let desk = c.args.desk.now in
    let topo = c.args.core.now.core in
    subst (λ (v : TopoView). IsTopoPlayed desk topo c.args.event c.args.input c.commit.result c.commit.new.self v) (sym c.in_ok-entry.ensures.core)
    (topo_played desk c.commit.new.self topo c.args.event c.args.input c.commit.result c.requires.desk.seated c.requires.topo c.requires.due
    (subst (λ (e : Entry). IsDeskCommit desk e c.commit.result c.commit.new.self) c.in_ok-entry.ensures.entry c.commit.ensures))

pub returns-clause-takes : goal.returns-clause-takes
returns-clause-takes g c =
    let desk = c.args.desk.now in
    let topo = c.args.core.now.core in
    event_takes desk c.commit.new.self topo c.played_entry.new.core.core c.args.event c.args.input c.commit.result
    (subst (λ (v : TopoView). IsTopoPlayed desk topo c.args.event c.args.input c.commit.result c.commit.new.self v) (sym c.in_ok-entry.ensures.core)
    (topo_played desk c.commit.new.self topo c.args.event c.args.input c.commit.result c.requires.desk.seated c.requires.topo c.requires.due
    (subst (λ (e : Entry). IsDeskCommit desk e c.commit.result c.commit.new.self) c.in_ok-entry.ensures.entry c.commit.ensures)))

pub returns-clause-same : goal.returns-clause-same
returns-clause-same g c =
    let desk = c.args.desk.now in
    let topo = c.args.core.now.core in
    event_same desk c.commit.new.self topo c.played_entry.new.core.core c.args.event c.args.input c.commit.result
    (subst (λ (v : TopoView). IsTopoPlayed desk topo c.args.event c.args.input c.commit.result c.commit.new.self v) (sym c.in_ok-entry.ensures.core)
    (topo_played desk c.commit.new.self topo c.args.event c.args.input c.commit.result c.requires.desk.seated c.requires.topo c.requires.due
    (subst (λ (e : Entry). IsDeskCommit desk e c.commit.result c.commit.new.self) c.in_ok-entry.ensures.entry c.commit.ensures)))
