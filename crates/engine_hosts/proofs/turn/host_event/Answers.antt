use Rattle.engine_hosts.proofs.TurnLemmas.{event_kept, event_lost, event_same, event_takes}
use Rattle.engine_hosts.proofs.turn.host_event.Goals as goal

pub play_host-requires-clause-seated : goal.play_host-requires-clause-seated
play_host-requires-clause-seated g c = c.requires.desk.seated

pub returns-clause-desk : goal.returns-clause-desk
returns-clause-desk g c =
    event_kept c.args.plan.now c.args.desk.now c.play_host.new.desk c.args.core.now.core c.play_host.new.core.core c.args.event c.args.input c.play_host.result c.requires.desk c.requires.host c.requires.due c.requires.suits c.play_host.ensures

pub returns-clause-takes : goal.returns-clause-takes
returns-clause-takes g c =
    event_takes c.args.desk.now c.play_host.new.desk c.args.core.now.core c.play_host.new.core.core c.args.event c.args.input c.play_host.result c.play_host.ensures

pub returns-clause-same : goal.returns-clause-same
returns-clause-same g c =
    event_same c.args.desk.now c.play_host.new.desk c.args.core.now.core c.play_host.new.core.core c.args.event c.args.input c.play_host.result c.play_host.ensures

pub returns-clause-lost : goal.returns-clause-lost
returns-clause-lost g c =
    event_lost c.args.desk.now c.play_host.new.desk c.args.core.now.core c.play_host.new.core.core c.args.event c.args.input c.play_host.result c.play_host.ensures
