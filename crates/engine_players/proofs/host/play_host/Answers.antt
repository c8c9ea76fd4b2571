use Rattle.std.proofs.Common.{subst, sym, Result, ℕ}
use Rattle.cluster_history.specs.declared.data.Entry.{Entry}
use Rattle.host_core.specs.Host.{HostView}
use Rattle.engine_desk.specs.Chairs.{MayCommit}
use Rattle.engine_desk.specs.Desks.{IsDeskCommit}
use Rattle.engine_players.specs.Hosts.{IsHostPlayed}
use Rattle.engine_desk.proofs.DeskLemmas.{desk_same}
use Rattle.engine_players.proofs.HostLemmas.{host_fits, host_may, host_played, host_rule_is, lost_host}
use Rattle.engine_players.proofs.host.play_host.Goals as goal

pub played_entry-requires-clause-rule : goal.played_entry-requires-clause-rule
played_entry-requires-clause-rule g c = host_rule_is c.args.desk.now c.args.core.now.core c.args.event c.args.input c.requires.seated c.requires.host c.requires.due

pub played_entry-requires-clause-fits : goal.played_entry-requires-clause-fits
played_entry-requires-clause-fits g c = host_fits c.args.desk.now c.args.core.now.core c.args.event c.args.input c.requires.seated c.requires.host c.requires.due

pub commit-requires-clause-may : goal.commit-requires-clause-may
commit-requires-clause-may g c =
    subst (MayCommit c.args.desk.now.known) (sym c.in_ok-entry.ensures.entry)
    (host_may c.args.desk.now c.args.core.now.core c.args.event c.args.input c.requires.seated c.requires.host c.requires.due)

pub returns : goal.returns
returns g c =
    subst (λ (v : HostView). IsHostPlayed c.args.desk.now c.args.core.now.core c.args.event c.args.input c.commit.result c.commit.new.self v) (sym c.in_ok-entry.ensures.core)
    (host_played c.args.desk.now c.commit.new.self c.args.core.now.core c.args.event c.args.input c.commit.result c.requires.seated c.requires.host c.requires.due
    (subst (λ (e : Entry). IsDeskCommit c.args.desk.now e c.commit.result c.commit.new.self) c.in_ok-entry.ensures.entry c.commit.ensures))

pub returns-in_err-entry : goal.returns-in_err-entry
returns-in_err-entry g c =
    lost_host c.args.desk.now c.args.desk.now c.args.core.now.core c.played_entry.new.core.core c.args.event c.args.input c.from_residual.result c.from_residual.ensures.0 (desk_same c.args.desk.now c.requires.seated)
