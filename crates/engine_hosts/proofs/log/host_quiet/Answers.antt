use Rattle.std.proofs.Common.{Some, ap, arith, ◌∙◌, ◌<◌, ◌≡◌, ◌≤◌}
use Rattle.base_ids.specs.declared.ids.Version.{Version}
use Rattle.topo_state.specs.State.{Topology}
use Rattle.cluster_history.specs.declared.data.Event.TheVariants.{Quiet}
use Rattle.host_core.specs.declared.data.HostInput.TheVariants.{Quiet as QuietInput}
use Rattle.engine_desk.specs.Chairs.{found_idle}
use Rattle.engine_desk.specs.Desks.{DeskView}
use Rattle.engine_hosts.specs.Turns.{HasNoMore}
use Rattle.engine_hosts.proofs.LogLemmas.{at_idle, idle_noted, no_more_noted, quiet_added, quiet_due, quiet_suits}
use Rattle.engine_hosts.proofs.TurnLemmas.{at_played, on_err, still_noted, still_on}
use Rattle.engine_hosts.proofs.log.host_quiet.Goals as goal

pub host_event-requires-clause-desk : goal.host_event-requires-clause-desk
host_event-requires-clause-desk g c =
    (at_idle c.args.plan.now c.args.host c.args.desk.now c.idle_below.new.self c.args.core.now.core c.args.notes.now c.published-version.result c.idle_below.result c.requires c.idle_below.ensures).kept

pub host_event-requires-clause-host : goal.host_event-requires-clause-host
host_event-requires-clause-host g c =
    (at_idle c.args.plan.now c.args.host c.args.desk.now c.idle_below.new.self c.args.core.now.core c.args.notes.now c.published-version.result c.idle_below.result c.requires c.idle_below.ensures).host_is

pub host_event-requires-clause-due : goal.host_event-requires-clause-due
host_event-requires-clause-due g c =
    let desk = c.args.desk.now in
    let mid = c.idle_below.new.self in
    let core = c.args.core.now.core in
    let host = c.args.host in
    let version = c.published-version.result in
    let a = at_idle c.args.plan.now host desk mid core c.args.notes.now version c.idle_below.result c.requires c.idle_below.ensures in
    let idle : mid.known.idle ≡ Some version = ap (λ (d : DeskView). d.known.idle) c.idle_below.ensures ∙ ap (λ b. found_idle b version) c.if-not-idle_below.false in
    let reached : c.version.result.0 ≡ core.state.version.0 = ap (λ (v : Version). v.0) (c.version.ensures ∙ ap (λ (s : Topology). s.version) c.state.ensures) in
    let up_to = c.if-version.false in
    let within : version.0 ≤ core.state.version.0 = omega (arith, reached, up_to) in
    quiet_due mid core host version a.named a.host_is a.free idle within

pub host_event-requires-clause-suits : goal.host_event-requires-clause-suits
host_event-requires-clause-suits g c =
    let desk = c.args.desk.now in
    let mid = c.idle_below.new.self in
    let core = c.args.core.now.core in
    let host = c.args.host in
    let version = c.published-version.result in
    let a = at_idle c.args.plan.now host desk mid core c.args.notes.now version c.idle_below.result c.requires c.idle_below.ensures in
    let floor : c.floor.result.0 ≡ core.floor.0 = ap (λ (v : Version). v.0) c.floor.ensures in
    let lower = c.if-floor-version.false in
    let below : core.floor.0 < version.0 = omega (arith, floor, lower) in
    quiet_suits c.args.plan.now mid core host version a.named a.host_is below

pub returns-in_err-host_event-clause-still : goal.returns-in_err-host_event-clause-still
returns-in_err-host_event-clause-still g c =
    still_on c.args.plan.now c.args.desk.now c.idle_below.new.self c.host_event.new.desk
    (still_noted c.args.plan.now c.args.desk.now c.idle_below.new.self c.requires.kept (idle_noted c.args.desk.now c.idle_below.new.self c.published-version.result c.idle_below.result c.idle_below.ensures))
    (record { kept = c.host_event.ensures.desk; same = c.host_event.ensures.same; takes = c.host_event.ensures.takes })

pub returns-in_err-host_event-clause-lost : goal.returns-in_err-host_event-clause-lost
returns-in_err-host_event-clause-lost g c =
    on_err c.from_residual.result (HasNoMore c.args.desk.now.known c.host_event.new.desk.known)
    (no_more_noted c.args.desk.now.known c.idle_below.new.self.known c.host_event.new.desk.known
    (idle_noted c.args.desk.now c.idle_below.new.self c.published-version.result c.idle_below.result c.idle_below.ensures).noted c.in_err-host_event.ensures.lost)

pub returns-clause-still : goal.returns-clause-still
returns-clause-still g c =
    still_on c.args.plan.now c.args.desk.now c.idle_below.new.self c.host_event.new.desk
    (still_noted c.args.plan.now c.args.desk.now c.idle_below.new.self c.requires.kept (idle_noted c.args.desk.now c.idle_below.new.self c.published-version.result c.idle_below.result c.idle_below.ensures))
    (record { kept = c.host_event.ensures.desk; same = c.host_event.ensures.same; takes = c.host_event.ensures.takes })

pub returns-clause-at_host : goal.returns-clause-at_host
returns-clause-at_host g c =
    let desk = c.args.desk.now in
    let mid = c.idle_below.new.self in
    let core = c.args.core.now.core in
    let host = c.args.host in
    let version = c.published-version.result in
    let a = at_idle c.args.plan.now host desk mid core c.args.notes.now version c.idle_below.result c.requires c.idle_below.ensures in
    let idle : mid.known.idle ≡ Some version = ap (λ (d : DeskView). d.known.idle) c.idle_below.ensures ∙ ap (λ b. found_idle b version) c.if-not-idle_below.false in
    let reached : c.version.result.0 ≡ core.state.version.0 = ap (λ (v : Version). v.0) (c.version.ensures ∙ ap (λ (s : Topology). s.version) c.state.ensures) in
    let up_to = c.if-version.false in
    let within : version.0 ≤ core.state.version.0 = omega (arith, reached, up_to) in
    at_played c.args.plan.now host mid c.host_event.new.desk core c.host_event.new.core.core (Quiet host version) (QuietInput version) c.in_ok-host_event.field-0 c.args.notes.now a.named a.host_is
    (quiet_due mid core host version a.named a.host_is a.free idle within)
    c.host_event.ensures.desk a.noted c.in_ok-host_event.ensures.played

pub returns-clause-quiet : goal.returns-clause-quiet
returns-clause-quiet g c =
    quiet_added c.args.desk.now c.idle_below.new.self c.host_event.new.desk c.args.core.now.core c.host_event.new.core.core c.args.host c.published-version.result c.in_ok-host_event.field-0 c.requires.named
    (c.published-version.ensures ∙ c.requires.noted.published_is)
    (idle_noted c.args.desk.now c.idle_below.new.self c.published-version.result c.idle_below.result c.idle_below.ensures) c.in_ok-host_event.ensures.played
