use Rattle.std.proofs.Common.{arith, false, subst, sym, ◌∙◌, ◌+◌, ◌<◌, ◌≡◌}
use Rattle.std.specs.Prelude.{nat_le}
use Rattle.std.proofs.lemmas.Bool.Decides.{nat_tests}
use Rattle.base_ids.specs.declared.ids.HostId.{HostId}
use Rattle.cluster_history.specs.declared.data.Event.TheVariants.{Pull}
use Rattle.host_core.specs.declared.data.HostInput.TheVariants.{Pull as PullInput}
use Rattle.engine_players.specs.Hosts.{host_entry}
use Rattle.engine_hosts.specs.Notes.{NotesView}
use Rattle.engine_hosts.specs.Turns.{HasAdded, IsAtHost}
use Rattle.engine_hosts.proofs.LogLemmas.{pull_due, pull_suits}
use Rattle.engine_hosts.proofs.TurnLemmas.{at_played, event_added}
use Rattle.engine_hosts.proofs.pulling.host_pull.Goals as goal

pub host_event-requires-clause-due : goal.host_event-requires-clause-due
host_event-requires-clause-due g c =
    pull_due c.args.desk.now c.args.core.now.core c.args.host c.args.session c.requires.named c.requires.host_is c.requires.free c.in_default.ensures

pub host_event-requires-clause-suits : goal.host_event-requires-clause-suits
host_event-requires-clause-suits g c =
    let pulls = c.pulls-pulls.result in
    let chunks = c.chunks-chunks.result in
    let patience = c.args.plan.now.patience in
    let more : nat_le (chunks + patience) pulls ≡ false = sym c.is_spent.ensures ∙ c.if-is_spent.false in
    let few : pulls < chunks + patience = grind (arith, nat_tests) in
    pull_suits c.args.plan.now c.args.desk.now c.args.notes.now c.args.host c.args.session pulls chunks c.requires.noted c.pulls-pulls.ensures c.chunks-chunks.ensures few

pub returns-clause-at_host : goal.returns-clause-at_host
returns-clause-at_host g c =
    let desk = c.args.desk.now in
    let core = c.args.core.now.core in
    let host = c.args.host in
    let session = c.args.session in
    let after = c.host_event.new.desk in
    let played = c.host_event.new.core.core in
    subst (λ (n : NotesView). IsAtHost c.args.plan.now host after played n) (sym c.in_ok-note_input.ensures)
    (at_played c.args.plan.now host desk after core played (Pull host session) (PullInput session) c.in_ok-host_event.field-0 c.args.notes.now c.requires.named c.requires.host_is
    (pull_due desk core host session c.requires.named c.requires.host_is c.requires.free c.in_default.ensures)
    c.host_event.ensures.desk c.requires.noted c.in_ok-host_event.ensures.played)

pub returns-clause-pull : goal.returns-clause-pull
returns-clause-pull g c =
    let desk = c.args.desk.now in
    let core = c.args.core.now.core in
    let session = c.args.session in
    let after = c.host_event.new.desk in
    subst (λ (h : HostId). HasAdded desk.known (host_entry core (Pull h session) (PullInput session)) after.known) c.requires.named
    (event_added desk after core c.host_event.new.core.core (Pull c.args.host session) (PullInput session) c.in_ok-host_event.field-0 c.in_ok-host_event.ensures.played)
