use Rattle.std.proofs.Common.{subst, sym, ◌<◌, ◌≤◌}
use Rattle.plan_facts.specs.declared.skips.SkipCause.TheVariants.{NotTrue, Repeat, Wrong}
use Rattle.engine_desk.proofs.TurnLemmas.{repeat_caused}
use Rattle.engine_hosts.specs.Notes.{NotesView}
use Rattle.engine_hosts.specs.Turns.{IsAtHost}
use Rattle.engine_hosts.proofs.TakeLemmas.{entered, skipped_so, untrue_so, way_due, way_suits_seen, wrong_so}
use Rattle.engine_hosts.proofs.TurnLemmas.{at_played}
use Rattle.engine_hosts.proofs.taking.receive.Goals as goal

pub returns-in_default-clause-still : goal.returns-in_default-clause-still
returns-in_default-clause-still g c =
    let plan = c.args.plan.now in
    let desk = c.args.desk.now in
    let core = c.args.core.now.core in
    let host = c.args.host in
    let at = c.args.at in
    (skipped_so plan host desk c.skip.new.self core c.args.notes.now at Wrong c.requires.desk c.requires.host c.requires.named c.requires.noted c.requires.held c.skip.ensures
    (wrong_so plan desk core host at c.args.message c.requires.named c.requires.host c.requires.found c.in_default.ensures)).still

pub returns-in_default-clause-at_host : goal.returns-in_default-clause-at_host
returns-in_default-clause-at_host g c =
    let plan = c.args.plan.now in
    let desk = c.args.desk.now in
    let core = c.args.core.now.core in
    let host = c.args.host in
    let at = c.args.at in
    (skipped_so plan host desk c.skip.new.self core c.args.notes.now at Wrong c.requires.desk c.requires.host c.requires.named c.requires.noted c.requires.held c.skip.ensures
    (wrong_so plan desk core host at c.args.message c.requires.named c.requires.host c.requires.found c.in_default.ensures)).at_host

pub returns-in_default-clause-taken : goal.returns-in_default-clause-taken
returns-in_default-clause-taken g c =
    let plan = c.args.plan.now in
    let desk = c.args.desk.now in
    let core = c.args.core.now.core in
    let host = c.args.host in
    let at = c.args.at in
    (skipped_so plan host desk c.skip.new.self core c.args.notes.now at Wrong c.requires.desk c.requires.host c.requires.named c.requires.noted c.requires.held c.skip.ensures
    (wrong_so plan desk core host at c.args.message c.requires.named c.requires.host c.requires.found c.in_default.ensures)).taken

pub returns-then-taken-most_takes-clause-still : goal.returns-then-taken-most_takes-clause-still
returns-then-taken-most_takes-clause-still g c =
    let plan = c.args.plan.now in
    let desk = c.args.desk.now in
    let core = c.args.core.now.core in
    let host = c.args.host in
    let at = c.args.at in
    (skipped_so plan host desk c.skip-then-taken-most_takes.new.self core c.args.notes.now at Repeat c.requires.desk c.requires.host c.requires.named c.requires.noted c.requires.held c.skip-then-taken-most_takes.ensures
    (repeat_caused plan desk at c.taken.result c.taken.ensures (subst (λ n. n ≤ c.taken.result) c.most_takes.ensures c.if-taken-most_takes.true))).still

pub returns-then-taken-most_takes-clause-at_host : goal.returns-then-taken-most_takes-clause-at_host
returns-then-taken-most_takes-clause-at_host g c =
    let plan = c.args.plan.now in
    let desk = c.args.desk.now in
    let core = c.args.core.now.core in
    let host = c.args.host in
    let at = c.args.at in
    (skipped_so plan host desk c.skip-then-taken-most_takes.new.self core c.args.notes.now at Repeat c.requires.desk c.requires.host c.requires.named c.requires.noted c.requires.held c.skip-then-taken-most_takes.ensures
    (repeat_caused plan desk at c.taken.result c.taken.ensures (subst (λ n. n ≤ c.taken.result) c.most_takes.ensures c.if-taken-most_takes.true))).at_host

pub returns-then-taken-most_takes-clause-taken : goal.returns-then-taken-most_takes-clause-taken
returns-then-taken-most_takes-clause-taken g c =
    let plan = c.args.plan.now in
    let desk = c.args.desk.now in
    let core = c.args.core.now.core in
    let host = c.args.host in
    let at = c.args.at in
    (skipped_so plan host desk c.skip-then-taken-most_takes.new.self core c.args.notes.now at Repeat c.requires.desk c.requires.host c.requires.named c.requires.noted c.requires.held c.skip-then-taken-most_takes.ensures
    (repeat_caused plan desk at c.taken.result c.taken.ensures (subst (λ n. n ≤ c.taken.result) c.most_takes.ensures c.if-taken-most_takes.true))).taken

pub returns-in-Err-clause-still : goal.returns-in-Err-clause-still
returns-in-Err-clause-still g c =
    let plan = c.args.plan.now in
    let desk = c.args.desk.now in
    let core = c.args.core.now.core in
    let host = c.args.host in
    let at = c.args.at in
    (skipped_so plan host desk c.skip-in-Err.new.self core c.args.notes.now at NotTrue c.requires.desk c.requires.host c.requires.named c.requires.noted c.requires.held c.skip-in-Err.ensures
    (untrue_so plan desk core at c.args.message c.input_by-input.result c.in-Err._broken c.requires.desk.seated c.requires.host c.requires.found c.input_by-input.ensures c.in-Err.ensures)).still

pub returns-in-Err-clause-at_host : goal.returns-in-Err-clause-at_host
returns-in-Err-clause-at_host g c =
    let plan = c.args.plan.now in
    let desk = c.args.desk.now in
    let core = c.args.core.now.core in
    let host = c.args.host in
    let at = c.args.at in
    (skipped_so plan host desk c.skip-in-Err.new.self core c.args.notes.now at NotTrue c.requires.desk c.requires.host c.requires.named c.requires.noted c.requires.held c.skip-in-Err.ensures
    (untrue_so plan desk core at c.args.message c.input_by-input.result c.in-Err._broken c.requires.desk.seated c.requires.host c.requires.found c.input_by-input.ensures c.in-Err.ensures)).at_host

pub returns-in-Err-clause-taken : goal.returns-in-Err-clause-taken
returns-in-Err-clause-taken g c =
    let plan = c.args.plan.now in
    let desk = c.args.desk.now in
    let core = c.args.core.now.core in
    let host = c.args.host in
    let at = c.args.at in
    (skipped_so plan host desk c.skip-in-Err.new.self core c.args.notes.now at NotTrue c.requires.desk c.requires.host c.requires.named c.requires.noted c.requires.held c.skip-in-Err.ensures
    (untrue_so plan desk core at c.args.message c.input_by-input.result c.in-Err._broken c.requires.desk.seated c.requires.host c.requires.found c.input_by-input.ensures c.in-Err.ensures)).taken

pub host_event-requires-clause-due : goal.host_event-requires-clause-due
host_event-requires-clause-due g c =
    let desk = c.args.desk.now in
    let core = c.args.core.now.core in
    let host = c.args.host in
    let at = c.args.at in
    let message = c.args.message in
    let way = c.in-Some.way in
    let event = c.event_by-event.result in
    let input = c.input_by-input.result in
    way_due desk core host at message way event input c.requires.named c.requires.host c.requires.held c.requires.found c.in-Some.ensures c.event_by-event.ensures c.input_by-input.ensures c.in_default-check.ensures

pub host_event-requires-clause-suits : goal.host_event-requires-clause-suits
host_event-requires-clause-suits g c =
    let plan = c.args.plan.now in
    let desk = c.args.desk.now in
    let core = c.args.core.now.core in
    let host = c.args.host in
    let at = c.args.at in
    way_suits_seen plan desk core host at c.in-Some.way c.event_by-event.result c.taken.result c.requires.named c.requires.host c.event_by-event.ensures c.taken.ensures
    (subst (λ n. c.taken.result < n) c.most_takes.ensures c.if-taken-most_takes.false)

pub returns-clause-at_host : goal.returns-clause-at_host
returns-clause-at_host g c =
    let plan = c.args.plan.now in
    let desk = c.args.desk.now in
    let core = c.args.core.now.core in
    let host = c.args.host in
    let at = c.args.at in
    let message = c.args.message in
    let way = c.in-Some.way in
    let event = c.event_by-event.result in
    let input = c.input_by-input.result in
    let after = c.host_event.new.desk in
    let played = c.host_event.new.core.core in
    subst (λ (n : NotesView). IsAtHost plan host after played n) (sym c.in_ok-note_input.ensures)
    (at_played plan host desk after core played event input c.in_ok-host_event.field-0 c.args.notes.now c.requires.named c.requires.host
    (way_due desk core host at message way event input c.requires.named c.requires.host c.requires.held c.requires.found c.in-Some.ensures c.event_by-event.ensures c.input_by-input.ensures c.in_default-check.ensures)
    c.host_event.ensures.desk c.requires.noted c.in_ok-host_event.ensures.played)

pub returns-clause-taken : goal.returns-clause-taken
returns-clause-taken g c =
    let desk = c.args.desk.now in
    let core = c.args.core.now.core in
    let host = c.args.host in
    let at = c.args.at in
    let message = c.args.message in
    let way = c.in-Some.way in
    let event = c.event_by-event.result in
    let input = c.input_by-input.result in
    entered desk c.host_event.new.desk core c.host_event.new.core.core host at message way event input c.in_ok-host_event.field-0 c.requires.named c.in-Some.ensures c.event_by-event.ensures c.input_by-input.ensures c.in_ok-host_event.ensures.played
