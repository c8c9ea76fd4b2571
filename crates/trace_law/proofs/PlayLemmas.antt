-- A line for each entry of a legal run is played entry by entry.
use Rattle.std.proofs.Common.{Bool, List, None, Option, Some, [], ap, append-nil, append_assoc, arith, false, if◌then◌else◌, inl, inr, is_some, length, nat_le, refl, reverse, subst, sym, true, ℕ, ◌&&◌, ◌++◌, ◌+◌, ◌<◌, ◌∙◌, ◌∷◌, ◌≡◌, ◌≤◌}
use Rattle.std.proofs.lemmas.Bool.Decides.{nat_tests}
use Rattle.std.proofs.lemmas.List.{length-append}
use Rattle.base_ids.specs.declared.rules.EventRule.{EventRule}
use Rattle.base_ids.specs.declared.rules.LimitName.TheVariants.{Log}
use Rattle.cluster_history.specs.History.{History}
use Rattle.cluster_history.specs.Legal.{IsLegalHistory, IsNext, outputs_of, with_event}
use Rattle.cluster_history.specs.Topology.{accepted_command, log_of, with_command}
use Rattle.cluster_history.specs.declared.data.Entry.{Entry}
use Rattle.cluster_history.specs.declared.data.Event.{Event}
use Rattle.cluster_history.specs.declared.data.Event.TheVariants.{Answer, Apply, Ask, Begin, Clean, Hear, Look, Propose, Pull, Quiet, Restart, Serve, Take, TakeChunk, Timeout}
use Rattle.cluster_history.specs.declared.data.Journal.{Journal}
use Rattle.cluster_history.specs.declared.data.Opening.{Opening}
use Rattle.cluster_history.specs.declared.data.Output.{Output}
use Rattle.cluster_machine.specs.Step.{is_accepted, limit_after, limit_by, most_commands, most_entries}
use Rattle.history_facts.proofs.LegalLemmas.{as_event}
use Rattle.schedule_data.specs.declared.data.LineAct.TheVariants.{Event as OneEvent}
use Rattle.schedule_play.specs.Play.{Places, Played, Stop, ended_play, event_of, going_on, no_places, places_after, played, played_act, played_event, played_lines, stop_after, stop_by, stopped_or}
use Rattle.topo_state.specs.declared.command.Command.{Command}
use Rattle.trace_law.specs.Traces.{EntriesArePlayed}
use Rattle.written_text.specs.Schedules.{event_lines, line_event, schedule_from}
use Rattle.written_text.proofs.RunLemmas.{older_legal, split}
use Rattle.cluster_history.proofs.WithinLemmas.{longer}

-- the line of an event says that event, whatever lines were played before
said_event : (places : Places) (journal : Journal) (event : Event) → event_of places journal (line_event event) ≡ event
said_event places journal (Begin lane operation version) = refl
said_event places journal (Take lane at) = refl
said_event places journal (Timeout lane op) = refl
said_event places journal (Apply host) = refl
said_event places journal (Quiet host version) = refl
said_event places journal (Serve host at) = refl
said_event places journal (Answer host at) = refl
said_event places journal (Clean host at) = refl
said_event places journal (Pull host session) = refl
said_event places journal (TakeChunk host at) = refl
said_event places journal (Look topo) = refl
said_event places journal (Ask topo host what) = refl
said_event places journal (Hear topo at) = refl
said_event places journal (Propose topo command) = refl
said_event places journal (Restart actor) = refl

-- ---- limits

commands_alone : (full : Bool) → (if full && false then Some Log else None) ≡ None
commands_alone true = refl
commands_alone false = refl

no_limit : (entries commands : ℕ) (accepted : Bool) → entries < most_entries → (accepted ≡ true → commands < most_commands) → limit_by entries commands accepted ≡ None
no_limit entries commands true few room =
    let r : commands < most_commands = room refl in
    let e : nat_le most_entries entries ≡ false = grind (arith, nat_tests) in
    let f : nat_le most_commands commands ≡ false = grind (arith, nat_tests) in
    rw (e, f) refl
no_limit entries commands false few room =
    let e : nat_le most_entries entries ≡ false = grind (arith, nat_tests) in
    rw e (commands_alone (nat_le most_commands commands))

one_command : (command : Option Command) (log : List Command) → is_some command ≡ true → length (with_command command log) ≡ length log + 1
one_command None log some = absurd (cc)
one_command (Some command) log some = omega arith

older_commands : (newer older : History) → length (log_of older) ≤ length (log_of (newer ++ older))
older_commands [] older = omega arith
older_commands (entry ∷ newer) older =
    let one = older_commands newer older in
    let two = longer (accepted_command entry.event entry.outputs) (log_of (newer ++ older)) in
    omega arith

-- ---- histories

-- the entry in its place came next, and passes no limit
record Comes (opening : Opening) (front : List Entry) (entry : Entry) : Type 0 where
  pub next : IsNext opening (reverse front) entry
  pub few : length front < most_entries
  pub commands : length (log_of (entry ∷ reverse front)) ≤ most_commands

comes : (opening : Opening) (front : List Entry) (entry : Entry) (rest : List Entry) → IsLegalHistory opening (reverse (front ++ entry ∷ rest)) → length (front ++ entry ∷ rest) ≤ most_entries → length (log_of (reverse (front ++ entry ∷ rest))) ≤ most_commands → Comes opening front entry
comes opening front entry rest legal few commands =
    let all : IsLegalHistory opening (reverse rest ++ (entry ∷ reverse front)) = subst (IsLegalHistory opening) (split front entry rest) legal in
    let log : length (log_of (reverse rest ++ (entry ∷ reverse front))) ≤ most_commands =
    subst (λ (history : History). length (log_of history) ≤ most_commands) (split front entry rest) commands in
    let older : length (log_of (entry ∷ reverse front)) ≤ length (log_of (reverse rest ++ (entry ∷ reverse front))) = older_commands (reverse rest) (entry ∷ reverse front) in
    let size : length (front ++ entry ∷ rest) ≡ length front + length (entry ∷ rest) = length-append front (entry ∷ rest) in
    record {
      next = (older_legal opening (reverse rest) (entry ∷ reverse front) all).0;
      few = omega arith;
      commands = omega arith;
    }

abbrev at_entries : Opening → List Entry → Journal
at_entries opening entries = record { opening = opening; entries = entries }

enabled_next : (number : ℕ) (opening : Opening) (front : List Entry) (entry : Entry) → Comes opening front entry → stop_after number (at_entries opening front) entry.event ≡ None
enabled_next number opening front entry c =
    let same : entry.outputs ≡ outputs_of opening (reverse front) entry.event = c.next.outputs in
    let log : List Command = log_of (reverse front) in
    let room : is_accepted opening (reverse front) entry.event ≡ true → length log < most_commands = λ accepted.
    let adds : is_some (accepted_command entry.event entry.outputs) ≡ true = subst (λ (outputs : List Output). is_some (accepted_command entry.event outputs) ≡ true) (sym same) accepted in
    let one : length (with_command (accepted_command entry.event entry.outputs) log) ≡ length log + 1 = one_command (accepted_command entry.event entry.outputs) log adds in
    let all : length (log_of (entry ∷ reverse front)) ≤ most_commands = c.commands in
    omega arith in
    ap (λ (rule : Option EventRule). stop_by number rule (limit_after (at_entries opening front) entry.event)) c.next.enabled
    ∙ ap (stop_by number None) (no_limit (length front) (length log) (is_accepted opening (reverse front) entry.event) c.few room)

-- the play of an entry's line adds the entry
played_entry : (limit : ℕ) (places : Places) (number : ℕ) (opening : Opening) (front : List Entry) (entry : Entry) → Comes opening front entry → played_act number limit places (at_entries opening front) (OneEvent (line_event entry.event)) ≡ ended_play (at_entries opening (front ++ entry ∷ []))
played_entry limit places number opening front entry c =
    ap (played_event number (at_entries opening front)) (said_event places (at_entries opening front) entry.event)
    ∙ ap (λ (stop : Option Stop). stopped_or stop (at_entries opening front) (ended_play (with_event (at_entries opening front) entry.event))) (enabled_next number opening front entry c)
    ∙ ap (λ (e : Entry). ended_play (at_entries opening (front ++ e ∷ []))) (sym (as_event opening (reverse front) entry c.next))

played_on : (limit : ℕ) (opening : Opening) (rest front : List Entry) (places : Places) (number : ℕ) → IsLegalHistory opening (reverse (front ++ rest)) → length (front ++ rest) ≤ most_entries → length (log_of (reverse (front ++ rest))) ≤ most_commands → played_lines limit places (at_entries opening front) (event_lines number rest) ≡ ended_play (at_entries opening (front ++ rest))
played_on limit opening [] front places number legal few commands = ap (λ (entries : List Entry). ended_play (at_entries opening entries)) (sym (append-nil front))
played_on limit opening (entry ∷ rest) front places number legal few commands =
    let more : (front ++ entry ∷ []) ++ rest ≡ front ++ entry ∷ rest = append_assoc front (entry ∷ []) rest in
    let later : Places = places_after places number (at_entries opening front) (OneEvent (line_event entry.event)) in
    ap
    (λ (first : Played). going_on first (λ after. played_lines limit later after (event_lines (number + 1) rest)))
    (played_entry limit places number opening front entry (comes opening front entry rest legal few commands))
    ∙ played_on limit opening rest (front ++ entry ∷ []) later (number + 1)
    (subst (λ (entries : List Entry). IsLegalHistory opening (reverse entries)) (sym more) legal)
    (subst (λ (entries : List Entry). length entries ≤ most_entries) (sym more) few)
    (subst (λ (entries : List Entry). length (log_of (reverse entries)) ≤ most_commands) (sym more) commands)
    ∙ ap (λ (entries : List Entry). ended_play (at_entries opening entries)) more

no_entries : (number : ℕ) (journal : Journal) → journal.entries ≡ [] → played (schedule_from number journal) ≡ ended_play journal
no_entries number journal none =
    ap (λ (entries : List Entry). played_lines most_entries no_places (at_entries journal.opening []) (event_lines number entries)) none
    ∙ ap (λ (entries : List Entry). ended_play (at_entries journal.opening entries)) (sym none)

pub entries_are_played : EntriesArePlayed
entries_are_played journal number (inl legal) within =
    played_on most_entries journal.opening journal.entries [] no_places number legal.1 within.entries within.commands
entries_are_played journal number (inr none) within = no_entries number journal none.1
