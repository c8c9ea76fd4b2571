use Rattle.std.proofs.Common.{◌≡◌}
use Rattle.thread_tests.proofs.notes.note_some.Given as goal

abbrev pub invariant-loop-text : goal.invariant-loop-text
invariant-loop-text g l = (l.seat.table ≡ l.initial.seat.table) × (l.seat.known.actor ≡ l.initial.seat.known.actor)
