use Rattle.std.proofs.Common.{◌≡◌, ◌≤◌, take}
use Rattle.engine_hosts.specs.Notes.{times_in}
use Rattle.engine_hosts.proofs.notes.count_of.Given as goal

abbrev pub invariant-sessions : goal.invariant-sessions
invariant-sessions l = (l.count ≡ times_in l.session (take l.other-index l.sessions)) × (l.count ≤ l.other-index)
