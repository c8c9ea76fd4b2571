use Rattle.std.proofs.Common.{◌≡◌, ◌≤◌, ◌-◌}
use Rattle.thread_tests.specs.Scenes.{IsHost}
use Rattle.thread_tests.proofs.pins.publish_middle.Given as goal

-- the versions from 3 to this one are published
abbrev pub invariant-loop-last : goal.invariant-loop-last
invariant-loop-last l = (l.host.table ≡ l.initial.host.table) × IsHost l.host.known × (l.host.known.seen ≡ l.initial.host.known.seen) × (l.host.known.note.published.0 ≡ l.last) × (2 ≤ l.last) × (l.last ≤ 8)

abbrev pub decreases-loop-last : goal.decreases-loop-last
decreases-loop-last l = 8 - l.last
