-- So far the bytes before `at` were taken, in order, and no call failed.
use Rattle.std.proofs.Common.{length, ◌-◌, ◌≡◌, ◌≤◌, take}
use Rattle.fault_io.specs.Written.{content_after}
use Rattle.fault_io.proofs.writing.write_all.Given as goal

abbrev pub invariant-writing : goal.invariant-writing
invariant-writing g l = record {
  within : l.at ≤ length l.bytes;
  written : (g.K.Sink.account l.sink).content ≡ content_after (g.K.Sink.account l.fn.sink).content (take l.at l.bytes);
  quiet : (g.K.Sink.account l.sink).faults ≡ (g.K.Sink.account l.fn.sink).faults;
}

abbrev pub decreases-writing : goal.decreases-writing
decreases-writing g l = length l.bytes - l.at
