-- So far the bytes that are kept were taken, in order, no more than the limit, each call took one at least, and none failed.
use Rattle.std.proofs.Common.{◌≡◌, ◌+◌, ◌-◌, ◌≤◌, length, vec_len}
use Rattle.fault_io.specs.Counts.{raised_by}
use Rattle.fault_io.specs.Given.{before_left}
use Rattle.fault_io.proofs.reading.read_all.Given as goal

abbrev pub invariant-reading : goal.invariant-reading
invariant-reading g l = record {
  within : vec_len l.bytes ≤ l.limit;
  content : (g.S.Source.account l.fn.source).left ≡ before_left l.bytes.items (g.S.Source.account l.source).left;
  given : (g.S.Source.account l.source).given ≡ raised_by (g.S.Source.account l.fn.source).given (length l.bytes.items);
  calls : (g.S.Source.account l.source).calls ≤ raised_by (g.S.Source.account l.fn.source).calls (length l.bytes.items);
  quiet : (g.S.Source.account l.source).faults ≡ (g.S.Source.account l.fn.source).faults;
}

abbrev pub decreases-reading : goal.decreases-reading
decreases-reading g l = l.limit + 1 - vec_len l.bytes
