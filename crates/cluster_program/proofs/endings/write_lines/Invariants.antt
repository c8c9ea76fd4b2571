-- The lines before this one were written, in order, and no call failed.
use Rattle.std.proofs.Common.{◌≡◌, take}
use Rattle.std.specs.List.{concat}
use Rattle.fault_io.specs.Written.{content_after}
use Rattle.cluster_program.proofs.endings.write_lines.Given as goal

abbrev pub invariant-loop-line : goal.invariant-loop-line
invariant-loop-line g l = record {
  written : (g.K.Sink.account l.sink).content
      ≡ content_after (g.K.Sink.account l.fn.sink).content (concat (take l.line-index l.lines));
  quiet : (g.K.Sink.account l.sink).faults ≡ (g.K.Sink.account l.fn.sink).faults;
}
