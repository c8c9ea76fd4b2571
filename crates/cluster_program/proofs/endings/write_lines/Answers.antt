use Rattle.std.proofs.Common.{rules}
use Rattle.cluster_program.proofs.WritingLemmas.{content_after-line, part-of-lines, on-err}
use Rattle.cluster_program.proofs.endings.write_lines.Goals as goal

pub returns-in_err-write_all-clause-part : goal.returns-in_err-write_all-clause-part
returns-in_err-write_all-clause-part g c =
    on-err c.from_residual.result
    (part-of-lines
    (g.K.Sink.account c.args.sink.now)
    (g.K.Sink.account c.loop-line.sink)
    (g.K.Sink.account c.write_all.new.sink)
    c.args.lines.now
    c.loop-line.line-index
    c.line-item.result
    c.loop-line-test.true
    c.line-item.is
    c.loop-line.invariant.written
    (rw c.as_slice.ensures at c.in_err-write_all.ensures.part))

pub loop-line-preserved : goal.loop-line-preserved
loop-line-preserved g c = record {
  written = content_after-line
      _
      _
      _
      c.args.lines.now
      c.loop-line.line-index
      c.line-item.result
      c.loop-line-test.true
      c.line-item.is
      c.loop-line.invariant.written
      (rw c.as_slice.ensures at c.in_ok-write_all.ensures.whole);
  quiet = search rules;
}
