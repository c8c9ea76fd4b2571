use Rattle.std.proofs.Common.{rules}
use Rattle.std.proofs.lemmas.List.{take_rest}
use Rattle.fault_io.proofs.Pieces.{content_after-take}
use Rattle.fault_io.proofs.writing.write_all.Goals as goal

pub writing-preserved : goal.writing-preserved
writing-preserved g c = record {
  within = search rules;
  written = content_after-take
      _
      _
      _
      c.args.bytes.now
      _
      c.writing.at
      c.in-Took.n
      c.writing.invariant.written
      c.in-Took.ensures.bytes
      (take_rest c.args.bytes.now c.writing.at);
  quiet = search rules;
}
