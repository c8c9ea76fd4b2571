use Rattle.std.proofs.Common.{arith}
use Rattle.std.proofs.lemmas.Grind.{common_steps}
use Rattle.fault_io.proofs.Pieces.{piece-given}
use Rattle.fault_io.proofs.memory.give.Goals as goal

pub returns-clause-given : goal.returns-clause-given
returns-clause-given c =
    piece-given
    c.args.bytes.now
    c.copy_from_slice.new.self
    _
    c.args.at
    c.min-count.result
    (grind (arith, common_steps))
    (grind (arith, common_steps))
