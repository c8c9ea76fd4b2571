use Rattle.std.proofs.Common.{arith, ◌≤◌, ◌<◌, ◌^◌, ◌/◌}
use Rattle.token_ring.proofs.Offsets.{tablet_below, few_tablets}
use Rattle.token_ring.specs.Ring.{width}
use Rattle.token_ring.proofs.ring.tablet_of.Goals as goal

pub overflow_cast-result-2 : goal.overflow_cast-result-2
overflow_cast-result-2 c =
    let below : c.from.result / width c.args.log2 < 2 ^ c.args.log2 = tablet_below c.args.log2 c.from.result (omega arith) (omega arith) in
    let few : 2 ^ c.args.log2 ≤ 2 ^ 10 = few_tablets c.args.log2 c.requires in
    record { fits = omega arith }

pub returns-clause-below : goal.returns-clause-below
returns-clause-below c = tablet_below c.args.log2 c.from.result (omega arith) (omega arith)
