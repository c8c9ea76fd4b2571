use Rattle.std.proofs.Common.{arith}
use Rattle.quorum_tally.proofs.PlaceLemmas.{counts_fit}
use Rattle.quorum_tally.proofs.tally.Tally.verdict.Goals as goal

pub verdict_at-requires : goal.verdict_at-requires
verdict_at-requires c =
    omega (arith, c.answered.ensures, c.refused.ensures.count, c.targets.ensures, counts_fit c.args.self.now)
