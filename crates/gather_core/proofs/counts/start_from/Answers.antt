use Rattle.std.proofs.Common.{◌≡◌, ◌≤◌, true, drop, arith, sym, ◌∙◌}
use Rattle.gather_core.specs.Counts.{starts_below}
use Rattle.gather_core.proofs.CountLemmas.{starts_within, past_below}
use Rattle.gather_core.proofs.counts.start_from.Goals as goal

pub skipping-preserved : goal.skipping-preserved
skipping-preserved c =
    let below : starts_below c.args.token (drop c.skipping.at c.args.cells.now) ≡ true = sym c.is_below.ensures ∙ c.skipping-test.true in
    let within = starts_within c.args.token c.args.cells.now c.skipping.at below in
    record {
      within = omega (arith, within);
      same = λ k upto. past_below c.args.token c.args.cells.now c.skipping.at below k upto ∙ c.skipping.invariant.same k upto;
    }
