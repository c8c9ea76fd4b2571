use Rattle.std.proofs.Common.{◌≡◌, ℕ, ◌<◌, ◌≤◌, get_or, map}
use Rattle.run_store.specs.Runs.{Filled, least_spare}
use Rattle.run_store.proofs.runs.reserve.Given as goal

abbrev pub invariant-loop-at : goal.invariant-loop-at
invariant-loop-at l = record {
  same : map (λ (run : Filled). run.stored) l.runs.items ≡ map (λ (run : Filled). run.stored) l.initial.runs.items;
  room : least_spare l.initial.runs.items ≤ least_spare l.runs.items;
  each : (k : ℕ) (d : Filled) → k < l.at → l.n ≤ (get_or l.runs.items k d).spare;
}
