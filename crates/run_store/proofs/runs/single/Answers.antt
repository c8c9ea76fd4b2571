use Rattle.std.proofs.Common.{◌≡◌, ◌++◌, [], ◌∷◌, List, ap, ◌∙◌}
use Rattle.run_store.specs.Runs.{Filled}
use Rattle.run_store.proofs.TabletLemmas.{single_run}
use Rattle.run_store.proofs.runs.single.Goals as goal

pub returns-clause-grouped : goal.returns-clause-grouped
returns-clause-grouped c = λ t ordered.
    let pushed : c.push.new.runs.items ≡ c.in_ok-run.run' ∷ [] = c.in_ok-push.ensures ∙ ap (λ (rs : List Filled). rs ++ c.in_ok-run.run' ∷ []) c.new-runs.ensures.items in
    rw pushed (single_run t c.args.cells.now c.in_ok-run.run' ordered c.in_ok-run.ensures)
