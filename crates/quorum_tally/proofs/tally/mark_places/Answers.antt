use Rattle.std.proofs.Common.{◌∙◌}
use Rattle.quorum_tally.proofs.PlaceLemmas.{marked_places-unless_fresh}
use Rattle.quorum_tally.proofs.tally.mark_places.Goals as goal

pub returns-clause-kept : goal.returns-clause-kept
returns-clause-kept c =
    λ not_fresh.
    c.mark_all.ensures
    ∙ marked_places-unless_fresh c.args.places.now c.args.from c.args.standing (λ fresh. not_fresh (c.mark_in-mark.ensures ∙ fresh))
