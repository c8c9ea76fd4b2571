use Rattle.std.proofs.Common.{ap, refl, sym, ◌++◌, ◌∙◌, ◌∷◌, []}
use Rattle.book_rule.specs.Turns.{has_actor}
use Rattle.thread_tests.proofs.SceneLemmas.{both_back}
use Rattle.thread_tests.proofs.pair.closed.Goals as goal

-- src/pair.rt:66:5
pub close-requires-clause-all : goal.close-requires-clause-all
close-requires-clause-all c =
    let l1 = c.give.ensures.seats ∙ ap (λ l. l ++ c.args.one ∷ []) c.requires.seats.1 in
    let l2 = c.give-2.ensures.seats ∙ ap (λ l. l ++ c.args.two ∷ []) l1 in
    λ actor h. both_back c.args.one.known.actor c.args.two.known.actor c.give-2.new.self.seats c.args.one c.args.two l2 refl refl actor (ap (λ l. has_actor l actor) (sym c.requires.actors) ∙ h)
