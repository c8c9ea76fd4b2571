use Rattle.std.proofs.Common.{ap, sym, subst, length, ◌<◌, ◌∙◌, ◌≡◌}
use Rattle.book_rule.proofs.Opening.{is_book}
use Rattle.book_rule.specs.Notes.{hosts_of}
use Rattle.book_rule.specs.Seats.{AreOf}
use Rattle.book_rule.specs.Turns.{are_distinct, has_actor}
use Rattle.event_book.proofs.OpenLemmas.{fresh_of}
use Rattle.event_book.proofs.book.Book.new.Goals as goal

pub table_of-requires-clause-book : goal.table_of-requires-clause-book
table_of-requires-clause-book g c =
    let acts : c.from_vec.result ≡ c.args.actors.now = c.from_vec.ensures ∙ c.in_ok-copied.ensures.items in
    is_book g.W.World.meaning _ (ap are_distinct acts ∙ c.requires.distinct) (subst (λ l. length l < 4294967295) (sym acts) c.requires.few)
    (λ a h. subst (λ o. g.W.World.meaning.is_in o a) (sym c.in_ok-opening.ensures) (c.requires.inside a (ap (λ l. has_actor l a) (sym acts) ∙ h)))
    (c.hosts_of-hosts.ensures.bound ∙ ap hosts_of (sym acts))

pub invariant_of-result-2 : goal.invariant_of-result-2
invariant_of-result-2 g c =
    let keeper = c.in_ok-seats.ensures.keeper in
    let id = c.in_ok-table.table.shared.table_id in
    let same : c.hand_out.new.keeper.table_id ≡ id = keeper.0 ∙ c.in_ok-table.ensures.keeper.0 in
    ((c.in_ok-table.table.shared.key.opening, keeper.1), subst (λ t. AreOf t c.in_ok-seats.seats.items) (sym same) (subst (AreOf id) (sym c.in_ok-seats.ensures.seats) (fresh_of id c.in_ok-table.table.shared.key.opening c.args.actors.now)))
