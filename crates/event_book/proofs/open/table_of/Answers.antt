use Rattle.std.proofs.Common.{rules, ap, length, [], ◌∙◌, ◌∷◌, ◌≡◌}
use Rattle.book_rule.proofs.Seating.{opens_as, words_count}
use Rattle.book_rule.specs.Notes.{first_words}
use Rattle.event_book.proofs.open.table_of.Goals as goal

pub new-requires-2 : goal.new-requires-2
new-requires-2 g c =
    let ws : c.as_slice.result.now ≡ first_words c.args.about.now.hosts = c.as_slice.ensures.value ∙ c.in_ok-words.ensures in
    let js : c.push.new.self.items ≡ c.new.result ∷ [] = search rules in
    opens_as g.W.World.meaning c.args.about.now g.met.W.World.laws c.requires.book c.args.world c.requires.opening c.requires.log c.as_slice.result.now c.push.new.self.items ws (js ∙ ap (λ j. j ∷ []) c.new.ensures)

pub returns-in-Ok-clause-shape : goal.returns-in-Ok-clause-shape
returns-in-Ok-clause-shape g c =
    let ws : c.as_slice.result.now ≡ first_words c.args.about.now.hosts = c.as_slice.ensures.value ∙ c.in_ok-words.ensures in
    let js : c.push.new.self.items ≡ c.new.result ∷ [] = search rules in
    let made = c.in-Ok.ensures.ok in
    (made.0 ∙ (ap length ws ∙ words_count g.W.World.meaning c.args.about.now c.args.about.now.hosts), made.1 ∙ ap length js, made.5)
