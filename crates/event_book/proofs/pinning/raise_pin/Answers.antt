use Rattle.std.proofs.Common.{ap, subst, sym, length, ◌∙◌, ◌+◌, ◌<◌}
use Rattle.book_rule.specs.Pins.{with_note, with_raised}
use Rattle.event_book.proofs.pinning.raise_pin.Goals as goal

pub raise_at-requires-clause-lane : goal.raise_at-requires-clause-lane
raise_at-requires-clause-lane g c = ap (λ k. k.actor) c.see-found.ensures.told.1 ∙ c.requires.lane

pub raise_at-requires-clause-version : goal.raise_at-requires-clause-version
raise_at-requires-clause-version g c = ap (λ k. k.note.saw) c.see-found.ensures.told.1

pub raise_at-requires-clause-room : goal.raise_at-requires-clause-room
raise_at-requires-clause-room g c = subst (λ k. length k.note.pins + length k.note.raised < 8) (sym c.see-found.ensures.told.1) c.requires.room

pub returns-clause-told : goal.returns-clause-told
returns-clause-told g c = (c.raise_at.ensures.told.0, c.raise_at.ensures.told.1 ∙ ap (λ k. with_note (with_raised k.note) k) c.see-found.ensures.told.1)
