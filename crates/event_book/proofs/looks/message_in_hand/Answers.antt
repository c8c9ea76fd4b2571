use Rattle.std.proofs.Common.{sym, ap, ◌∙◌, ◌∷◌}
use Rattle.atomic_table.specs.Table.{rest}
use Rattle.event_book.proofs.looks.message_in_hand.Goals as goal

pub slot_mut-journal-requires : goal.slot_mut-journal-requires
slot_mut-journal-requires g c = let old = c.requires.hand.0 in let has = c.requires.hand.1 in (c.requires.seat, (old, has ∙ ap (λ l. (0, old) ∷ rest l) (sym has)))

pub returns-clause-hand : goal.returns-clause-hand
returns-clause-hand g c = let has = c.requires.hand.1 in let old = c.slot_mut-journal.result.now in
    (old, c.slot_mut-journal.ensures.value ∙ ap (λ l. (0, old) ∷ rest l) has, c.message.ensures)
