use Rattle.event_book.proofs.book.Book.unpin.Given as goal

-- the step is about the version that is unpinned
abbrev pub ghosts-lower_pin : goal.ghosts-lower_pin
ghosts-lower_pin g a = record { chosen = a.version }
