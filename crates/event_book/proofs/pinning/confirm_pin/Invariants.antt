use Rattle.event_book.proofs.pinning.confirm_pin.Given as goal

-- both steps are about the version at which the pin was raised
abbrev pub ghosts-see_again : goal.ghosts-see_again
ghosts-see_again g a = record { chosen = a.version }

abbrev pub ghosts-lower_raised : goal.ghosts-lower_raised
ghosts-lower_raised g a = record { chosen = a.version }
