use Rattle.book_rule.proofs.Noting.{confirms, looks_at_pins, lowers_pin, lowers_raised, publishes, raises, sees}
use Rattle.book_rule.proofs.laws.law_pin_steps.Goals as goal

pub returns-clause-lane : goal.returns-clause-lane
returns-clause-lane g c = λ about. let m = g.W.World.meaning in let laws = g.met.W.World.laws in
    record { see = sees m laws about; raise = raises m laws about; confirm = confirms m laws about; lower_raised = lowers_raised m laws about; lower_pin = lowers_pin m laws about }

pub returns-clause-host : goal.returns-clause-host
returns-clause-host g c = λ about. let m = g.W.World.meaning in let laws = g.met.W.World.laws in
    record { look = looks_at_pins m laws about; publish = λ slots id me known host next it is next_is empty reached fits. publishes m laws about slots id me known host empty.0 next it is next_is empty.1 reached fits }
