-- The chosen event may be played, and what is left may be after it.
use Rattle.std.proofs.Common.{sym, ◌∙◌}
use Rattle.schedule_play.proofs.FitLemmas.{left_fit}
use Rattle.schedule_play.proofs.tasks.next.Goals as goal

pub returns-in-Some-turn-clause-fit : goal.returns-in-Some-turn-clause-fit
returns-in-Some-turn-clause-fit c =
    left_fit c.args.machine.now c.loop-first.left c.pop.new.self c.put_back.new.left c.in-Some.first c.in-Some-turn.event c.in-Some-turn.later
    c.turn.ensures.legal c.loop-first.invariant.fit
    c.in-Some.ensures.list c.in_ok-put_back-in-Some-turn.ensures (sym c.turn.ensures.turn ∙ c.in-Some-turn.is)
