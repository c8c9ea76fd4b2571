-- Each event that is played leaves the same to play, and where one is not the whole play ends.
use Rattle.std.proofs.Common.{reverse, subst}
use Rattle.schedule_play.proofs.PlayLemmas.{going_ends, going_front, going_on, going_stops, handed_on}
use Rattle.schedule_play.specs.Fits.{IsFitNext, IsNextOf}
use Rattle.schedule_play.specs.declared.playing.PlayError.TheVariants.{NoMemory}
use Rattle.schedule_play.proofs.playing.play_tasks.Goals as goal

pub returns-in_err-event-clause-play : goal.returns-in_err-event-clause-play
returns-in_err-event-clause-play c =
    handed_on c.from_residual.result NoMemory c.playing.machine _ c.from_residual.ensures.1 (going_front c.args.line _ c.playing.machine c.playing.left c.playing.invariant)

pub playing-preserved : goal.playing-preserved
playing-preserved c =
    going_on c.args.line _ c.playing.machine c.play_event.new.machine c.playing.left c.next.new.left c.in-Some.event c.playing.invariant
    (subst (λ found. IsNextOf c.playing.machine (reverse c.playing.left) found (reverse c.next.new.left)) c.in-Some.is c.in_ok-event.ensures.next)
    (subst (λ found. IsFitNext c.playing.machine found (reverse c.next.new.left)) c.in-Some.is c.in_ok-event.ensures.fit).1
    c.in_ok-play_event.ensures

pub returns-in_err-play_event-clause-play : goal.returns-in_err-play_event-clause-play
returns-in_err-play_event-clause-play c =
    handed_on c.from_residual-in_err-play_event.result c.in_err-play_event.field-0.0 c.play_event.new.machine _ c.from_residual-in_err-play_event.ensures.1
    (going_stops c.in_err-play_event.field-0.0 c.args.line _ c.playing.machine c.play_event.new.machine c.playing.left c.next.new.left c.in-Some.event c.playing.invariant
    (subst (λ found. IsNextOf c.playing.machine (reverse c.playing.left) found (reverse c.next.new.left)) c.in-Some.is c.in_ok-event.ensures.next)
    c.in_err-play_event.ensures)

pub returns-clause-play : goal.returns-clause-play
returns-clause-play c =
    going_ends c.args.line _ c.playing.machine c.playing.left c.playing.invariant
    (subst (λ found. IsNextOf c.playing.machine (reverse c.playing.left) found (reverse c.next.new.left)) c.in_default.is c.in_ok-event.ensures.next)
