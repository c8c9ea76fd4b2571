use Rattle.std.proofs.Common.{◌≡◌, ◌++◌, List, length, ℕ, []}
use Rattle.base_ids.specs.declared.ids.MsgRef.{MsgRef}
use Rattle.crossbeam_queue.specs.Passes.{IsPassOf, view}
use Rattle.work_mail.specs.Merges.{IsFirst}
use Rattle.work_mail.specs.Passes.{AreOthers, MailView, ended_of}
use Rattle.work_mail.specs.declared.rule.MailLog.TheVariants.{First}
use Rattle.work_mail.proofs.queue.gather.Given as goal

-- so far the last of the passes have come back
abbrev pub invariant-loop-pass : goal.invariant-loop-pass
invariant-loop-pass l = IsPassOf l.queue l.first × IsFirst (view l.first) × AreOthers l.queue.table.shared.table_id l.others.items
    × ((done : List MailView) × (l.initial.others.items ≡ l.others.items ++ done) × ((put took : List MsgRef) (made : ℕ) → view l.initial.first ≡ First put took made [] → view l.first ≡ First put took made (ended_of done)))

abbrev pub decreases-loop-pass : goal.decreases-loop-pass
decreases-loop-pass l = length l.others.items
