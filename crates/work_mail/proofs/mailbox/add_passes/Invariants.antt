use Rattle.std.proofs.Common.{◌≡◌, ◌≤◌, ◌+◌, []}
use Rattle.std.specs.Vec.{vec_capacity}
use Rattle.crossbeam_queue.specs.Passes.{IsPassOf, view}
use Rattle.work_mail.specs.Passes.{fresh_passes}
use Rattle.work_mail.specs.declared.rule.MailLog.TheVariants.{First}
use Rattle.work_mail.proofs.mailbox.add_passes.Given as goal

abbrev pub invariant-loop : goal.invariant-loop
invariant-loop l = IsPassOf l.queue l.first × (view l.first ≡ First [] [] (l.counter + 1) []) × (l.others.items ≡ fresh_passes l.queue.table.shared.table_id l.counter) × (vec_capacity l.initial.others ≤ vec_capacity l.others)
