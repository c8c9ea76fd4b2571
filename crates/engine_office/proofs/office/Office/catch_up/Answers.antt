use Rattle.std.proofs.Common.{Option, Some, ap, length, subst, sym, ◌∙◌, ◌≤◌, ◌≡◌}
use Rattle.base_ids.specs.declared.ids.MsgRef.{MsgRef}
use Rattle.engine_office.specs.Sendings.{OfficeView, last_number}
use Rattle.engine_office.proofs.SendingLemmas.{message_within}
use Rattle.engine_office.proofs.office.Office.catch_up.Goals as goal

pub returns-in_ok-wait_for-clause-caught : goal.returns-in_ok-wait_for-clause-caught
returns-in_ok-wait_for-clause-caught g c =
    let seen = c.wait_for.new.self.known.seen in
    subst (λ (v : OfficeView). last_number v.last ≤ length seen) c.self.view_is
    (subst (λ (o : Option MsgRef). last_number o ≤ length seen) (sym c.in-Some.is)
    (message_within seen c.in-Some.at c.in_ok-wait_for.field-0 c.in_ok-wait_for.ensures.found))
