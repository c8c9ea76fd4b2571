use Rattle.std.proofs.Common.{ap, subst, sym, List, ◌∙◌, ◌≡◌}
use Rattle.std.specs.Prelude.{Some}
use Rattle.work_mail.proofs.MergeLemmas.{closed_as, ends}
use Rattle.work_mail.specs.Passes.{IsClosed, MailView}
use Rattle.work_mail.proofs.mailbox.Mailbox.close.Goals as goal

pub learn_as-requires-clause-rule : goal.learn_as-requires-clause-rule
learn_as-requires-clause-rule c = ends _ _

pub returns : goal.returns
returns c = λ first is.
    let some_is : Some c.in-Some.first ≡ Some first = sym c.in-Some.is ∙ (ap (λ passes. passes.first) c.passes.view_is ∙ is) in
    let same : c.in-Some.first ≡ first = cc in
    let asked : Some c.requires.first.0 ≡ Some first = sym c.requires.first.1 ∙ is in
    let its : c.requires.first.0 ≡ first = cc in
    let out = c.into_inner-first.ensures.out in
    let ended = c.learn_as.ensures.rule in
    let number = ap (λ mail. mail.number) (same ∙ sym its) ∙ c.requires.first.3 in
    let others = ap (λ passes. passes.others) c.passes.view_is in
    subst (λ (y : MailView × List MailView). IsClosed y.0 y.1) (λ i. (same i, others i))
    (closed_as out.0 c.in-Some.first _ _ _ _ ended.0 out.1 c.into_inner-first.ensures.view number c.gather.ensures.view ended.1)
