use Rattle.std.proofs.Common.{ap, sym, subst, ◌∙◌, ◌<◌}
use Rattle.work_mail.proofs.MergeLemmas.{other_is, took_in}
use Rattle.work_mail.proofs.queue.give_back.Goals as goal

pub take_in-requires-clause-pass : goal.take_in-requires-clause-pass
take_in-requires-clause-pass c = (c.requires.pass.0, (c.into_inner.ensures.table ∙ c.requires.pass.1, c.into_inner.ensures.home))

pub take_in-requires-clause-other : goal.take_in-requires-clause-other
take_in-requires-clause-other c =
    let out = c.into_inner.ensures.out in
    let number = ap (λ mail. mail.number) c.into_inner.ensures.view in
    other_is out.0 _ out.1 (subst (λ n. 0 < n) number c.requires.other)

pub returns-clause-view : goal.returns-clause-view
returns-clause-view c =
    let out = c.into_inner.ensures.out in
    let number = ap (λ mail. mail.number) c.into_inner.ensures.view in
    let put = ap (λ mail. mail.put) c.into_inner.ensures.view in
    took_in _ _ _ _ _ c.take_in.ensures.view (other_is out.0 _ out.1 (subst (λ n. 0 < n) number c.requires.other)) (sym number) (sym put)
