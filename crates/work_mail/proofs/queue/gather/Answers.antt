use Rattle.std.proofs.Common.{rules, ap, subst, ◌∙◌, ◌≡◌, ◌++◌, ◌∷◌, ◌<◌, []}
use mathlib.Core.List.{append_assoc}
use Rattle.work_mail.proofs.MergeLemmas.{all_front, all_last}
use Rattle.work_mail.specs.Passes.{AreOthers, ended_of}
use Rattle.work_mail.proofs.queue.gather.Goals as goal

pub give_back-requires-clause-pass : goal.give_back-requires-clause-pass
give_back-requires-clause-pass c =
    let popped : c.loop-pass.others.items ≡ c.pop.new.self.items ++ c.in-Some.pass ∷ [] = search rules in
    let table = c.args.queue.now.table.shared.table_id in
    let of : AreOthers table (c.pop.new.self.items ++ c.in-Some.pass ∷ []) = subst (AreOthers table) popped c.loop-pass.invariant.2 in
    (c.loop-pass.invariant.0, (all_last (λ mail. (mail.table ≡ table) × (0 < mail.number)) c.pop.new.self.items c.in-Some.pass of).0)

pub give_back-requires-clause-other : goal.give_back-requires-clause-other
give_back-requires-clause-other c =
    let popped : c.loop-pass.others.items ≡ c.pop.new.self.items ++ c.in-Some.pass ∷ [] = search rules in
    let table = c.args.queue.now.table.shared.table_id in
    let of : AreOthers table (c.pop.new.self.items ++ c.in-Some.pass ∷ []) = subst (AreOthers table) popped c.loop-pass.invariant.2 in
    (all_last (λ mail. (mail.table ≡ table) × (0 < mail.number)) c.pop.new.self.items c.in-Some.pass of).1

pub loop-pass-preserved : goal.loop-pass-preserved
loop-pass-preserved c =
    let popped : c.loop-pass.others.items ≡ c.pop.new.self.items ++ c.in-Some.pass ∷ [] = search rules in
    let inv = c.loop-pass.invariant in
    let first = inv.1 in
    let table = c.args.queue.now.table.shared.table_id in
    let of : AreOthers table (c.pop.new.self.items ++ c.in-Some.pass ∷ []) = subst (AreOthers table) popped inv.2 in
    let done = inv.3.0 in (
      c.give_back.ensures.same.0,
      (first.0, first.1, first.2, _, c.give_back.ensures.view first.0 first.1 first.2 first.3 first.4),
      all_front (λ mail. (mail.table ≡ table) × (0 < mail.number)) c.pop.new.self.items c.in-Some.pass of,
      (c.in-Some.pass ∷ done, inv.3.1 ∙ (ap (λ l. l ++ done) popped ∙ append_assoc c.pop.new.self.items (c.in-Some.pass ∷ []) done), λ put took made is. c.give_back.ensures.view put took made (ended_of done) (inv.3.2 put took made is)),
    )
