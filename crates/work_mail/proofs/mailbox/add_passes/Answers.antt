use Rattle.std.proofs.Common.{ap, arith, [], ◌∙◌, ◌+◌, ◌≤◌}
use Rattle.std.specs.Vec.{vec_capacity}
use Rattle.work_mail.proofs.MergeLemmas.{fresh_next}
use Rattle.work_mail.specs.Merges.{handed, handing}
use Rattle.work_mail.proofs.mailbox.add_passes.Goals as goal

pub hand_out-inner-requires-clause-first : goal.hand_out-inner-requires-clause-first
hand_out-inner-requires-clause-first c = ([], [], c.loop.counter + 1, [], c.loop.invariant.1)

pub new-pass-requires-clause-out : goal.new-pass-requires-clause-out
new-pass-requires-clause-out c = (c.loop.counter + 1, [], omega arith, c.hand_out-inner.ensures.views.1 ∙ ap handed c.loop.invariant.1)

pub loop-preserved : goal.loop-preserved
loop-preserved c =
    let inv = c.loop.invariant in
    let room : vec_capacity c.loop.others ≤ vec_capacity c.push.new.self = c.push.ensures.capacity in
    let before : vec_capacity c.args.others.now ≤ vec_capacity c.loop.others = inv.3 in (
      c.hand_out-inner.ensures.same.0,
      c.hand_out-inner.ensures.views.0 ∙ ap handing inv.1,
      fresh_next _ _ c.loop.counter _ _ _ _ inv.2 c.in_ok-push.ensures.items c.hand_out-inner.ensures.other.0 (c.hand_out-inner.ensures.views.1 ∙ ap handed inv.1) c.new-pass.ensures,
      omega (arith, room, before),
    )
