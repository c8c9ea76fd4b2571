use Rattle.lane_core.proofs.KeptLemmas.{undecided_if, kept_without}
use Rattle.lane_core.proofs.lane.LaneCore.give_up.Goals as goal

pub reply_given_up-out-requires : goal.reply_given_up-out-requires
reply_given_up-out-requires c =
    rw c.get.ensures (undecided_if c.self.inside.lane c.self.inside.begun c.self.inside.requests.live c.args.op c.self.invariant)

pub invariant_of-self : goal.invariant_of-self
invariant_of-self c =
    let l = c.self.inside in
    rw c.remove.ensures.live (kept_without l.lane l.begun l.requests.live c.args.op c.self.invariant)
