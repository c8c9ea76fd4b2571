use Rattle.std.proofs.Common.{◌≡◌, ◌∙◌, ap, rules, sym}
use Rattle.lane_core.proofs.KeptLemmas.{goes_on, kept_with_work, kept_without, lent_is, lent_waits, live_absent, live_decided, named_by, without_with_work}
use Rattle.lane_core.proofs.lane.LaneCore.take.Goals as goal

pub returns-in_default-clause-core : goal.returns-in_default-clause-core
returns-in_default-clause-core c =
    let l = c.self.inside in
    rw (← c.self.view_is) (ap (λ live. record { lane = l.lane; begun = l.begun; live = live }) (live_absent l.requests.live c.args.answer.now (sym c.in_default.ensures)))

pub take-requires-clause-named : goal.take-requires-clause-named
take-requires-clause-named c =
    let here : c.args.answer.now.lane ≡ c.self.inside.lane = search rules in
    named_by c.self.inside.lane c.in-Some-get_mut.work.now c.args.answer.now (lent_waits c.self.inside.lane c.self.inside.begun c.self.inside.requests.live c.args.answer.now.op c.in-Some.live.now c.in-Some-get_mut.work.now c.self.invariant c.in-Some-get_mut.ensures.value (sym c.in-Some.ensures)) here

pub take-requires-clause-undecided : goal.take-requires-clause-undecided
take-requires-clause-undecided c =
    (lent_waits c.self.inside.lane c.self.inside.begun c.self.inside.requests.live c.args.answer.now.op c.in-Some.live.now c.in-Some-get_mut.work.now c.self.invariant c.in-Some-get_mut.ensures.value (sym c.in-Some.ensures)).undecided

pub invariant_of-self : goal.invariant_of-self
invariant_of-self c =
    let l = c.self.inside in
    let waits = goes_on l.lane c.args.answer.now.op c.in-Some-get_mut.work.now c.take.new.self c.args.answer.now (lent_waits c.self.inside.lane c.self.inside.begun c.self.inside.requests.live c.args.answer.now.op c.in-Some.live.now c.in-Some-get_mut.work.now c.self.invariant c.in-Some-get_mut.ensures.value (sym c.in-Some.ensures)) c.take.ensures.work (sym c.take.ensures.taking ∙ c.in-Waiting.is) in
    kept_with_work l.lane l.begun l.requests.live c.args.answer.now.op c.take.new.self c.self.invariant waits

pub invariant_of-self-in-Decided : goal.invariant_of-self-in-Decided
invariant_of-self-in-Decided c =
    let l = c.self.inside in
    rw (c.remove.ensures.live, without_with_work l.requests.live c.args.answer.now.op c.take.new.self) (kept_without l.lane l.begun l.requests.live c.args.answer.now.op c.self.invariant)

pub returns-in-Decided-clause-core : goal.returns-in-Decided-clause-core
returns-in-Decided-clause-core c =
    let l = c.self.inside in
    let same = lent_is l.requests.live c.args.answer.now.op c.in-Some.live.now c.in-Some-get_mut.work.now c.in-Some-get_mut.ensures.value (sym c.in-Some.ensures) in
    let ended = c.remove.ensures.live ∙ without_with_work l.requests.live c.args.answer.now.op c.take.new.self ∙ live_decided l.requests.live c.args.answer.now c.in-Some.live.now c.in-Some-get_mut.work.now c.in-Decided.reply (sym c.in-Some.ensures) same (sym c.take.ensures.taking ∙ c.in-Decided.is) in
    rw (← c.self.view_is) (ap (λ live. record { lane = l.lane; begun = l.begun; live = live }) ended)
