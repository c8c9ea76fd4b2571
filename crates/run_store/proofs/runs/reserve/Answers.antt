use Rattle.std.proofs.Common.{◌^◌, ◌<◌, ◌≤◌, length, ◌∙◌, arith}
use Rattle.run_store.specs.Runs.{Filled}
use Rattle.run_store.proofs.GroupLemmas.{least_spare-set}
use Rattle.run_store.proofs.LoopLemmas.{stored-set, least_spare-all, length-same, each_more}
use Rattle.run_store.proofs.runs.reserve.Goals as goal

pub returns-in_err-reserve-clause-same : goal.returns-in_err-reserve-clause-same
returns-in_err-reserve-clause-same c =
    stored-set c.loop-at.runs.items c.loop-at.at c.index_mut-run.result.now c.reserve.new.self c.index_mut-run.ensures.value c.reserve.ensures.same ∙ c.loop-at.invariant.same

pub returns-in_err-reserve-clause-room : goal.returns-in_err-reserve-clause-room
returns-in_err-reserve-clause-room c =
    let kept = least_spare-set c.loop-at.runs.items c.loop-at.at 0 c.index_mut-run.result.now c.reserve.new.self c.index_mut-run.ensures.value (omega (arith, c.reserve.ensures.room)) in
    omega (arith, c.loop-at.invariant.room)

pub loop-at-preserved : goal.loop-at-preserved
loop-at-preserved c =
    let kept = least_spare-set c.loop-at.runs.items c.loop-at.at 0 c.index_mut-run.result.now c.reserve.new.self c.index_mut-run.ensures.value (omega (arith, c.reserve.ensures.room)) in
    let long = length-same c.loop-at.runs.items c.args.runs.now.items c.loop-at.invariant.same in
    let within : c.loop-at.at < length c.loop-at.runs.items = omega (arith, c.args.runs.now.ok.0) in
    record {
      same = stored-set c.loop-at.runs.items c.loop-at.at c.index_mut-run.result.now c.reserve.new.self c.index_mut-run.ensures.value c.reserve.ensures.same ∙ c.loop-at.invariant.same;
      room = omega (arith, c.loop-at.invariant.room);
      each = each_more (λ (run : Filled). c.args.n ≤ run.spare) c.loop-at.runs.items c.loop-at.at c.reserve.new.self within c.loop-at.invariant.each c.in_ok-reserve.ensures.ok;
    }

pub returns-clause-ok : goal.returns-clause-ok
returns-clause-ok c =
    let long = length-same c.loop-at.runs.items c.args.runs.now.items c.loop-at.invariant.same in
    let most : c.args.n ≤ 2 ^ 64 = omega (arith, c.ranges.n.fits) in
    least_spare-all c.args.n c.loop-at.runs.items most (λ k d below. c.loop-at.invariant.each k d (omega (arith, c.args.runs.now.ok.0)))
