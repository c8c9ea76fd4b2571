use Rattle.std.proofs.Common.{◌≡◌, arith, sym, ◌∙◌}
use Rattle.gather_core.proofs.CountLemmas.{Keeps, keeps_next, told_here, new_yes, new_no}
use Rattle.gather_core.proofs.counts.count_new.Goals as goal
use Rattle.gather_core.proofs.counts.count_new.Goals.{then-is_new_at, else-is_new_at}

pub counting-preserved : goal.counting-preserved
counting-preserved c =
    let before = c.args.before.now in
    let now = c.args.now.now in
    let i = c.counting.stored-index in
    let s = c.stored-item.result in
    let to = c.start_from-at.result in
    let inv = c.counting.invariant in
    let keeps = keeps_next before c.counting.at to now i s c.requires.now c.counting-test.true c.stored-item.is inv.keeps c.start_from-at.ensures.same in
    let told = told_here before c.counting.at to now i s c.counting-test.true c.stored-item.is inv.keeps c.start_from-at.ensures.same in
    elim c.if-is_new_at.branch [
      | then-is_new_at w ↦
          let more = new_yes before now i s to c.counting-test.true c.stored-item.is told (sym c.is_new_at.ensures ∙ w.if-is_new_at.true) in
          record {
            count = omega (arith, w.count-is, more, inv.count);
            few = omega (arith, w.count-is, inv.few);
            within = c.start_from-at.ensures.within;
            keeps = keeps;
          }
      | else-is_new_at w ↦
          let same = new_no before now i s to c.counting-test.true c.stored-item.is told (sym c.is_new_at.ensures ∙ w.if-is_new_at.false) in
          record {
            count = omega (arith, w.count-is, same, inv.count);
            few = omega (arith, w.count-is, inv.few);
            within = c.start_from-at.ensures.within;
            keeps = keeps;
          }
    ]
