use Rattle.std.proofs.Common.{ap, arith, refl, sym, ◌∙◌, ◌+◌, ◌≡◌, ◌<◌, ◌++◌, ◌∷◌, [], get_or, length, take, Bool, true, false, if◌then◌else◌}
use Rattle.std.proofs.lemmas.List.{take_more}
use Rattle.base_ids.specs.declared.ids.MsgRef.{MsgRef}
use Rattle.engine_desk.specs.Desks.{count_in}
use Rattle.engine_desk.proofs.FileLemmas.{count_on}
use Rattle.engine_desk.proofs.desk.count_of.Goals as goal
use Rattle.engine_desk.proofs.desk.count_of.Goals.{then-eq, else-eq}

pub refs-preserved : goal.refs-preserved
refs-preserved c =
    let none : MsgRef = record { event = 0; out = 0 } in
    let at = c.args.at in
    let refs = c.args.refs.now in
    let i = c.refs.other-index in
    let inv = c.refs.invariant in
    let before = inv.0 in
    let within = inv.1 in
    let more : count_in at (take (i + 1) refs) ≡ count_in at (take i refs) + (if c.eq.result then 1 else 0) =
    ap (count_in at) (take_more refs i none c.refs-test.true) ∙ count_on at (get_or refs i none) (take i refs) c.eq.result c.eq.ensures in
    elim c.if-eq.branch [
      | then-eq w ↦
          let is = w.count-is in
          let on : count_in at (take (i + 1) refs) ≡ count_in at (take i refs) + 1 = more ∙ ap (λ b. count_in at (take i refs) + (if b then 1 else 0)) w.if-eq.true in
          (omega (arith, is, before, on), omega (arith, is, within))
      | else-eq w ↦
          let is = w.count-is in
          let on : count_in at (take (i + 1) refs) ≡ count_in at (take i refs) + 0 = more ∙ ap (λ b. count_in at (take i refs) + (if b then 1 else 0)) w.if-eq.false in
          (omega (arith, is, before, on), omega (arith, is, within))
    ]
