use Rattle.std.proofs.Common.{ap, arith, ◌∙◌, ◌+◌, ◌≡◌, get_or, take, if◌then◌else◌}
use Rattle.std.proofs.lemmas.List.{take_more}
use Rattle.barrier_core.specs.declared.data.What.TheVariants.{Drain}
use Rattle.engine_topos.specs.declared.notes.Asked.{Asked}
use Rattle.engine_topos.specs.Notes.{asked_in}
use Rattle.engine_topos.proofs.NoteLemmas.{asked_on}
use Rattle.engine_topos.proofs.notes.count_asked.Goals as goal
use Rattle.engine_topos.proofs.notes.count_asked.Goals.{then-is_asked, else-is_asked}

pub asks-preserved : goal.asks-preserved
asks-preserved c =
    let none : Asked = record { to = record { 0 = 0 }; what = Drain (record { 0 = 0 }) } in
    let to = c.args.to in
    let what = c.args.what in
    let asks = c.args.asks.now in
    let i = c.asks.asked-index in
    let inv = c.asks.invariant in
    let before = inv.0 in
    let within = inv.1 in
    let more : asked_in to what (take (i + 1) asks) ≡ asked_in to what (take i asks) + (if c.is_asked.result then 1 else 0) =
    ap (asked_in to what) (take_more asks i none c.asks-test.true) ∙ asked_on to what (get_or asks i none) (take i asks) c.is_asked.result c.is_asked.ensures in
    elim c.if-is_asked.branch [
      | then-is_asked w ↦
          let is = w.count-is in
          let on : asked_in to what (take (i + 1) asks) ≡ asked_in to what (take i asks) + 1 = more ∙ ap (λ b. asked_in to what (take i asks) + (if b then 1 else 0)) w.if-is_asked.true in
          (omega (arith, is, before, on), omega (arith, is, within))
      | else-is_asked w ↦
          let is = w.count-is in
          let on : asked_in to what (take (i + 1) asks) ≡ asked_in to what (take i asks) + 0 = more ∙ ap (λ b. asked_in to what (take i asks) + (if b then 1 else 0)) w.if-is_asked.false in
          (omega (arith, is, before, on), omega (arith, is, within))
    ]
