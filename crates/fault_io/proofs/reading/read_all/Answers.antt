use Rattle.std.proofs.Common.{◌++◌, arith, take}
use Rattle.std.proofs.lemmas.Grind.{common_steps}
use Rattle.fault_io.proofs.Pieces.{TakesBytes-append}
use Rattle.fault_io.proofs.reading.read_all.Goals as goal

pub returns-in-Got-clause-err : goal.returns-in-Got-clause-err
returns-in-Got-clause-err g c =
    let xs = c.reading.bytes.items in
    let ys = take c.in-Got.n c.next.new.buf in (
      xs ++ ys,
      TakesBytes-append
          (g.S.Source.account c.args.source.now)
          (g.S.Source.account c.reading.source)
          (g.S.Source.account c.next.new.self)
          xs
          ys
          c.reading.invariant.content
          c.reading.invariant.given
          c.reading.invariant.calls
          c.in-Got.ensures.bytes
          c.in-Got.ensures.given
          c.in-Got.ensures.called,
      grind (arith, common_steps),
    )

pub returns-then-is_err-clause-err : goal.returns-then-is_err-clause-err
returns-then-is_err-clause-err g c =
    let xs = c.reading.bytes.items in
    let ys = take c.in-Got-2.n c.next.new.buf in (
      xs ++ ys,
      TakesBytes-append
          (g.S.Source.account c.args.source.now)
          (g.S.Source.account c.reading.source)
          (g.S.Source.account c.next.new.self)
          xs
          ys
          c.reading.invariant.content
          c.reading.invariant.given
          c.reading.invariant.calls
          c.in-Got-2.ensures.bytes
          c.in-Got-2.ensures.given
          c.in-Got-2.ensures.called,
      grind (arith, common_steps),
    )
