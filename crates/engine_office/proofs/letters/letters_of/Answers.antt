use Rattle.std.proofs.Common.{ap, ◌+◌, ◌++◌, ◌∙◌, ◌∷◌, []}
use Rattle.engine_desk.specs.Offices.{letters_of}
use Rattle.engine_office.proofs.RoomLemmas.{letters_on}
use Rattle.engine_office.proofs.letters.letters_of.Goals as goal

pub outputs-preserved : goal.outputs-preserved
outputs-preserved c =
    let added = c.in_ok-add_letter.ensures ∙ ap (λ o. c.outputs.letters.items ++ letters_of c.outputs.out (o ∷ [])) c.output-item.is in
    (ap (λ n. n + 1) c.outputs.invariant.0, letters_on c.args.outputs.now c.outputs.output-index c.outputs.out _ c.outputs.letters.items c.add_letter.new.letters.items c.outputs-test.true c.outputs.invariant.0 c.outputs.invariant.1 added)
