use Rattle.std.proofs.Common.{◌≡◌, take}
use Rattle.engine_desk.specs.Offices.{letters_of}
use Rattle.engine_office.proofs.letters.letters_of.Given as goal

abbrev pub invariant-outputs : goal.invariant-outputs
invariant-outputs l = (l.out ≡ l.output-index) × (l.letters.items ≡ letters_of 0 (take l.output-index l.outputs))
