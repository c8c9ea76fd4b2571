use Rattle.std.proofs.Common.{ap, ◌∷◌, ◌∙◌, List, ℕ}
use Rattle.text_grammar.specs.Cuts.{lines_of}
use Rattle.text_grammar.proofs.CutLemmas.{last_line, one_line}
use Rattle.text_grammar.proofs.lines.first_line.Goals as goal

pub returns-in-None : goal.returns-in-None
returns-in-None c = last_line c.args.bytes.now c.requires c.in-None.ensures

pub returns-in-Some : goal.returns-in-Some
returns-in-Some c =
    ap (λ (line : List ℕ). line ∷ lines_of c.in-Some.behind.now) c.without_return.ensures
    ∙ one_line c.args.bytes.now c.in-Some.line.now c.in-Some.behind.now c.requires c.in-Some.ensures
