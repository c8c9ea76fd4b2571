use Rattle.std.proofs.Common.{sym, ◌∙◌}
use Rattle.text_grammar.proofs.CutLemmas.{some_cut, no_cut}
use Rattle.text_grammar.proofs.words.cut_at.Goals as goal

pub returns-in_err-at : goal.returns-in_err-at
returns-in_err-at c = rw c.from_residual.ensures (no_cut c.args.byte c.args.bytes.now (sym c.in_err-at.was ∙ c.place_of.ensures))

pub returns : goal.returns
returns c = some_cut c.args.byte c.args.bytes.now c.in_ok-at.at (sym c.in_ok-at.was ∙ c.place_of.ensures)
