use Rattle.std.proofs.Common.{sym, ◌∙◌, ap}
use Rattle.text_grammar.specs.Readings.{ends_line}
use Rattle.text_grammar.proofs.CutLemmas.{no_words}
use Rattle.text_grammar.proofs.words.is_end.Goals as goal

pub returns : goal.returns
returns c = c.is_empty.ensures ∙ sym (no_words c.without_spaces.result.now c.without_spaces.ensures.no_space) ∙ ap ends_line c.without_spaces.ensures.same
