use Rattle.std.proofs.Common.{sym, ◌∙◌}
use Rattle.text_grammar.proofs.CutLemmas.{next_alone, next_before}
use Rattle.text_grammar.proofs.words.next_word.Goals as goal

pub returns-in-None : goal.returns-in-None
returns-in-None c = next_alone c.without_spaces-rest.result.now c.args.line.now c.without_spaces-rest.ensures.same c.without_spaces-rest.ensures.no_space (sym c.is_empty.ensures ∙ c.if-is_empty.false) c.in-None.ensures

pub returns-in-Some : goal.returns-in-Some
returns-in-Some c = next_before c.without_spaces-rest.result.now c.args.line.now c.in-Some.word.now c.in-Some.behind.now c.without_spaces-rest.ensures.same c.without_spaces-rest.ensures.no_space (sym c.is_empty.ensures ∙ c.if-is_empty.false) c.in-Some.ensures
