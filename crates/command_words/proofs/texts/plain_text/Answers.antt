use Rattle.command_words.proofs.TextLemmas.{other_is_none, text_is_plain}
use Rattle.command_words.proofs.texts.plain_text.Goals as goal

pub returns-in-Ok : goal.returns-in-Ok
returns-in-Ok c =
    text_is_plain c.in-Ok.text.now c.args.word.now c.in-Ok.ensures.cases.0 c.in-Ok.ensures.cases.1 c.in-Ok.not-text

pub returns-in-Err : goal.returns-in-Err
returns-in-Err c = other_is_none c.args.word.now c.in-Err.ensures.cases.0
