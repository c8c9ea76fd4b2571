use Rattle.std.proofs.Common.{sym}
use Rattle.command_words.proofs.ProgramLemmas.{none_unread}
use Rattle.command_words.proofs.TextLemmas.{none_shown}
use Rattle.command_words.proofs.words.read_words.Goals as goal

pub returns-in-None : goal.returns-in-None
returns-in-None c = sym (none_unread c.args.words.now (none_shown _ _ _ c.in_ok-texts.ensures c.in-None.is))
