use Rattle.std.proofs.Common.{◌∙◌, map, rules, sym}
use Rattle.clap.specs.Simple.{app_of}
use Rattle.command_words.proofs.ProgramLemmas.{found_is_asked, none_refused}
use Rattle.command_words.proofs.words.read_texts.Goals as goal

pub returns-in-Ok : goal.returns-in-Ok
returns-in-Ok c =
    c.command_found.ensures
    ∙ found_is_asked (app_of c.in_ok-command.command) (map (λ text. text.now) c.args.texts.now) c.in-Ok.matches
    c.in_ok-command.ensures c.requires c.in-Ok.ensures.kinds c.in-Ok.ensures.matches

pub returns : goal.returns
returns c =
    sym (none_refused (app_of c.in_ok-command.command) (map (λ text. text.now) c.args.texts.now) c.in-Err.error
    c.in_ok-command.ensures c.in-Err.ensures.kinds (search rules))
