use Rattle.std.proofs.Common.{◌∙◌}
use Rattle.command_words.proofs.ProgramLemmas.{named_is_found}
use Rattle.command_words.proofs.words.command_found.Goals as goal
use Rattle.clap.specs.Matches.{found_of}

pub returns : goal.returns
returns c =
    c.command_named.ensures
    ∙ named_is_found c.args.matches.now c.in_ok-name.name.now (found_of c.in_ok-name.found.now) _ c.in_ok-name.ensures.name
    c.in_ok-name.ensures.rows c.get_str.ensures
