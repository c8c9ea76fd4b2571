use Rattle.std.proofs.Common.{◌≡◌, map, take, true}
use Rattle.std.specs.List.{list_all}
use Rattle.command_words.specs.Program.{is_plain}
use Rattle.command_words.proofs.texts.plain_texts.Given as goal

abbrev pub invariant-loop-word : goal.invariant-loop-word
invariant-loop-word l = record {
  read : map (λ text. text.now) l.texts.items ≡ take l.word-index l.words;
  plain : list_all is_plain (take l.word-index l.words) ≡ true;
}
