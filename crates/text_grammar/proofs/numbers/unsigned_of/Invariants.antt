use Rattle.std.proofs.Common.{◌≡◌, ◌<◌, ◌^◌, drop}
use Rattle.text_grammar.specs.Readings.{with_digits}
use Rattle.text_grammar.proofs.numbers.unsigned_of.Given as goal

abbrev pub invariant-loop-byte : goal.invariant-loop-byte
invariant-loop-byte l = record {
  read : with_digits l.number (drop l.byte-index l.word) ≡ with_digits 0 l.fn.word;
  below : l.number < 10 ^ l.byte-index;
}
