-- The words so far, and then those that are left, are the words after the first.
use Rattle.std.proofs.Common.{◌≡◌, ◌++◌, length, map, drop}
use Rattle.std.specs.Prelude.{string_bytes}
use Rattle.std.specs.Vec.Iter.{into_iter_items, into_iter_len}
use Rattle.cluster_cli.proofs.process.words_after_name.Given as goal

abbrev pub invariant-words : goal.invariant-words
invariant-words l = record {
  handed : l.words ++ map string_bytes (into_iter_items l.args) ≡ map string_bytes (drop 1 (into_iter_items l.fn.args));
  count : into_iter_len l.args ≡ length (into_iter_items l.args);
}

abbrev pub decreases-words : goal.decreases-words
decreases-words l = into_iter_len l.args
