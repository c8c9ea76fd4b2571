-- An operation in the text of a document is read as a part of it.
use Rattle.std.proofs.Common.{◌≡◌, ℕ, List}
use Rattle.text_grammar.specs.Shapes.{EndOr}
use Rattle.text_grammar.specs.Readings.{◌>>=◌, reading}
use Rattle.schedule_lines.specs.Code.{operation_at}
use Rattle.schedule_lines.proofs.OperationLemmas.{operation_then as with_more}
use Rattle.schedule_words.specs.declared.counts.Format.{Format}
use Rattle.cluster_file.specs.Plans.{levelled, one_operation}

pub operation_then : (format : Format) (words : List (List ℕ)) → reading (one_operation format) words ≡ (operation_at words >>= λ x. reading (EndOr x.0 (levelled format x.0)) x.1)
unfolding one_operation
operation_then format words = with_more (λ op. EndOr op (levelled format op)) words
