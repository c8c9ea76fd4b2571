use Rattle.quorum_ops.proofs.TakenLemmas.{after_answer-by, write_taking-by, write_from_begin, read_after_answer-by, read_taking-by, read_from_begin, timeout_of-by}
use Rattle.quorum_ops.proofs.laws.decision_laws.Goals as goal

pub returns : goal.returns
returns c = record {
  write_stands = after_answer-by;
  write_decides = write_taking-by;
  write_list = write_from_begin;
  read_stands = read_after_answer-by;
  read_decides = read_taking-by;
  read_list = read_from_begin;
  write_timeout = timeout_of-by;
  read_timeout = timeout_of-by;
}
