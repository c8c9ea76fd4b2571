use Rattle.quorum_ops.proofs.IdleAnswers.{pending_begin, pending_next, write_unless_fresh, read_unless_fresh, idle_answer}
use Rattle.quorum_ops.proofs.laws.idle_laws.Goals as goal

pub returns : goal.returns
returns c = record {
  begins_undecided = pending_begin;
  stays_undecided = pending_next;
  write_unless_fresh = write_unless_fresh;
  read_unless_fresh = read_unless_fresh;
  list = idle_answer;
}
