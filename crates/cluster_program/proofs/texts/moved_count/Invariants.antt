use Rattle.std.proofs.Common.{take, ◌≡◌, ◌≤◌}
use Rattle.std.specs.List.{count_by}
use Rattle.cluster_program.specs.Texts.{ends_move}
use Rattle.cluster_program.proofs.texts.moved_count.Given as goal

abbrev pub invariant-loop-line : goal.invariant-loop-line
invariant-loop-line l = record {
  counted : l.moved ≡ count_by ends_move (take l.line-index l.schedule.lines);
  few : l.moved ≤ l.line-index;
}
