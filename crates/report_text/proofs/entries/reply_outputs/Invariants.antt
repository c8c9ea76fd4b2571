-- The replies of the outputs before this one were counted.
use Rattle.std.proofs.Common.{take, ◌≡◌, ◌≤◌}
use Rattle.std.specs.List.{count_by}
use Rattle.report_text.specs.Report.{is_reply}
use Rattle.report_text.proofs.entries.reply_outputs.Given as goal

abbrev pub invariant-loop-output : goal.invariant-loop-output
invariant-loop-output l = record {
  counted : l.replies ≡ count_by is_reply (take l.output-index l.outputs);
  few : l.replies ≤ l.output-index;
}
