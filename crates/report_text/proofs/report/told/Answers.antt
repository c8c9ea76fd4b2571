-- The replies of an entry are no more than the lines that are not counted yet.
use Rattle.std.proofs.Common.{rules, ◌≡◌, ◌++◌, ◌+◌, ◌≤◌, reverse, take, length}
use Rattle.cluster_history.specs.Topology.{accepted_command}
use Rattle.report_text.specs.Report.{entry_lines, entry_replies}
use Rattle.report_text.specs.Tally.{tally_after}
use Rattle.report_text.proofs.TallyLemmas.{replies-within}
use Rattle.report_text.proofs.report.told.Goals as goal

pub prove-unreachable-requires : goal.prove-unreachable-requires
prove-unreachable-requires c =
    let entry = c.entry-item.result in
    let history = reverse (take c.loop-entry.entry-index c.as_slice-entry-items.result.now) in
    let next = tally_after c.loop-entry.tally (accepted_command entry.event entry.outputs) in
    let longer : c.add_entry.new.lines ≡ c.loop-entry.lines ++ entry_lines next.version entry = search rules in
    let within : next.replies + entry_replies entry ≤ length c.add_entry.new.lines =
    replies-within c.args.journal.now.opening history c.loop-entry.lines c.add_entry.new.lines c.loop-entry.tally
    c.loop-entry.entry-index entry c.loop-entry.invariant longer in
    search rules
