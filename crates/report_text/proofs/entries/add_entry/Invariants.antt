-- The lines of the outputs before this one were added.
use Rattle.std.proofs.Common.{◌≡◌, ◌++◌, take}
use Rattle.std.specs.List.{flat_map}
use Rattle.std.specs.Prelude.{option_to_list}
use Rattle.report_text.specs.Report.{output_line}
use Rattle.report_text.proofs.entries.add_entry.Given as goal

abbrev pub invariant-loop-output : goal.invariant-loop-output
invariant-loop-output l =
    l.lines ≡ l.fn.lines ++ flat_map (λ output. option_to_list (output_line l.version l.entry.event output)) (take l.output-index l.entry.outputs)
