-- The law of the trace, by what a written run says and by what its schedule plays.
use Rattle.std.proofs.Common.{List, [], ap, length, refl, suc, ℕ, ◌+◌, ◌∷◌, ◌≡◌}
use Rattle.cluster_history.specs.declared.data.Entry.{Entry}
use Rattle.schedule_write.specs.Written.{header_lines}
use Rattle.trace_law.proofs.PlayLemmas.{entries_are_played}
use Rattle.trace_law.specs.Traces.{WrittenRunsAreTraces}
use Rattle.written_text.proofs.RunLemmas.{written_runs_are_texts}
use Rattle.written_text.specs.Schedules.{event_lines, schedule_in}

as_many : (number : ℕ) (entries : List Entry) → length (event_lines number entries) ≡ length entries
as_many number [] = refl
as_many number (entry ∷ entries) = ap suc (as_many (number + 1) entries)

pub written_runs_are_traces : WrittenRunsAreTraces
written_runs_are_traces journal legal some fits within = record {
  schedule = schedule_in journal;
  text = written_runs_are_texts journal legal some fits;
  opening = refl;
  count = as_many (1 + length (header_lines journal.opening)) journal.entries;
  plays = entries_are_played journal (1 + length (header_lines journal.opening)) legal within;
}
