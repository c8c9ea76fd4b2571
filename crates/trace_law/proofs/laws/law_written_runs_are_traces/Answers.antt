-- The law, by its lemma.
use Rattle.trace_law.proofs.TraceLemmas.{written_runs_are_traces}
use Rattle.trace_law.proofs.laws.law_written_runs_are_traces.Goals as goal

pub returns : goal.returns
returns c = written_runs_are_traces
