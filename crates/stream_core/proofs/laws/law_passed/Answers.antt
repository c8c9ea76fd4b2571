use Rattle.stream_core.proofs.PassedLemmas.{passed_is_covered}
use Rattle.stream_core.proofs.laws.law_passed.Goals as goal

pub returns : goal.returns
returns c = passed_is_covered
