-- A host's pulls, twice defined.
use Rattle.host_ties.proofs.laws.law_host_pulls.Goals as goal
use Rattle.host_ties.proofs.PullLemmas.{host_pulls}

pub returns : goal.returns
returns c = host_pulls
