-- The rules of a host's events.
use Rattle.host_ties.proofs.laws.law_host_rules.Goals as goal
use Rattle.host_ties.proofs.HostRules.{host_rules}

pub returns : goal.returns
returns c = host_rules
