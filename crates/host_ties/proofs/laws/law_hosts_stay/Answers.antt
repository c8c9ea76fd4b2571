-- An event of another actor leaves a host.
use Rattle.host_ties.proofs.laws.law_hosts_stay.Goals as goal
use Rattle.host_ties.proofs.HostTies.{host_stays}

pub returns : goal.returns
returns c = host_stays
