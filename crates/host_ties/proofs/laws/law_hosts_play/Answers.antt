-- Hosts play their events.
use Rattle.host_ties.proofs.laws.law_hosts_play.Goals as goal
use Rattle.host_ties.proofs.HostTies.{host_plays}

pub returns : goal.returns
returns c = host_plays
