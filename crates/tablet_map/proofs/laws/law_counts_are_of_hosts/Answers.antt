use Rattle.tablet_map.proofs.Hosts.{count_hosts}
use Rattle.tablet_map.proofs.laws.law_counts_are_of_hosts.Goals as goal

pub returns : goal.returns
returns c = count_hosts
