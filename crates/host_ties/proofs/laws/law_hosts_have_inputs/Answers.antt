-- Events of a host have inputs.
use Rattle.host_ties.proofs.laws.law_hosts_have_inputs.Goals as goal
use Rattle.host_ties.proofs.HostTies.{host_inputs}

pub returns : goal.returns
returns c = host_inputs
