use Rattle.std.proofs.Common.{subst}
use Rattle.cluster_history.specs.Legal.{history_of}
use Rattle.cluster_history.specs.declared.data.Journal.{Journal}
use Rattle.cluster_machine.specs.Stores.{HoldTheirs}
use Rattle.cluster_machine.proofs.PartLemmas.{hold_theirs}
use Rattle.cluster_machine.proofs.machine.Machine.into_parts.Goals as goal

pub returns-in-Ok-clause-stores : goal.returns-in-Ok-clause-stores
returns-in-Ok-clause-stores c =
    let journal = c.self.inside.journal in
    let cluster = c.self.inside.cluster in
    subst (λ (j : Journal). HoldTheirs j.opening (history_of j) c.stores_of.result) c.self.view_is
    (hold_theirs journal.opening (history_of journal) cluster.log cluster.hosts.items cluster.lanes.items cluster.topos.items c.stores_of.result c.self.invariant c.stores_of.ensures)
