use Rattle.std.proofs.Common.{◌≡◌, true, length, ◌∙◌}
use Rattle.base_ids.specs.Replicas.{on_distinct_hosts}
use Rattle.gather_core.specs.Rounds.{cells_in}
use Rattle.repair_core.proofs.RunLemmas.{can_repair, is_repaired}
use Rattle.repair_core.proofs.repair.repair_all.Goals as goal

pub gather_all-requires-clause-can : goal.gather_all-requires-clause-can
gather_all-requires-clause-can g c =
    let distinct : on_distinct_hosts c.args.replicas.now ≡ true = c.requires.distinct in
    can_repair (length c.args.stores.now) c.args.table c.args.range c.args.replicas.now c.repair.inside.gather (c.repair.view_is ∙ c.in_ok-repair.ensures) distinct c.requires.known

pub returns-clause-repaired : goal.returns-clause-repaired
returns-clause-repaired g c =
    is_repaired (length c.args.stores.now) c.args.table c.args.range c.args.replicas.now (cells_in g.S.Store.cells c.args.stores.now) c.repair.inside.gather
    (cells_in g.S.Store.cells c.gather_all.new.stores) c.gather_all.new.gather (c.repair.view_is ∙ c.in_ok-repair.ensures) c.requires.ordered c.in_ok-gather_all.ensures.come c.in_ok-gather_all.ensures.done

pub returns-clause-ordered : goal.returns-clause-ordered
returns-clause-ordered g c = c.in_ok-gather_all.ensures.come.ordered
