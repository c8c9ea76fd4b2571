use Rattle.std.proofs.Common.{rules, ◌≡◌, ◌≤◌, ◌<◌, ◌+◌, ◌-◌, ◌^◌, length, not, false, true, map, take, IfOk, OnOk, OnErr, option_map, IsTrue, ℕ, ◌*◌, ◌/◌, ◌%◌, Bool, nat_eq, nat_lt, List, [], ◌∷◌, ◌++◌, slice_index_or, slice_set, bit_and, bit_or, Fits, w8, w32, w64, Bor, MutBor}
use Rattle.base_ids.specs.Replicas.{has_host, on_distinct_hosts}
use Rattle.base_ids.specs.declared.ids.TableId.{TableId}
use Rattle.replica_store.specs.Cells.{IsOrdered}
use Rattle.stream_core.specs.Pulls.{next_ask}
use Rattle.stream_core.specs.declared.pull.Took.{Took}
use Rattle.gather_core.specs.Gathers.{gather_after, stored_after, took_of}
use Rattle.rebuild_core.specs.Rebuilds.{route_to, rebuild_routes, rebuild_of, are_known}
use Rattle.rebuild_core.specs.Laws.{IsRebuilt}
use Rattle.gather_core.specs.Laws.{AreOrdered}
use Rattle.gather_core.specs.Rounds.{cells_in}
use Rattle.rebuild_core.proofs.rebuild.rebuild_all.Goals as goal
use Rattle.std.proofs.Common.{◌∙◌}
use Rattle.rebuild_core.proofs.RunLemmas.{can_rebuild, is_rebuilt}

pub gather_all-requires-clause-can : goal.gather_all-requires-clause-can
gather_all-requires-clause-can g c =
    can_rebuild (length c.args.stores.now) c.args.first c.args.table c.args.range c.args.pending c.args.sources.now c.rebuild.inside.gather (c.rebuild.view_is ∙ c.in_ok-rebuild.ensures) c.requires.other c.requires.pending c.requires.known

pub returns-clause-rebuilt : goal.returns-clause-rebuilt
returns-clause-rebuilt g c =
    is_rebuilt (length c.args.stores.now) c.args.first c.args.table c.args.range c.args.pending c.args.sources.now (cells_in g.S.Store.cells c.args.stores.now) c.rebuild.inside.gather
    (cells_in g.S.Store.cells c.gather_all.new.stores) c.gather_all.new.gather (c.rebuild.view_is ∙ c.in_ok-rebuild.ensures) c.requires.ordered c.in_ok-gather_all.ensures.come c.in_ok-gather_all.ensures.done

pub returns-clause-ordered : goal.returns-clause-ordered
returns-clause-ordered g c = c.in_ok-gather_all.ensures.come.ordered
