use Rattle.std.specs.Prelude.{length, vec_len, ◌++◌, ◌+◌, ◌≡◌, ◌≤◌}
use Rattle.std.specs.Vec.{vec_capacity}
use Rattle.std.specs.Vec.Iter.{into_iter_items}
use Rattle.cluster_machine.specs.Stores.{AreOf}
use Rattle.cluster_machine.proofs.stores.stores_of.Given as goal

abbrev pub invariant-hosts : goal.invariant-hosts
invariant-hosts l =
    (l.fn.hosts.items ≡ l.yielded ++ into_iter_items l.host-iterator)
    × AreOf l.yielded l.stores.items
    × (vec_len l.stores + length (into_iter_items l.host-iterator) ≤ vec_capacity l.stores)
