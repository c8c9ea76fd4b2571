use Rattle.std.proofs.Common.{List, [], ap, append_assoc, arith, length, subst, sym, ◌++◌, ◌∙◌, ◌∷◌, ◌≡◌}
use Rattle.std.proofs.lemmas.List.{length-append}
use Rattle.std.specs.Vec.Iter.{into_iter_items}
use Rattle.host_core.specs.Ready.{Holding}
use Rattle.run_store.specs.Tables.{Laid}
use Rattle.cluster_machine.specs.Stores.{AreOf}
use Rattle.cluster_machine.proofs.PartLemmas.{of_count, of_more}
use Rattle.cluster_machine.proofs.stores.stores_of.Goals as goal

pub hosts-preserved : goal.hosts-preserved
hosts-preserved c =
    let at = c.hosts in
    let steps : into_iter_items at.host-iterator ≡ c.in-Some.host ∷ into_iter_items c.next.new.self = c.in-Some.ensures.steps.0 in (
      at.invariant.0 ∙ ap (λ (l : List (Holding Laid)). at.yielded ++ l) steps ∙ sym (append_assoc at.yielded (c.in-Some.host ∷ []) (into_iter_items c.next.new.self)),
      subst (λ (l : List Laid). AreOf (at.yielded ++ c.in-Some.host ∷ []) l) (sym c.add.ensures.items)
          (of_more at.yielded at.stores.items c.in-Some.host c.into_store.result at.invariant.1 c.into_store.ensures.cells c.into_store.ensures.ordered),
      let less = ap length steps in
          omega (arith, c.add.ensures.len, c.add.ensures.room, at.invariant.2, less),
    )

pub invariant_of-result : goal.invariant_of-result
invariant_of-result c =
    let all = ap length c.hosts.invariant.0 in
    omega (arith, c.requires.few, all, length-append c.hosts.yielded (into_iter_items c.hosts.host-iterator), of_count c.hosts.yielded c.hosts.stores.items c.hosts.invariant.1)
