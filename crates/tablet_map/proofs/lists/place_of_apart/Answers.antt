use Rattle.std.proofs.Common.{◌≡◌, ◌+◌, ◌*◌, false, rules, arith, sym}
use Rattle.tablet_map.specs.Replicas.{same_set}
use Rattle.tablet_map.specs.Tablets.{tablet_in}
use Rattle.tablet_map.proofs.Pairs.{apart_at, none_apart}
use Rattle.tablet_map.proofs.lists.place_of_apart.Goals as goal

pub returns-then-not-is_colocated-clause-place : goal.returns-then-not-is_colocated-clause-place
returns-then-not-is_colocated-clause-place c =
    let here : same_set (tablet_in c.args.tablets.now (2 * c.loop-pair.pair)).replicas (tablet_in c.args.tablets.now (2 * c.loop-pair.pair + 1)).replicas ≡ false = search rules in
    sym (apart_at c.args.tablets.now c.loop-pair.pair (omega arith) c.loop-pair.invariant here)

pub returns-clause-place : goal.returns-clause-place
returns-clause-place c = sym (none_apart c.args.tablets.now (λ k below. c.loop-pair.invariant k (omega arith)))
