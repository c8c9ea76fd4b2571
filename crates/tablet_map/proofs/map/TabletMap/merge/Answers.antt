use Rattle.std.proofs.Common.{◌≡◌, ◌<◌, ◌-◌, List, map, rules, sym, subst}
use Rattle.tablet_map.specs.declared.tablet.Tablet.{Tablet}
use Rattle.tablet_map.specs.Tablets.{IsMap}
use Rattle.tablet_map.specs.Calls.{pairs}
use Rattle.tablet_map.proofs.Halves.{merge_map}
use Rattle.tablet_map.proofs.map.TabletMap.merge.Goals as goal

pub invariant_of-self : goal.invariant_of-self
invariant_of-self c =
    let e : c.keep_left.new.tablets.items ≡ map (λ (pair : Tablet × Tablet). pair.0) (pairs c.self.inside.tablets.items) = search rules in
    let above : 0 < c.self.inside.log2 = search rules in
    let P : List Tablet → Type 0 = λ list. IsMap (c.self.inside.log2 - 1) list in
    subst P (sym e) (merge_map c.self.inside.log2 c.self.inside.tablets.items above c.self.invariant)
