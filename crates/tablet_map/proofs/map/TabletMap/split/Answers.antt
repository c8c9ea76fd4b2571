use Rattle.std.proofs.Common.{◌≡◌, ◌<◌, ◌+◌, List, rules, sym, subst}
use Rattle.std.specs.List.{flat_map}
use Rattle.tablet_map.specs.declared.tablet.Tablet.{Tablet}
use Rattle.tablet_map.specs.Tablets.{IsMap}
use Rattle.tablet_map.specs.Calls.{both}
use Rattle.tablet_map.proofs.Halves.{split_map}
use Rattle.tablet_map.proofs.map.TabletMap.split.Goals as goal

pub invariant_of-self : goal.invariant_of-self
invariant_of-self c =
    let e : c.in_ok-tablets.tablets.items ≡ flat_map both c.self.inside.tablets.items = search rules in
    let below : c.self.inside.log2 < 10 = search rules in
    (let P : List Tablet → Type 0 = λ list. IsMap (c.self.inside.log2 + 1) list in
    subst P (sym e) (split_map c.self.inside.log2 c.self.inside.tablets.items below c.self.invariant))
