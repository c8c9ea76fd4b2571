use Rattle.std.proofs.Common.{◌<◌, ap, arith, length, sym, subst}
use Rattle.tablet_map.specs.declared.tablet.Tablet.{Tablet}
use Rattle.tablet_map.specs.Tablets.{IsSound, Tablets}
use Rattle.tablet_map.proofs.Sound.{finished_sound, still_map}
use Rattle.tablet_map.proofs.map.TabletMap.finish.Goals as goal

pub invariant_of-self : goal.invariant_of-self
invariant_of-self c =
    let P : Tablet → Type 0 = IsSound in
    let was : Tablet = c.index_mut.result.now in
    let within : c.args.tablet.0 < length c.self.inside.tablets.items = omega (arith, ap (λ (t : Tablets). length t.list) c.self.view_is) in
    let sound : IsSound was = subst P (sym c.index_mut.ensures.value) (c.self.invariant.sound c.args.tablet.0 was within) in
    still_map c.self.inside.log2 c.self.inside.tablets.items c.args.tablet.0 c.finish.new.self c.self.invariant
    (subst P (sym c.finish.ensures) (finished_sound was sound))
