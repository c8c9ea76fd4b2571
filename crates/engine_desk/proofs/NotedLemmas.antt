-- What an actor pins, publishes or finds leaves what it has seen, and so its desk.
use Rattle.std.proofs.Common.{ap, refl, subst, sym, ◌∙◌}
use Rattle.std.specs.Prelude.{Bool, List, None, Option, Some, ◌∷◌, ◌≡◌}
use Rattle.base_ids.specs.declared.ids.Version.{Version}
use Rattle.engine_desk.specs.Chairs.{HasNoted, IsPinning, IsPublishing, Known, found_idle, published_by, with_pins, without_pin}
use Rattle.engine_desk.specs.Desks.{DeskNoted, DeskView, IsDesk, IsSameDesk}
use Rattle.engine_desk.specs.Lanes.{IsLane}
use Rattle.lane_core.specs.Lane.{LaneView}
use Rattle.run_plan.specs.declared.plan.RunPlan.{RunPlan}

-- ---- what the calls tell

noted_as : (old new : Known) (pins : List Version) (published : Version) (idle : Option Version) → new ≡ record old { pins = pins; published = published; idle = idle } → HasNoted old new
noted_as old new pins published idle is =
    subst (λ (k : Known). k ≡ record old { pins = k.pins; published = k.published; idle = k.idle }) (sym is) refl

pub pinning_noted : (old new : Known) (result : Option Version) → IsPinning old result new → HasNoted old new
pinning_noted old new None is = noted_as old new old.pins old.published old.idle is
pinning_noted old new (Some version) is = noted_as old new (version ∷ old.pins) old.published old.idle is

pub unpinning_noted : (old new : Known) (version : Version) → new ≡ with_pins (without_pin version old.pins) old → HasNoted old new
unpinning_noted old new version is = noted_as old new (without_pin version old.pins) old.published old.idle is

pub publishing_noted : (old new : Known) (version : Version) (done : Bool) → IsPublishing old version done new → HasNoted old new
publishing_noted old new version done is = noted_as old new old.pins (published_by done version old.published) None is

pub idling_noted : (old new : Known) (version : Version) (idle : Bool) → new ≡ record old { idle = found_idle idle version } → HasNoted old new
idling_noted old new version idle is = noted_as old new old.pins old.published (found_idle idle version) is

-- ---- a desk

known_noted : (plan : RunPlan) (desk : DeskView) (new : Known) → HasNoted desk.known new → IsDesk plan desk → IsDesk plan (record desk { known = new })
known_noted plan desk new noted d =
    subst (λ (k : Known). IsDesk plan (record desk { known = k })) (sym noted)
    (record {
      seated = record { valid = d.seated.valid; there = d.seated.there; run = d.seated.run };
      took = d.took;
      skips = d.skips;
      carries = d.carries;
    })

pub desk_noted : (plan : RunPlan) (old new : DeskView) → DeskNoted old new → IsDesk plan old → IsDesk plan new
desk_noted plan old new n d = subst (IsDesk plan) (sym n.is) (known_noted plan old new.known n.noted d)

pub same_noted : (old new : DeskView) → DeskNoted old new → IsSameDesk old new
same_noted old new n =
    record {
      table = ap (λ (k : Known). k.table) n.noted;
      opening = ap (λ (k : Known). k.opening) n.noted;
      actor = ap (λ (k : Known). k.actor) n.noted;
    }

-- and a lane
pub lane_noted : (old new : Known) (lane : LaneView) → HasNoted old new → IsLane old lane → IsLane new lane
lane_noted old new lane noted is = subst (λ (k : Known). IsLane k lane) (sym noted) (record { actor = is.actor; view = is.view })
