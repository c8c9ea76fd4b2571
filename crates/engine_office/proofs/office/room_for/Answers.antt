use Rattle.std.proofs.Common.{List, OnOk, length, ap, arith, subst, sym, ◌∙◌, ◌≡◌, ◌≤◌, ◌++◌, drop, take}
use Rattle.engine_desk.specs.Offices.{BoxView, HaveRoom}
use Rattle.engine_office.specs.Sendings.{AreGrown}
use Rattle.engine_office.proofs.RoomLemmas.{sliced}
use Rattle.engine_office.proofs.office.room_for.Goals as goal

pub returns-clause-grown : goal.returns-clause-grown
returns-clause-grown g c =
    let old = c.args.boxes.now.items in
    let new = c.make_room.new.boxes in
    let is = c.as_mut_slice.ensures.len in
    let first : length old ≡ c.args.boxes.now.len = ap length (sym c.as_mut_slice.ensures.value) ∙ is in
    subst (AreGrown old) (sym (sliced c.args.boxes.now.len new old (c.make_room.auto.boxes ∙ is) (omega (arith, first))))
    (subst (λ (l : List BoxView). AreGrown l new) c.as_mut_slice.ensures.value c.make_room.ensures.grown)

pub returns-clause-room : goal.returns-clause-room
returns-clause-room g c =
    let old = c.args.boxes.now.items in
    let new = c.make_room.new.boxes in
    let is = c.as_mut_slice.ensures.len in
    let first : length old ≡ c.args.boxes.now.len = ap length (sym c.as_mut_slice.ensures.value) ∙ is in
    subst (λ (l : List BoxView). OnOk c.make_room.result (HaveRoom c.args.lanes l 0 c.args.letters.now)) (sym (sliced c.args.boxes.now.len new old (c.make_room.auto.boxes ∙ is) (omega (arith, first))))
    c.make_room.ensures.room
