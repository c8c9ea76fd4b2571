use Rattle.std.proofs.Common.{List, length, ap, arith, subst, sym, ◌∙◌, ◌≡◌, ◌≤◌, ◌++◌, drop, take}
use Rattle.engine_desk.specs.Offices.{BoxView, IsOffice, with_letters}
use Rattle.engine_office.proofs.RoomLemmas.{sliced}
use Rattle.engine_office.proofs.office.post_all.Goals as goal

pub returns-clause-posted : goal.returns-clause-posted
returns-clause-posted g c = λ worker by posts office.
    let old = c.args.boxes.now.items in
    let new = c.post_letters.new.boxes in
    let is = c.as_mut_slice.ensures.len in
    let first : length old ≡ c.args.boxes.now.len = ap length (sym c.as_mut_slice.ensures.value) ∙ is in
    subst (λ (l : List BoxView). IsOffice c.args.storm worker c.post_letters.new.draws l (with_letters by c.args.number c.args.letters.now posts))
    (sym (sliced c.args.boxes.now.len new old (c.post_letters.auto.boxes ∙ is) (omega (arith, first))))
    (c.post_letters.ensures.posted worker by posts (subst (λ (l : List BoxView). IsOffice c.args.storm worker c.args.draws.now l posts) (sym c.as_mut_slice.ensures.value) office))
