use Rattle.std.proofs.Common.{List, length, Option, ap, subst, sym, ◌∙◌, ◌≡◌, ◌≤◌, ◌+◌}
use Rattle.base_ids.specs.declared.ids.MsgRef.{MsgRef}
use Rattle.engine_desk.specs.Offices.{HaveRoom, IsOffice, letters_of, with_letters}
use Rattle.engine_desk.specs.declared.office.Letter.{Letter}
use Rattle.engine_office.specs.Sendings.{OfficeView, SendsOn, last_number, newest}
use Rattle.engine_office.proofs.RoomLemmas.{office_grown}
use Rattle.engine_office.proofs.SendingLemmas.{caught_committed, sends_committed, sends_turned}
use Rattle.engine_office.proofs.office.Office.commit.Goals as goal

pub returns-in_err-number-clause-sends : goal.returns-in_err-number-clause-sends
returns-in_err-number-clause-sends g c =
    let o = c.self.inside in
    subst (λ (v : OfficeView). SendsOn c.args.desk.now.known c.commit.new.self.known v (record { worker = o.worker; storm = o.storm; lanes = o.lanes; draws = o.draws; boxes = c.room_for.new.boxes.items; last = o.last }))
    c.self.view_is
    (sends_turned c.args.desk.now.known c.commit.new.self.known o.worker o.storm o.lanes o.draws o.boxes.items c.room_for.new.boxes.items o.last c.in_err-number.ensures.turned c.room_for.ensures.grown)

pub post_all-requires-clause-room : goal.post_all-requires-clause-room
post_all-requires-clause-room g c =
    subst (λ (l : List Letter). HaveRoom c.self.inside.lanes c.room_for.new.boxes.items 0 l) (c.as_slice-2.ensures.value ∙ sym c.as_slice-3.ensures.value) c.in_ok-room_for.ensures.room

pub returns-clause-sends : goal.returns-clause-sends
returns-clause-sends g c =
    let known = c.args.desk.now.known in
    let after = c.commit.new.self.known in
    let o = c.self.inside in
    let outputs = c.args.entry.outputs in
    let number = c.in_ok-number.number in
    let boxes = c.post_all.new.boxes.items in
    let letters_are : c.in_ok-letters.letters.items ≡ letters_of 0 outputs = c.in_ok-letters.ensures ∙ ap (letters_of 0) c.as_slice.ensures in
    let last_is : c.newest-self-inside.result ≡ newest number (letters_of 0 outputs) o.last =
    c.newest-self-inside.ensures ∙ ap (λ (l : List Letter). newest number l o.last) (c.as_slice-4.ensures.value ∙ letters_are) in
    let caught : last_number o.last ≤ length known.seen = subst (λ (v : OfficeView). last_number v.last ≤ length known.seen) (sym c.self.view_is) c.requires.caught in
    subst (λ (v : OfficeView). SendsOn known after v (record { worker = o.worker; storm = o.storm; lanes = o.lanes; draws = c.post_all.new.draws; boxes = boxes; last = c.newest-self-inside.result }))
    c.self.view_is
    (subst (λ (last : Option MsgRef). SendsOn known after (record { worker = o.worker; storm = o.storm; lanes = o.lanes; draws = o.draws; boxes = o.boxes.items; last = o.last }) (record { worker = o.worker; storm = o.storm; lanes = o.lanes; draws = c.post_all.new.draws; boxes = boxes; last = last }))
    (sym last_is)
    (sends_committed known after c.args.entry number o.worker o.storm o.lanes o.draws c.post_all.new.draws o.boxes.items boxes o.last
    c.requires.may.author c.in_ok-number.ensures.committed caught
    (λ by posts office.
    subst (λ (l : List Letter). IsOffice o.storm o.worker c.post_all.new.draws boxes (with_letters by number l posts)) (c.as_slice-3.ensures.value ∙ letters_are)
    (c.post_all.ensures.posted o.worker by posts (office_grown o.storm o.worker o.draws posts o.boxes.items c.room_for.new.boxes.items c.room_for.ensures.grown office)))))
