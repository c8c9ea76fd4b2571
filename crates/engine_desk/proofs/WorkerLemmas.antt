-- A worker's messages as one of its actors makes an entry.
use Rattle.std.proofs.Common.{ap, arith, refl, subst, sym, ◌∙◌}
use Rattle.std.specs.Prelude.{List, false, filter, length, ℕ, ◌++◌, ◌∷◌, ◌≡◌, ◌≤◌, ◌<◌}
use Rattle.base_ids.specs.Names.{same_actor}
use Rattle.base_ids.specs.declared.ids.Actor.{Actor}
use Rattle.cluster_history.specs.declared.data.Output.{Output}
use Rattle.plan_facts.specs.Posts.{AreRising, Post, is_from, sent_by, with_sent}
use Rattle.run_plan.specs.declared.plan.Storm.{Storm}
use Rattle.plan_facts.proofs.PostLemmas.{from-own, newer_than_all, rising-sent, sent_up_to}
use Rattle.rand_pcg.specs.Lcg.{Lcg}
use Rattle.engine_desk.specs.Chairs.{Known}
use Rattle.engine_desk.specs.Desks.{HasSent}
use Rattle.engine_desk.specs.Offices.{BoxView, IsOffice, letters_of, with_letters}
use Rattle.engine_desk.specs.Workers.{EventsAreSent, IsSentBy}
use Rattle.engine_desk.proofs.OfficeLemmas.{letters_sent}

pub events_sent : EventsAreSent
events_sent storm worker draws drawn old new known after number outputs posts last same above has office came =
    let above_all = has.above in
    let by = known.actor in
    let newest = newer_than_all last number posts office.last (omega (arith, above, above_all)) in
    record {
      office = subst (IsOffice storm worker drawn new) (sym (letters_sent by number 0 outputs posts)) (came by posts office.office);
      rising = rising-sent by number 0 outputs posts office.rising newest;
      last = sent_up_to by number 0 last outputs posts office.last (omega (arith, above, above_all));
      own =
          ap (λ (a : Actor). filter (is_from a) (with_sent by number 0 outputs posts)) same
          ∙ from-own by number 0 outputs posts
          ∙ ap (with_sent by number 0 outputs) office.own
          ∙ sym has.sent
          ∙ ap (λ (a : Actor). sent_by a after.seen) (sym same);
    }
