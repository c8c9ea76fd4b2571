-- An office has sent all as its actors go on.
use Rattle.std.proofs.Common.{ap, arith, length-append, refl, subst, sym, ◌∙◌}
use Rattle.std.proofs.lemmas.Bool.Decides.{nat_tests}
use Rattle.std.specs.Prelude.{Bool, Err, if◌then◌else◌, true, ◌==◌, List, None, Ok, Option, Result, Some, [], false, filter, length, ℕ, ◌+◌, ◌<◌, ◌∷◌, ◌≡◌, ◌≤◌}
use Rattle.base_ids.specs.Names.{same_actor}
use Rattle.base_ids.specs.declared.ids.Actor.{Actor}
use Rattle.base_ids.specs.declared.ids.MsgRef.{MsgRef}
use Rattle.cluster_history.specs.History.{History, entry_at, message_at, message_of, output_of, actor_of}
use Rattle.cluster_history.specs.declared.data.Entry.{Entry}
use Rattle.cluster_history.specs.declared.data.Message.{Message}
use Rattle.cluster_history.specs.declared.data.Opening.{Opening}
use Rattle.cluster_history.specs.declared.data.Output.{Output}
use Rattle.plan_facts.specs.Posts.{AreUpTo, Post, is_from, sent_by, with_sent}
use Rattle.plan_facts.proofs.PostLemmas.{from-other, sent-other}
use Rattle.run_plan.specs.declared.plan.Storm.{Storm}
use Rattle.rand_pcg.specs.Lcg.{Lcg}
use Rattle.engine_desk.specs.Chairs.{HasCommitted, HasTurned, IsLater, Known}
use Rattle.engine_desk.specs.Desks.{DeskCommitted, DeskTurned, DeskView, HasSent, IsDeskCommit}
use Rattle.engine_desk.specs.Offices.{BoxView, letters_of, with_letters}
use Rattle.engine_desk.specs.Workers.{IsSentBy, LettersCome}
use Rattle.engine_desk.specs.declared.chair.Refused.{Refused}
use Rattle.engine_desk.specs.declared.office.Letter.{Letter}
use Rattle.engine_desk.proofs.LaterLemmas.{since}
use Rattle.engine_desk.proofs.OfficeLemmas.{letters_sent}
use Rattle.engine_desk.proofs.TurnLemmas.{committed_sent}
use Rattle.engine_desk.proofs.WorkerLemmas.{events_sent}
use Rattle.engine_office.specs.Sendings.{AreGrown, AreOthersSame, HasCaughtUp, HasSentAll, OfficeView, SendsOn, last_number, newest}
use Rattle.engine_office.proofs.RoomLemmas.{grown_same, office_grown}

-- ---- what an actor has seen

entry_within : (history : History) (number : ℕ) (entry : Entry) → entry_at history number ≡ Some entry → number ≤ length history
entry_within [] number entry e = cc e
entry_within (newest ∷ history) number entry e = by_number (number == length history + 1) refl (λ f. entry_within history number entry f) e
  where
    by_number : (b : Bool) → (number == length history + 1) ≡ b → (entry_at history number ≡ Some entry → number ≤ length history) → (if b then Some newest else entry_at history number) ≡ Some entry → number ≤ length (newest ∷ history)
    by_number true is within f = let same : number ≡ length history + 1 = grind (arith, nat_tests) in omega (arith, same)
    by_number false is within f = let less = within f in let more : number ≤ length history + 1 = omega (arith, less) in omega (arith, less)

pub message_within : (history : History) (at : MsgRef) (message : Message) → message_at history at ≡ Some message → at.event ≤ length history
message_within history at message e = by_entry (entry_at history at.event) refl e
  where
    by_entry : (found : Option Entry) → entry_at history at.event ≡ found → message_of (output_of found at.out) ≡ Some message → at.event ≤ length history
    by_entry None is f = cc f
    by_entry (Some there) is f = entry_within history at.event there is

length_later : (opening : Opening) (actor : Actor) (old new : History) → IsLater opening actor old new → length old ≤ length new
length_later opening actor old new later =
    let is = ap length later.is ∙ length-append later.between old in omega (arith, is)

length_turned : (known after : Known) → HasTurned known after → length known.seen ≤ length after.seen
length_turned known after t =
    let seen = ap (λ (k : Known). length k.seen) t.is in
    let more = length_later known.opening known.actor known.seen t.now t.later in
    omega (arith, seen, more)

pub caught_turned : (known after : Known) (last : Option MsgRef) → HasTurned known after → last_number last ≤ length known.seen → last_number last ≤ length after.seen
caught_turned known after last t caught = let more = length_turned known after t in omega (arith, more, caught)

newest_within : (number n : ℕ) (letters : List Letter) (last : Option MsgRef) → number ≤ n → last_number last ≤ n → last_number (newest number letters last) ≤ n
newest_within number n [] last le old = old
newest_within number n (letter ∷ letters) last le old = le

pub caught_committed : (known after : Known) (entry : Entry) (number : ℕ) (letters : List Letter) (last : Option MsgRef) → HasCommitted known entry number after → last_number last ≤ length known.seen → last_number (newest number letters last) ≤ length after.seen
caught_committed known after entry number letters last c caught =
    let seen = ap (λ (k : Known). length k.seen) c.is in
    let more = length_later known.opening known.actor known.seen c.now c.later in
    let is = c.number_is in
    newest_within number (length after.seen) letters last (omega (arith, seen, is)) (omega (arith, seen, more, caught))

-- ---- what was sent

pub sends_turned : (known after : Known) (worker : ℕ) (storm : Option Storm) (lanes : ℕ) (draws : Lcg) (boxes grown : List BoxView) (last : Option MsgRef)
    → HasTurned known after
    → AreGrown boxes grown
    → SendsOn known after
    (record { worker = worker; storm = storm; lanes = lanes; draws = draws; boxes = boxes; last = last })
    (record { worker = worker; storm = storm; lanes = lanes; draws = draws; boxes = grown; last = last })
sends_turned known after worker storm lanes draws boxes grown last t g =
    let same : sent_by known.actor t.now ≡ sent_by known.actor known.seen = since known.opening known.actor (sent_by known.actor) (λ history other legal foreign. sent-other known.actor history other foreign) known.seen t.now t.later in
    let actor : after.actor ≡ known.actor = ap (λ (k : Known). k.actor) t.is in
    record {
      worker_is = refl;
      storm_is = refl;
      lanes_is = refl;
      sends = λ posts has. (
        posts,
        record {
          office = office_grown storm worker draws posts boxes grown g has.office;
          rising = has.rising;
          last = has.last;
          own =
              ap (λ (a : Actor). filter (is_from a) posts) actor
              ∙ has.own
              ∙ sym same
              ∙ (λ i. sent_by (sym actor i) (sym (ap (λ (k : Known). k.seen) t.is) i));
        },
        λ other apart. refl,
      );
    }

-- the newest message is the entry's, or the older one where the entry has none
newest_sent : (storm : Option Storm) (worker : ℕ) (draws : Lcg) (boxes : List BoxView) (after : Known) (by : Actor) (number : ℕ) (last : Option MsgRef) (letters : List Letter) (posts : List Post) → AreUpTo (last_number last) posts → IsSentBy storm worker draws boxes number (with_letters by number letters posts) after → IsSentBy storm worker draws boxes (last_number (newest number letters last)) (with_letters by number letters posts) after
newest_sent storm worker draws boxes after by number last [] posts up_to has =
    record { office = has.office; rising = has.rising; last = up_to; own = has.own }
newest_sent storm worker draws boxes after by number last (letter ∷ letters) posts up_to has = has

pub sends_committed : (known after : Known) (entry : Entry) (number worker : ℕ) (storm : Option Storm) (lanes : ℕ) (draws drawn : Lcg) (old new : List BoxView) (last : Option MsgRef)
    → actor_of entry.event ≡ known.actor
    → HasCommitted known entry number after
    → last_number last ≤ length known.seen
    → LettersCome storm worker draws drawn old new number (letters_of 0 entry.outputs)
    → SendsOn known after
    (record { worker = worker; storm = storm; lanes = lanes; draws = draws; boxes = old; last = last })
    (record { worker = worker; storm = storm; lanes = lanes; draws = drawn; boxes = new; last = newest number (letters_of 0 entry.outputs) last })
sends_committed known after entry number worker storm lanes draws drawn old new last author c caught came =
    let by = known.actor in
    let letters = letters_of 0 entry.outputs in
    let actor : after.actor ≡ by = ap (λ (k : Known). k.actor) c.is in
    let sent = committed_sent known after entry number author c in
    record {
      worker_is = refl;
      storm_is = refl;
      lanes_is = refl;
      sends = λ posts has.
          let all = events_sent storm worker draws drawn old new known after number entry.outputs posts (last_number last) actor caught sent has came in
          let lettered = letters_sent by number 0 entry.outputs posts in (
            with_letters by number letters posts,
            newest_sent storm worker drawn new after by number last letters posts has.last
                (subst (λ (l : List Post). IsSentBy storm worker drawn new number l after) lettered all),
            λ other apart. ap (filter (is_from other)) (sym lettered) ∙ from-other by other number 0 entry.outputs posts apart,
          );
    }

-- ---- over two steps

pub sends_twice : (known mid after : Known) (a b c : OfficeView) → mid.actor ≡ known.actor → SendsOn known mid a b → SendsOn mid after b c → SendsOn known after a c
sends_twice known mid after a b c same first second =
    record {
      worker_is = second.worker_is ∙ first.worker_is;
      storm_is = second.storm_is ∙ first.storm_is;
      lanes_is = second.lanes_is ∙ first.lanes_is;
      sends = λ posts has.
          let f = first.sends posts has in
          let s = second.sends f.0 f.1 in (
            s.0,
            s.1,
            λ other apart. s.2 other (subst (λ (x : Actor). same_actor x other ≡ false) (sym same) apart) ∙ f.2 other apart,
          );
    }
