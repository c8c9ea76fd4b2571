-- The steps of a turn keep the rule.
use Rattle.std.proofs.Common.{List, [], ap, arith, get_or, get_or-set_same, inl, inr, length, length-append, length-set, refl, set, subst, suc, sym, true≢false, zero, ℕ, ◌%◌, ◌*◌, ◌++◌, ◌+◌, ◌<◌, ◌^◌, ◌∙◌, ◌∷◌, ◌≡◌, ◌≢◌, ◌≤◌, ⊎_elim}
use Rattle.std.specs.Prelude.{All, false, true}
use mathlib.Core.Logic.{dite}
use mathlib.Core.Option.{Option, none, some, some-injective, some-ne-none}
use mathlib.Core.List.{append_assoc}
use native.Mathlib.Decide.{ℕ_discrete}
use lib.ListN.{get_elem?}
use Rattle.atomic_table.proofs.Lists.{at_last, at_longer, at_set, set_again, set_else, set_here}
use Rattle.atomic_table.specs.Table.{Act, Allows, State, Valid, carried_after, gives, keeps, step, stepped, takes}
use Rattle.base_ids.specs.Names.{same_actor}
use Rattle.base_ids.specs.declared.ids.Actor.{Actor}
use Rattle.book_rule.proofs.Basics.{get_or-set_else, set-get, there, tickets-few, tickets-set}
use Rattle.book_rule.proofs.Names.{apart, has_front}
use Rattle.book_rule.specs.Notes.{AreWords, Matches}
use Rattle.book_rule.specs.Turns.{Doing, Drew, Fits, FitsView, Follows, HasHolder, InQueue, IsSound, Looked, Passed, Rule, Written, has_actor, is_turn, stage_of, turned, turning}
use Rattle.book_rule.specs.World.{IsKept, Meaning, own_of}
use Rattle.book_rule.specs.declared.view.About.{About}
use Rattle.book_rule.specs.declared.view.Known.{Known}
use Rattle.book_rule.specs.declared.view.Note.{Note}
use Rattle.book_rule.specs.declared.view.Stage.{Stage}
use Rattle.book_rule.specs.declared.view.Stage.TheVariants.{Idle, Turn, Waits}
use Rattle.book_rule.specs.declared.view.View.{View}
use Rattle.book_rule.specs.declared.view.View.TheVariants.{Keeper, Spent, Working}

-- the words of the hosts stand behind those of the turns
pub turn_words : (hosts : ℕ) (actors : List Actor) (notes : Actor → Note) (words : List ℕ) (i x : ℕ) → i < 2 → AreWords hosts actors notes words → AreWords hosts actors notes (set words i x)
turn_words hosts actors notes words i x small a =
    record {
      wide = length-set words i x ∙ a.wide;
      versions = λ host h. get_or-set_else words i (2 + 9 * host.0) x (λ e. omega arith) ∙ a.versions host h;
      pins = λ host word h w. get_or-set_else words i (3 + 9 * host + word) x (λ e. omega arith) ∙ a.pins host word h w;
      eight = a.eight;
    }

-- the queue without its first
abbrev later : List ℕ → List ℕ
later [] = []
later (x ∷ xs) = xs

split_first : (q : List ℕ) (id : ℕ) → get_elem? q 0 ≡ some id → q ≡ id ∷ later q
split_first [] id e = absurd (some-ne-none id (sym e))
split_first (x ∷ xs) id e = λ i. some-injective x id e i ∷ xs

module _ {E : Type 0} where
  pub queue_longer : (serving : ℕ) (queue : List ℕ) (last : ℕ) (history seen : List E) (id : ℕ) (s : Stage) → InQueue serving queue history seen id s → InQueue serving (queue ++ last ∷ []) history seen id s
  queue_longer serving queue last history seen id Idle q = tt
  queue_longer serving queue last history seen id (Waits t) q = (q.0, at_longer queue (last ∷ []) q.0 id q.1, q.2)
  queue_longer serving queue last history seen id (Turn t) q = (at_longer queue (last ∷ []) 0 id q.0, q.1, q.2)

  queue_mine : (serving : ℕ) (queue : List ℕ) (history seen : List E) (id t : ℕ) → serving < 18446744073709551616 → length queue < 18446744073709551616 → serving ≡ t
      → InQueue serving queue history seen id (Waits t) → get_elem? queue 0 ≡ some id
  queue_mine serving queue history seen id t small few turn p =
      let k : ℕ = p.0 in
      let b : k < length queue = there queue k id p.1 in
      let e : t ≡ (serving + k) % 18446744073709551616 = p.2 in
      let zero_k : k ≡ 0 = omega arith in
      subst (λ (m : ℕ). get_elem? queue m ≡ some id) zero_k p.1

  queue_moves : (serving : ℕ) (q : List ℕ) (history now seen : List E) (id j : ℕ) (st : Stage) → j ≢ id → serving < 18446744073709551616 → get_elem? q 0 ≡ some id
      → InQueue serving q history seen j st → InQueue ((serving + 1) % 18446744073709551616) (later q) now seen j st
  queue_moves serving q history now seen id j Idle apart small first f = tt
  queue_moves serving q history now seen id j (Turn t) apart small first f = absurd (apart (some-injective j id (sym f.0 ∙ first)))
  queue_moves serving [] history now seen id j (Waits t) apart small first f = absurd (some-ne-none id (sym first))
  queue_moves serving (x ∷ xs) history now seen id j (Waits t) apart small first (zero, at, e) = absurd (apart (some-injective j id (sym at ∙ first)))
  queue_moves serving (x ∷ xs) history now seen id j (Waits t) apart small first (suc k, at, e) = (k, at, e ∙ omega arith)

homes_back : {J : Type 0} (homes : List (Option J)) (j : J) → length homes ≡ 1 → set homes 0 (some j) ≡ some j ∷ []
homes_back [] j e = absurd (omega arith)
homes_back (x ∷ []) j e = refl
homes_back (x ∷ y ∷ ys) j e = absurd (omega arith)

module _ {O E : Type 0} where
  -- who has the turn still has it when another's view changes
  pub holder_else : (views : List (View O E)) (id : ℕ) (v w : View O E) → get_elem? views id ≡ some v → is_turn (stage_of v) ≡ 0 → HasHolder views → HasHolder (set views id w)
  holder_else views id v w at off h = dite (ℕ_discrete h.0 id)
      (λ same. absurd (let a : get_elem? views id ≡ some (Working (Turn h.1) h.2) = subst (λ (k : ℕ). get_elem? views k ≡ some (Working (Turn h.1) h.2)) same h.3 in
      let one : is_turn (stage_of v) ≡ 1 = ap (λ (u : View O E). is_turn (stage_of u)) (some-injective v (Working (Turn h.1) h.2) (sym at ∙ a)) in omega arith))
      (λ apart. (h.0, h.1, h.2, set_else views id h.0 w apart ∙ h.3))

module _ {W O E C R M S : Type 0} (m : Meaning W O E C R M S) (about : About O) where
  abbrev Table : Type 0
  Table = State (Written W E) (View O E)

  pub fits_set : (given : List Actor) (seat : Actor → ℕ) (notes : Actor → Note) (serving : ℕ) (queue : List ℕ) (history : List E) (views : List (View O E)) (id : ℕ) (w : View O E)
      → ((j : ℕ) (u : View O E) → j ≢ id → get_elem? views j ≡ some u → FitsView m about given seat notes serving queue history j u) → FitsView m about given seat notes serving queue history id w
      → (j : ℕ) (u : View O E) → get_elem? (set views id w) j ≡ some u → FitsView m about given seat notes serving queue history j u
  fits_set given seat notes serving queue history views id w others mine j u e =
      ⊎_elim
      (λ (x : (j ≡ id) × (w ≡ u)). subst (λ (y : ℕ × View O E). FitsView m about given seat notes serving queue history y.0 y.1) (λ i. (sym x.0 i, x.1 i)) mine)
      (λ (x : (j ≢ id) × (get_elem? views j ≡ some u)). others j u x.0 x.1)
      (at_set views id j w u e)

  given_few : (s : Table) (r : Rule m about s) → length r.given ≤ length about.actors
  given_few s r = let both : length about.actors ≡ length (r.given ++ r.rest) = ap length r.parts in let sum = length-append r.given r.rest in omega arith

  -- an actor that has a seat is in the book
  pub given_in : (s : Table) (r : Rule m about s) (a : Actor) → has_actor r.given a ≡ true → has_actor about.actors a ≡ true
  given_in s r a h = ap (λ l. has_actor l a) r.parts ∙ has_front r.given r.rest a h

  queue_short : (s : Table) (r : Rule m about s) → length r.queue < 18446744073709551616
  queue_short s r = let a = tickets-few s.views in let c = r.counted in let f = r.few in let w = given_few s r in let b = r.book.few in omega arith

  -- the others wait on when one more draws a ticket
  waits_on : (given : List Actor) (seat : Actor → ℕ) (notes : Actor → Note) (serving : ℕ) (queue : List ℕ) (last : ℕ) (history : List E) (j : ℕ) (u : View O E)
      → FitsView m about given seat notes serving queue history j u → FitsView m about given seat notes serving (queue ++ last ∷ []) history j u
  waits_on given seat notes serving queue last history j Spent f = tt
  waits_on given seat notes serving queue last history j (Keeper opening rest ended) f = f
  waits_on given seat notes serving queue last history j (Working stage known) f = (f.0, queue_longer serving queue last history known.seen j stage f.1)

  draws_one : (slots id : ℕ) (k : Known O E) (hand : List (ℕ × Written W E)) → Allows (Rule m about) slots id (Working Idle k, hand) 0 (λ x. (x + 1) % 2 ^ 64) (Drew m (step slots 0 1 0 none) (Working Idle k, hand))
  draws_one slots id k hand s r _ at _ =
      let x : ℕ = get_or s.words 0 0 in
      let l : ℕ = length r.queue in
      let is : x ≡ (r.serving + l) % 18446744073709551616 = r.ticket in
      let w : View O E = Working (Waits x) k in
      let sum = tickets-set s.views id (Working Idle k) w at in
      let one_more : length (r.queue ++ id ∷ []) ≡ l + 1 = length-append r.queue (id ∷ []) in
      let wide = r.words.wide in
      let mine = (r.fits id (Working Idle k) at).0 in (
        w,
        keeps,
        tt,
        record {
          serving = r.serving;
          queue = r.queue ++ id ∷ [];
          history = r.history;
          given = r.given;
          seat = r.seat;
          notes = r.notes;
          book = r.book;
          small = r.small;
          ticket = get_or-set_same s.words 0 ((x + 1) % 18446744073709551616) 0 (omega arith) ∙ omega arith;
          served = get_or-set_else s.words 0 1 ((x + 1) % 18446744073709551616) (λ e. omega arith) ∙ r.served;
          counted = (let c = r.counted in omega arith);
          few = (let f = r.few in let e = length-set s.views id w in omega arith);
          rest = r.rest;
          parts = r.parts;
          kept = r.kept;
          unborn = r.unborn;
          blank = r.blank;
          slot = ⊎_elim (λ h. inl h) (λ h. inr (h.0, holder_else s.views id (Working Idle k) w at refl h.1)) r.slot;
          words = turn_words about.hosts about.actors r.notes s.words 0 ((x + 1) % 18446744073709551616) (omega arith) r.words;
          matched = r.matched;
          fits = fits_set r.given r.seat r.notes r.serving (r.queue ++ id ∷ []) r.history s.views id w
              (λ j u apart e. waits_on r.given r.seat r.notes r.serving r.queue id r.history j u (r.fits j u e))
              (mine, (l, at_last r.queue id l refl, is));
        },
        refl,
      )

  -- a seat that waits for nothing may draw a ticket
  pub draws : (slots id : ℕ) (me : Doing m) (k : Known O E) → me.0 ≡ Working Idle k → Allows (Rule m about) slots id me 0 (λ x. (x + 1) % 2 ^ 64) (Drew m (step slots 0 1 0 none) me)
  draws slots id me k is = subst (λ (v : View O E). Allows (Rule m about) slots id (v, me.1) 0 (λ x. (x + 1) % 2 ^ 64) (Drew m (step slots 0 1 0 none) (v, me.1))) (sym is) (draws_one slots id k me.1)

  -- a load by which nothing changes
  pub unmoved : (s : Table) (r : Rule m about s) (i id : ℕ) (me : Doing m) → get_elem? s.views id ≡ some me.0 → Rule m about (stepped s i (get_or s.words i 0) id me.1 me.0 keeps)
  unmoved s r i id me at = subst (Rule m about) (λ k. record { words = sym (set-get s.words i) k; homes = s.homes; views = sym (set_again s.views id me.0 at) k }) r

  looks_one : (slots id t : ℕ) (k : Known O E) (hand : List (ℕ × Written W E)) → Allows (Rule m about) slots id (Working (Waits t) k, hand) 1 (λ x. x) (Looked m (step slots 1 0 0 none) (Working (Waits t) k, hand))
  looks_one slots id t k hand s r _ at _ = dite (ℕ_discrete x t) mine not_yet
    where
      x : ℕ
      x = get_or s.words 1 0

      me : Doing m
      me = (Working (Waits t) k, hand)

      is : x ≡ r.serving
      is = r.served

      p : Fits m about r.given r.seat r.notes r.history id k
      p = (r.fits id (Working (Waits t) k) at).0

      Goal : Type 0
      Goal = (w : View O E) × (a : Act (Written W E)) × Valid s.homes hand a × Rule m about (stepped s 1 x id hand w a) × Looked m (step slots 1 0 0 none) me x (w, carried_after hand a)

      takes_it : x ≡ t → get_elem? r.queue 0 ≡ some id → (j : Written W E) × (s.homes ≡ some j ∷ []) × (j.history ≡ r.history) × IsSound m about.opening j → Goal
      takes_it turn first h =
          let j : Written W E = h.0 in
          let w : View O E = turning m x k j.history in
          let sum = tickets-set s.views id (Working (Waits t) k) w at in
          let own : own_of m k.actor j.history ≡ k.own = ap (own_of m k.actor) h.2 ∙ p.own in
          let begins : j.history ≡ p.between ++ k.seen = h.2 ∙ p.begins in
          let inside = r.book.inside k.actor (given_in s r k.actor p.handed) in (
            w,
            takes 0 j,
            ap (λ (hs : List (Option (Written W E))). get_elem? hs 0) h.1,
            record {
              serving = r.serving;
              queue = r.queue;
              history = r.history;
              given = r.given;
              seat = r.seat;
              notes = r.notes;
              book = r.book;
              small = r.small;
              ticket = get_or-set_else s.words 1 0 x (λ e. omega arith) ∙ r.ticket;
              served = ap (λ (ws : List ℕ). get_or ws 1 0) (set-get s.words 1) ∙ r.served;
              counted = (let c = r.counted in omega arith);
              few = (let f = r.few in let e = length-set s.views id w in omega arith);
              rest = r.rest;
              parts = r.parts;
              kept = r.kept;
              unborn = r.unborn;
              blank = r.blank;
              slot = inr (ap (λ (hs : List (Option (Written W E))). set hs 0 none) h.1, (id, x, record k { seen = j.history }, set_here s.views id w (there s.views id (Working (Waits t) k) at)));
              words = turn_words about.hosts about.actors r.notes s.words 1 x (omega arith) r.words;
              matched = r.matched;
              fits = fits_set r.given r.seat r.notes r.serving r.queue r.history s.views id w
                  (λ i u apart e. r.fits i u e)
                  (record { opening = p.opening; handed = p.handed; place = p.place; note = p.note; own = p.own; seen = own; between = []; begins = sym h.2 }, (first, is, h.2));
            },
            (
              (λ _. (
                j,
                record {
                  between = p.between;
                  begins = begins;
                  kept = subst (λ (y : O × List E). IsKept m y.0 y.1) (λ i. (sym p.opening i, sym h.2 i)) r.kept;
                  own = own;
                  seen = p.seen;
                  inside = subst (λ (o : O). m.is_in o k.actor) (sym p.opening) inside.0;
                  notes = r.notes;
                  note = p.note;
                  matched = subst (λ (y : O × List E). Matches m y.0 r.notes y.1) (λ i. (sym p.opening i, sym h.2 i)) r.matched;
                },
                subst (λ (o : O). IsSound m o j) (sym p.opening) h.3,
                refl,
              )),
              (λ ne. absurd (ne turn)),
            ),
          )

      is_out : x ≡ t → get_elem? r.queue 0 ≡ some id → (s.homes ≡ none ∷ []) × HasHolder s.views → Goal
      is_out turn first h =
          let o = h.1 in
          let holder : View O E = Working (Turn o.1) o.2 in
          let q = (r.fits o.0 holder o.3).1 in
          let same : o.0 ≡ id = some-injective o.0 id (sym q.0 ∙ first) in
          let a : get_elem? s.views id ≡ some holder = subst (λ (n : ℕ). get_elem? s.views n ≡ some holder) same o.3 in
          let one : is_turn (Waits t) ≡ 1 = ap (λ (u : View O E). is_turn (stage_of u)) (some-injective (Working (Waits t) k) holder (sym at ∙ a)) in
          absurd (omega arith)

      mine : x ≡ t → Goal
      mine turn = let first = queue_mine r.serving r.queue r.history k.seen id t r.small (queue_short s r) (sym is ∙ turn) (r.fits id (Working (Waits t) k) at).1 in
          ⊎_elim (takes_it turn first) (is_out turn first) r.slot

      not_yet : x ≢ t → Goal
      not_yet ne = (Working (Waits t) k, keeps, tt, unmoved s r 1 id me at, ((λ e. absurd (ne e)), (λ _. refl)))

  -- a seat that waits may look at the ticket that is served
  pub looks : (slots id t : ℕ) (me : Doing m) (k : Known O E) → me.0 ≡ Working (Waits t) k → Allows (Rule m about) slots id me 1 (λ x. x) (Looked m (step slots 1 0 0 none) me)
  looks slots id t me k is = subst (λ (v : View O E). Allows (Rule m about) slots id (v, me.1) 1 (λ x. x) (Looked m (step slots 1 0 0 none) (v, me.1))) (sym is) (looks_one slots id t k me.1)

  -- a part that is not the one whose turn ends
  other_part : (given : List Actor) (seat : Actor → ℕ) (notes : Actor → Note) (history now more : List E) (id : ℕ) (actor : Actor) → seat actor ≡ id → now ≡ more ++ history
      → ((a : Actor) → same_actor a actor ≡ false → own_of m a now ≡ own_of m a history)
      → (j : ℕ) (p : Known O E) → j ≢ id → Fits m about given seat notes history j p → Fits m about given seat notes now j p
  other_part given seat notes history now more id actor place grown others j p ne f =
      record {
        opening = f.opening;
        handed = f.handed;
        place = f.place;
        note = f.note;
        own = others p.actor (apart p.actor actor (λ e. ne (sym f.place ∙ (ap seat e ∙ place)))) ∙ f.own;
        seen = f.seen;
        between = more ++ f.between;
        begins = grown ∙ (ap (λ l. more ++ l) f.begins ∙ sym (append_assoc more f.between p.seen));
      }

  pub all_parts : {P Q : Known O E → Type 0} → ((p : Known O E) → P p → Q p) → (ps : List (Known O E)) → All P ps → All Q ps
  all_parts f ps a k d h = f _ (a k d h)

  other_view : (given : List Actor) (seat : Actor → ℕ) (notes : Actor → Note) (serving : ℕ) (queue : List ℕ) (history now more : List E) (id : ℕ) (actor : Actor) → seat actor ≡ id → now ≡ more ++ history
      → ((a : Actor) → same_actor a actor ≡ false → own_of m a now ≡ own_of m a history) → serving < 18446744073709551616 → get_elem? queue 0 ≡ some id
      → (j : ℕ) (u : View O E) → j ≢ id → FitsView m about given seat notes serving queue history j u → FitsView m about given seat notes ((serving + 1) % 18446744073709551616) (later queue) now j u
  other_view given seat notes serving queue history now more id actor place grown others small first j Spent ne f = tt
  other_view given seat notes serving queue history now more id actor place grown others small first j (Keeper opening rest ended) ne f =
      (f.0, f.1, f.2, all_parts {P = Fits m about given seat notes history 0} {Q = Fits m about given seat notes now 0} (λ p. other_part given seat notes history now more id actor place grown others 0 p (λ e. ne (f.0 ∙ e))) ended f.3)
  other_view given seat notes serving queue history now more id actor place grown others small first j (Working stage known) ne f =
      (other_part given seat notes history now more id actor place grown others j known ne f.0, queue_moves serving queue history now known.seen id j stage ne small first f.1)

  one_home : (s : Table) → Rule m about s → length s.homes ≡ 1
  one_home s r = ⊎_elim (λ h. ap length h.1) (λ h. ap length h.0) r.slot

  passes_one : (slots id t : ℕ) (k : Known O E) (j : Written W E) (hand : List (ℕ × Written W E)) → Follows m k j.history → IsSound m k.opening j
      → Allows (Rule m about) slots id (Working (Turn t) k, (0, j) ∷ hand) 1 (λ x. (x + 1) % 2 ^ 64) (Passed m (step slots 1 1 0 none) (Working (Turn t) k, (0, j) ∷ hand))
  passes_one slots id t k j hand follows sound s r _ at _ =
      let x : ℕ = get_or s.words 1 0 in
      let is : x ≡ r.serving = r.served in
      let now : List E = j.history in
      let mine = r.fits id (Working (Turn t) k) at in
      let p = mine.0 in
      let q : InQueue r.serving r.queue r.history k.seen id (Turn t) = mine.1 in
      let first = q.0 in
      let all_seen : k.seen ≡ r.history = q.2 in
      let others : (a : Actor) → same_actor a k.actor ≡ false → own_of m a now ≡ own_of m a r.history = λ a ne. follows.others a ne ∙ ap (own_of m a) all_seen in
      let more = follows.more in
      let grown : now ≡ more ++ r.history = follows.begins ∙ ap (λ l. more ++ l) all_seen in
      let w : View O E = Working Idle (turned m k now) in
      let sum = tickets-set s.views id (Working (Turn t) k) w at in
      let shorter : length r.queue ≡ suc (length (later r.queue)) = ap length (split_first r.queue id first) in
      let served : ℕ = (r.serving + 1) % 18446744073709551616 in
      let next : (x + 1) % 18446744073709551616 ≡ served = ap (λ (n : ℕ). (n + 1) % 18446744073709551616) is in
      let long = queue_short s r in
      let wide = r.words.wide in
      let about_kept : IsKept m about.opening k.seen = subst (IsKept m about.opening) (sym all_seen) r.kept in (
        w,
        gives,
        tt,
        record {
          serving = served;
          queue = later r.queue;
          history = now;
          given = r.given;
          seat = r.seat;
          notes = r.notes;
          book = r.book;
          small = omega arith;
          ticket = get_or-set_else s.words 1 0 ((x + 1) % 18446744073709551616) (λ e. omega arith) ∙ (r.ticket ∙ omega arith);
          served = get_or-set_same s.words 1 ((x + 1) % 18446744073709551616) 0 (omega arith) ∙ next;
          counted = (let c = r.counted in omega arith);
          few = (let f = r.few in let e = length-set s.views id w in omega arith);
          rest = r.rest;
          parts = r.parts;
          kept = subst (λ (o : O). IsKept m o now) p.opening (follows.kept (subst (λ (o : O). IsKept m o k.seen) (sym p.opening) about_kept));
          unborn = (λ a old. others a (apart a k.actor (λ e. true≢false (sym p.handed ∙ (ap (has_actor r.given) (sym e) ∙ old)))) ∙ r.unborn a old);
          blank = r.blank;
          slot = inl (j, homes_back s.homes j (one_home s r), refl, subst (λ (o : O). IsSound m o j) p.opening sound);
          words = turn_words about.hosts about.actors r.notes s.words 1 ((x + 1) % 18446744073709551616) (omega arith) r.words;
          matched = subst (λ (o : O). Matches m o r.notes now) p.opening (follows.matched r.notes p.note (subst (λ (y : O × List E). Matches m y.0 r.notes y.1) (λ i. (sym p.opening i, sym all_seen i)) r.matched));
          fits = fits_set r.given r.seat r.notes served (later r.queue) now s.views id w
              (λ i u ne e. other_view r.given r.seat r.notes r.serving r.queue r.history now more id k.actor p.place grown others r.small first i u ne (r.fits i u e))
              (record { opening = p.opening; handed = p.handed; place = p.place; note = p.note; own = refl; seen = refl; between = []; begins = refl }, tt);
        },
        refl,
      )

  -- a seat at its turn may pass it with a journal that follows what it has seen
  pub passes : (slots id t : ℕ) (me : Doing m) (k : Known O E) (j : Written W E) → me ≡ (Working (Turn t) k, (0, j) ∷ []) → Follows m k j.history → IsSound m k.opening j
      → Allows (Rule m about) slots id me 1 (λ x. (x + 1) % 2 ^ 64) (Passed m (step slots 1 1 0 none) me)
  passes slots id t me k j is follows sound = subst (λ (v : Doing m). Allows (Rule m about) slots id v 1 (λ x. (x + 1) % 2 ^ 64) (Passed m (step slots 1 1 0 none) v)) (sym is) (passes_one slots id t k j [] follows sound)
