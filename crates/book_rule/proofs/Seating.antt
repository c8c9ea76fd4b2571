-- Seats that are handed out and given back keep the rule; the book at first, and when it is closed.
use Rattle.std.proofs.Common.{List, [], ap, arith, get_or, inl, inr, length, length-append, length-set, refl, set, subst, suc, sym, true≢false, zero, ℕ, ◌*◌, ◌++◌, ◌+◌, ◌<◌, ◌∙◌, ◌∷◌, ◌≡◌, ◌≢◌, ⊎_elim}
use Rattle.std.specs.Prelude.{All, false, if◌then◌else◌, true, ◌==◌}
use mathlib.Core.List.{append_assoc, append-nil}
use mathlib.Core.Option.{Option, none, some, some-injective, some-ne-none}
use lib.ListN.{get_elem?}
use Rattle.atomic_table.proofs.Lists.{at_longer, at_set, set_else}
use Rattle.atomic_table.specs.Table.{Final, Joins, Seen, Splits, State, opening}
use Rattle.base_ids.specs.Names.{same_actor}
use Rattle.base_ids.specs.declared.ids.Actor.{Actor}
use Rattle.book_rule.proofs.Basics.{at_end, tickets-last, tickets-set}
use Rattle.book_rule.proofs.Names.{apart, changed_else, changed_here, has_front, has_last, none_before, not_front}
use Rattle.book_rule.proofs.Turning.{all_parts, fits_set, given_in, holder_else}
use Rattle.book_rule.specs.Notes.{AreWords, Matches, changed, first_note, first_words, host_of, host_words, pins_on, total}
use Rattle.book_rule.specs.Turns.{Fits, FitsView, HasHolder, HasKnown, IsBook, IsClosed, IsSound, Rule, Written, are_distinct, fresh, handed, handing, has_actor, taking}
use Rattle.book_rule.specs.World.{IsKept, Laws, Meaning, own_of}
use Rattle.book_rule.specs.declared.view.About.{About}
use Rattle.book_rule.specs.declared.view.Known.{Known}
use Rattle.book_rule.specs.declared.view.Note.{Note}
use Rattle.book_rule.specs.declared.view.Stage.TheVariants.{Idle, Turn}
use Rattle.book_rule.specs.declared.view.View.{View}
use Rattle.book_rule.specs.declared.view.View.TheVariants.{Keeper, Spent, Working}

module _ {A : Type 0} (P : A → Type 0) where
  pub all_more : (x : A) (xs : List A) → P x → All P xs → All P (x ∷ xs)
  all_more x xs p a zero d h = p
  all_more x xs p a (suc k) d h = a k d (omega arith)

  pub all_at : (xs : List A) (k : ℕ) (x : A) → All P xs → get_elem? xs k ≡ some x → P x
  all_at [] k x a e = absurd (some-ne-none x (sym e))
  all_at (y ∷ ys) zero x a e = subst P (some-injective y x e) (a 0 x (omega arith))
  all_at (y ∷ ys) (suc k) x a e = all_at ys k x (λ i d b. a (suc i) d (omega arith)) e

-- a view that can't be two
abbrev is_working : {O E : Type 0} → View O E → ℕ
is_working Spent = 0
is_working (Keeper opening rest ended) = 0
is_working (Working stage known) = 1

module _ {W O E C R M S : Type 0} (m : Meaning W O E C R M S) (about : About O) where
  abbrev Table : Type 0
  Table = State (Written W E) (View O E)

  -- an actor that has a seat is not the next one
  part_more : (given : List Actor) (seat : Actor → ℕ) (notes : Actor → Note) (history : List E) (new : ℕ) (a : Actor) → has_actor given a ≡ false → (j : ℕ) (p : Known O E) → Fits m about given seat notes history j p
      → Fits m about (given ++ a ∷ []) (changed seat a new) notes history j p
  part_more given seat notes history new a fresh_one j p f =
      record {
        opening = f.opening;
        handed = has_front given (a ∷ []) p.actor f.handed;
        place = changed_else seat a new p.actor (apart p.actor a (λ e. true≢false (sym f.handed ∙ (ap (has_actor given) e ∙ fresh_one)))) ∙ f.place;
        note = f.note;
        own = f.own;
        seen = f.seen;
        between = f.between;
        begins = f.begins;
      }

  view_more : (given : List Actor) (seat : Actor → ℕ) (notes : Actor → Note) (serving : ℕ) (queue : List ℕ) (history : List E) (new id : ℕ) (a : Actor) → has_actor given a ≡ false → id ≡ 0
      → (j : ℕ) (u : View O E) → j ≢ id → FitsView m about given seat notes serving queue history j u → FitsView m about (given ++ a ∷ []) (changed seat a new) notes serving queue history j u
  view_more given seat notes serving queue history new id a fresh_one first j Spent ne f = tt
  view_more given seat notes serving queue history new id a fresh_one first j (Keeper opening rest ended) ne f = absurd (ne (f.0 ∙ sym first))
  view_more given seat notes serving queue history new id a fresh_one first j (Working stage known) ne f = (part_more given seat notes history new a fresh_one j known f.0, f.1)

  splits_one : (id : ℕ) (o : O) (a : Actor) (rest : List Actor) (ended : List (Known O E)) → Splits (Rule m about) id (Keeper o (a ∷ rest) ended) (Keeper o rest ended) (Working Idle (fresh o a))
  splits_one id o a rest ended s r at =
      let v : View O E = Keeper o (a ∷ rest) ended in
      let f = r.fits id v at in
      let left : View O E = Keeper o rest ended in
      let right : View O E = Working Idle (fresh o a) in
      let len : ℕ = length s.views in
      let base : List (View O E) = set s.views id left in
      let same : length base ≡ len = length-set s.views id left in
      let long : length (base ++ right ∷ []) ≡ length base + 1 = length-append base (right ∷ []) in
      let more : length (r.given ++ a ∷ []) ≡ length r.given + 1 = length-append r.given (a ∷ []) in
      let sum = tickets-set s.views id v left at in
      let sum' = tickets-last base right in
      let a_new : has_actor r.given a ≡ false = none_before r.given rest a (ap are_distinct (sym f.2) ∙ r.book.distinct) in
      let given' : List Actor = r.given ++ a ∷ [] in
      let seat' : Actor → ℕ = changed r.seat a len in
      let mine : Fits m about given' seat' r.notes r.history len (fresh o a) = record {
        opening = f.1;
        handed = has_last r.given a;
        place = changed_here r.seat a len;
        note = r.blank a a_new;
        own = r.unborn a a_new;
        seen = refl;
        between = r.history;
        begins = sym (append-nil r.history);
      } in
      let old : (j : ℕ) (u : View O E) → get_elem? base j ≡ some u → FitsView m about given' seat' r.notes r.serving r.queue r.history j u =
      fits_set m about given' seat' r.notes r.serving r.queue r.history s.views id left
      (λ j u ne e. view_more r.given r.seat r.notes r.serving r.queue r.history len id a a_new f.0 j u ne (r.fits j u e))
      (f.0, f.1, f.2 ∙ sym (append_assoc r.given (a ∷ []) rest), all_parts m about {P = Fits m about r.given r.seat r.notes r.history 0} {Q = Fits m about given' seat' r.notes r.history 0} (λ p. part_more r.given r.seat r.notes r.history len a a_new 0 p) ended f.3) in
      record {
        serving = r.serving;
        queue = r.queue;
        history = r.history;
        given = given';
        seat = seat';
        notes = r.notes;
        book = r.book;
        small = r.small;
        ticket = r.ticket;
        served = r.served;
        counted = (let c = r.counted in omega arith);
        few = (let b = r.few in omega arith);
        rest = rest;
        parts = f.2 ∙ sym (append_assoc r.given (a ∷ []) rest);
        kept = r.kept;
        unborn = (λ b h. r.unborn b (not_front r.given (a ∷ []) b h));
        blank = (λ b h. r.blank b (not_front r.given (a ∷ []) b h));
        slot = ⊎_elim (λ h. inl h) (λ h. let o = holder_else s.views id v left at refl h.1 in inr (h.0, (o.0, o.1, o.2, at_longer base (right ∷ []) o.0 (Working (Turn o.1) o.2) o.3))) r.slot;
        words = r.words;
        matched = r.matched;
        fits = (λ j u e. ⊎_elim (λ h. old j u h)
            (λ h. subst (λ (y : ℕ × View O E). FitsView m about given' seat' r.notes r.serving r.queue r.history y.0 y.1) (λ i. (sym (h.0 ∙ same) i, h.1 i)) (mine, tt))
            (at_end base right u j e));
      }

  -- the keeper may hand out the next actor's part
  pub splits : (id : ℕ) (v : View O E) (o : O) (a : Actor) (rest : List Actor) (ended : List (Known O E)) → v ≡ Keeper o (a ∷ rest) ended → Splits (Rule m about) id v (handing v) (handed v)
  splits id v o a rest ended is = subst (λ (u : View O E). Splits (Rule m about) id u (handing u) (handed u)) (sym is) (splits_one id o a rest ended)

  -- a part goes to the keeper
  part_moves : (given : List Actor) (seat : Actor → ℕ) (notes : Actor → Note) (history : List E) (a : Actor) (j : ℕ) (p : Known O E) → (seat p.actor ≡ j → changed seat a 0 p.actor ≡ j) → Fits m about given seat notes history j p
      → Fits m about given (changed seat a 0) notes history j p
  part_moves given seat notes history a j p moves f = record { opening = f.opening; handed = f.handed; place = moves f.place; note = f.note; own = f.own; seen = f.seen; between = f.between; begins = f.begins }

  home_stays : (seat : Actor → ℕ) (a x : Actor) → seat x ≡ 0 → changed seat a 0 x ≡ 0
  home_stays seat a x e = elim (same_actor x a) as (λ t. (if t then 0 else seat x) ≡ 0) [ true ↦ refl | false ↦ e ]

  view_moves : (given : List Actor) (seat : Actor → ℕ) (notes : Actor → Note) (serving : ℕ) (queue : List ℕ) (history : List E) (a : Actor) (other : ℕ) → seat a ≡ other
      → (j : ℕ) (u : View O E) → j ≢ other → FitsView m about given seat notes serving queue history j u → FitsView m about given (changed seat a 0) notes serving queue history j u
  view_moves given seat notes serving queue history a other at j Spent ne f = tt
  view_moves given seat notes serving queue history a other at j (Keeper opening rest ended) ne f =
      (f.0, f.1, f.2, all_parts m about {P = Fits m about given seat notes history 0} {Q = Fits m about given (changed seat a 0) notes history 0} (λ p. part_moves given seat notes history a 0 p (home_stays seat a p.actor)) ended f.3)
  view_moves given seat notes serving queue history a other at j (Working stage known) ne f =
      (part_moves given seat notes history a j known (λ e. changed_else seat a 0 known.actor (apart known.actor a (λ same. ne (sym e ∙ (ap seat same ∙ at)))) ∙ e) f.0, f.1)

  joins_one : (id other : ℕ) (o : O) (rest : List Actor) (ended : List (Known O E)) (k : Known O E) → Joins (Rule m about) id (Keeper o rest ended) other (Working Idle k) (Keeper o rest (k ∷ ended)) Spent
  joins_one id other o rest ended k s r at apart_ids at' =
      let v : View O E = Keeper o rest ended in
      let w : View O E = Working Idle k in
      let gone : View O E = Spent in
      let f = r.fits id v at in
      let both : View O E = Keeper o rest (k ∷ ended) in
      let base : List (View O E) = set s.views id both in
      let was : get_elem? s.views other ≡ some w = sym (set_else s.views id other both apart_ids) ∙ at' in
      let p = (r.fits other w was).0 in
      let a : Actor = k.actor in
      let seat' : Actor → ℕ = changed r.seat a 0 in
      let sum = tickets-set s.views id v both at in
      let sum' = tickets-set base other w Spent at' in
      let kept : All (Fits m about r.given seat' r.notes r.history 0) ended = all_parts m about {P = Fits m about r.given r.seat r.notes r.history 0} {Q = Fits m about r.given seat' r.notes r.history 0} (λ q. part_moves r.given r.seat r.notes r.history a 0 q (home_stays r.seat a q.actor)) ended f.3 in
      let come : Fits m about r.given seat' r.notes r.history 0 k =
      record { opening = p.opening; handed = p.handed; place = changed_here r.seat a 0; note = p.note; own = p.own; seen = p.seen; between = p.between; begins = p.begins } in
      record {
        serving = r.serving;
        queue = r.queue;
        history = r.history;
        given = r.given;
        seat = seat';
        notes = r.notes;
        book = r.book;
        small = r.small;
        ticket = r.ticket;
        served = r.served;
        counted = (let c = r.counted in omega arith);
        few = (let b = r.few in let e = length-set base other gone in let e' = length-set s.views id both in omega arith);
        rest = r.rest;
        parts = r.parts;
        kept = r.kept;
        unborn = r.unborn;
        blank = r.blank;
        slot = ⊎_elim (λ h. inl h) (λ h. inr (h.0, holder_else base other w Spent at' refl (holder_else s.views id v both at refl h.1))) r.slot;
        words = r.words;
        matched = r.matched;
        fits = fits_set m about r.given seat' r.notes r.serving r.queue r.history base other Spent
            (λ j u ne e. ⊎_elim
            (λ (x : (j ≡ id) × (both ≡ u)). subst (λ (y : ℕ × View O E). FitsView m about r.given seat' r.notes r.serving r.queue r.history y.0 y.1) (λ i. (sym x.0 i, x.1 i))
            (f.0, f.1, f.2, all_more (Fits m about r.given seat' r.notes r.history 0) k ended come kept))
            (λ (x : (j ≢ id) × (get_elem? s.views j ≡ some u)). view_moves r.given r.seat r.notes r.serving r.queue r.history a other p.place j u ne (r.fits j u x.1))
            (at_set s.views id j both u e))
            tt;
      }

  -- the keeper may take a seat back that waits for nothing
  pub joins : (id other : ℕ) (v w : View O E) (o : O) (rest : List Actor) (ended : List (Known O E)) (k : Known O E) → v ≡ Keeper o rest ended → w ≡ Working Idle k → Joins (Rule m about) id v other w (taking v w) Spent
  joins id other v w o rest ended k is it = subst (λ (y : View O E × View O E). Joins (Rule m about) id y.0 other y.1 (taking y.0 y.1) Spent) (λ i. (sym is i, sym it i)) (joins_one id other o rest ended k)

  -- ---- at first

  no_pins : (host word : ℕ) (actors : List Actor) → total (λ a. pins_on host word a first_note) actors ≡ 0
  no_pins host word [] = refl
  no_pins host word (a ∷ rest) = let r = no_pins host word rest in let z : pins_on host word a first_note ≡ 0 = nothing in omega arith
    where
      nothing : pins_on host word a first_note ≡ 0
      nothing = elim ((host_of a).0 == host) as (λ t. let n : ℕ = if t then 0 else 0 in n ≡ 0) [ true ↦ refl | false ↦ refl ]

  words_long : (hosts : ℕ) → length (host_words hosts) ≡ 9 * hosts
  words_long zero = refl
  words_long (suc hosts) = let r = words_long hosts in omega arith

  published_first : (hosts h : ℕ) → h < hosts → get_or (host_words hosts) (9 * h) 0 ≡ 1
  published_first zero h less = absurd (omega arith)
  published_first (suc hosts) zero less = refl
  published_first (suc hosts) (suc h) less = ap (λ i. get_or (host_words (suc hosts)) i 0) (nine h) ∙ published_first hosts h (omega arith)
    where
      nine : (h : ℕ) → 9 * suc h ≡ suc (suc (suc (suc (suc (suc (suc (suc (suc (9 * h)))))))))
      nine h = omega arith

  pins_first : (hosts h word : ℕ) → h < hosts → word < 8 → get_or (host_words hosts) (9 * h + 1 + word) 0 ≡ 0
  pins_first zero h word less small = absurd (omega arith)
  pins_first (suc hosts) zero zero less small = refl
  pins_first (suc hosts) zero (suc zero) less small = refl
  pins_first (suc hosts) zero (suc (suc zero)) less small = refl
  pins_first (suc hosts) zero (suc (suc (suc zero))) less small = refl
  pins_first (suc hosts) zero (suc (suc (suc (suc zero)))) less small = refl
  pins_first (suc hosts) zero (suc (suc (suc (suc (suc zero))))) less small = refl
  pins_first (suc hosts) zero (suc (suc (suc (suc (suc (suc zero)))))) less small = refl
  pins_first (suc hosts) zero (suc (suc (suc (suc (suc (suc (suc zero))))))) less small = refl
  pins_first (suc hosts) zero (suc (suc (suc (suc (suc (suc (suc (suc word)))))))) less small = absurd (omega arith)
  pins_first (suc hosts) (suc h) word less small = ap (λ i. get_or (host_words (suc hosts)) i 0) (nine h word) ∙ pins_first hosts h word (omega arith) small
    where
      nine : (h word : ℕ) → 9 * suc h + 1 + word ≡ suc (suc (suc (suc (suc (suc (suc (suc (suc (9 * h + 1 + word)))))))))
      nine h word = omega arith

  pub words_first : (hosts : ℕ) (actors : List Actor) → AreWords hosts actors (λ _. first_note) (first_words hosts)
  words_first hosts actors =
      record {
        wide = (let l = words_long hosts in omega arith);
        versions = λ host h. ap (λ i. get_or (first_words hosts) i 0) (two host.0) ∙ published_first hosts host.0 h;
        pins = λ host word h w. ap (λ i. get_or (first_words hosts) i 0) (three host word) ∙ (pins_first hosts host word h w ∙ sym (no_pins host word actors));
        eight = λ a. omega arith;
      }
    where
      two : (n : ℕ) → 2 + 9 * n ≡ suc (suc (9 * n))
      two n = omega arith

      three : (n k : ℕ) → 3 + 9 * n + k ≡ suc (suc (9 * n + 1 + k))
      three n k = omega arith

  matches_first : Laws m → (o : O) → Matches m o (λ _. first_note) []
  matches_first laws o =
      record {
        one = λ host. (let f : (m.floor o [] host).0 ≡ 1 = ap (λ v. v.0) (laws.floor_first o host) in omega arith);
        low = λ host. (let f : (m.floor o [] host).0 ≡ 1 = ap (λ v. v.0) (laws.floor_first o host) in omega arith);
        high = λ host. (let f : (m.version o [] host).0 ≡ 1 = ap (λ v. v.0) (laws.version_first o host) in omega arith);
        pins = λ lane. tt;
        live = λ lane at. (let f = laws.live_first o lane at in omega arith);
      }

  pub opens : Laws m → IsBook m about → (j : Written W E) → j.history ≡ [] → m.opening j.world ≡ about.opening → m.commands j.world ≡ [] → Rule m about (opening (first_words about.hosts) (j ∷ []) (Keeper about.opening about.actors []))
  opens laws book j none_yet its empty =
      record {
        serving = 0;
        queue = [];
        history = [];
        given = [];
        seat = λ _. 0;
        notes = λ _. first_note;
        book = book;
        small = omega arith;
        ticket = refl;
        served = refl;
        counted = refl;
        few = omega arith;
        rest = about.actors;
        parts = refl;
        kept = record { legal = tt; entries = omega arith; commands = (let l : length (m.log about.opening []) ≡ 0 = ap length (laws.log_first about.opening) in omega arith) };
        unborn = λ a h. refl;
        blank = λ a h. refl;
        slot = inl (j, refl, none_yet, (its, empty ∙ (sym (laws.log_first about.opening) ∙ ap (m.log about.opening) (sym none_yet))));
        words = words_first about.hosts about.actors;
        matched = matches_first laws about.opening;
        fits = first;
      }
    where
      first : (id : ℕ) (v : View O E) → get_elem? (Keeper about.opening about.actors [] ∷ []) id ≡ some v → FitsView m about [] (λ _. 0) (λ _. first_note) 0 [] [] id v
      first zero v e = subst (FitsView m about [] (λ _. 0) (λ _. first_note) 0 [] [] 0) (some-injective _ _ e) (refl, refl, refl, λ k d h. absurd (omega arith))
      first (suc id) v e = absurd (some-ne-none v (sym e))

  pub opens_as : Laws m → IsBook m about → (world : W) → m.opening world ≡ about.opening → m.commands world ≡ [] → (ws : List ℕ) (js : List (Written W E)) → ws ≡ first_words about.hosts → js ≡ record { world = world; history = [] } ∷ [] → Rule m about (opening ws js (Keeper about.opening about.actors []))
  opens_as laws book world its empty ws js words_is js_is =
      let j : Written W E = record { world = world; history = [] } in
      subst (λ (x : List ℕ × List (Written W E)). Rule m about (opening x.0 x.1 (Keeper about.opening about.actors []))) (λ i. (sym words_is i, sym js_is i)) (opens laws book j refl its empty)

  pub words_count : (hosts : ℕ) → length (first_words hosts) ≡ 2 + 9 * hosts
  words_count hosts = (words_first hosts []).wide

  -- ---- at the end

  closes_one : (id : ℕ) (o : O) (rest : List Actor) (ended : List (Known O E)) (ws : List ℕ) (xs : List (Written W E)) → ((a : Actor) → has_actor about.actors a ≡ true → HasKnown ended a)
      → Final (Seen (Rule m about) id (Keeper o rest ended)) ws xs → (j : Written W E) → get_elem? xs 0 ≡ some j → IsClosed m about ended j
  closes_one id o rest ended ws xs all final j here =
      let s = final.0 in
      let r = final.1.0 in
      let at = final.1.1 in
      let v : View O E = Keeper o rest ended in
      let f = r.fits id v at in
      let out : (s.homes ≡ none ∷ []) × HasHolder s.views → ⊥ = λ h.
      let o = h.1 in
      let holder : View O E = Working (Turn o.1) o.2 in
      let p = (r.fits o.0 holder o.3).0 in
      let k = all (o.2).actor (given_in m about s r (o.2).actor p.handed) in
      let q = all_at (Fits m about r.given r.seat r.notes r.history 0) ended k.0 k.1 f.3 k.2 in
      let at_id : o.0 ≡ id = sym p.place ∙ (ap r.seat (sym k.3) ∙ (q.place ∙ sym f.0)) in
      let same : v ≡ holder = some-injective v holder (sym at ∙ subst (λ (i : ℕ). get_elem? s.views i ≡ some holder) at_id o.3) in
      let a : is_working v ≡ is_working holder = ap (λ (u : View O E). is_working u) same in let none_there : is_working v ≡ 0 = refl in let one_there : is_working holder ≡ 1 = refl in
      omega arith
      in ⊎_elim
      (λ (h : (j : Written W E) × (s.homes ≡ some j ∷ []) × (j.history ≡ r.history) × IsSound m about.opening j).
      let same : h.0 ≡ j = some-injective h.0 j (sym (final.4 0 h.0 (ap (λ (hs : List (Option (Written W E))). get_elem? hs 0) h.1)) ∙ here) in
      let now : r.history ≡ j.history = sym h.2 ∙ ap (λ (y : Written W E). y.history) same in
      record {
        kept = subst (IsKept m about.opening) now r.kept;
        sound = subst (IsSound m about.opening) same h.3;
        ends = (λ k p e. let q = all_at (Fits m about r.given r.seat r.notes r.history 0) ended k p f.3 e in record { own = ap (own_of m p.actor) (sym now) ∙ q.own; between = q.between; begins = sym now ∙ q.begins });
        others = (λ a h. ap (own_of m a) (sym now) ∙ r.unborn a (not_front r.given r.rest a (ap (λ l. has_actor l a) (sym r.parts) ∙ h)));
      })
      (λ h. absurd (out h))
      r.slot

  -- what the closed book gives, when each actor's part was given back
  pub closes : (id : ℕ) (v : View O E) (o : O) (rest : List Actor) (ended : List (Known O E)) (ws : List ℕ) (xs : List (Written W E)) → v ≡ Keeper o rest ended → ((a : Actor) → has_actor about.actors a ≡ true → HasKnown ended a)
      → Final (Seen (Rule m about) id v) ws xs → (j : Written W E) → get_elem? xs 0 ≡ some j → IsClosed m about ended j
  closes id v o rest ended ws xs is all final = closes_one id o rest ended ws xs all (subst (λ (u : View O E). Final (Seen (Rule m about) id u) ws xs) is final)
