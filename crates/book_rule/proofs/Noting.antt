-- The steps beside the turns keep the rule: looks at the words of a host, pins that are raised, confirmed and lowered,
-- and versions that are published.
use Rattle.std.proofs.Common.{List, [], ap, arith, eq-eqb, get_or, inl, inr, length, length-set, ne_eqb, refl, set, subst, suc, sym, true≢false, zero, ℕ, ◌%◌, ◌++◌, ◌+◌, ◌-◌, ◌<◌, ◌≤◌, ◌^◌, ◌∙◌, ◌∷◌, ◌≡◌, ◌≢◌, ⊎_elim}
use Rattle.std.proofs.lemmas.Bool.{eqb-true}
use Rattle.std.specs.Prelude.{Bool, false, if◌then◌else◌, true, ◌==◌, ◌||◌}
use mathlib.Core.Logic.{dite}
use mathlib.Core.Option.{none, some, some-injective, some-ne-none}
use native.Mathlib.Decide.{ℕ_discrete}
use lib.ListN.{get_elem?}
use Rattle.atomic_table.specs.Table.{Act, Allows, State, Valid, carried_after, keeps, step, stepped}
use Rattle.base_ids.specs.Names.{same_actor}
use Rattle.base_ids.specs.declared.ids.Actor.{Actor}
use Rattle.base_ids.specs.declared.ids.Actor.TheVariants.{Host as ByHost, Lane as ByLane}
use Rattle.base_ids.specs.declared.ids.HostId.{HostId}
use Rattle.base_ids.specs.declared.ids.LaneId.{LaneId}
use Rattle.base_ids.specs.declared.ids.Version.{Version}
use Rattle.book_rule.proofs.Basics.{carried, none_between, get_or-set_else, there, tickets-set}
use Rattle.book_rule.proofs.Following.{every, pin_there, version_same}
use Rattle.base_ids.proofs.NameLemmas.{same_actor-same}
use Rattle.book_rule.proofs.Names.{apart, changed_else, changed_here}
use Rattle.book_rule.proofs.Turning.{all_parts, fits_set, given_in, holder_else}
use Rattle.book_rule.specs.Notes.{AreWords, Every, IsPin, Matches, changed, count_of, host_of, look_at, on_word, one_if, pin_word, pins_on, published_of, total, version_word, without}
use Rattle.book_rule.proofs.Pinning.{pins_here, total_few, total_zero, words_pin, words_publish, words_same}
use Rattle.book_rule.specs.Pins.{Confirms, LooksAtPins, LowersPin, LowersRaised, Publishes, Raises, Saw, pin_place, saw_version, with_confirmed, with_look, with_note, with_published, with_raised, without_pin, without_raised}
use Rattle.book_rule.specs.Turns.{Doing, Fits, FitsView, Rule, Written, has_actor}
use Rattle.book_rule.specs.World.{IsForeign, IsLegal, Laws, Meaning, own_of}
use Rattle.book_rule.specs.declared.view.About.{About}
use Rattle.book_rule.specs.declared.view.Known.{Known}
use Rattle.book_rule.specs.declared.view.Note.{Note}
use Rattle.book_rule.specs.declared.view.PinLook.{PinLook}
use Rattle.book_rule.specs.declared.view.Stage.TheVariants.{Idle}
use Rattle.book_rule.specs.declared.view.View.{View}
use Rattle.book_rule.specs.declared.view.View.TheVariants.{Keeper, Spent, Working}

module _ {W O E C R M S : Type 0} (m : Meaning W O E C R M S) (about : About O) where
  abbrev Table : Type 0
  Table = State (Written W E) (View O E)

  -- the other parts know what they knew
  part_noted : (given : List Actor) (seat : Actor → ℕ) (notes : Actor → Note) (history : List E) (id : ℕ) (a : Actor) (n : Note) → seat a ≡ id → (j : ℕ) (p : Known O E) → j ≢ id → Fits m about given seat notes history j p → Fits m about given seat (changed notes a n) history j p
  part_noted given seat notes history id a n place j p ne f =
      record {
        opening = f.opening;
        handed = f.handed;
        place = f.place;
        note = changed_else notes a n p.actor (apart p.actor a (λ e. ne (sym f.place ∙ (ap seat e ∙ place)))) ∙ f.note;
        own = f.own;
        seen = f.seen;
        between = f.between;
        begins = f.begins;
      }

  view_noted : (given : List Actor) (seat : Actor → ℕ) (notes : Actor → Note) (serving : ℕ) (queue : List ℕ) (history : List E) (id : ℕ) (a : Actor) (n : Note) → seat a ≡ id
      → (j : ℕ) (u : View O E) → j ≢ id → FitsView m about given seat notes serving queue history j u → FitsView m about given seat (changed notes a n) serving queue history j u
  view_noted given seat notes serving queue history id a n place j Spent ne f = tt
  view_noted given seat notes serving queue history id a n place j (Keeper opening rest ended) ne f =
      (f.0, f.1, f.2, all_parts m about {P = Fits m about given seat notes history 0} {Q = Fits m about given seat (changed notes a n) history 0} (λ p. part_noted given seat notes history id a n place 0 p (λ e. ne (f.0 ∙ e))) ended f.3)
  view_noted given seat notes serving queue history id a n place j (Working stage known) ne f = (part_noted given seat notes history id a n place j known ne f.0, f.1)

  -- one actor's note changes, and a word behind those of the turns
  pub noted : (s : Table) (r : Rule m about s) (id : ℕ) (k : Known O E) (hand : List (ℕ × Written W E)) → get_elem? s.views id ≡ some (Working Idle k) → (n : Note) (i y : ℕ) → 1 < i
      → AreWords about.hosts about.actors (changed r.notes k.actor n) (set s.words i y) → Matches m about.opening (changed r.notes k.actor n) r.history
      → Rule m about (stepped s i y id hand (Working Idle (with_note n k)) keeps)
  noted s r id k hand at n i y far words matched =
      let v : View O E = Working Idle k in
      let w : View O E = Working Idle (with_note n k) in
      let p = (r.fits id v at).0 in
      let sum = tickets-set s.views id v w at in
      record {
        serving = r.serving;
        queue = r.queue;
        history = r.history;
        given = r.given;
        seat = r.seat;
        notes = changed r.notes k.actor n;
        book = r.book;
        small = r.small;
        ticket = get_or-set_else s.words i 0 y (λ e. omega arith) ∙ r.ticket;
        served = get_or-set_else s.words i 1 y (λ e. omega arith) ∙ r.served;
        counted = (let c = r.counted in omega arith);
        few = (let f = r.few in let e = length-set s.views id w in omega arith);
        rest = r.rest;
        parts = r.parts;
        kept = r.kept;
        unborn = r.unborn;
        blank = (λ a none_yet. changed_else r.notes k.actor n a (apart a k.actor (λ e. true≢false (sym p.handed ∙ (ap (has_actor r.given) (sym e) ∙ none_yet)))) ∙ r.blank a none_yet);
        slot = ⊎_elim (λ h. inl h) (λ h. inr (h.0, holder_else s.views id v w at refl h.1)) r.slot;
        words = words;
        matched = matched;
        fits = fits_set m about r.given r.seat (changed r.notes k.actor n) r.serving r.queue r.history s.views id w
            (λ j u ne e. view_noted r.given r.seat r.notes r.serving r.queue r.history id k.actor n p.place j u ne (r.fits j u e))
            (record { opening = p.opening; handed = p.handed; place = p.place; note = changed_here r.notes k.actor n; own = p.own; seen = p.seen; between = p.between; begins = p.begins }, tt);
      }

  -- ---- what actors know still matches the history

  module _ (o : O) (notes : Actor → Note) (history : List E) (was : Matches m o notes history) (a : Actor) (n : Note) where
    -- a lane's pins change
    pub lane_change : (lane : LaneId) → a ≡ ByLane lane → Every (IsPin (m.floor o history lane.host) (published_of notes lane.host) (notes (ByHost lane.host)).looks) n.pins
        → ((at : Version) → m.live o history lane at ≤ count_of at n.pins) → Matches m o (changed notes a n) history
    lane_change lane is pins live =
        record {
          one = was.one;
          low = λ host. subst (λ (x : Note). (m.floor o history host).0 ≤ x.published.0) (sym (hosts host)) (was.low host);
          high = λ host. subst (λ (x : Note). x.published.0 ≤ (m.version o history host).0) (sym (hosts host)) (was.high host);
          pins = λ other. subst (λ (x : Note). Every (IsPin (m.floor o history other.host) x.published x.looks) (changed notes a n (ByLane other)).pins) (sym (hosts other.host))
              (all_lanes (λ l x. Every (IsPin (m.floor o history l.host) (published_of notes l.host) (notes (ByHost l.host)).looks) x.pins) pins was.pins other);
          live = all_lanes (λ l x. (at : Version) → m.live o history l at ≤ count_of at x.pins) live was.live;
        }
      where
        hosts : (host : HostId) → changed notes a n (ByHost host) ≡ notes (ByHost host)
        hosts host = changed_else notes a n (ByHost host) (ap (same_actor (ByHost host)) is)

        all_lanes : (P : LaneId → Note → Type 0) → P lane n → ((l : LaneId) → P l (notes (ByLane l))) → (l : LaneId) → P l (changed notes a n (ByLane l))
        all_lanes P mine others l = elim (same_actor (ByLane l) a) as (λ t. same_actor (ByLane l) a ≡ t → P l (if t then n else notes (ByLane l))) [
          | true ↦ λ e. subst (λ (x : LaneId). P x n) (ap Rattle.book_rule.proofs.Following.lane_of (sym (same_actor-same (ByLane l) a e ∙ is))) mine
          | false ↦ λ _. others l
        ]
            refl

    -- what a host published, or saw, changes
    pub host_change : (host : HostId) → a ≡ ByHost host → (m.floor o history host).0 ≤ n.published.0 → n.published.0 ≤ (m.version o history host).0
        → ((lane : LaneId) → lane.host ≡ host → Every (IsPin (m.floor o history lane.host) n.published n.looks) (notes (ByLane lane)).pins) → Matches m o (changed notes a n) history
    host_change host is low high pins =
        record {
          one = was.one;
          low = all_hosts (λ h x. (m.floor o history h).0 ≤ x.published.0) low was.low;
          high = all_hosts (λ h x. x.published.0 ≤ (m.version o history h).0) high was.high;
          pins = λ lane. subst (λ (x : Note). Every (IsPin (m.floor o history lane.host) (published_of (changed notes a n) lane.host) (changed notes a n (ByHost lane.host)).looks) x.pins) (sym (lanes lane))
              (all_hosts (λ h x. lane.host ≡ h → Every (IsPin (m.floor o history lane.host) x.published x.looks) (notes (ByLane lane)).pins) (pins lane)
              (λ h e. subst (λ (y : HostId). Every (IsPin (m.floor o history lane.host) (published_of notes y) (notes (ByHost y)).looks) (notes (ByLane lane)).pins) e (was.pins lane)) lane.host refl);
          live = λ lane at. subst (λ (x : Note). m.live o history lane at ≤ count_of at x.pins) (sym (lanes lane)) (was.live lane at);
        }
      where
        lanes : (lane : LaneId) → changed notes a n (ByLane lane) ≡ notes (ByLane lane)
        lanes lane = changed_else notes a n (ByLane lane) (ap (same_actor (ByLane lane)) is)

        all_hosts : (P : HostId → Note → Type 0) → P host n → ((h : HostId) → P h (notes (ByHost h))) → (h : HostId) → P h (changed notes a n (ByHost h))
        all_hosts P mine others h = elim (same_actor (ByHost h) a) as (λ t. same_actor (ByHost h) a ≡ t → P h (if t then n else notes (ByHost h))) [
          | true ↦ λ e. subst (λ (x : HostId). P x n) (ap host_of (sym (same_actor-same (ByHost h) a e ∙ is))) mine
          | false ↦ λ _. others h
        ]
            refl

-- ---- lists of pins

pub count_newest : (x : Version) (xs : List Version) (at : Version) → count_of at xs ≤ count_of at (x ∷ xs)
count_newest x xs at = omega arith

pub without-on : (v : Version) (vs : List Version) (k : ℕ) → 0 < count_of v vs → on_word k (without v vs) + one_if (v.0 % 8 == k) ≡ on_word k vs
without-on v [] k h = absurd (omega arith)
without-on v (x ∷ xs) k h = elim (x.0 == v.0) as (λ t. x.0 == v.0 ≡ t → on_word k (if t then xs else x ∷ without v xs) + one_if (v.0 % 8 == k) ≡ one_if (x.0 % 8 == k) + on_word k xs) [
  | true ↦ λ e. let same : x.0 ≡ v.0 = eqb-true x.0 v.0 e in let w : one_if (x.0 % 8 == k) ≡ one_if (v.0 % 8 == k) = ap (λ n. one_if (n % 8 == k)) same in omega arith
  | false ↦ λ e. let z : one_if (x.0 == v.0) ≡ 0 = ap one_if e in let r = without-on v xs k (omega arith) in omega arith
]
    refl

pub without-length : (v : Version) (vs : List Version) → 0 < count_of v vs → length (without v vs) + 1 ≡ length vs
without-length v [] h = absurd (omega arith)
without-length v (x ∷ xs) h = elim (x.0 == v.0) as (λ t. x.0 == v.0 ≡ t → length (if t then xs else x ∷ without v xs) + 1 ≡ length (x ∷ xs)) [
  | true ↦ λ _. omega arith
  | false ↦ λ e. let z : one_if (x.0 == v.0) ≡ 0 = ap one_if e in let r = without-length v xs (omega arith) in omega arith
]
    refl

pub without-every : (P : Version → Type 0) (v : Version) (vs : List Version) → Every P vs → Every P (without v vs)
without-every P v [] a = tt
without-every P v (x ∷ xs) a = elim (x.0 == v.0) as (λ t. Every P (if t then xs else x ∷ without v xs)) [ true ↦ a.1 | false ↦ (a.0, without-every P v xs a.1) ]

pub without-count : (v : Version) (vs : List Version) (at : Version) → 0 < count_of v vs → count_of at (without v vs) + one_if (v.0 == at.0) ≡ count_of at vs
without-count v [] at h = absurd (omega arith)
without-count v (x ∷ xs) at h = elim (x.0 == v.0) as (λ t. x.0 == v.0 ≡ t → count_of at (if t then xs else x ∷ without v xs) + one_if (v.0 == at.0) ≡ one_if (x.0 == at.0) + count_of at xs) [
  | true ↦ λ e. let same : x.0 ≡ v.0 = eqb-true x.0 v.0 e in let w : one_if (x.0 == at.0) ≡ one_if (v.0 == at.0) = ap (λ n. one_if (n == at.0)) same in omega arith
  | false ↦ λ e. let z : one_if (x.0 == v.0) ≡ 0 = ap one_if e in let r = without-count v xs at (omega arith) in omega arith
]
    refl

module _ {W O E C R M S : Type 0} (m : Meaning W O E C R M S) (laws : Laws m) (about : About O) where
  -- what the rule says of an actor between its turns
  module _ (s : State (Written W E) (View O E)) (r : Rule m about s) (id : ℕ) (k : Known O E) (at : get_elem? s.views id ≡ some (Working Idle k)) where
    part : Fits m about r.given r.seat r.notes r.history id k
    part = (r.fits id (Working Idle k) at).0

    in_book : has_actor about.actors k.actor ≡ true
    in_book = given_in m about s r k.actor part.handed

    on_host : (host_of k.actor).0 < about.hosts
    on_host = (r.book.inside k.actor in_book).1

    its_note : r.notes k.actor ≡ k.note
    its_note = part.note

    few_pins : length k.note.pins + length k.note.raised ≤ 8
    few_pins = subst (λ (n : Note). length n.pins + length n.raised ≤ 8) its_note (r.words.eight k.actor)

    lane_pins : (lane : LaneId) → k.actor ≡ ByLane lane → Every (IsPin (m.floor about.opening r.history lane.host) (published_of r.notes lane.host) (r.notes (ByHost lane.host)).looks) k.note.pins
    lane_pins lane is = subst (λ (n : Note). Every (IsPin (m.floor about.opening r.history lane.host) (published_of r.notes lane.host) (r.notes (ByHost lane.host)).looks) n.pins) (ap r.notes (sym is) ∙ its_note) (r.matched.pins lane)

    lane_live : (lane : LaneId) → k.actor ≡ ByLane lane → (v : Version) → m.live about.opening r.history lane v ≤ count_of v k.note.pins
    lane_live lane is v = subst (λ (n : Note). m.live about.opening r.history lane v ≤ count_of v n.pins) (ap r.notes (sym is) ∙ its_note) (r.matched.live lane v)

    -- a load after which the note has the same pins
    loads_as : (n : Note) → n.published ≡ k.note.published → n.pins ≡ k.note.pins → n.raised ≡ k.note.raised → (i : ℕ) → AreWords about.hosts about.actors (changed r.notes k.actor n) (set s.words i (get_or s.words i 0))
    loads_as n published pins raised i = words_same about.hosts about.actors r.notes s.words r.words r.book.distinct r.book.few k.actor in_book n (subst (λ (y : List Version × List Version). length y.0 + length y.1 ≤ 8) (λ j. (sym pins j, sym raised j)) few_pins) i
        (published ∙ ap (λ (x : Note). x.published) (sym its_note))
        (λ h word j. let c : ℕ = if (host_of k.actor).0 == h then on_word word ((pins ∙ ap (λ (x : Note). x.pins) (sym its_note)) j) + on_word word ((raised ∙ ap (λ (x : Note). x.raised) (sym its_note)) j) else 0 in c)

  -- a lane looks at the version word of its host
  sees_one : (slots id : ℕ) (k : Known O E) (hand : List (ℕ × Written W E)) (lane : LaneId) → k.actor ≡ ByLane lane → Allows (Rule m about) slots id (Working Idle k, hand) (version_word lane.host.0) (λ x. x) (Saw (step slots (version_word lane.host.0) 0 0 none) (Working Idle k, hand))
  sees_one slots id k hand lane is s r _ at _ =
      let i : ℕ = version_word lane.host.0 in
      let x : ℕ = get_or s.words i 0 in
      let n : Note = saw_version x k.note in (
        Working Idle (with_note n k),
        keeps,
        tt,
        noted m about s r id k hand at n i x (omega arith) (loads_as s r id k at n refl refl refl i)
            (lane_change m about about.opening r.notes r.history r.matched k.actor n lane is (lane_pins s r id k at lane is) (lane_live s r id k at lane is)),
        refl,
      )

  pub sees : (slots id : ℕ) (me : Doing m) (k : Known O E) (lane : LaneId) → me.0 ≡ Working Idle k → k.actor ≡ ByLane lane → Allows (Rule m about) slots id me (version_word lane.host.0) (λ x. x) (Saw (step slots (version_word lane.host.0) 0 0 none) me)
  sees slots id me k lane it is = subst (λ (v : View O E). Allows (Rule m about) slots id (v, me.1) (version_word lane.host.0) (λ x. x) (Saw (step slots (version_word lane.host.0) 0 0 none) (v, me.1))) (sym it) (sees_one slots id k me.1 lane is)

  -- and raises a pin there, if it has fewer than eight
  raises_one : (slots id : ℕ) (k : Known O E) (hand : List (ℕ × Written W E)) (lane : LaneId) → k.actor ≡ ByLane lane → length k.note.pins + length k.note.raised < 8
      → Allows (Rule m about) slots id (Working Idle k, hand) (pin_word lane.host.0 (k.note.saw.0 % 8)) (λ x. (x + 1) % 2 ^ 64) (Raises (step slots (pin_word lane.host.0 (k.note.saw.0 % 8)) 1 0 none) (Working Idle k, hand))
  raises_one slots id k hand lane is room s r _ at _ =
      let word : ℕ = k.note.saw.0 % 8 in
      let small : word < 8 = omega arith in
      let i : ℕ = pin_word lane.host.0 word in
      let x : ℕ = get_or s.words i 0 in
      let y : ℕ = (x + 1) % 18446744073709551616 in
      let n : Note = with_raised k.note in
      let here : host_of k.actor ≡ lane.host = ap host_of is in
      let eight : length n.pins + length n.raised ≤ 8 = omega arith in
      let within : lane.host.0 < about.hosts = subst (λ (h : HostId). h.0 < about.hosts) here (on_host s r id k at) in
      let was : x ≡ total (λ a. pins_on lane.host.0 word a (r.notes a)) about.actors = r.words.pins lane.host.0 word within small in
      let few = total_few about.hosts about.actors r.notes s.words r.words r.book.distinct r.book.few k.actor (in_book s r id k at) n eight lane.host.0 word in
      let next : y ≡ x + 1 = omega (arith, was, few) in
      let one : one_if (k.note.saw.0 % 8 == word) ≡ 1 = ap one_if (eq-eqb word word refl) in
      let old : on_word word (r.notes k.actor).pins + on_word word (r.notes k.actor).raised ≡ on_word word k.note.pins + on_word word k.note.raised = ap (λ (z : Note). on_word word z.pins + on_word word z.raised) (its_note s r id k at) in
      let words : AreWords about.hosts about.actors (changed r.notes k.actor n) (set s.words (pin_word (host_of k.actor).0 word) y) =
      words_pin about.hosts about.actors r.notes s.words r.words r.book.distinct r.book.few k.actor (in_book s r id k at) n eight word y small (ap (λ (z : Note). z.published) (sym (its_note s r id k at))) (on_host s r id k at)
      (let at_word : get_or s.words (pin_word (host_of k.actor).0 word) 0 ≡ x = ap (λ (h : HostId). get_or s.words (pin_word h.0 word) 0) here in omega (arith, next, one, old, at_word))
      (λ j ne. let z : one_if (word == j) ≡ 0 = ap one_if (ne_eqb word j (λ e. ne (sym e))) in let o : on_word j (r.notes k.actor).pins + on_word j (r.notes k.actor).raised ≡ on_word j k.note.pins + on_word j k.note.raised = ap (λ (q : Note). on_word j q.pins + on_word j q.raised) (its_note s r id k at) in omega (arith, z, o)) in (
        Working Idle (with_note n k),
        keeps,
        tt,
        noted m about s r id k hand at n i y (omega arith) (subst (λ (h : HostId). AreWords about.hosts about.actors (changed r.notes k.actor n) (set s.words (pin_word h.0 word) y)) here words)
            (lane_change m about about.opening r.notes r.history r.matched k.actor n lane is (lane_pins s r id k at lane is) (lane_live s r id k at lane is)),
        refl,
      )

  pub raises : (slots id : ℕ) (me : Doing m) (k : Known O E) (lane : LaneId) → me.0 ≡ Working Idle k → k.actor ≡ ByLane lane → length k.note.pins + length k.note.raised < 8
      → Allows (Rule m about) slots id me (pin_word lane.host.0 (k.note.saw.0 % 8)) (λ x. (x + 1) % 2 ^ 64) (Raises (step slots (pin_word lane.host.0 (k.note.saw.0 % 8)) 1 0 none) me)
  raises slots id me k lane it is room = subst (λ (v : View O E). Allows (Rule m about) slots id (v, me.1) (pin_word lane.host.0 (k.note.saw.0 % 8)) (λ x. (x + 1) % 2 ^ 64) (Raises (step slots (pin_word lane.host.0 (k.note.saw.0 % 8)) 1 0 none) (v, me.1))) (sym it) (raises_one slots id k me.1 lane is room)

  -- a lane looks again: where the version is the same, a pin that it raised there is confirmed
  confirms_one : (slots id : ℕ) (k : Known O E) (hand : List (ℕ × Written W E)) (lane : LaneId) (v : Version) → k.actor ≡ ByLane lane → 0 < count_of v k.note.raised
      → Allows (Rule m about) slots id (Working Idle k, hand) (version_word lane.host.0) (λ x. x) (Confirms v (step slots (version_word lane.host.0) 0 0 none) (Working Idle k, hand))
  confirms_one slots id k hand lane v is there s r _ at _ = dite (ℕ_discrete x v.0) same else_where
    where
      i : ℕ
      i = version_word lane.host.0

      x : ℕ
      x = get_or s.words i 0

      n : Note
      n = with_confirmed v k.note

      Goal : Type 0
      Goal = (w : View O E) × (a : Act (Written W E)) × Valid s.homes hand a × Rule m about (stepped s i x id hand w a) × Confirms v (step slots i 0 0 none) (Working Idle k, hand) x (w, carried_after hand a)

      here : host_of k.actor ≡ lane.host
      here = ap host_of is

      within : lane.host.0 < about.hosts
      within = subst (λ (h : HostId). h.0 < about.hosts) here (on_host s r id k at)

      published : (published_of r.notes lane.host).0 ≡ x
      published = sym (r.words.versions lane.host within)

      counts : (h word : ℕ) → pins_on h word k.actor n ≡ pins_on h word k.actor (r.notes k.actor)
      counts h word = ap (λ (c : ℕ). let d : ℕ = if (host_of k.actor).0 == h then c else 0 in d) (sum word) ∙ ap (pins_on h word k.actor) (sym (its_note s r id k at))
        where
          sum : (word : ℕ) → on_word word n.pins + on_word word n.raised ≡ on_word word k.note.pins + on_word word k.note.raised
          sum word = let w = without-on v k.note.raised word there in omega (arith, w)

      eight : length n.pins + length n.raised ≤ 8
      eight = let f = few_pins s r id k at in let l = without-length v k.note.raised there in omega (arith, f, l)

      same : x ≡ v.0 → Goal
      same found =
          let pin : IsPin (m.floor about.opening r.history lane.host) (published_of r.notes lane.host) (r.notes (ByHost lane.host)).looks v = record {
            low = (let l = r.matched.low lane.host in omega (arith, l, published, found));
            high = omega (arith, published, found);
            near = omega (arith, published, found);
            clear = λ place e. omega (arith, published, found);
          } in (
            Working Idle (with_note n k),
            keeps,
            tt,
            noted m about s r id k hand at n i x (omega arith)
                (words_same about.hosts about.actors r.notes s.words r.words r.book.distinct r.book.few k.actor (in_book s r id k at) n eight i (ap (λ (z : Note). z.published) (sym (its_note s r id k at))) counts)
                (lane_change m about about.opening r.notes r.history r.matched k.actor n lane is (pin, lane_pins s r id k at lane is)
                (λ v'. let l = lane_live s r id k at lane is v' in omega arith)),
            ((λ _. refl), (λ ne. absurd (ne found))),
          )

      else_where : x ≢ v.0 → Goal
      else_where ne = (
        Working Idle (with_note (saw_version x k.note) k),
        keeps,
        tt,
        noted m about s r id k hand at (saw_version x k.note) i x (omega arith) (loads_as s r id k at (saw_version x k.note) refl refl refl i)
            (lane_change m about about.opening r.notes r.history r.matched k.actor (saw_version x k.note) lane is (lane_pins s r id k at lane is) (lane_live s r id k at lane is)),
        ((λ e. absurd (ne e)), (λ _. refl)),
      )

  pub confirms : (slots id : ℕ) (me : Doing m) (k : Known O E) (lane : LaneId) (v : Version) → me.0 ≡ Working Idle k → k.actor ≡ ByLane lane → 0 < count_of v k.note.raised
      → Allows (Rule m about) slots id me (version_word lane.host.0) (λ x. x) (Confirms v (step slots (version_word lane.host.0) 0 0 none) me)
  confirms slots id me k lane v it is there = subst (λ (u : View O E). Allows (Rule m about) slots id (u, me.1) (version_word lane.host.0) (λ x. x) (Confirms v (step slots (version_word lane.host.0) 0 0 none) (u, me.1))) (sym it) (confirms_one slots id k me.1 lane v is there)

  -- a pin word is one lower, as one pin of the lane is gone
  lowers_to : (slots id : ℕ) (k : Known O E) (hand : List (ℕ × Written W E)) (lane : LaneId) (v : Version) (n : Note) → k.actor ≡ ByLane lane → n.published ≡ k.note.published
      → ((word : ℕ) → on_word word n.pins + on_word word n.raised + one_if (v.0 % 8 == word) ≡ on_word word k.note.pins + on_word word k.note.raised) → length n.pins + length n.raised ≤ length k.note.pins + length k.note.raised
      → (s : State (Written W E) (View O E)) (r : Rule m about s) (at : get_elem? s.views id ≡ some (Working Idle k)) → get_or s.words (pin_word lane.host.0 (v.0 % 8)) 0 < 18446744073709551616 → Matches m about.opening (changed r.notes k.actor n) r.history
      → Rule m about (stepped s (pin_word lane.host.0 (v.0 % 8)) ((get_or s.words (pin_word lane.host.0 (v.0 % 8)) 0 + 18446744073709551615) % 18446744073709551616) id hand (Working Idle (with_note n k)) keeps)
  lowers_to slots id k hand lane v n is published sums fewer s r at bound matched =
      let word : ℕ = v.0 % 8 in
      let small : word < 8 = omega arith in
      let i : ℕ = pin_word lane.host.0 word in
      let x : ℕ = get_or s.words i 0 in
      let y : ℕ = (x + 18446744073709551615) % 18446744073709551616 in
      let here : host_of k.actor ≡ lane.host = ap host_of is in
      let within : lane.host.0 < about.hosts = subst (λ (h : HostId). h.0 < about.hosts) here (on_host s r id k at) in
      let f = few_pins s r id k at in
      let eight : length n.pins + length n.raised ≤ 8 = omega (arith, f, fewer) in
      let was : x ≡ total (λ a. pins_on lane.host.0 word a (r.notes a)) about.actors = r.words.pins lane.host.0 word within small in
      let one : one_if (v.0 % 8 == word) ≡ 1 = ap one_if (eq-eqb word word refl) in
      let sum = sums word in
      let old : on_word word (r.notes k.actor).pins + on_word word (r.notes k.actor).raised ≡ on_word word k.note.pins + on_word word k.note.raised = ap (λ (z : Note). on_word word z.pins + on_word word z.raised) (its_note s r id k at) in
      let mine : pins_on lane.host.0 word k.actor (r.notes k.actor) ≡ on_word word k.note.pins + on_word word k.note.raised = ap (λ (h : HostId). pins_on h.0 word k.actor (r.notes k.actor)) (sym here) ∙ (pins_here word k.actor (r.notes k.actor) ∙ old) in
      let some_there : 1 ≤ x = (let t = part_total (λ a. pins_on lane.host.0 word a (r.notes a)) about.actors k.actor (in_book s r id k at) in omega (arith, was, t, mine, one, sum)) in
      let next : y + 1 ≡ x = omega (arith, some_there, bound) in
      let words : AreWords about.hosts about.actors (changed r.notes k.actor n) (set s.words (pin_word (host_of k.actor).0 word) y) =
      words_pin about.hosts about.actors r.notes s.words r.words r.book.distinct r.book.few k.actor (in_book s r id k at) n eight word y small (published ∙ ap (λ (z : Note). z.published) (sym (its_note s r id k at))) (on_host s r id k at)
      (let at_word : get_or s.words (pin_word (host_of k.actor).0 word) 0 ≡ x = ap (λ (h : HostId). get_or s.words (pin_word h.0 word) 0) here in omega (arith, next, one, old, at_word, sum))
      (λ j ne. let z : one_if (v.0 % 8 == j) ≡ 0 = ap one_if (ne_eqb word j (λ e. ne (sym e))) in let sj = sums j in let o : on_word j (r.notes k.actor).pins + on_word j (r.notes k.actor).raised ≡ on_word j k.note.pins + on_word j k.note.raised = ap (λ (q : Note). on_word j q.pins + on_word j q.raised) (its_note s r id k at) in omega (arith, z, o, sj)) in
      noted m about s r id k hand at n i y (omega arith) (subst (λ (h : HostId). AreWords about.hosts about.actors (changed r.notes k.actor n) (set s.words (pin_word h.0 word) y)) here words) matched
    where
      part_total : (f : Actor → ℕ) (actors : List Actor) (a : Actor) → has_actor actors a ≡ true → f a ≤ total f actors
      part_total f [] a h = cc
      part_total f (b ∷ bs) a h = more (part_total f bs a) (same_actor a b) refl
        where
          more : (has_actor bs a ≡ true → f a ≤ total f bs) → (t : Bool) → same_actor a b ≡ t → f a ≤ total f (b ∷ bs)
          more rec true e = let same : f a ≡ f b = ap f (same_actor-same a b e) in omega arith
          more rec false e = let l = rec (ap (λ t. t || has_actor bs a) (sym e) ∙ h) in omega arith

  -- a raised pin is lowered
  lowers_raised_one : (slots id : ℕ) (k : Known O E) (hand : List (ℕ × Written W E)) (lane : LaneId) (v : Version) → k.actor ≡ ByLane lane → 0 < count_of v k.note.raised
      → Allows (Rule m about) slots id (Working Idle k, hand) (pin_word lane.host.0 (v.0 % 8)) (λ x. (x + (2 ^ 64 - 1)) % 2 ^ 64) (LowersRaised v (step slots (pin_word lane.host.0 (v.0 % 8)) 1 0 none) (Working Idle k, hand))
  lowers_raised_one slots id k hand lane v is there s r _ at bound =
      let n : Note = without_raised v k.note in (
        Working Idle (with_note n k),
        keeps,
        tt,
        lowers_to slots id k hand lane v n is refl
            (λ word. let w = without-on v k.note.raised word there in omega (arith, w))
            (let l = without-length v k.note.raised there in omega (arith, l)) s r at bound
            (lane_change m about about.opening r.notes r.history r.matched k.actor n lane is (lane_pins s r id k at lane is) (lane_live s r id k at lane is)),
        refl,
      )

  pub lowers_raised : (slots id : ℕ) (me : Doing m) (k : Known O E) (lane : LaneId) (v : Version) → me.0 ≡ Working Idle k → k.actor ≡ ByLane lane → 0 < count_of v k.note.raised
      → Allows (Rule m about) slots id me (pin_word lane.host.0 (v.0 % 8)) (λ x. (x + (2 ^ 64 - 1)) % 2 ^ 64) (LowersRaised v (step slots (pin_word lane.host.0 (v.0 % 8)) 1 0 none) me)
  lowers_raised slots id me k lane v it is there = subst (λ (u : View O E). Allows (Rule m about) slots id (u, me.1) (pin_word lane.host.0 (v.0 % 8)) (λ x. (x + (2 ^ 64 - 1)) % 2 ^ 64) (LowersRaised v (step slots (pin_word lane.host.0 (v.0 % 8)) 1 0 none) (u, me.1))) (sym it) (lowers_raised_one slots id k me.1 lane v is there)

  -- what the lane has seen of its live requests is so still
  live_seen : (s : State (Written W E) (View O E)) (r : Rule m about s) (id : ℕ) (k : Known O E) (at : get_elem? s.views id ≡ some (Working Idle k)) (lane : LaneId) → k.actor ≡ ByLane lane → (v : Version) → m.live about.opening r.history lane v ≡ m.live k.opening k.seen lane v
  live_seen s r id k at lane is v =
      let p = (r.fits id (Working Idle k) at).0 in
      let begins : r.history ≡ p.between ++ k.seen = p.begins in
      let legal = subst (IsLegal m about.opening) begins r.kept.legal in
      let none_of_it = none_between m k.actor p.between k.seen (ap (own_of m k.actor) (sym begins) ∙ (p.own ∙ sym p.seen)) in
      let same : m.live about.opening (p.between ++ k.seen) lane v ≡ m.live about.opening k.seen lane v = carried m about.opening k.actor (λ h. m.live about.opening h lane v ≡ m.live about.opening k.seen lane v) (λ h d f q. laws.live_stays about.opening h d lane v (subst (IsForeign m about.opening h d) is f) ∙ q) p.between k.seen legal none_of_it refl in
      ap (λ h. m.live about.opening h lane v) begins ∙ (same ∙ ap (λ o. m.live o k.seen lane v) (sym p.opening))

  -- a confirmed pin that no live request needs is lowered
  lowers_pin_one : (slots id : ℕ) (k : Known O E) (hand : List (ℕ × Written W E)) (lane : LaneId) (v : Version) → k.actor ≡ ByLane lane → m.live k.opening k.seen lane v < count_of v k.note.pins
      → Allows (Rule m about) slots id (Working Idle k, hand) (pin_word lane.host.0 (v.0 % 8)) (λ x. (x + (2 ^ 64 - 1)) % 2 ^ 64) (LowersPin v (step slots (pin_word lane.host.0 (v.0 % 8)) 1 0 none) (Working Idle k, hand))
  lowers_pin_one slots id k hand lane v is spare s r _ at bound =
      let n : Note = without_pin v k.note in
      let there : 0 < count_of v k.note.pins = omega arith in
      let pins = lane_pins s r id k at lane is in
      let P : Version → Type 0 = IsPin (m.floor about.opening r.history lane.host) (published_of r.notes lane.host) (r.notes (ByHost lane.host)).looks in (
        Working Idle (with_note n k),
        keeps,
        tt,
        lowers_to slots id k hand lane v n is refl
            (λ word. let w = without-on v k.note.pins word there in omega arith)
            (let l = without-length v k.note.pins there in omega arith) s r at bound
            (lane_change m about about.opening r.notes r.history r.matched k.actor n lane is (without-every P v k.note.pins pins)
            (λ at'. let c = without-count v k.note.pins at' there in let l = lane_live s r id k at lane is at' in dite (ℕ_discrete v.0 at'.0)
            (λ e. let same : v ≡ at' = version_same v at' e in let one : one_if (v.0 == at'.0) ≡ 1 = ap one_if (eq-eqb v.0 at'.0 e) in
            let seen : m.live about.opening r.history lane at' ≡ m.live k.opening k.seen lane v = live_seen s r id k at lane is at' ∙ ap (m.live k.opening k.seen lane) (sym same) in
            let same_count : count_of v k.note.pins ≡ count_of at' k.note.pins = ap (λ (y : Version). count_of y k.note.pins) same in omega (arith, c, one, seen, spare, same_count))
            (λ ne. let z : one_if (v.0 == at'.0) ≡ 0 = ap one_if (ne_eqb v.0 at'.0 ne) in omega (arith, c, z, l)))),
        refl,
      )

  pub lowers_pin : (slots id : ℕ) (me : Doing m) (k : Known O E) (lane : LaneId) (v : Version) → me.0 ≡ Working Idle k → k.actor ≡ ByLane lane → m.live k.opening k.seen lane v < count_of v k.note.pins
      → Allows (Rule m about) slots id me (pin_word lane.host.0 (v.0 % 8)) (λ x. (x + (2 ^ 64 - 1)) % 2 ^ 64) (LowersPin v (step slots (pin_word lane.host.0 (v.0 % 8)) 1 0 none) me)
  lowers_pin slots id me k lane v it is spare = subst (λ (u : View O E). Allows (Rule m about) slots id (u, me.1) (pin_word lane.host.0 (v.0 % 8)) (λ x. (x + (2 ^ 64 - 1)) % 2 ^ 64) (LowersPin v (step slots (pin_word lane.host.0 (v.0 % 8)) 1 0 none) (u, me.1))) (sym it) (lowers_pin_one slots id k me.1 lane v is spare)

  -- a host looks at a pin word
  host_part : (s : State (Written W E) (View O E)) (r : Rule m about s) (id : ℕ) (k : Known O E) (at : get_elem? s.views id ≡ some (Working Idle k)) (host : HostId) → k.actor ≡ ByHost host → r.notes (ByHost host) ≡ k.note
  host_part s r id k at host is = ap r.notes (sym is) ∙ its_note s r id k at

  looks_one : (slots id : ℕ) (k : Known O E) (hand : List (ℕ × Written W E)) (host : HostId) (word : ℕ) → k.actor ≡ ByHost host → word < 8
      → Allows (Rule m about) slots id (Working Idle k, hand) (pin_word host.0 word) (λ x. x) (LooksAtPins (step slots (pin_word host.0 word) 0 0 none) (Working Idle k, hand))
  looks_one slots id k hand host word is small s r _ at _ = (
    Working Idle (with_note n k),
    keeps,
    tt,
    noted m about s r id k hand at n i x (omega arith) (loads_as s r id k at n refl refl refl i)
        (host_change m about about.opening r.notes r.history r.matched k.actor n host is
        (subst (λ (y : Note). (m.floor about.opening r.history host).0 ≤ y.published.0) its (r.matched.low host))
        (subst (λ (y : Note). y.published.0 ≤ (m.version about.opening r.history host).0) its (r.matched.high host))
        (λ lane e. clear_more (m.floor about.opening r.history lane.host) (r.notes (ByLane lane)).pins (λ z. none_on z lane e)
        (subst (λ (y : Note). Every (IsPin (m.floor about.opening r.history lane.host) y.published y.looks) (r.notes (ByLane lane)).pins) (ap (λ (h : HostId). r.notes (ByHost h)) e ∙ its) (r.matched.pins lane)))),
    refl,
  )
    where
      i : ℕ
      i = pin_word host.0 word

      x : ℕ
      x = get_or s.words i 0

      place_is : pin_place i ≡ word
      place_is = omega arith

      n : Note
      n = with_look (pin_place i) x k.note

      its : r.notes (ByHost host) ≡ k.note
      its = host_part s r id k at host is

      within : host.0 < about.hosts
      within = subst (λ (h : HostId). h.0 < about.hosts) (ap host_of is) (on_host s r id k at)

      none_on : x ≡ 0 → (lane : LaneId) → lane.host ≡ host → on_word word (r.notes (ByLane lane)).pins ≡ 0
      none_on z lane e = by (has_actor r.given (ByLane lane)) refl
        where
          by : (t : Bool) → has_actor r.given (ByLane lane) ≡ t → on_word word (r.notes (ByLane lane)).pins ≡ 0
          by false h = ap (λ (y : Note). on_word word y.pins) (r.blank (ByLane lane) h)
          by true h =
              let all : total (λ a. pins_on host.0 word a (r.notes a)) about.actors ≡ 0 = sym (r.words.pins host.0 word within small) ∙ z in
              let mine : pins_on host.0 word (ByLane lane) (r.notes (ByLane lane)) ≡ 0 = total_zero (λ a. pins_on host.0 word a (r.notes a)) about.actors (ByLane lane) all (given_in m about s r (ByLane lane) h) in
              let sum : pins_on host.0 word (ByLane lane) (r.notes (ByLane lane)) ≡ on_word word (r.notes (ByLane lane)).pins + on_word word (r.notes (ByLane lane)).raised = ap (λ (h : HostId). pins_on h.0 word (ByLane lane) (r.notes (ByLane lane))) (sym e) ∙ pins_here word (ByLane lane) (r.notes (ByLane lane)) in
              omega (arith, mine, sum)

      clear_more : (floor : Version) (vs : List Version) → (x ≡ 0 → on_word word vs ≡ 0) → Every (IsPin floor k.note.published k.note.looks) vs → Every (IsPin floor n.published n.looks) vs
      clear_more floor [] empty a = tt
      clear_more floor (v ∷ vs) empty a = (
        record {
          low = (a.0).low;
          high = (a.0).high;
          near = (a.0).near;
          clear = λ place e. cleared place e;
        },
        clear_more floor vs (λ z. let sum = empty z in omega (arith, sum)) a.1,
      )
        where
          cleared : (place : ℕ) → get_elem? (look_at (pin_place i) x ∷ k.note.looks) place ≡ some (look_at (v.0 % 8) 0) → k.note.published.0 ≤ v.0
          cleared zero e =
              let look : look_at (pin_place i) x ≡ look_at (v.0 % 8) 0 = some-injective (look_at (pin_place i) x) (look_at (v.0 % 8) 0) e in
              let z : x ≡ 0 = ap (λ (l : PinLook). l.count) look in
              let q : pin_place i ≡ v.0 % 8 = ap (λ (l : PinLook). l.word) look in
              let one : one_if (v.0 % 8 == word) ≡ 1 = ap one_if (eq-eqb (v.0 % 8) word (sym q ∙ place_is)) in
              let sum = empty z in
              absurd (omega (arith, one, sum))
          cleared (suc place) e = (a.0).clear place e

  pub looks_at_pins : (slots id : ℕ) (me : Doing m) (k : Known O E) (host : HostId) (word : ℕ) → me.0 ≡ Working Idle k → k.actor ≡ ByHost host → word < 8
      → Allows (Rule m about) slots id me (pin_word host.0 word) (λ x. x) (LooksAtPins (step slots (pin_word host.0 word) 0 0 none) me)
  looks_at_pins slots id me k host word it is small = subst (λ (u : View O E). Allows (Rule m about) slots id (u, me.1) (pin_word host.0 word) (λ x. x) (LooksAtPins (step slots (pin_word host.0 word) 0 0 none) (u, me.1))) (sym it) (looks_one slots id k me.1 host word is small)

  -- a host that saw the word of the next version empty publishes that version, if it has reached it
  publishes_one : (slots id : ℕ) (k : Known O E) (hand : List (ℕ × Written W E)) (host : HostId) (place next : ℕ) → k.actor ≡ ByHost host → next ≡ k.note.published.0 + 1 → get_elem? k.note.looks place ≡ some (look_at (next % 8) 0) → next ≤ (m.version k.opening k.seen host).0 → next < 2 ^ 64
      → Allows (Rule m about) slots id (Working Idle k, hand) (version_word host.0) (λ _. next) (λ _. Publishes (step slots (version_word host.0) next 0 none) (Working Idle k, hand) next)
  publishes_one slots id k hand host place next is next_is vacant reached fits s r _ at _ = (
    Working Idle (with_note n k),
    keeps,
    tt,
    noted m about s r id k hand at n (version_word host.0) next (omega arith)
        (words_publish about.hosts about.actors r.notes s.words r.words r.book.distinct r.book.few k.actor (in_book s r id k at) n (few_pins s r id k at) host is within (ap (λ (z : Note). z.pins) (sym (its_note s r id k at))) (ap (λ (z : Note). z.raised) (sym (its_note s r id k at))))
        (host_change m about about.opening r.notes r.history r.matched k.actor n host is
        (let l = subst (λ (y : Note). (m.floor about.opening r.history host).0 ≤ y.published.0) its (r.matched.low host) in omega (arith, l, next_is))
        (omega (arith, reached, version_seen))
        (λ lane e. all_near (m.floor about.opening r.history lane.host) (r.notes (ByLane lane)).pins
        (subst (λ (y : Note). Every (IsPin (m.floor about.opening r.history lane.host) y.published y.looks) (r.notes (ByLane lane)).pins) (ap (λ (h : HostId). r.notes (ByHost h)) e ∙ its) (r.matched.pins lane)))),
    refl,
  )
    where
      n : Note
      n = with_published next k.note

      its : r.notes (ByHost host) ≡ k.note
      its = host_part s r id k at host is

      within : host.0 < about.hosts
      within = subst (λ (h : HostId). h.0 < about.hosts) (ap host_of is) (on_host s r id k at)

      p : Fits m about r.given r.seat r.notes r.history id k
      p = (r.fits id (Working Idle k) at).0

      version_seen : (m.version about.opening r.history host).0 ≡ (m.version k.opening k.seen host).0
      version_seen =
          let begins : r.history ≡ p.between ++ k.seen = p.begins in
          let legal = subst (IsLegal m about.opening) begins r.kept.legal in
          let none_of_it = none_between m k.actor p.between k.seen (ap (own_of m k.actor) (sym begins) ∙ (p.own ∙ sym p.seen)) in
          let same : m.version about.opening (p.between ++ k.seen) host ≡ m.version about.opening k.seen host = carried m about.opening k.actor (λ h. m.version about.opening h host ≡ m.version about.opening k.seen host) (λ h d f q. laws.version_stays about.opening h d host (subst (IsForeign m about.opening h d) is f) ∙ q) p.between k.seen legal none_of_it refl in
          ap (λ (v : Version). v.0) (ap (λ h. m.version about.opening h host) begins ∙ (same ∙ ap (λ o. m.version o k.seen host) (sym p.opening)))

      nearer : (floor v : Version) → IsPin floor k.note.published k.note.looks v → next ≤ v.0 + 7
      nearer floor v q = dite (ℕ_discrete k.note.published.0 (v.0 + 7))
          (λ e. let same : next % 8 ≡ v.0 % 8 = omega (arith, e, next_is) in let far = q.clear place (vacant ∙ ap (λ (w : ℕ). some (look_at w 0)) same) in absurd (omega (arith, far, e)))
          (λ ne. let near = q.near in omega (arith, near, ne, next_is))

      all_near : (floor : Version) (vs : List Version) → Every (IsPin floor k.note.published k.note.looks) vs → Every (IsPin floor n.published n.looks) vs
      all_near floor [] a = tt
      all_near floor (v ∷ vs) a = (record { low = (a.0).low; high = (let h = (a.0).high in omega (arith, h, next_is)); near = nearer floor v a.0; clear = λ place' e. absurd (some-ne-none (look_at (v.0 % 8) 0) (sym e)) }, all_near floor vs a.1)

  pub publishes : (slots id : ℕ) (me : Doing m) (k : Known O E) (host : HostId) (place next : ℕ) → me.0 ≡ Working Idle k → k.actor ≡ ByHost host → next ≡ k.note.published.0 + 1 → get_elem? k.note.looks place ≡ some (look_at (next % 8) 0) → next ≤ (m.version k.opening k.seen host).0 → next < 2 ^ 64
      → Allows (Rule m about) slots id me (version_word host.0) (λ _. next) (λ _. Publishes (step slots (version_word host.0) next 0 none) me next)
  publishes slots id me k host place next it is next_is vacant reached fits = subst (λ (u : View O E). Allows (Rule m about) slots id (u, me.1) (version_word host.0) (λ _. next) (λ _. Publishes (step slots (version_word host.0) next 0 none) (u, me.1) next)) (sym it) (publishes_one slots id k me.1 host place next is next_is vacant reached fits)
