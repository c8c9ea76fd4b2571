-- What may be the history after a turn.
use Rattle.std.proofs.Common.{List, [], ap, arith, inl, inr, length, lt_of_not-le, ne_eqb, refl, subst, sym, ℕ, ◌%◌, ◌+◌, ◌-◌, ◌<◌, ◌≤◌, ◌∙◌, ◌∷◌, ◌≡◌, ⊎_elim}
use Rattle.std.specs.Prelude.{false, if◌then◌else◌, nat_lt, true, ◌==◌, ◌⊎◌}
use Rattle.std.proofs.lemmas.Bool.{ltb-false, ltb-true}
use mathlib.Core.Logic.{dite}
use mathlib.Core.Option.{some}
use native.Mathlib.Decide.{dec_le, ℕ_discrete}
use Rattle.base_ids.specs.Names.{same_actor}
use Rattle.base_ids.specs.declared.ids.Actor.{Actor}
use Rattle.base_ids.specs.declared.ids.Actor.TheVariants.{Host as ByHost, Lane as ByLane, Topo as ByTopo}
use Rattle.base_ids.specs.declared.ids.HostId.{HostId}
use Rattle.base_ids.specs.declared.ids.LaneId.{LaneId}
use Rattle.base_ids.specs.declared.ids.Version.{Version}
use Rattle.book_rule.proofs.Basics.{carried, none_between, own_other}
use Rattle.base_ids.proofs.NameLemmas.{same_actor-same, same_host-same}
use Rattle.book_rule.proofs.Names.{apart, differ}
use Rattle.book_rule.specs.Notes.{Every, IsIdle, IsPin, Matches, count_of, look_at, one_if, published_of}
use Rattle.book_rule.specs.Turns.{Follows, IsReady, IsReadyKind, MayEnter, Shows}
use Rattle.book_rule.specs.World.{IsBelow, IsForeign, IsLegal, IsQuiet, Kind, Laws, Meaning, added, begins, begun, later, own_of, plain, proposes, quiets, raised}
use Rattle.book_rule.specs.declared.view.Known.{Known}
use Rattle.book_rule.specs.declared.view.Note.{Note}

pub version_same : (a b : Version) → a.0 ≡ b.0 → a ≡ b
version_same a b e = ap (λ n. let v : Version = record { 0 = n } in v) e

-- a version of a list has what each has
pub pin_there : (P : Version → Type 0) (v : Version) (vs : List Version) → Every P vs → 0 < count_of v vs → P v
pin_there P v [] all h = absurd (omega arith)
pin_there P v (x ∷ xs) all h = dite (ℕ_discrete x.0 v.0)
    (λ same. subst P (version_same x v same) all.0)
    (λ ne. pin_there P v xs all.1 (let z : one_if (x.0 == v.0) ≡ 0 = ap one_if (ne_eqb x.0 v.0 ne) in omega arith))

pub none_there : (P : Version → Type 0) (v : Version) (vs : List Version) → Every P vs → (P v → ⊥) → count_of v vs ≡ 0
none_there P v [] all never = refl
none_there P v (x ∷ xs) all never = dite (ℕ_discrete x.0 v.0)
    (λ same. absurd (never (subst P (version_same x v same) all.0)))
    (λ ne. let z : one_if (x.0 == v.0) ≡ 0 = ap one_if (ne_eqb x.0 v.0 ne) in let r = none_there P v xs all.1 never in omega arith)

pub every : {P Q : Version → Type 0} → ((v : Version) → P v → Q v) → (vs : List Version) → Every P vs → Every Q vs
every f [] a = tt
every f (v ∷ vs) a = (f v a.0, every f vs a.1)

pub later-most : (a b : Version) → (a.0 ≤ (later a b).0) × (b.0 ≤ (later a b).0)
later-most a b = elim (nat_lt a.0 b.0) as (λ t. nat_lt a.0 b.0 ≡ t → (a.0 ≤ (if t then b else a).0) × (b.0 ≤ (if t then b else a).0)) [
  | true ↦ λ e. ((let l = ltb-true a.0 b.0 e in omega arith), omega arith)
  | false ↦ λ e. (omega arith, ltb-false a.0 b.0 e)
]
    refl

pub later-least : (a b c : Version) → a.0 ≤ c.0 → b.0 ≤ c.0 → (later a b).0 ≤ c.0
later-least a b c x y = elim (nat_lt a.0 b.0) as (λ t. (if t then b else a).0 ≤ c.0) [ true ↦ y | false ↦ x ]

abbrev pub lane_of : Actor → LaneId
lane_of (ByLane lane) = lane
lane_of (ByHost host) = record { host = host; lane = 0 }
lane_of (ByTopo host) = record { host = host; lane = 0 }

abbrev pub host_by : Actor → HostId
host_by (ByLane lane) = lane.host
host_by (ByHost host) = host
host_by (ByTopo host) = host

-- where the words of seven versions are empty, no confirmed pin is below the published version
pub idle_pin : (note : Note) (version : Version) → IsIdle note version → (floor pin : Version) → 1 ≤ floor.0 → IsPin floor note.published note.looks pin → version.0 ≤ pin.0
idle_pin note version idle floor pin one p = dite (dec_le version.0 pin.0)
    (λ le. le)
    (λ over.
    let less : pin.0 < version.0 = lt_of_not-le over in
    let is : note.published.0 ≡ version.0 = ap (λ (v : Version). v.0) idle.0 in
    let low = p.low in
    let near = p.near in
    let back : ℕ = version.0 - pin.0 in
    let there = idle.1 back (omega arith) (omega arith) (omega arith) in
    let same : version.0 - back ≡ pin.0 = omega arith in
    let far = p.clear there.0 (there.1 ∙ ap (λ (n : ℕ). some (look_at (n % 8) 0)) same) in
    omega arith)

module _ {W O E C R M S : Type 0} (m : Meaning W O E C R M S) (laws : Laws m) where
  pub by_actor : (o : O) (history : List E) (e : E) (a : Actor) → IsLegal m o history → m.enabled o history e → (m.author e ≡ a) ⊎ IsForeign m o history e a
  by_actor o history e a legal next = elim (same_actor (m.author e) a) as (λ t. same_actor (m.author e) a ≡ t → (m.author e ≡ a) ⊎ IsForeign m o history e a) [
    | true ↦ λ is. inl (same_actor-same (m.author e) a is)
    | false ↦ λ is. inr (record { legal = legal; next = next; apart = is })
  ]
      refl

  raised_up : (kind : Kind C R) (f v : Version) → (raised kind f).0 ≤ v.0 → (f.0 ≤ v.0) × IsBelow kind v
  raised_up plain f v le = (le, tt)
  raised_up (begins at) f v le = (le, tt)
  raised_up (quiets at) f v le = let l = later-most f at in (omega arith, omega arith)
  raised_up (proposes command outcome) f v le = (le, tt)

  raised_more : (kind : Kind C R) (f : Version) → f.0 ≤ (raised kind f).0
  raised_more plain f = omega arith
  raised_more (begins at) f = omega arith
  raised_more (quiets at) f = (later-most f at).0
  raised_more (proposes command outcome) f = omega arith

  -- a floor that stays low was low before, and no quiet entry above came
  floor_was : (o : O) (history : List E) (e : E) (host : HostId) (v : Version) → IsLegal m o history → m.enabled o history e → (m.floor o (e ∷ history) host).0 ≤ v.0 → ((m.floor o history host).0 ≤ v.0) × (m.author e ≡ ByHost host → IsBelow (m.kind e) v)
  floor_was o history e host v legal next le = ⊎_elim
      (λ (is : m.author e ≡ ByHost host). let r = raised_up (m.kind e) (m.floor o history host) v (subst (λ (f : Version). f.0 ≤ v.0) (laws.floor_next o history e host legal next is) le) in (r.0, λ _. r.1))
      (λ (f : IsForeign m o history e (ByHost host)). (subst (λ (g : Version). g.0 ≤ v.0) (laws.floor_stays o history e host f) le, λ is. absurd (differ (m.author e) (ByHost host) f.apart is)))
      (by_actor o history e (ByHost host) legal next)

  module _ (k : Known O E) (now : List E) (shows : Shows m k now) where
    -- what entries of others keep
    pub over : (P : List E → Type 0) → ((history : List E) (entry : E) → IsForeign m k.opening history entry k.actor → P history → P (entry ∷ history)) → P k.seen → P now
    over P keep p = subst P (sym shows.begins) (carried m k.opening k.actor P keep shows.between k.seen (subst (IsLegal m k.opening) shows.begins shows.kept.legal)
        (none_between m k.actor shows.between k.seen (ap (own_of m k.actor) (sym shows.begins) ∙ (shows.own ∙ sym shows.seen))) p)

    live_same : (lane : LaneId) (v : Version) → k.actor ≡ ByLane lane → m.live k.opening now lane v ≡ m.live k.opening k.seen lane v
    live_same lane v is = over (λ h. m.live k.opening h lane v ≡ m.live k.opening k.seen lane v) (λ h d f p. laws.live_stays k.opening h d lane v (subst (IsForeign m k.opening h d) is f) ∙ p) refl

    still_begin : (e : E) (lane : LaneId) (v : Version) → m.author e ≡ k.actor → m.kind e ≡ begins v → k.actor ≡ ByLane lane → m.live k.opening k.seen lane v < count_of v k.note.pins → m.enabled k.opening k.seen e → m.enabled k.opening now e
    still_begin e lane v mine kind is more next = over (λ h. (m.floor k.opening h lane.host).0 ≤ v.0 → m.enabled k.opening h e)
        (λ h d f p low. let f' = subst (IsForeign m k.opening h d) is f in let was = floor_was k.opening h d lane.host v f.legal f.next low in laws.begin_stays k.opening h d e lane v f' (mine ∙ is) kind was.1 (p was.0))
        (λ _. next)
        pin.low
      where
        noted : shows.notes (ByLane lane) ≡ k.note
        noted = ap shows.notes (sym is) ∙ shows.note

        pin : IsPin (m.floor k.opening now lane.host) (published_of shows.notes lane.host) (shows.notes (ByHost lane.host)).looks v
        pin = pin_there (IsPin (m.floor k.opening now lane.host) (published_of shows.notes lane.host) (shows.notes (ByHost lane.host)).looks) v k.note.pins
            (subst (λ (n : Note). Every (IsPin (m.floor k.opening now lane.host) (published_of shows.notes lane.host) (shows.notes (ByHost lane.host)).looks) n.pins) noted (shows.matched.pins lane)) (omega arith)

    still_quiet : (e : E) (host : HostId) (v : Version) → m.author e ≡ k.actor → m.kind e ≡ quiets v → k.actor ≡ ByHost host → IsIdle k.note v → m.enabled k.opening now e
    still_quiet e host v mine kind is idle = laws.quiet_next k.opening now e host v shows.kept.legal (subst (m.is_in k.opening) is shows.inside) (mine ∙ is) kind
        (let h = shows.matched.high host in let same : (published_of shows.notes host).0 ≡ v.0 = ap (λ (n : Note). n.published.0) noted ∙ ap (λ (x : Version). x.0) idle.0 in omega arith)
        quiet
      where
        noted : shows.notes (ByHost host) ≡ k.note
        noted = ap shows.notes (sym is) ∙ shows.note

        quiet : IsQuiet m k.opening now host v
        quiet lane at same less =
            let at_host : lane.host ≡ host = same_host-same lane.host host same in
            let live = shows.matched.live lane at in
            let zero_there = none_there (IsPin (m.floor k.opening now lane.host) (published_of shows.notes lane.host) (shows.notes (ByHost lane.host)).looks) at (shows.notes (ByLane lane)).pins (shows.matched.pins lane)
            (λ p. let p' = subst (λ (n : Note). IsPin (m.floor k.opening now lane.host) n.published n.looks at) (ap (λ (h : HostId). shows.notes (ByHost h)) at_host ∙ noted) p in
            let l = idle_pin k.note v idle (m.floor k.opening now lane.host) at (shows.matched.one lane.host) p' in omega arith) in
            omega arith

    still_kind : (e : E) → m.author e ≡ k.actor → (kind : Kind C R) → m.kind e ≡ kind → IsReadyKind m k e kind → m.enabled k.opening now e × MayEnter m k now kind
    still_kind e mine plain is ready = (over (λ h. m.enabled k.opening h e) (λ h d f p. laws.stays k.opening h d e (subst (IsForeign m k.opening h d) (sym mine) f) is p) ready, tt)
    still_kind e mine (begins v) is ready = (let lane = ready.1 in (still_begin e lane.0 v mine is lane.1 lane.2 ready.0, (lane.0, lane.1, subst (λ (n : ℕ). n < count_of v k.note.pins) (sym (live_same lane.0 v lane.1)) lane.2)))
    still_kind e mine (quiets v) is ready = (still_quiet e ready.0 v mine is ready.1 ready.2, ready)
    still_kind e mine (proposes command outcome) is ready = absurd ready

    -- what was ready by what the actor had seen is enabled by the history that the turn shows
    pub still : (e : E) → IsReady m k e → m.enabled k.opening now e × MayEnter m k now (m.kind e)
    still e ready = still_kind e ready.0 (m.kind e) refl ready.1

    pub proposal_still : (command : C) → m.may_propose k.opening k.seen k.actor command → m.may_propose k.opening now k.actor command
    proposal_still command may = over (λ h. m.may_propose k.opening h k.actor command) (λ h d f p. laws.proposal_stays k.opening h d k.actor command f p) may

    pub look_still : m.look k.opening now k.actor ≡ m.look k.opening k.seen k.actor
    look_still = over (λ h. m.look k.opening h k.actor ≡ m.look k.opening k.seen k.actor) (λ h d f p. laws.look_stays k.opening h d k.actor f ∙ p) refl

  -- an entry that may enter keeps what actors know true
  module _ (k : Known O E) (now : List E) (e : E) (mine : m.author e ≡ k.actor) (legal : IsLegal m k.opening now) (next : m.enabled k.opening now e) (may : MayEnter m k now (m.kind e)) (notes : Actor → Note) (note : notes k.actor ≡ k.note) (was : Matches m k.opening notes now) where
    abbrev o : O
    o = k.opening

    low_kind : (kind : Kind C R) (host : HostId) (f : Version) → MayEnter m k now kind → f.0 ≤ k.note.published.0 → (raised kind f).0 ≤ k.note.published.0
    low_kind plain host f may le = le
    low_kind (begins at) host f may le = le
    low_kind (quiets at) host f may le = later-least f at k.note.published le (let e : k.note.published.0 ≡ at.0 = ap (λ (v : Version). v.0) may.2.0 in omega arith)
    low_kind (proposes command outcome) host f may le = le

    pins_kind : (kind : Kind C R) (f : Version) → MayEnter m k now kind → 1 ≤ f.0 → (v : Version) → IsPin f k.note.published k.note.looks v → IsPin (raised kind f) k.note.published k.note.looks v
    pins_kind plain f may one v p = p
    pins_kind (begins at) f may one v p = p
    pins_kind (quiets at) f may one v p = record { low = later-least f at v p.low (idle_pin k.note at may.2 f v one p); high = p.high; near = p.near; clear = p.clear }
    pins_kind (proposes command outcome) f may one v p = p

    begun_most : (v at : Version) → begun {C = C} {R = R} (begins v) at ≤ 1
    begun_most v at = elim (v.0 == at.0) as (λ t. (let n : ℕ = if t then 1 else 0 in n) ≤ 1) [ true ↦ omega arith | false ↦ omega arith ]

    live_kind : (kind : Kind C R) (lane : LaneId) (at : Version) → k.actor ≡ ByLane lane → MayEnter m k now kind → m.live o now lane at ≤ count_of at k.note.pins → m.live o now lane at + begun kind at ≤ count_of at k.note.pins
    live_kind plain lane at is may le = omega arith
    live_kind (begins v) lane at is may le = dite (ℕ_discrete v.0 at.0)
        (λ same. let same_lane : may.0 ≡ lane = ap lane_of (sym may.1 ∙ is) in
        let less : m.live o now lane at < count_of at k.note.pins = subst (λ (y : LaneId × Version). m.live o now y.0 y.1 < count_of y.1 k.note.pins) (λ i. (same_lane i, version_same v at same i)) may.2 in
        let one = begun_most v at in omega arith)
        (λ ne. let z : begun {C = C} {R = R} (begins v) at ≡ 0 = ap (λ t. let n : ℕ = if t then 1 else 0 in n) (ne_eqb v.0 at.0 ne) in omega arith)
    live_kind (quiets v) lane at is may le = omega arith
    live_kind (proposes command outcome) lane at is may le = omega arith

    mine_is : (a : Actor) → m.author e ≡ a → notes a ≡ k.note
    mine_is a is = ap notes (sym is ∙ mine) ∙ note

    one_next : (host : HostId) → 1 ≤ (m.floor o (e ∷ now) host).0
    one_next host = ⊎_elim
        (λ (is : m.author e ≡ ByHost host). let same : (m.floor o (e ∷ now) host).0 ≡ (raised (m.kind e) (m.floor o now host)).0 = ap (λ (v : Version). v.0) (laws.floor_next o now e host legal next is) in let more = raised_more (m.kind e) (m.floor o now host) in let w = was.one host in omega arith)
        (λ (f : IsForeign m o now e (ByHost host)). subst (λ (v : Version). 1 ≤ v.0) (sym (laws.floor_stays o now e host f)) (was.one host))
        (by_actor o now e (ByHost host) legal next)

    low_next : (host : HostId) → (m.floor o (e ∷ now) host).0 ≤ (published_of notes host).0
    low_next host = ⊎_elim
        (λ (is : m.author e ≡ ByHost host). let same : (published_of notes host).0 ≡ k.note.published.0 = ap (λ (n : Note). n.published.0) (mine_is (ByHost host) is) in
        subst (λ (v : Version). v.0 ≤ (published_of notes host).0) (sym (laws.floor_next o now e host legal next is)) (let w = was.low host in let l = low_kind (m.kind e) host (m.floor o now host) may (omega arith) in omega arith))
        (λ (f : IsForeign m o now e (ByHost host)). subst (λ (v : Version). v.0 ≤ (published_of notes host).0) (sym (laws.floor_stays o now e host f)) (was.low host))
        (by_actor o now e (ByHost host) legal next)

    high_next : (host : HostId) → (published_of notes host).0 ≤ (m.version o (e ∷ now) host).0
    high_next host = ⊎_elim
        (λ (is : m.author e ≡ ByHost host). let r = laws.version_rises o now e host legal next is in let w = was.high host in omega arith)
        (λ (f : IsForeign m o now e (ByHost host)). subst (λ (v : Version). (published_of notes host).0 ≤ v.0) (sym (laws.version_stays o now e host f)) (was.high host))
        (by_actor o now e (ByHost host) legal next)

    pins_next : (lane : LaneId) → Every (IsPin (m.floor o (e ∷ now) lane.host) (published_of notes lane.host) (notes (ByHost lane.host)).looks) (notes (ByLane lane)).pins
    pins_next lane = ⊎_elim
        (λ (is : m.author e ≡ ByHost lane.host).
        let noted = mine_is (ByHost lane.host) is in
        subst (λ (v : Version). Every (IsPin v (published_of notes lane.host) (notes (ByHost lane.host)).looks) (notes (ByLane lane)).pins) (sym (laws.floor_next o now e lane.host legal next is))
        (subst (λ (n : Note). Every (IsPin (raised (m.kind e) (m.floor o now lane.host)) n.published n.looks) (notes (ByLane lane)).pins) (sym noted)
        (every (λ v p. pins_kind (m.kind e) (m.floor o now lane.host) may (was.one lane.host) v p) (notes (ByLane lane)).pins
        (subst (λ (n : Note). Every (IsPin (m.floor o now lane.host) n.published n.looks) (notes (ByLane lane)).pins) noted (was.pins lane)))))
        (λ (f : IsForeign m o now e (ByHost lane.host)). subst (λ (v : Version). Every (IsPin v (published_of notes lane.host) (notes (ByHost lane.host)).looks) (notes (ByLane lane)).pins) (sym (laws.floor_stays o now e lane.host f)) (was.pins lane))
        (by_actor o now e (ByHost lane.host) legal next)

    live_next : (lane : LaneId) (at : Version) → m.live o (e ∷ now) lane at ≤ count_of at (notes (ByLane lane)).pins
    live_next lane at = ⊎_elim
        (λ (is : m.author e ≡ ByLane lane).
        let noted = mine_is (ByLane lane) is in
        let before : m.live o now lane at ≤ count_of at k.note.pins = subst (λ (n : Note). m.live o now lane at ≤ count_of at n.pins) noted (was.live lane at) in
        let l = live_kind (m.kind e) lane at (sym mine ∙ is) may before in
        let s = laws.live_next o now e lane at legal next is in
        subst (λ (n : Note). m.live o (e ∷ now) lane at ≤ count_of at n.pins) (sym noted) (omega arith))
        (λ (f : IsForeign m o now e (ByLane lane)). subst (λ (n : ℕ). n ≤ count_of at (notes (ByLane lane)).pins) (sym (laws.live_stays o now e lane at f)) (was.live lane at))
        (by_actor o now e (ByLane lane) legal next)

    pub matched_next : Matches m o notes (e ∷ now)
    matched_next = record { one = one_next; low = low_next; high = high_next; pins = pins_next; live = live_next }

  pub follows_none : (k : Known O E) → Follows m k k.seen
  follows_none k = record { more = []; begins = refl; kept = λ h. h; others = λ a ne. refl; matched = λ notes note was. was }

  -- a history with one entry more may be the one after the turn
  pub follows_one : (k : Known O E) (e : E) → m.author e ≡ k.actor → m.enabled k.opening k.seen e → MayEnter m k k.seen (m.kind e) → IsLegal m k.opening k.seen → length k.seen < m.most_entries → length (added (m.kind e) (m.log k.opening k.seen)) ≤ m.most_commands → Follows m k (e ∷ k.seen)
  follows_one k e mine next may legal room room' =
      record {
        more = e ∷ [];
        begins = refl;
        kept = λ h. record { legal = (next, h.legal); entries = omega arith; commands = subst (λ (l : List C). length l ≤ m.most_commands) (sym (laws.log_next k.opening k.seen e legal next)) room' };
        others = λ a ne. own_other m a e k.seen (apart (m.author e) a (λ same. differ a k.actor ne (sym same ∙ mine)));
        matched = λ notes note was. matched_next k k.seen e mine legal next may notes note was;
      }
