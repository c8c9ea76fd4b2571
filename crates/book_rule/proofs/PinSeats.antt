-- What a seat knows after a step beside the turns.
use Rattle.std.proofs.Common.{List, [], ◌++◌, ap, arith, length, refl, subst, suc, sym, ℕ, ◌%◌, ◌+◌, ◌-◌, ◌<◌, ◌≤◌, ◌^◌, ◌∙◌, ◌≡◌, ◌≢◌}
use mathlib.Core.List.{append_assoc}
use mathlib.Core.Logic.{dite}
use mathlib.Core.Option.{none, some}
use native.Mathlib.Decide.{ℕ_discrete}
use lib.ListN.{get_elem?}
use Rattle.atomic_table.specs.Table.{Allows, step}
use Rattle.base_ids.specs.declared.ids.Actor.TheVariants.{Host as ByHost, Lane as ByLane}
use Rattle.base_ids.specs.declared.ids.HostId.{HostId}
use Rattle.base_ids.specs.declared.ids.LaneId.{LaneId}
use Rattle.base_ids.specs.declared.ids.Version.{Version}
use Rattle.book_rule.proofs.Noting.{confirms, looks_at_pins, lowers_pin, lowers_raised, publishes, raises, sees}
use Rattle.book_rule.specs.Notes.{IsBusy, IsIdle, count_of, look_at, pin_word, version_word}
use Rattle.book_rule.specs.Pins.{Confirms, HasLooked, IsIdleTo, LooksAtPins, LowersPin, LowersRaised, Noted, Publishes, Raises, Saw, noted_view, pin_place, saw_version, with_confirmed, with_look, with_note}
use Rattle.book_rule.specs.Seats.{HasNoted, IsFree, known_in}
use Rattle.book_rule.specs.Turns.{Doing, Rule}
use Rattle.book_rule.specs.World.{Laws, Meaning}
use Rattle.book_rule.specs.declared.view.About.{About}
use Rattle.book_rule.specs.declared.view.Known.{Known}
use Rattle.book_rule.specs.declared.view.Note.{Note}
use Rattle.book_rule.specs.declared.view.PinLook.{PinLook}
use Rattle.book_rule.specs.declared.view.Stage.TheVariants.{Idle}
use Rattle.book_rule.specs.declared.view.View.TheVariants.{Working}

module _ {W O E C R M S : Type 0} (m : Meaning W O E C R M S) where
  -- a free seat whose note changes
  pub noted_told : (f : Note → Note) (me after : Doing m) → IsFree m me → Noted f me after → HasNoted m f me after
  noted_told f me after free e =
      let is : after ≡ (Working Idle (with_note (f (known_in m me).note) (known_in m me)), []) = e ∙ λ i. (noted_view f (free i).0, (free i).1) in
      (subst (IsFree m) (sym is) refl, ap (known_in m) is)

  -- a look by which a pin may be confirmed
  pub confirm_told : (v : Version) (me after : Doing m) (found : ℕ) → IsFree m me → Confirms v (step 0 0 0 0 none) me found after
      → (found ≡ v.0 → HasNoted m (with_confirmed v) me after) × (found ≢ v.0 → HasNoted m (saw_version found) me after)
  confirm_told v me after found free told = ((λ same. noted_told (with_confirmed v) me after free (told.0 same)), (λ differ. noted_told (saw_version found) me after free (told.1 differ)))

-- one word more was seen empty
pub idle_next : (note : Note) (version : Version) (back : ℕ) → IsIdleTo note version back → IsIdleTo (with_look ((version.0 - back) % 8) 0 note) version (back + 1)
idle_next note version back idle b some_back less below = dite (ℕ_discrete b back)
    (λ same. (0, ap (λ (n : ℕ). some (look_at ((version.0 - n) % 8) 0)) (sym same)))
    (λ ne. let i = idle b some_back (omega arith) below in (suc i.0, i.1))

-- or there is no such version
pub idle_skip : (note : Note) (version : Version) (back : ℕ) → version.0 ≤ back → IsIdleTo note version back → IsIdleTo note version (back + 1)
idle_skip note version back over idle b some_back less below = idle b some_back (omega arith) below

-- or a pin was seen there
pub busy_there : (note : Note) (version : Version) (back count : ℕ) → 0 < back → back < 8 → back < version.0 → 0 < count → IsBusy (with_look ((version.0 - back) % 8) count note) version
busy_there note version back count some_back near there pinned =
    record { back = back; count = count; before = note.looks; some_back = some_back; near = near; there = there; pinned = pinned; last = refl }

-- ---- the steps, at a word that is the one meant

module _ {W O E C R M S : Type 0} (m : Meaning W O E C R M S) (laws : Laws m) (about : About O) (slots id : ℕ) (me : Doing m) (free : IsFree m me) (i : ℕ) where
  it : me.0 ≡ Working Idle (known_in m me)
  it = ap (λ (v : Doing m). v.0) free

  pub sees_at : (lane : LaneId) → (known_in m me).actor ≡ ByLane lane → i ≡ version_word lane.host.0 → Allows (Rule m about) slots id me i (λ x. x) (Saw (step slots i 0 0 none) me)
  sees_at lane is at = subst (λ (j : ℕ). Allows (Rule m about) slots id me j (λ x. x) (Saw (step slots j 0 0 none) me)) (sym at) (sees m laws about slots id me (known_in m me) lane it is)

  pub confirms_at : (lane : LaneId) (v : Version) → (known_in m me).actor ≡ ByLane lane → 0 < count_of v (known_in m me).note.raised → i ≡ version_word lane.host.0 → Allows (Rule m about) slots id me i (λ x. x) (Confirms v (step slots i 0 0 none) me)
  confirms_at lane v is there at = subst (λ (j : ℕ). Allows (Rule m about) slots id me j (λ x. x) (Confirms v (step slots j 0 0 none) me)) (sym at) (confirms m laws about slots id me (known_in m me) lane v it is there)

  pub raises_at : (lane : LaneId) (v : Version) → (known_in m me).actor ≡ ByLane lane → (known_in m me).note.saw ≡ v → length (known_in m me).note.pins + length (known_in m me).note.raised < 8 → i ≡ pin_word lane.host.0 (v.0 % 8)
      → Allows (Rule m about) slots id me i (λ x. (x + 1) % 2 ^ 64) (Raises (step slots i 1 0 none) me)
  raises_at lane v is saw room at = subst (λ (j : ℕ). Allows (Rule m about) slots id me j (λ x. (x + 1) % 2 ^ 64) (Raises (step slots j 1 0 none) me)) (ap (λ (y : Version). pin_word lane.host.0 (y.0 % 8)) saw ∙ sym at) (raises m laws about slots id me (known_in m me) lane it is room)

  pub lowers_raised_at : (lane : LaneId) (v : Version) → (known_in m me).actor ≡ ByLane lane → 0 < count_of v (known_in m me).note.raised → i ≡ pin_word lane.host.0 (v.0 % 8)
      → Allows (Rule m about) slots id me i (λ x. (x + (2 ^ 64 - 1)) % 2 ^ 64) (LowersRaised v (step slots i 1 0 none) me)
  lowers_raised_at lane v is there at = subst (λ (j : ℕ). Allows (Rule m about) slots id me j (λ x. (x + (2 ^ 64 - 1)) % 2 ^ 64) (LowersRaised v (step slots j 1 0 none) me)) (sym at) (lowers_raised m laws about slots id me (known_in m me) lane v it is there)

  pub lowers_pin_at : (lane : LaneId) (v : Version) → (known_in m me).actor ≡ ByLane lane → m.live (known_in m me).opening (known_in m me).seen lane v < count_of v (known_in m me).note.pins → i ≡ pin_word lane.host.0 (v.0 % 8)
      → Allows (Rule m about) slots id me i (λ x. (x + (2 ^ 64 - 1)) % 2 ^ 64) (LowersPin v (step slots i 1 0 none) me)
  lowers_pin_at lane v is spare at = subst (λ (j : ℕ). Allows (Rule m about) slots id me j (λ x. (x + (2 ^ 64 - 1)) % 2 ^ 64) (LowersPin v (step slots j 1 0 none) me)) (sym at) (lowers_pin m laws about slots id me (known_in m me) lane v it is spare)

  pub looks_at_pins_at : (host : HostId) (v : Version) → (known_in m me).actor ≡ ByHost host → i ≡ pin_word host.0 (v.0 % 8) → Allows (Rule m about) slots id me i (λ x. x) (LooksAtPins (step slots i 0 0 none) me)
  looks_at_pins_at host v is at = subst (λ (j : ℕ). Allows (Rule m about) slots id me j (λ x. x) (LooksAtPins (step slots j 0 0 none) me)) (sym at) (looks_at_pins m laws about slots id me (known_in m me) host (v.0 % 8) it is (omega arith))

  pub publishes_at : (host : HostId) (place next : ℕ) → (known_in m me).actor ≡ ByHost host → next ≡ (known_in m me).note.published.0 + 1 → get_elem? (known_in m me).note.looks place ≡ some (look_at (next % 8) 0) → next ≤ (m.version (known_in m me).opening (known_in m me).seen host).0 → next < 2 ^ 64 → i ≡ version_word host.0
      → Allows (Rule m about) slots id me i (λ _. next) (λ _. Publishes (step slots i next 0 none) me next)
  publishes_at host place next is next_is vacant reached fits at = subst (λ (j : ℕ). Allows (Rule m about) slots id me j (λ _. next) (λ _. Publishes (step slots j next 0 none) me next)) (sym at) (publishes m laws about slots id me (known_in m me) host place next it is next_is vacant reached fits)

  -- the place of a pin word tells which of the eight it is
  pub place_of_pin : (host : HostId) (v : Version) → i ≡ pin_word host.0 (v.0 % 8) → pin_place i ≡ v.0 % 8
  place_of_pin host v at = omega arith

  -- a look at the pin word of a version
  pub pins_seen : (after : Doing m) (found : ℕ) (host : HostId) (v : Version) → i ≡ pin_word host.0 (v.0 % 8) → LooksAtPins (step slots i 0 0 none) me found after → HasNoted m (with_look (v.0 % 8) found) me after
  pins_seen after found host v at told = let t = noted_told m (with_look (pin_place i) found) me after free told in (t.0, t.1 ∙ ap (λ (n : ℕ). with_note (with_look n found (known_in m me).note) (known_in m me)) (place_of_pin host v at))

-- ---- what a host saw of its words, look by look

module _ {O E : Type 0} where
  pub looked_more : (a b c : Known O E) → HasLooked a b → HasLooked b c → HasLooked a c
  looked_more a b c x y = (
    y.0 ++ x.0,
    y.1 ∙ (ap (λ (k : Known O E). with_note (record k.note { looks = y.0 ++ k.note.looks }) k) x.1 ∙ ap (λ (l : List PinLook). with_note (record a.note { looks = l }) a) (sym (append_assoc y.0 x.0 a.note.looks))),
  )

  pub idle_all : (a b : Known O E) (version : Version) (end : ℕ) → a.note.published ≡ version → HasLooked a b → 8 ≤ end → IsIdleTo b.note version end → IsIdle b.note version
  idle_all a b version end published looked far idle = (ap (λ (k : Known O E). k.note.published) looked.1 ∙ published, λ back p q r. idle back p (omega arith) r)
