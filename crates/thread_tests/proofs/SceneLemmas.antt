-- What calls leave of the seats.
use Rattle.std.proofs.Common.{ap, arith, eq-eqb, refl, subst, sym, length, length-append, List, [], ℕ, ◌++◌, ◌+◌, ◌<◌, ◌∙◌, ◌∷◌, ◌≡◌, ◌≤◌}
use Rattle.std.specs.Prelude.{Bool, false, if◌then◌else◌, true, ◌==◌, ◌||◌}
use lib.ListN.{get_elem?}
use Rattle.base_ids.proofs.NameLemmas.{same_actor-same}
use Rattle.base_ids.specs.Names.{same_actor, same_host}
use Rattle.base_ids.specs.declared.ids.Actor.{Actor}
use Rattle.base_ids.specs.declared.ids.Version.{Version}
use Rattle.atomic_table.specs.Seated.{TableId}
use Rattle.book_rule.specs.Notes.{count_of, one_if, without}
use Rattle.book_rule.specs.Pins.{IsConfirmed, saw_version, with_note, with_raised, without_pin}
use Rattle.book_rule.specs.Seats.{HasCommitted, Sitting, known_by}
use Rattle.book_rule.specs.declared.answers.Committed.{Committed}
use Rattle.book_rule.specs.Turns.{HasKnown, HasSpare, fresh, has_actor}
use Rattle.book_rule.specs.declared.answers.Pin.TheVariants.{Moved, Pinned}
use Rattle.book_rule.specs.declared.view.Known.{Known}
use Rattle.thread_tests.specs.Diary.{live, meaning, version}
use Rattle.thread_tests.specs.Scenes.{IsFresh, IsLane, the_host, the_lane}
use Rattle.thread_tests.specs.declared.diary.Line.{Line}
use Rattle.thread_tests.specs.declared.diary.Line.TheVariants.{Begin, Note, Quiet, Reach, Say}

module _ {A : Type 0} where
  abbrev first : A → List A → A
  first d [] = d
  first d (x ∷ xs) = x

  abbrev second : A → List A → A
  second d [] = d
  second d (x ∷ xs) = first d xs

  -- a list of two, from which the last was taken, and then the last again
  pub two_taken : (a b one two : A) (rest : List A) → a ∷ b ∷ [] ≡ (rest ++ one ∷ []) ++ two ∷ [] → (a ≡ one) × (b ≡ two) × (rest ≡ [])
  two_taken a b one two [] e = (ap (first a) e, ap (second a) e, refl)
  two_taken a b one two (x ∷ xs) e =
      let l : length (a ∷ b ∷ []) ≡ length ((x ∷ xs ++ one ∷ []) ++ two ∷ []) = ap length e in
      let p = length-append (x ∷ xs ++ one ∷ []) (two ∷ []) in
      let q = length-append (x ∷ xs) (one ∷ []) in
      absurd (omega arith)

  pub two_not_one : (a b x : A) (rest : List A) → a ∷ b ∷ [] ≡ rest ++ x ∷ [] → rest ≡ [] → ⊥
  two_not_one a b x rest e none =
      let l : length (a ∷ b ∷ []) ≡ length (rest ++ x ∷ []) = ap length e in
      let p = length-append rest (x ∷ []) in
      let n : length rest ≡ 0 = ap length none in
      omega arith

pub fresh_is : (table : TableId) (opening : ℕ) (actor : Actor) (seat : Sitting ℕ Line) → record { table = table; known = fresh opening actor } ≡ seat → IsFresh table actor seat
fresh_is table opening actor seat e = subst (IsFresh table actor) e (record { of = refl; whose = refl; seen = refl; note = refl })

module _ {O E : Type 0} where
  pub both_back : (a b : Actor) (seats : List (Sitting O E)) (one two : Sitting O E) → seats ≡ one ∷ two ∷ [] → one.known.actor ≡ a → two.known.actor ≡ b
      → (actor : Actor) → has_actor (a ∷ b ∷ []) actor ≡ true → HasKnown (known_by seats) actor
  both_back a b seats one two list its its' actor h = elim (same_actor actor a) as (λ t. same_actor actor a ≡ t → (t || (same_actor actor b || false)) ≡ true → HasKnown (known_by seats) actor) [
    | true ↦ λ e _. (0, one.known, ap (λ l. get_elem? (known_by l) 0) list, its ∙ sym (same_actor-same actor a e))
    | false ↦ λ _ r. (1, two.known, ap (λ l. get_elem? (known_by l) 1) list, its' ∙ sym (same_actor-same actor b (left (same_actor actor b) r)))
  ]
      refl h
    where
      left : (t : Bool) → (t || false) ≡ true → t ≡ true
      left true e = refl
      left false e = e

-- without its first one
pub without_first : (v : Version) (rest : List Version) → without v (v ∷ rest) ≡ rest
without_first v rest = ap (λ t. if t then rest else v ∷ without v rest) (eq-eqb v.0 v.0 refl)

-- the lane raises a pin at what it saw
abbrev raising : Version → Known ℕ Line → Known ℕ Line
raising saw old = with_note (with_raised (saw_version saw.0 old.note)) old

pub count_first : (v : Version) (rest : List Version) → 0 < count_of v (v ∷ rest)
count_first v rest = let one : one_if (v.0 == v.0) ≡ 1 = ap one_if (eq-eqb v.0 v.0 refl) in omega arith

pub lane_pinned : (old new : Known ℕ Line) (saw v : Version) → IsLane old → IsConfirmed (raising saw old) new saw (Pinned v) → IsLane new × (new.note.pins ≡ v ∷ old.note.pins)
lane_pinned old new saw v lane told = (
  record {
    actor = ap (λ k. k.actor) told.1 ∙ lane.actor;
    seen = ap (λ k. k.seen) told.1 ∙ lane.seen;
    raised = ap (λ k. k.note.raised) told.1 ∙ (without_first saw old.note.raised ∙ lane.raised);
  },
  ap (λ k. k.note.pins) told.1 ∙ ap (λ x. x ∷ old.note.pins) (sym told.0),
)

pub lane_moved : (old new : Known ℕ Line) (saw first now : Version) → IsLane old → IsConfirmed (raising saw old) new saw (Moved first now) → IsLane new × (new.note.pins ≡ old.note.pins)
lane_moved old new saw first now lane told = (
  record {
    actor = ap (λ k. k.actor) told.2 ∙ lane.actor;
    seen = ap (λ k. k.seen) told.2 ∙ lane.seen;
    raised = ap (λ k. k.note.raised) told.2 ∙ (without_first saw old.note.raised ∙ lane.raised);
  },
  ap (λ k. k.note.pins) told.2,
)

pub lane_spare : (old : Known ℕ Line) (pinned : Version) (rest : List Version) → IsLane old → old.note.pins ≡ pinned ∷ rest → HasSpare meaning old old.seen pinned
lane_spare old pinned rest lane pins = (
  the_lane,
  lane.actor,
  subst (λ (y : List Line × List Version). live y.0 the_lane pinned < count_of pinned y.1) (λ i. (sym lane.seen i, sym pins i)) (count_first pinned rest),
)

pub lane_unpinned : (old new : Known ℕ Line) (pinned : Version) (rest : List Version) → IsLane old → old.note.pins ≡ pinned ∷ rest → new ≡ with_note (without_pin pinned old.note) old
    → IsLane new × (old.note.pins ≡ pinned ∷ new.note.pins)
lane_unpinned old new pinned rest lane pins told =
    let left : new.note.pins ≡ rest = ap (λ k. k.note.pins) told ∙ (ap (without pinned) pins ∙ without_first pinned rest) in (
      record {
        actor = ap (λ k. k.actor) told ∙ lane.actor;
        seen = ap (λ k. k.seen) told ∙ lane.seen;
        raised = ap (λ k. k.note.raised) told ∙ lane.raised;
      },
      pins ∙ ap (λ l. pinned ∷ l) (sym left),
    )

-- a host has reached a version at least
pub version_some : (history : List Line) → 1 ≤ (version history the_host).0
version_some [] = omega arith
version_some (Note by text ∷ history) = version_some history
version_some (Reach other steps ∷ history) = let more = version_some history in
    elim (same_host other the_host) as (λ t. 1 ≤ (let v : Version = if t then record { 0 = (version history the_host).0 + steps } else version history the_host in v).0) [ true ↦ omega arith | false ↦ more ]
version_some (Begin lane from ∷ history) = version_some history
version_some (Quiet other raised ∷ history) = version_some history
version_some (Say topo command told ∷ history) = version_some history

pub reached : (past : List Line) (steps : ℕ) → steps + 1 ≤ (version (Reach the_host steps ∷ past) the_host).0
reached past steps = let one = version_some past in omega arith

pub reached_by : (old new : Known ℕ Line) (steps : ℕ) (committed : Committed) → HasCommitted meaning old new (Reach the_host steps) committed → steps + 1 ≤ (version new.seen the_host).0
reached_by old new steps committed told = subst (λ (s : List Line). steps + 1 ≤ (version s the_host).0) (sym told.added.seen) (reached told.added.past steps)
