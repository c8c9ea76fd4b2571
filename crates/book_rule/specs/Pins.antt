-- What the steps beside the turns tell.
use Rattle.std.specs.Prelude.{List, [], ℕ, ◌%◌, ◌++◌, ◌-◌, ◌<◌, ◌∷◌, ◌≡◌, ◌≢◌}
use Rattle.atomic_table.specs.Table.{Me, Step}
use Rattle.base_ids.specs.declared.ids.Version.{Version}
use Rattle.book_rule.specs.Notes.{SawEmpty, look_at, without}
use Rattle.book_rule.specs.declared.answers.Pin.{Pin}
use Rattle.book_rule.specs.declared.answers.Pin.TheVariants.{Moved, Pinned}
use Rattle.book_rule.specs.declared.answers.Published.{Published}
use Rattle.book_rule.specs.declared.answers.Published.TheVariants.{Published as ByPublish, SlotPinned}
use Rattle.book_rule.specs.declared.view.Known.{Known}
use Rattle.book_rule.specs.declared.view.Note.{Note}
use Rattle.book_rule.specs.declared.view.PinLook.{PinLook}
use Rattle.book_rule.specs.declared.view.View.{View}
use Rattle.book_rule.specs.declared.view.View.TheVariants.{Keeper, Spent, Working}

-- a note after each step: a lane looks at the version word,
abbrev pub saw_version : ℕ → Note → Note
saw_version found note = record note { saw = record { 0 = found } }

-- raises a pin at what it saw,
abbrev pub with_raised : Note → Note
with_raised note = record note { raised = note.saw ∷ note.raised }

-- confirms a raised pin,
abbrev pub with_confirmed : Version → Note → Note
with_confirmed version note =
    record note { pins = version ∷ note.pins; raised = without version note.raised; saw = version }

-- lowers a raised one,
abbrev pub without_raised : Version → Note → Note
without_raised version note = record note { raised = without version note.raised }

-- and a confirmed one; a host looks at a pin word,
abbrev pub without_pin : Version → Note → Note
without_pin version note = record note { pins = without version note.pins }

abbrev pub with_look : ℕ → ℕ → Note → Note
with_look word count note = record note { looks = look_at word count ∷ note.looks }

-- and publishes a version
abbrev pub with_published : ℕ → Note → Note
with_published version note = record note { published = record { 0 = version }; looks = [] }

-- which pin word of its host a word of the table is
abbrev pub pin_place : ℕ → ℕ
pin_place word = (word - 3) % 9

module _ {O E : Type 0} where
  abbrev pub with_note : Note → Known O E → Known O E
  with_note note known = record known { note = note }

  abbrev pub noted_view : (Note → Note) → View O E → View O E
  noted_view f Spent = Spent
  noted_view f (Keeper opening rest ended) = Keeper opening rest ended
  noted_view f (Working stage known) = Working stage (with_note (f known.note) known)

  -- the seat's note changes, and nothing else of it
  abbrev pub Noted : {J : Type 0} → (Note → Note) → Me J (View O E) → Me J (View O E) → Type 0
  Noted f v w = w ≡ (noted_view f v.0, v.1)

  -- what each step tells
  abbrev pub Saw : {J : Type 0} → Step J → Me J (View O E) → ℕ → Me J (View O E) → Type 0
  Saw st v r w = Noted (saw_version r) v w

  abbrev pub Raises : {J : Type 0} → Step J → Me J (View O E) → ℕ → Me J (View O E) → Type 0
  Raises st v r w = Noted with_raised v w

  abbrev pub Confirms : {J : Type 0} → Version → Step J → Me J (View O E) → ℕ → Me J (View O E) → Type 0
  Confirms version st v r w =
      (r ≡ version.0 → Noted (with_confirmed version) v w) ×
      (r ≢ version.0 → Noted (saw_version r) v w)

  abbrev pub LowersRaised : {J : Type 0} → Version → Step J → Me J (View O E) → ℕ → Me J (View O E) → Type 0
  LowersRaised version st v r w = Noted (without_raised version) v w

  abbrev pub LowersPin : {J : Type 0} → Version → Step J → Me J (View O E) → ℕ → Me J (View O E) → Type 0
  LowersPin version st v r w = Noted (without_pin version) v w

  abbrev pub LooksAtPins : {J : Type 0} → Step J → Me J (View O E) → ℕ → Me J (View O E) → Type 0
  LooksAtPins st v r w = Noted (with_look (pin_place st.word) r) v w

  abbrev pub Publishes : {J : Type 0} → Step J → Me J (View O E) → ℕ → Me J (View O E) → Type 0
  Publishes st v r w = Noted (with_published st.first) v w

-- the words of the versions before this one, up to a number of them, were seen empty
abbrev pub IsIdleTo : Note → Version → ℕ → Type 0
IsIdleTo note version end =
    (back : ℕ) → 0 < back → back < end → back < version.0 → SawEmpty note.looks ((version.0 - back) % 8)

-- a host knows the same, but for further looks at pin words
abbrev pub HasLooked : {O E : Type 0} → Known O E → Known O E → Type 0
HasLooked old new =
    (more : List PinLook) × (new ≡ with_note (record old.note { looks = more ++ old.note.looks }) old)

-- the answer of a confirm, by what the lane knew before and after
abbrev pub IsConfirmed : {O E : Type 0} → Known O E → Known O E → Version → Pin → Type 0
IsConfirmed old new saw (Pinned version) =
    (version ≡ saw) × (new ≡ with_note (with_confirmed saw old.note) old)
IsConfirmed old new saw (Moved first now) =
    (first ≡ saw) × (now.0 ≢ saw.0) × (new ≡ with_note (without_raised saw (saw_version now.0 old.note)) old)

-- the answer of a publish, by what the host knew before and after
abbrev pub IsPublished : {O E : Type 0} → Known O E → Known O E → Version → Published → Type 0
IsPublished old new version ByPublish = new ≡ with_note (with_published version.0 old.note) old
IsPublished old new version (SlotPinned count) =
    (0 < count) × (new ≡ with_note (with_look (version.0 % 8) count old.note) old)
