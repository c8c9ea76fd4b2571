-- Pins and published versions at the book are those of the actor at its desk.
use Rattle.std.proofs.Common.{arith, ap, cond, refl, subst, sym, ◌∙◌}
use Rattle.std.proofs.lemmas.Bool.Decides.{nat_tests}
use Rattle.std.specs.Prelude.{Bool, List, None, Option, Some, [], false, if◌then◌else◌, filter, length, nat_lt, true, ℕ, ◌<◌, ◌==◌, ◌∷◌, ◌≡◌, ◌≤◌}
use Rattle.atomic_table.specs.Seated.{TableId}
use Rattle.base_ids.specs.declared.ids.HostId.{HostId}
use Rattle.base_ids.specs.declared.ids.Version.{Version}
use Rattle.book_rule.specs.Notes.{Every, IsIdle, count_of, without}
use Rattle.book_rule.specs.Pins.{HasLooked, IsConfirmed, IsPublished, saw_version, with_note, with_raised, without_pin as note_without}
use Rattle.book_rule.specs.Seats.{IsPinned, Turned}
use Rattle.book_rule.specs.declared.answers.Pin.{Pin}
use Rattle.book_rule.specs.declared.answers.Pin.TheVariants.{Moved, Pinned}
use Rattle.book_rule.specs.declared.answers.Published.{Published}
use Rattle.book_rule.specs.declared.answers.Published.TheVariants.{Published as ByPublish, SlotPinned}
use Rattle.book_rule.specs.declared.view.Note.{Note}
use Rattle.book_rule.specs.World.{own_of}
use Rattle.cluster_history.specs.History.{History}
use Rattle.cluster_history.specs.Openings.{HasPart}
use Rattle.cluster_history.specs.Topology.{floor_of, version_of}
use Rattle.cluster_history.specs.declared.data.Opening.{Opening}
use Rattle.engine_desk.specs.Chairs.{ArePinnable, IsPinning, IsPublishing, found_idle, pin_count, with_pins, without_pin}
use Rattle.run_seat.proofs.ReadyLemmas.{counts, less_of}
use Rattle.run_seat.specs.Seated.{IsFound, IsSat, Sits, known_of}
use Rattle.world_law.specs.Worlds.{run_meaning}

-- ---- pins after a turn

-- the version is between the floor and the version of the host
abbrev IsIn : Opening → History → HostId → Version → Type 0
IsIn opening history host version = ((floor_of history host).0 ≤ version.0) × (version.0 ≤ (version_of opening history host).0)

same_number : (a b : ℕ) → (a == b) ≡ true → a ≡ b
same_number a b is = grind (arith, nat_tests)

every_pinned : (opening : Opening) (history : History) (host : HostId) (version : Version) (pins : List Version) → Every (IsPinned run_meaning opening history host) pins → nat_lt 0 (pin_count version pins) ≡ true → IsIn opening history host version
every_pinned opening history host version [] all some = cc some
every_pinned opening history host version (pin ∷ pins) all some = by_test (every_pinned opening history host version pins all.1) (pin.0 == version.0) refl some
  where
    by_test : (nat_lt 0 (pin_count version pins) ≡ true → IsIn opening history host version) → (b : Bool) → (pin.0 == version.0) ≡ b → nat_lt 0 (length (cond b (pin ∷ filter (λ (p : Version). p.0 == version.0) pins) (filter (λ (p : Version). p.0 == version.0) pins))) ≡ true → IsIn opening history host version
    by_test rest true is h =
        let same : pin.0 ≡ version.0 = same_number pin.0 version.0 is in
        (subst (λ n. (floor_of history host).0 ≤ n) same all.0.low, subst (λ n. n ≤ (version_of opening history host).0) same all.0.high)
    by_test rest false is h = rest h

pub pinnable_so : (table : TableId) (old new : Sits) (idle : Option Version) → Turned run_meaning old new → ArePinnable (known_of table new idle)
pinnable_so table old new idle turned =
    λ lane version pinned.
    let within = every_pinned new.opening new.seen lane.host version new.note.pins (turned.pins lane pinned.0) pinned.1 in
    record { low = within.0; high = within.1 }

pub some_so : (version : Version) (pins : List Version) → nat_lt 0 (pin_count version pins) ≡ true → 0 < count_of version pins
some_so version pins some = subst (λ n. 0 < n) (counts version pins) (less_of 0 (pin_count version pins) some)

-- ---- a pin

itself : (n : ℕ) → (n == n) ≡ true
itself n = grind (arith, nat_tests)

first_out : (version : Version) (raised : List Version) → without version (version ∷ raised) ≡ raised
first_out version raised = ap (λ b. if b then raised else version ∷ without version raised) (itself version.0)

-- what a seat knows as it raises a pin
abbrev raising : Sits → Version → Sits
raising old saw = with_note (with_raised (saw_version saw.0 old.note)) old

found_noted : (old : Sits) (pins raised : List Version) (saw : Version) (idle : Option Version) → IsFound old idle → IsFound (with_note (record old.note { pins = pins; raised = raised; saw = saw }) old) idle
found_noted old pins raised saw None found = tt
found_noted old pins raised saw (Some version) found = found

noted_sat : (old : Sits) (pins raised : List Version) (saw : Version) (idle : Option Version) → raised ≡ [] → IsSat old idle → IsSat (with_note (record old.note { pins = pins; raised = raised; saw = saw }) old) idle
noted_sat old pins raised saw idle none sat =
    record { there = sat.there; own = sat.own; confirmed = none; idle_is = found_noted old pins raised saw idle sat.idle_is }

noted_known : (table : TableId) (old new : Sits) (note : Note) (idle later : Option Version) → new ≡ with_note note old → known_of table new later ≡ record (known_of table old idle) { pins = note.pins; published = note.published; idle = later }
noted_known table old new note idle later is = ap (λ (s : Sits). known_of table s later) is

pub pinned_sat : (old new : Sits) (idle : Option Version) (version : Version) → IsSat old idle → (saw : Version) × IsConfirmed (raising old saw) new saw (Pinned version) → IsSat new idle
pinned_sat old new idle version sat told =
    let none = first_out told.0 old.note.raised ∙ sat.confirmed in
    subst (λ (s : Sits). IsSat s idle) (sym told.1.1) (noted_sat old (told.0 ∷ old.note.pins) _ told.0 idle none sat)

pub moved_sat : (old new : Sits) (idle : Option Version) (first now : Version) → IsSat old idle → (saw : Version) × IsConfirmed (raising old saw) new saw (Moved first now) → IsSat new idle
moved_sat old new idle first now sat told =
    let none = first_out told.0 old.note.raised ∙ sat.confirmed in
    subst (λ (s : Sits). IsSat s idle) (sym told.1.2) (noted_sat old old.note.pins _ now idle none sat)

pub confirmed_sat : (old new : Sits) (idle : Option Version) (pin : Pin) → IsSat old idle → (saw : Version) × IsConfirmed (raising old saw) new saw pin → IsSat new idle
confirmed_sat old new idle (Pinned version) sat told = pinned_sat old new idle version sat told
confirmed_sat old new idle (Moved first now) sat told = moved_sat old new idle first now sat told

pub pinned_so : (table : TableId) (old new : Sits) (idle : Option Version) (version : Version) → (saw : Version) × IsConfirmed (raising old saw) new saw (Pinned version) → IsPinning (known_of table old idle) (Some version) (known_of table new idle)
pinned_so table old new idle version told =
    noted_known table old new _ idle idle told.1.1 ∙ ap (λ (v : Version). with_pins (v ∷ old.note.pins) (known_of table old idle)) (sym told.1.0)

pub moved_so : (table : TableId) (old new : Sits) (idle : Option Version) (first now : Version) → (saw : Version) × IsConfirmed (raising old saw) new saw (Moved first now) → IsPinning (known_of table old idle) None (known_of table new idle)
moved_so table old new idle first now told = noted_known table old new _ idle idle told.1.2

-- ---- a pin that is taken back

withouts : (version : Version) (pins : List Version) → without version pins ≡ without_pin version pins
withouts version [] = refl
withouts version (pin ∷ pins) = ap (λ l. if pin.0 == version.0 then pins else pin ∷ l) (withouts version pins)

pub unpinned_sat : (old new : Sits) (idle : Option Version) (version : Version) → IsSat old idle → new ≡ with_note (note_without version old.note) old → IsSat new idle
unpinned_sat old new idle version sat is =
    subst (λ (s : Sits). IsSat s idle) (sym is) (noted_sat old (without version old.note.pins) old.note.raised old.note.saw idle sat.confirmed sat)

pub unpinned_so : (table : TableId) (old new : Sits) (idle : Option Version) (version : Version) → new ≡ with_note (note_without version old.note) old → known_of table new idle ≡ with_pins (without_pin version old.note.pins) (known_of table old idle)
unpinned_so table old new idle version is =
    noted_known table old new (note_without version old.note) idle idle is ∙ ap (λ (l : List Version). with_pins l (known_of table old idle)) (withouts version old.note.pins)

-- ---- what a host publishes

host_sat : (old : Sits) (note : Note) (idle later : Option Version) → IsSat old idle → note.raised ≡ old.note.raised → IsFound (with_note note old) later → IsSat (with_note note old) later
host_sat old note idle later sat same found = record { there = sat.there; own = sat.own; confirmed = same ∙ sat.confirmed; idle_is = found }

pub published_sat : (old new : Sits) (idle : Option Version) (version : Version) (answer : Published) → IsSat old idle → IsPublished old new version answer → IsSat new None
published_sat old new idle version ByPublish sat told = subst (λ (s : Sits). IsSat s None) (sym told) (host_sat old _ idle None sat refl tt)
published_sat old new idle version (SlotPinned count) sat told = subst (λ (s : Sits). IsSat s None) (sym told.1) (host_sat old _ idle None sat refl tt)

pub published_so : (table : TableId) (old new : Sits) (idle : Option Version) (version : Version) → IsPublished old new version ByPublish → IsPublishing (known_of table old idle) version true (known_of table new None)
published_so table old new idle version told = noted_known table old new _ idle None told

pub blocked_so : (table : TableId) (old new : Sits) (idle : Option Version) (version : Version) (count : ℕ) → IsPublished old new version (SlotPinned count) → IsPublishing (known_of table old idle) version false (known_of table new None)
blocked_so table old new idle version count told = noted_known table old new _ idle None told.1

-- ---- what it finds

looked_found : (new : Sits) (version : Version) (idle : Bool) → (idle ≡ true → IsIdle new.note version) → IsFound new (found_idle idle version)
looked_found new version true told = told refl
looked_found new version false told = tt

pub looked_sat : (old new : Sits) (idle : Option Version) (version : Version) (found : Bool) → IsSat old idle → HasLooked old new → (found ≡ true → IsIdle new.note version) → IsSat new (found_idle found version)
looked_sat old new idle version found sat looked told =
    record {
      there = subst (λ (s : Sits). HasPart s.opening s.actor) (sym looked.1) sat.there;
      own = subst (λ (s : Sits). own_of run_meaning s.actor s.seen ≡ s.own) (sym looked.1) sat.own;
      confirmed = ap (λ (s : Sits). s.note.raised) looked.1 ∙ sat.confirmed;
      idle_is = looked_found new version found told;
    }

pub looked_so : (table : TableId) (old new : Sits) (idle : Option Version) (version : Version) (found : Bool) → HasLooked old new → known_of table new (found_idle found version) ≡ record (known_of table old idle) { idle = found_idle found version }
looked_so table old new idle version found looked = noted_known table old new _ idle (found_idle found version) looked.1
