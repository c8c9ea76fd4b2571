-- The rule of the book is kept: a new table meets it, and whatever a table that meets it is, each seat may take its
-- next step and the rule is met again.
use Rattle.std.specs.Prelude.{List, [], length, true, ℕ, ◌%◌, ◌+◌, ◌-◌, ◌<◌, ◌^◌, ◌∷◌, ◌≡◌, ◌≤◌}
use mathlib.Core.Option.{none, some}
use lib.ListN.{get_elem?}
use Rattle.atomic_table.specs.Table.{Allows, Final, Joins, Seen, Splits, opening, step}
use Rattle.base_ids.specs.declared.ids.Actor.{Actor}
use Rattle.base_ids.specs.declared.ids.Actor.TheVariants.{Host as ByHost, Lane as ByLane}
use Rattle.base_ids.specs.declared.ids.HostId.{HostId}
use Rattle.base_ids.specs.declared.ids.LaneId.{LaneId}
use Rattle.base_ids.specs.declared.ids.Version.{Version}
use Rattle.book_rule.specs.Notes.{SawEmpty, count_of, first_words, pin_word, version_word}
use Rattle.book_rule.specs.Pins.{Confirms, LooksAtPins, LowersPin, LowersRaised, Publishes, Raises, Saw}
use Rattle.book_rule.specs.Turns.{Doing, Drew, Follows, HasKnown, IsBook, IsClosed, IsSound, Looked, Passed, Rule, Written, handed, handing, has_actor, taking}
use Rattle.book_rule.specs.World.{Meaning}
use Rattle.book_rule.specs.declared.view.About.{About}
use Rattle.book_rule.specs.declared.view.Known.{Known}
use Rattle.book_rule.specs.declared.view.Stage.TheVariants.{Idle, Turn, Waits}
use Rattle.book_rule.specs.declared.view.View.{View}
use Rattle.book_rule.specs.declared.view.View.TheVariants.{Keeper, Spent, Working}

-- a word becomes one greater, or one less
abbrev pub one_more : ℕ → ℕ
one_more x = (x + 1) % 2 ^ 64

abbrev pub one_less : ℕ → ℕ
one_less x = (x + (2 ^ 64 - 1)) % 2 ^ 64

module _ {W O E C R M S : Type 0} (m : Meaning W O E C R M S) (about : About O) where
  -- A seat that waits for nothing may draw a ticket; one that waits may look at the ticket that is served, and has the
  -- journal where that is its own; and one that has the journal may pass the turn, with what may follow.
  pub record TurnSteps : Type 0 where
    pub draw :
        (slots id : ℕ) (me : Doing m) (known : Known O E) →
        me.0 ≡ Working Idle known →
        Allows (Rule m about) slots id me 0 one_more (Drew m (step slots 0 1 0 none) me)
    pub look :
        (slots id ticket : ℕ) (me : Doing m) (known : Known O E) →
        me.0 ≡ Working (Waits ticket) known →
        Allows (Rule m about) slots id me 1 (λ x. x) (Looked m (step slots 1 0 0 none) me)
    pub pass :
        (slots id ticket : ℕ) (me : Doing m) (known : Known O E) (written : Written W E) →
        me ≡ (Working (Turn ticket) known, (0, written) ∷ []) →
        Follows m known written.history →
        IsSound m known.opening written →
        Allows (Rule m about) slots id me 1 one_more (Passed m (step slots 1 1 0 none) me)

  -- A lane that waits for nothing may look at the version word of its host, raise a pin, confirm or lower it.
  pub record LaneSteps : Type 0 where
    pub see :
        (slots id : ℕ) (me : Doing m) (known : Known O E) (lane : LaneId) →
        me.0 ≡ Working Idle known →
        known.actor ≡ ByLane lane →
        let word : ℕ = version_word lane.host.0 in
        Allows (Rule m about) slots id me word (λ x. x) (Saw (step slots word 0 0 none) me)
    pub raise :
        (slots id : ℕ) (me : Doing m) (known : Known O E) (lane : LaneId) →
        me.0 ≡ Working Idle known →
        known.actor ≡ ByLane lane →
        length known.note.pins + length known.note.raised < 8 →
        let word : ℕ = pin_word lane.host.0 (known.note.saw.0 % 8) in
        Allows (Rule m about) slots id me word one_more (Raises (step slots word 1 0 none) me)
    pub confirm :
        (slots id : ℕ) (me : Doing m) (known : Known O E) (lane : LaneId) (version : Version) →
        me.0 ≡ Working Idle known →
        known.actor ≡ ByLane lane →
        0 < count_of version known.note.raised →
        let word : ℕ = version_word lane.host.0 in
        Allows (Rule m about) slots id me word (λ x. x) (Confirms version (step slots word 0 0 none) me)
    pub lower_raised :
        (slots id : ℕ) (me : Doing m) (known : Known O E) (lane : LaneId) (version : Version) →
        me.0 ≡ Working Idle known →
        known.actor ≡ ByLane lane →
        0 < count_of version known.note.raised →
        let word : ℕ = pin_word lane.host.0 (version.0 % 8) in
        Allows (Rule m about) slots id me word one_less (LowersRaised version (step slots word 1 0 none) me)
    pub lower_pin :
        (slots id : ℕ) (me : Doing m) (known : Known O E) (lane : LaneId) (version : Version) →
        me.0 ≡ Working Idle known →
        known.actor ≡ ByLane lane →
        m.live known.opening known.seen lane version < count_of version known.note.pins →
        let word : ℕ = pin_word lane.host.0 (version.0 % 8) in
        Allows (Rule m about) slots id me word one_less (LowersPin version (step slots word 1 0 none) me)

  -- A host that waits for nothing may look at a pin word, and publish the next version that it has reached, if it saw
  -- the pin word of that empty since it published last.
  pub record HostSteps : Type 0 where
    pub look :
        (slots id : ℕ) (me : Doing m) (known : Known O E) (host : HostId) (place : ℕ) →
        me.0 ≡ Working Idle known →
        known.actor ≡ ByHost host →
        place < 8 →
        let word : ℕ = pin_word host.0 place in
        Allows (Rule m about) slots id me word (λ x. x) (LooksAtPins (step slots word 0 0 none) me)
    pub publish :
        (slots id : ℕ) (me : Doing m) (known : Known O E) (host : HostId) (next : ℕ) →
        me.0 ≡ Working Idle known →
        known.actor ≡ ByHost host →
        next ≡ known.note.published.0 + 1 →
        SawEmpty known.note.looks (next % 8) →
        next ≤ (m.version known.opening known.seen host).0 →
        next < 2 ^ 64 →
        let word : ℕ = version_word host.0 in
        Allows (Rule m about) slots id me word (λ _. next)
        (λ _. Publishes (step slots word next 0 none) me next)

  -- The keeper may hand out the next actor's part and take a part back; and a table that ends when all parts have come
  -- back has one journal, with just the entries of each.
  pub record SeatSteps : Type 0 where
    pub first :
        (world : W) →
        IsBook m about →
        m.opening world ≡ about.opening →
        m.commands world ≡ [] →
        let written : Written W E = record { world = world; history = [] } in
        Rule m about
        (opening (first_words about.hosts) (written ∷ []) (Keeper about.opening about.actors []))
    pub split :
        (id : ℕ) (view : View O E) (o : O) (actor : Actor) (rest : List Actor) (ended : List (Known O E)) →
        view ≡ Keeper o (actor ∷ rest) ended →
        Splits (Rule m about) id view (handing view) (handed view)
    pub join :
        (id other : ℕ) (view part : View O E) (o : O) (rest : List Actor) (ended : List (Known O E)) →
        (known : Known O E) →
        view ≡ Keeper o rest ended →
        part ≡ Working Idle known →
        Joins (Rule m about) id view other part (taking view part) Spent
    pub end :
        (id : ℕ) (view : View O E) (o : O) (rest : List Actor) (ended : List (Known O E)) →
        (words : List ℕ) (slots : List (Written W E)) (written : Written W E) →
        view ≡ Keeper o rest ended →
        ((actor : Actor) → has_actor about.actors actor ≡ true → HasKnown ended actor) →
        Final (Seen (Rule m about) id view) words slots →
        get_elem? slots 0 ≡ some written →
        IsClosed m about ended written
