-- Seats before, at and after their turns.
use Rattle.std.proofs.Common.{List, [], ap, refl, subst, sym, ℕ, ◌++◌, ◌+◌, ◌<◌, ◌≤◌, ◌∙◌, ◌∷◌, ◌≡◌, length, length-append, arith, ne_eqb}
use Rattle.std.specs.Prelude.{if◌then◌else◌, IfSome, IsSome, Err, IfErr, IfOk, None, Ok, OnErr, Option, Result, Some}
use mathlib.Core.List.{append_assoc}
use mathlib.Core.Logic.{dite}
use mathlib.Core.Option.{none}
use native.Mathlib.Decide.{ℕ_discrete}
use Rattle.atomic_table.specs.Table.{Joins, step}
use Rattle.base_ids.specs.Outcomes.{judged_outcome}
use Rattle.base_ids.specs.declared.ids.Actor.{Actor}
use Rattle.base_ids.specs.declared.ids.Actor.TheVariants.{Lane as ByLane}
use Rattle.base_ids.specs.declared.ids.LaneId.{LaneId}
use Rattle.base_ids.specs.declared.ids.MsgRef.{MsgRef}
use Rattle.base_ids.specs.Names.{same_actor}
use Rattle.base_ids.specs.declared.ids.Version.{Version}
use Rattle.base_ids.specs.declared.memory.NoMemory.{NoMemory}
use Rattle.base_ids.specs.declared.rules.Appended.{Appended}
use Rattle.base_ids.specs.declared.rules.Appended.TheVariants.{Accepted, Conflict, Illegal}
use Rattle.book_rule.specs.declared.answers.BookError.{BookError}
use Rattle.book_rule.specs.declared.answers.Committed.{Committed}
use Rattle.book_rule.proofs.Basics.{own_mine}
use Rattle.base_ids.proofs.NameLemmas.{same_actor-refl}
use Rattle.book_rule.proofs.Following.{every, follows_none, follows_one, look_still, pin_there, proposal_still, still}
use Rattle.book_rule.specs.Notes.{Every, IsPin, Matches, count_of, published_of}
use Rattle.book_rule.specs.Seats.{Adds, CommitTold, Commits, HasAdded, HasCommitted, HasProposed, IsAtTurn, IsCommitError, IsFree, IsKeeper, IsPinned, IsProposeError, Looks, ProposeTold, Proposes, Turned, entry_at, judged_by, known_in, message_at, message_of}
use Rattle.book_rule.specs.Turns.{Doing, Follows, Rule, taking, IsReady, IsReadyKind, IsSound, Looked, MayEnter, Shows, Written, turn_ended, turned, turning}
use Rattle.book_rule.specs.World.{IsJudged, Kind, Laws, Meaning, added, begins, outcome_after, own_of, plain, proposes, quiets}
use Rattle.book_rule.proofs.Seating.{joins}
use Rattle.book_rule.specs.declared.view.About.{About}
use Rattle.book_rule.specs.declared.view.Known.{Known}
use Rattle.book_rule.specs.declared.view.Note.{Note}
use Rattle.book_rule.specs.declared.view.Stage.TheVariants.{Idle, Turn, Waits}
use Rattle.book_rule.specs.declared.view.View.TheVariants.{Spent, Working}

module _ {W O E C R M S : Type 0} (m : Meaning W O E C R M S) where
  -- a seat whose ticket is served has its turn
  pub has_turn : (k : Known O E) (t r : ℕ) (me w : Doing m) → me ≡ (Working (Waits t) k, []) → Looked m (step 0 1 0 0 none) me r w → r ≡ t → IsAtTurn m k w
  has_turn k t r me w is looked same =
      let took = (subst (λ (v : Doing m). Looked m (step 0 1 0 0 none) v r w) is looked).0 same in
      record { ticket = r; written = took.0; shows = took.1; sound = took.2; is = took.3 }

  -- what an actor knows at its turn
  abbrev pub at_turn : Known O E → List E → Known O E
  at_turn k now = record k { seen = now }

  -- what a turn tells, when the history after it follows what it showed
  pub tells : (k : Known O E) (now after : List E) → Shows m k now → Follows m (at_turn k now) after → Turned m k (turned m k after)
  tells k now after shows follows =
      record {
        opening = refl;
        actor = refl;
        note = refl;
        between = follows.more ++ shows.between;
        begins = follows.begins ∙ (ap (λ l. follows.more ++ l) shows.begins ∙ sym (append_assoc follows.more shows.between k.seen));
        kept = follows.kept shows.kept;
        own = refl;
        pins = pins;
      }
    where
      matched : Matches m k.opening shows.notes after
      matched = follows.matched shows.notes shows.note shows.matched

      pins : (lane : LaneId) → k.actor ≡ ByLane lane → Every (IsPinned m k.opening after lane.host) k.note.pins
      pins lane is = every {P = IsPin (m.floor k.opening after lane.host) (published_of shows.notes lane.host) (shows.notes (Rattle.base_ids.specs.declared.ids.Actor.TheVariants.Host lane.host)).looks} (λ v p. record { some = (let o = matched.one lane.host in let l = p.low in omega arith); low = p.low; high = (let h = p.high in let t = matched.high lane.host in omega arith) }) k.note.pins
          (subst (λ (n : Note). Every (IsPin (m.floor k.opening after lane.host) (published_of shows.notes lane.host) (shows.notes (Rattle.base_ids.specs.declared.ids.Actor.TheVariants.Host lane.host)).looks) n.pins) (ap shows.notes (sym is) ∙ shows.note) (matched.pins lane))

  abbrev written_in : Written W E → List (ℕ × Written W E) → Written W E
  written_in other [] = other
  written_in other (x ∷ xs) = x.1

  -- an entry that may be added at a turn
  abbrev pub MayAdd : Known O E → List E → Option E → Type 0
  MayAdd k now None = Unit {0}
  MayAdd k now (Some entry) = (m.author entry ≡ k.actor) × m.enabled k.opening now entry × MayEnter m k now (m.kind entry) × (length now < m.most_entries) × (length (added (m.kind entry) (m.log k.opening now)) ≤ m.most_commands)

  module _ (laws : Laws m) (k : Known O E) (at me me' : Doing m) (turn : IsAtTurn m k at) (same : me.0 ≡ at.0) (old new : Written W E) (had : at.1 ≡ (0, old) ∷ []) (has : me.1 ≡ (0, new) ∷ []) where
    abbrev now : List E
    now = old.history

    is_old : turn.written ≡ old
    is_old = ap (written_in old) (sym (ap (λ (v : Doing m). v.1) turn.is) ∙ had)

    pub shown : Shows m k now
    shown = subst (λ (w : Written W E). Shows m k w.history) is_old turn.shows

    pub sound_old : IsSound m k.opening old
    sound_old = subst (IsSound m k.opening) is_old turn.sound

    view_is : me.0 ≡ turning m turn.ticket k now
    view_is = same ∙ (ap (λ (v : Doing m). v.0) turn.is ∙ ap (λ (w : Written W E). turning m turn.ticket k w.history) is_old)

    pub follows_entry : (entry : Option E) → Adds m old new entry → MayAdd k now entry → Follows m (at_turn k now) new.history × IsSound m k.opening new
    follows_entry None adds may = (
      subst (Follows m (at_turn k now)) (sym adds.history) (follows_none m laws (at_turn k now)),
      (adds.opening ∙ sound_old.0, adds.commands ∙ (sound_old.1 ∙ ap (m.log k.opening) (sym adds.history))),
    )
    follows_entry (Some e) adds may = (
      subst (Follows m (at_turn k now)) (sym adds.history) (follows_one m laws (at_turn k now) e may.0 may.1 may.2 shown.kept.legal may.3 may.4),
      (adds.opening ∙ sound_old.0, adds.commands ∙ (ap (added (m.kind e)) sound_old.1 ∙ (sym (laws.log_next k.opening now e shown.kept.legal may.1) ∙ ap (m.log k.opening) (sym adds.history)))),
    )

    -- the turn may be passed
    pub may_pass : (entry : Option E) → Adds m old new entry → MayAdd k now entry
        → (ticket : ℕ) × (known : Known O E) × (written : Written W E) × (me ≡ (Working (Turn ticket) known, (0, written) ∷ [])) × Follows m known written.history × IsSound m known.opening written
    may_pass entry adds may = let f = follows_entry entry adds may in (turn.ticket, at_turn k now, new, (λ i. (view_is i, has i)), f.0, f.1)

    -- and then the seat is free, and has seen the new history
    pub passed : me' ≡ turn_ended m me → me' ≡ (Working Idle (turned m k new.history), [])
    passed after = after ∙ ap (turn_ended m) (λ i. (view_is i, has i))

    pub told : (entry : Option E) → Adds m old new entry → MayAdd k now entry → Turned m k (turned m k new.history)
    told entry adds may = tells k now new.history shown (follows_entry entry adds may).0

  -- the parts of what a commit tells
  pub commit_ok : (old new : Known O E) (e : E) (result : Result Committed BookError) → CommitTold m old new e result → IfOk result (HasCommitted m old new e)
  commit_ok old new e (Ok c) t = t.1
  commit_ok old new e (Err error) t = tt

  pub commit_err : (old new : Known O E) (e : E) (result : Result Committed BookError) → CommitTold m old new e result → OnErr result (new.own ≡ old.own)
  commit_err old new e (Ok c) t = tt
  commit_err old new e (Err error) t = (t.1).0

  pub commit_cause : (old new : Known O E) (e : E) (result : Result Committed BookError) → CommitTold m old new e result → IfErr result (IsCommitError m (length new.seen))
  commit_cause old new e (Ok c) t = tt
  commit_cause old new e (Err error) t = (t.1).1

  -- the parts of what a proposal tells
  pub propose_ok : (old new : Known O E) (read : ℕ) (command : C) (result : Result (Appended R) BookError) → ProposeTold m old new read command result → IfOk result (HasProposed m old new read command)
  propose_ok old new read command (Ok outcome) t = t.1
  propose_ok old new read command (Err error) t = tt

  pub propose_err : (old new : Known O E) (read : ℕ) (command : C) (result : Result (Appended R) BookError) → ProposeTold m old new read command result → OnErr result (new.own ≡ old.own)
  propose_err old new read command (Ok outcome) t = tt
  propose_err old new read command (Err error) t = (t.1).0

  pub propose_cause : (old new : Known O E) (read : ℕ) (command : C) (result : Result (Appended R) BookError) → ProposeTold m old new read command result → IfErr result (IsProposeError m (judged_by m new read command) (length new.seen))
  propose_cause old new read command (Ok outcome) t = tt
  propose_cause old new read command (Err error) t = (t.1).1

  -- an entry that is ready is no proposal
  judged_kind : (k : Known O E) (e : E) (kind : Kind C R) → IsReadyKind m k e kind → (o : O) (log : List C) → IsJudged m o log kind
  judged_kind k e plain ready o log = tt
  judged_kind k e (begins v) ready o log = tt
  judged_kind k e (quiets v) ready o log = tt
  judged_kind k e (proposes command outcome) ready o log = absurd ready

  added_none : (k : Known O E) (e : E) (kind : Kind C R) → IsReadyKind m k e kind → (log : List C) → added kind log ≡ log
  added_none k e plain ready log = refl
  added_none k e (begins v) ready log = refl
  added_none k e (quiets v) ready log = refl
  added_none k e (proposes command outcome) ready log = absurd ready

  module _ (laws : Laws m) (k : Known O E) (e : E) (ready : IsReady m k e) (at : Doing m) (turn : IsAtTurn m k at) where
    -- the journal in hand takes the entry
    pub takes_entry : (old : Written W E) × (at.1 ≡ (0, old) ∷ []) × (length old.history ≤ m.most_entries) × IsJudged m (m.opening old.world) (m.commands old.world) (m.kind e)
    takes_entry = (turn.written, ap (λ (v : Doing m). v.1) turn.is, turn.shows.kept.entries, judged_kind k e (m.kind e) ready.1 (m.opening (turn.written).world) (m.commands (turn.written).world))

    module _ (me me' : Doing m) (same : me.0 ≡ at.0) (old new : Written W E) (had : at.1 ≡ (0, old) ∷ []) (has : me.1 ≡ (0, new) ∷ []) where
      shows : Shows m k old.history
      shows = shown laws k at me me' turn same old new had has

      may : (result : Result Committed BookError) → Commits m e old new result → (entry : Option E) × Adds m old new entry × MayAdd k old.history entry
      may (Ok c) commits =
          let s = still m laws k old.history shows e ready in
          (Some e, commits.0, (ready.0, s.0, s.1, commits.1, subst (λ (l : List C). length l ≤ m.most_commands) (sym (added_none k e (m.kind e) ready.1 (m.log k.opening old.history))) shows.kept.commands))
      may (Err error) commits = (None, commits.0, tt)

      pub commit_passes : (result : Result Committed BookError) → Commits m e old new result → (ticket : ℕ) × (known : Known O E) × (written : Written W E) × (me ≡ (Working (Turn ticket) known, (0, written) ∷ [])) × Follows m known written.history × IsSound m known.opening written
      commit_passes result commits = let a = may result commits in may_pass laws k at me me' turn same old new had has a.0 a.1 a.2

      told_after : (result : Result Committed BookError) → Commits m e old new result → CommitTold m k (turned m k new.history) e result
      told_after (Ok c) commits =
          let a = may (Ok c) commits in
          let sound = (follows_entry laws k at me me' turn same old new had has a.0 a.1 a.2).1 in (
            told laws k at me me' turn same old new had has a.0 a.1 a.2,
            record {
              added = record {
                own = ap (own_of m k.actor) (commits.0).history ∙ (own_mine m k.actor e old.history (ap (λ a. same_actor a k.actor) ready.0 ∙ same_actor-refl k.actor) ∙ ap (λ l. e ∷ l) shows.own);
                past = old.history;
                seen = (commits.0).history;
                since = shows.between;
                begins = shows.begins;
              };
              index = commits.2;
              log_len = commits.3 ∙ ap length sound.1;
            },
          )
      told_after (Err error) commits =
          let a = may (Err error) commits in
          (told laws k at me me' turn same old new had has a.0 a.1 a.2, (ap (own_of m k.actor) (commits.0).history ∙ shows.own, subst (λ (h : List E). IsCommitError m (length h) error) (sym (commits.0).history) commits.1))

      pub commit_told : (result : Result Committed BookError) → Commits m e old new result → me' ≡ turn_ended m me → IsFree m me' × CommitTold m k (known_in m me') e result
      commit_told result commits after =
          let is = passed laws k at me me' turn same old new had has after in
          (subst (IsFree m) (sym is) refl, subst (λ (v : Doing m). CommitTold m k (known_in m v) e result) (sym is) (told_after result commits))

  -- an accepted outcome is the one that the whole log gives
  accepted_judged : (o : O) (log : List C) (read index : ℕ) (command : C) → outcome_after m o log read command ≡ Accepted index → outcome_after m o log (length log) command ≡ Accepted index
  accepted_judged o log read index command is = dite (ℕ_discrete read (length log))
      (λ same. ap (λ (n : ℕ). outcome_after m o log n command) (sym same) ∙ is)
      (λ ne. let other : outcome_after m o log read command ≡ Conflict (record { 0 = length log }) = ap (λ t. if t then judged_outcome (length log) (m.broken o log command) else Conflict (record { 0 = length log })) (ne_eqb read (length log) ne) in cc)

  pub outcome_judged : (o : O) (log : List C) (read : ℕ) (command : C) (outcome : Appended R) → m.is_fit command → outcome ≡ outcome_after m o log read command → IsJudged m o log (proposes command outcome)
  outcome_judged o log read command (Accepted index) fit is = (fit, accepted_judged o log read index command (sym is))
  outcome_judged o log read command (Conflict last) fit is = tt
  outcome_judged o log read command (Illegal rule) fit is = tt

  module _ (laws : Laws m) (k : Known O E) (read : ℕ) (command : C) (looked : read ≡ m.look k.opening k.seen k.actor) (may : m.may_propose k.opening k.seen k.actor command) (at : Doing m) (turn : IsAtTurn m k at) where
    module _ (me me' : Doing m) (same : me.0 ≡ at.0) (old new : Written W E) (had : at.1 ≡ (0, old) ∷ []) (has : me.1 ≡ (0, new) ∷ []) where
      showing : Shows m k old.history
      showing = shown laws k at me me' turn same old new had has

      sound_now : IsSound m k.opening old
      sound_now = sound_old laws k at me me' turn same old new had has

      -- the outcome by the journal in hand is the one by the history
      outcome_is : outcome_after m (m.opening old.world) (m.commands old.world) read command ≡ outcome_after m k.opening (m.log k.opening old.history) read command
      outcome_is i = outcome_after m (sound_now.0 i) (sound_now.1 i) read command

      enabled_now : (outcome : Appended R) → outcome ≡ outcome_after m k.opening (m.log k.opening old.history) read command → m.enabled k.opening old.history (m.proposal k.actor command outcome)
      enabled_now outcome is =
          let next = laws.proposal_next k.opening old.history k.actor command showing.kept.legal (proposal_still m laws k old.history showing command may) in
          let read_is : read ≡ m.look k.opening old.history k.actor = looked ∙ sym (look_still m laws k old.history showing) in
          subst (λ (x : Appended R). m.enabled k.opening old.history (m.proposal k.actor command x)) (ap (λ (n : ℕ). outcome_after m k.opening (m.log k.opening old.history) n command) (sym read_is) ∙ sym is) next

      proposal_may : (result : Result (Appended R) BookError) → Proposes m k.actor read command old new result → (entry : Option E) × Adds m old new entry × MayAdd k old.history entry
      proposal_may (Ok outcome) p =
          let kind_is = laws.proposed k.actor command outcome in (
            Some (m.proposal k.actor command outcome),
            p.0,
            (
              laws.proposer k.opening k.seen k.actor command outcome may,
              enabled_now outcome (p.2 ∙ outcome_is),
              subst (MayEnter m k old.history) (sym kind_is) tt,
              p.1,
              subst (λ (l : List C). length l ≤ m.most_commands) ((p.0).commands ∙ ap (added (m.kind (m.proposal k.actor command outcome))) sound_now.1) p.3,
            ),
          )
      proposal_may (Err error) p = (None, p.0, tt)

      pub proposal_passes : (result : Result (Appended R) BookError) → Proposes m k.actor read command old new result → (ticket : ℕ) × (known : Known O E) × (written : Written W E) × (me ≡ (Working (Turn ticket) known, (0, written) ∷ [])) × Follows m known written.history × IsSound m known.opening written
      proposal_passes result p = let a = proposal_may result p in may_pass laws k at me me' turn same old new had has a.0 a.1 a.2

      proposal_after : (result : Result (Appended R) BookError) → Proposes m k.actor read command old new result → ProposeTold m k (turned m k new.history) read command result
      proposal_after (Ok outcome) p =
          let a = proposal_may (Ok outcome) p in
          let e : E = m.proposal k.actor command outcome in (
            told laws k at me me' turn same old new had has a.0 a.1 a.2,
            record {
              added = record {
                own = ap (own_of m k.actor) (p.0).history ∙ (own_mine m k.actor e old.history (ap (λ b. same_actor b k.actor) (laws.proposer k.opening k.seen k.actor command outcome may) ∙ same_actor-refl k.actor) ∙ ap (λ l. e ∷ l) showing.own);
                past = old.history;
                seen = (p.0).history;
                since = showing.between;
                begins = showing.begins;
              };
              judged = p.2 ∙ outcome_is;
            },
          )
      proposal_after (Err error) p =
          let a = proposal_may (Err error) p in
          let same_history : new.history ≡ old.history = (p.0).history in (
            told laws k at me me' turn same old new had has a.0 a.1 a.2,
            (ap (own_of m k.actor) same_history ∙ showing.own, subst (λ (y : Appended R × List E). IsProposeError m y.0 (length y.1) error) (λ i. ((outcome_is ∙ ap (λ (h : List E). outcome_after m k.opening (m.log k.opening h) read command) (sym same_history)) i, sym same_history i)) p.1),
          )

      pub proposal_told : (result : Result (Appended R) BookError) → Proposes m k.actor read command old new result → me' ≡ turn_ended m me → IsFree m me' × ProposeTold m k (known_in m me') read command result
      proposal_told result p after =
          let is = passed laws k at me me' turn same old new had has after in
          (subst (IsFree m) (sym is) refl, subst (λ (v : Doing m). ProposeTold m k (known_in m v) read command result) (sym is) (proposal_after result p))

  module _ (laws : Laws m) (k : Known O E) (at me me' : Doing m) (turn : IsAtTurn m k at) (same : me ≡ at) (w : Written W E) (had : at.1 ≡ (0, w) ∷ []) where
    nothing : Adds m w w None
    nothing = record { history = refl; opening = refl; commands = refl }

    has_still : me.1 ≡ (0, w) ∷ []
    has_still = ap (λ (v : Doing m). v.1) same ∙ had

    -- a turn that only reads may be passed
    pub look_passes : (ticket : ℕ) × (known : Known O E) × (written : Written W E) × (me ≡ (Working (Turn ticket) known, (0, written) ∷ [])) × Follows m known written.history × IsSound m known.opening written
    look_passes = may_pass laws k at me me' turn (ap (λ (v : Doing m). v.0) same) w w had has_still None nothing tt

    -- and shows the history that was read
    pub look_told : me' ≡ turn_ended m me → IsFree m me' × Looks m k (known_in m me') × ((known_in m me').seen ≡ w.history) × (m.opening w.world ≡ (known_in m me').opening) × (m.commands w.world ≡ m.log (known_in m me').opening (known_in m me').seen)
    look_told after =
        let is = passed laws k at me me' turn (ap (λ (v : Doing m). v.0) same) w w had has_still after in
        let shows = shown laws k at me me' turn (ap (λ (v : Doing m). v.0) same) w w had has_still in
        let sound = sound_old laws k at me me' turn (ap (λ (v : Doing m). v.0) same) w w had has_still in
        subst (λ (v : Doing m). IsFree m v × Looks m k (known_in m v) × ((known_in m v).seen ≡ w.history) × (m.opening w.world ≡ (known_in m v).opening) × (m.commands w.world ≡ m.log (known_in m v).opening (known_in m v).seen)) (sym is)
        (refl, record { turn = told laws k at me me' turn (ap (λ (v : Doing m). v.0) same) w w had has_still None nothing tt; own = shows.own }, refl, sound.0, sound.1)

  pub entry_there : (history : List E) (number : ℕ) (entry : E) → entry_at history number ≡ Some entry → number ≤ length history
  entry_there [] number entry is = cc
  entry_there (e ∷ history) number entry is = dite (ℕ_discrete number (length history + 1))
      (λ same. omega arith)
      (λ ne. let r = entry_there history number entry (sym (ap (λ t. if t then Some e else entry_at history number) (ne_eqb number (length history + 1) ne)) ∙ is) in omega arith)

  -- a message that is there was sent by an entry that was seen
  pub message_there : (history : List E) (at : MsgRef) (message : M) → message_at m history at ≡ Some message → at.event ≤ length history
  message_there history at message is = by (entry_at history at.event) refl is
    where
      by : (found : Option E) → entry_at history at.event ≡ found → message_of m found at.out ≡ Some message → at.event ≤ length history
      by None f p = cc
      by (Some entry) f p = entry_there history at.event entry f

  -- a pinned version has a snapshot
  pub snapshot_pinned : Laws m → (old new : Known O E) → Turned m old new → (lane : LaneId) → new.actor ≡ ByLane lane → (version : Version) → 0 < count_of version new.note.pins → (s : S) × (m.snapshot_at new.opening (m.log new.opening new.seen) version ≡ Some s)
  snapshot_pinned laws old new turn lane is version there =
      let p = pin_there (IsPinned m new.opening new.seen lane.host) version new.note.pins (turn.pins lane is) there in
      laws.snapshot_there new.opening new.seen lane.host version turn.kept.legal p.some p.high

  -- the journal in hand is within both limits
  pub takes_command : (k : Known O E) (at : Doing m) → IsAtTurn m k at → (old : Written W E) × (at.1 ≡ (0, old) ∷ []) × (length old.history ≤ m.most_entries) × (length (m.commands old.world) ≤ m.most_commands)
  takes_command k at turn = (turn.written, ap (λ (v : Doing m). v.1) turn.is, turn.shows.kept.entries, subst (λ (l : List C). length l ≤ m.most_commands) (sym turn.sound.1) turn.shows.kept.commands)

  pub takes_any : (k : Known O E) (at : Doing m) → IsAtTurn m k at → (old : Written W E) × (at.1 ≡ (0, old) ∷ [])
  takes_any k at turn = (turn.written, ap (λ (v : Doing m). v.1) turn.is)

  -- a keeper may take a free seat back, and has its part then
  pub keeper_takes : (about : About O) (id other : ℕ) (keeper seat : Doing m) → IsFree m seat → (ended : List (Known O E)) → IsKeeper ended keeper → Joins (Rule m about) id keeper.0 other seat.0 (taking keeper.0 seat.0) Spent
  keeper_takes about id other keeper seat free ended has = joins m about id other keeper.0 seat.0 has.0 [] ended (known_in m seat) (ap (λ (v : Doing m). v.0) has.1) (ap (λ (v : Doing m). v.0) free)

  pub keeper_took : (keeper after seat : Doing m) → IsFree m seat → after ≡ (taking keeper.0 seat.0, keeper.1) → (ended : List (Known O E)) → IsKeeper ended keeper → IsKeeper (known_in m seat ∷ ended) after
  keeper_took keeper after seat free is ended has = (has.0, is ∙ λ n. (taking (has.1 n).0 (free n).0, (has.1 n).1))

  -- an entry that was added stands behind all that its actor had seen
  added_later : (old new : Known O E) (e : E) → HasAdded m old new e → length old.seen < length new.seen
  added_later old new e added =
      let a : length new.seen ≡ length (e ∷ added.past) = ap length added.seen in
      let b : length added.past ≡ length (added.since ++ old.seen) = ap length added.begins in
      let c = length-append added.since old.seen in
      omega arith

  pub commit_rises : (old new : Known O E) (e : E) (result : Result Committed BookError) → CommitTold m old new e result → IfOk result (λ c. length old.seen < c.index)
  commit_rises old new e (Ok c) t = let h = t.1 in let a = added_later old new e h.added in let i = h.index in omega (arith, a, i)
  commit_rises old new e (Err error) t = tt

  -- a message that was answered is one that was seen
  pub answer_there : (history : List E) (at : MsgRef) (result : Result (Option M) NoMemory) → IfOk result (λ x. x ≡ message_at m history at) → IfOk result (λ x. IfSome x (λ _. at.event ≤ length history))
  answer_there history at (Ok None) t = tt
  answer_there history at (Ok (Some message)) t = message_there history at message (sym t)
  answer_there history at (Err error) t = tt

  -- the snapshot of a pinned version is answered
  pub snapshot_answered : Laws m → (old new : Known O E) → Turned m old new → (lane : LaneId) → new.actor ≡ ByLane lane → (version : Version) → 0 < count_of version new.note.pins → (result : Result (Option S) NoMemory) → IfOk result (λ x. x ≡ m.snapshot_at new.opening (m.log new.opening new.seen) version) → IfOk result IsSome
  snapshot_answered laws old new turn lane is version there (Ok found) t = let p = snapshot_pinned laws old new turn lane is version there in subst IsSome (sym (t ∙ p.1)) refl
  snapshot_answered laws old new turn lane is version there (Err error) t = tt
