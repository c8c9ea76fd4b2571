-- What a turn at the book is to the actor at its desk.
use Rattle.std.proofs.Common.{[], Bool, List, Option, Some, ap, arith, cond, false, filter, length, refl, subst, sym, true, ◌++◌, ◌∙◌, ◌∷◌, ◌≡◌, ◌≤◌, ℕ, Err, Ok, Result, IfOk, OnErr}
use Rattle.std.specs.Prelude.{None}
use Rattle.atomic_table.specs.Seated.{TableId}
use Rattle.base_ids.specs.declared.ids.Actor.{Actor}
use Rattle.base_ids.specs.declared.ids.Actor.TheVariants.{Topo as ByTopo}
use Rattle.base_ids.specs.declared.ids.HostId.{HostId}
use Rattle.base_ids.specs.declared.rules.Appended.{Appended}
use Rattle.topo_state.specs.declared.command.Command.{Command}
use Rattle.topo_state.specs.declared.command.Rule.{Rule}
use Rattle.base_ids.specs.declared.ids.StateId.{StateId}
use Rattle.base_ids.specs.declared.ids.Version.{Version}
use Rattle.book_rule.specs.Notes.{IsIdle}
use Rattle.book_rule.specs.Seats.{HasAdded, HasCommitted as HasEntered, HasProposed, Turned}
use Rattle.book_rule.specs.declared.view.Note.{Note}
use Rattle.cluster_history.proofs.WithinLemmas.{longer}
use Rattle.cluster_history.specs.History.{History, is_by}
use Rattle.cluster_history.specs.Openings.{HasPart}
use Rattle.cluster_history.specs.Topology.{accepted_command, log_of}
use Rattle.cluster_history.specs.declared.data.Entry.{Entry}
use Rattle.cluster_history.specs.declared.data.Opening.{Opening}
use Rattle.engine_desk.specs.Chairs.{AreOthers, IsCommit, HasCommitted, HasTurned, IsLook, IsProposal, IsRun, Known, look_entry, propose_entry}
use Rattle.engine_desk.specs.declared.chair.Refused.{Refused}
use Rattle.book_rule.specs.declared.answers.BookError.{BookError}
use Rattle.book_rule.specs.declared.answers.Committed.{Committed}
use Rattle.run_seat.specs.Seated.{IsFound, IsSat, Sits, known_of}
use Rattle.world_law.proofs.EntryLemmas.{legal_of}
use Rattle.world_law.specs.Worlds.{proposal_of, run_meaning}

-- ---- others

abbrev own_list : Actor → List Entry → List Entry
own_list actor history = filter (λ (e : Entry). is_by actor e.event) history

own_grows : (actor : Actor) (between seen : List Entry) → length (own_list actor seen) ≤ length (own_list actor (between ++ seen))
own_grows actor [] seen = omega arith
own_grows actor (entry ∷ between) seen =
    let below = own_grows actor between seen in
    elim (is_by actor entry.event) as (λ b. length (own_list actor seen) ≤ length (cond b (entry ∷ own_list actor (between ++ seen)) (own_list actor (between ++ seen)))) [
      | true ↦ omega (arith, below)
      | false ↦ below
    ]

pub others : (actor : Actor) (between seen : List Entry) → length (own_list actor (between ++ seen)) ≤ length (own_list actor seen) → AreOthers actor between
others actor [] seen few = tt
others actor (entry ∷ between) seen few = by_test (others actor between seen) (is_by actor entry.event) refl few
  where
    by_test : (length (own_list actor (between ++ seen)) ≤ length (own_list actor seen) → AreOthers actor between) → (b : Bool) → is_by actor entry.event ≡ b → length (cond b (entry ∷ own_list actor (between ++ seen)) (own_list actor (between ++ seen))) ≤ length (own_list actor seen) → (is_by actor entry.event ≡ false) × AreOthers actor between
    by_test rest true is few = let grows = own_grows actor between seen in absurd (omega (arith, few, grows))
    by_test rest false is few = (is, rest few)

head_passes : (p : Entry → Bool) (xs : List Entry) (y : Entry) (ys : List Entry) → filter p xs ≡ y ∷ ys → p y ≡ true
head_passes p [] y ys e = cc e
head_passes p (x ∷ xs) y ys e = by_test (head_passes p xs y ys) (p x) refl e
  where
    by_test : (filter p xs ≡ y ∷ ys → p y ≡ true) → (b : Bool) → p x ≡ b → cond b (x ∷ filter p xs) (filter p xs) ≡ y ∷ ys → p y ≡ true
    by_test rest true is e = let same : x ≡ y = cc e in ap p (sym same) ∙ is
    by_test rest false is e = rest e

behind : (entry : Entry) (actor : Actor) (past rest : List Entry) → is_by actor entry.event ≡ true → own_list actor (entry ∷ past) ≡ entry ∷ rest → length (own_list actor past) ≡ length rest
behind entry actor past rest is e =
    let first : entry ∷ own_list actor past ≡ entry ∷ rest = sym (ap (λ b. cond b (entry ∷ own_list actor past) (own_list actor past)) is) ∙ e in
    let count : length (entry ∷ own_list actor past) ≡ length (entry ∷ rest) = ap length first in
    omega (arith, count)

-- ---- turns

-- the history that a seat keeps is a run of the opening that it knew
run_of : (old new : Sits) → Turned run_meaning old new → IsRun old.opening new.seen
run_of old new turned =
    subst (λ (o : Opening). IsRun o new.seen) turned.opening
    (record { legal = legal_of new.opening new.seen turned.kept.legal; entries = turned.kept.entries; commands = turned.kept.commands })

abbrev at_known : TableId → Opening → Actor → History → Note → Option Version → Known
at_known table opening actor seen note idle = record { table = table; opening = opening; actor = actor; seen = seen; pins = note.pins; published = note.published; idle = idle }

same_known : (table : TableId) (old new : Sits) (idle : Option Version) → Turned run_meaning old new → known_of table new idle ≡ record (known_of table old idle) { seen = new.seen }
same_known table old new idle turned = λ i. at_known table (turned.opening i) (turned.actor i) new.seen (turned.note i) idle

found_stays : (old new : Sits) (idle : Option Version) → Turned run_meaning old new → IsFound old idle → IsFound new idle
found_stays old new None turned found = tt
found_stays old new (Some version) turned found = subst (λ (n : Note). IsIdle n version) (sym turned.note) found

pub sat_stays : (old new : Sits) (idle : Option Version) → Turned run_meaning old new → IsSat old idle → IsSat new idle
sat_stays old new idle turned sat =
    record {
      there = subst (λ (o : Opening). HasPart o new.actor) (sym turned.opening) (subst (HasPart old.opening) (sym turned.actor) sat.there);
      own = turned.own;
      confirmed = ap (λ (n : Note). n.raised) turned.note ∙ sat.confirmed;
      idle_is = found_stays old new idle turned sat.idle_is;
    }

own_before : (old new : Sits) → (turned : Turned run_meaning old new) → own_list old.actor (turned.between ++ old.seen) ≡ new.own
own_before old new turned = ap (own_list old.actor) (sym turned.begins) ∙ ap (λ a. own_list a new.seen) (sym turned.actor) ∙ turned.own

pub turned_so : (table : TableId) (old new : Sits) (idle : Option Version) → IsSat old idle → Turned run_meaning old new → new.own ≡ old.own → HasTurned (known_of table old idle) (known_of table new idle)
turned_so table old new idle sat turned same =
    let all = own_before old new turned ∙ same in
    let count : length (own_list old.actor (turned.between ++ old.seen)) ≡ length (own_list old.actor old.seen) = ap length (all ∙ sym sat.own) in
    record {
      now = new.seen;
      later = record {
        between = turned.between;
        is = turned.begins;
        others = others old.actor turned.between old.seen (omega (arith, count));
        run = run_of old new turned;
      };
      is = same_known table old new idle turned;
    }

-- ---- commits

-- a history that may be kept, without its newest entry
run_before : (opening : Opening) (entry : Entry) (past : History) → IsRun opening (entry ∷ past) → IsRun opening past
run_before opening entry past run =
    let more = longer (accepted_command entry.event entry.outputs) (log_of past) in
    let all : length (log_of (entry ∷ past)) ≤ 10000 = run.commands in
    let many : length (entry ∷ past) ≤ 1000000 = run.entries in
    record { legal = run.legal.1; entries = omega (arith, many); commands = omega (arith, all, more) }

added_so : (table : TableId) (old new : Sits) (idle : Option Version) (entry : Entry) (number : ℕ) → IsSat old idle → (turned : Turned run_meaning old new) → HasAdded run_meaning old new entry → number ≡ length new.seen → (between : List Entry) → new.seen ≡ between ++ old.seen → HasCommitted (known_of table old idle) entry number (known_of table new idle)
added_so table old new idle entry number sat turned added is_number [] begins =
    let all : own_list old.actor old.seen ≡ entry ∷ old.own =
    ap (own_list old.actor) (sym begins) ∙ ap (λ a. own_list a new.seen) (sym turned.actor) ∙ turned.own ∙ added.own in
    let count : length old.own ≡ length (entry ∷ old.own) = ap length (sym sat.own ∙ all) in
    absurd (omega (arith, count))
added_so table old new idle entry number sat turned added is_number (first ∷ between) begins =
    let heads : first ∷ (between ++ old.seen) ≡ entry ∷ added.past = sym begins ∙ added.seen in
    let same : first ≡ entry = cc heads in
    let seen : new.seen ≡ entry ∷ (between ++ old.seen) = begins ∙ ap (λ (e : Entry). e ∷ (between ++ old.seen)) same in
    let all : own_list old.actor (entry ∷ (between ++ old.seen)) ≡ entry ∷ old.own =
    ap (own_list old.actor) (sym seen) ∙ ap (λ a. own_list a new.seen) (sym turned.actor) ∙ turned.own ∙ added.own in
    let mine : is_by old.actor entry.event ≡ true =
    head_passes (λ (e : Entry). is_by old.actor e.event) (entry ∷ (between ++ old.seen)) entry old.own all in
    let count = behind entry old.actor (between ++ old.seen) old.own mine all in
    let before : length (own_list old.actor old.seen) ≡ length old.own = ap length sat.own in
    let run : IsRun old.opening (entry ∷ (between ++ old.seen)) = subst (λ (h : History). IsRun old.opening h) seen (run_of old new turned) in
    let long : length new.seen ≡ length (entry ∷ (between ++ old.seen)) = ap length seen in
    record {
      now = between ++ old.seen;
      later = record {
        between = between;
        is = refl;
        others = others old.actor between old.seen (omega (arith, count, before));
        run = run_before old.opening entry (between ++ old.seen) run;
      };
      next = run.legal.0;
      run = run;
      number_is = omega (arith, is_number, long);
      is = same_known table old new idle turned ∙ ap (λ (h : History). record (known_of table old idle) { seen = h }) seen;
    }

pub committed_so : (table : TableId) (old new : Sits) (idle : Option Version) (entry : Entry) (number : ℕ) → IsSat old idle → Turned run_meaning old new → HasAdded run_meaning old new entry → number ≡ length new.seen → HasCommitted (known_of table old idle) entry number (known_of table new idle)
committed_so table old new idle entry number sat turned added is_number = added_so table old new idle entry number sat turned added is_number turned.between turned.begins

-- ---- answers

pub commit_so : (table : TableId) (old new : Sits) (idle : Option Version) (entry : Entry) (answer : Result Committed BookError) (result : Result ℕ Refused) → IsSat old idle → Turned run_meaning old new
    → IfOk answer (λ (c : Committed). result ≡ Ok c.index) → OnErr answer ((refused : Refused) × (result ≡ Err refused))
    → IfOk answer (HasEntered run_meaning old new entry)
    → OnErr answer (new.own ≡ old.own)
    → IsCommit (known_of table old idle) entry result (known_of table new idle)
commit_so table old new idle entry (Ok c) result sat turned ok err told idle_told =
    subst (λ (r : Result ℕ Refused). IsCommit (known_of table old idle) entry r (known_of table new idle)) (sym ok) (committed_so table old new idle entry c.index sat turned told.added told.index)
commit_so table old new idle entry (Err e) result sat turned ok err told same =
    subst (λ (r : Result ℕ Refused). IsCommit (known_of table old idle) entry r (known_of table new idle)) (sym err.1) (turned_so table old new idle sat turned same)

pub entered_look : (old new : Sits) (topo : HostId) (entry : Entry) (answer : Result Committed BookError) → entry ≡ look_entry topo → IfOk answer (HasEntered run_meaning old new entry) → IfOk answer (HasEntered run_meaning old new (look_entry topo))
entered_look old new topo entry (Ok c) is told = subst (λ (e : Entry). HasEntered run_meaning old new e c) is told
entered_look old new topo entry (Err e) is told = tt

pub look_so : (table : TableId) (old new : Sits) (idle : Option Version) (topo : HostId) (answer : Result Committed BookError) (result : Result ℕ Refused) → IsSat old idle → Turned run_meaning old new
    → IfOk answer (λ (c : Committed). result ≡ Ok c.log_len) → OnErr answer ((refused : Refused) × (result ≡ Err refused))
    → IfOk answer (HasEntered run_meaning old new (look_entry topo))
    → OnErr answer (new.own ≡ old.own)
    → IsLook (known_of table old idle) topo result (known_of table new idle)
look_so table old new idle topo (Ok c) result sat turned ok err told idle_told =
    subst (λ (r : Result ℕ Refused). IsLook (known_of table old idle) topo r (known_of table new idle)) (sym ok)
    (c.index, committed_so table old new idle (look_entry topo) c.index sat turned told.added told.index, told.log_len)
look_so table old new idle topo (Err e) result sat turned ok err told same =
    subst (λ (r : Result ℕ Refused). IsLook (known_of table old idle) topo r (known_of table new idle)) (sym err.1) (turned_so table old new idle sat turned same)

-- the entry of a proposal, by its coordinator
named_entry : (actor : Actor) (topo : HostId) (command : Command) (outcome : Appended Rule) → actor ≡ ByTopo topo → proposal_of actor command outcome ≡ propose_entry topo command outcome
named_entry actor topo command outcome is = ap (λ (a : Actor). proposal_of a command outcome) is

pub proposed_so : (old new : Sits) (read : StateId) (command : Command) (answer : Result (Appended Rule) BookError) → IfOk answer (HasProposed run_meaning old new read.0 command) → IfOk answer (λ (o : Appended Rule). HasAdded run_meaning old new (proposal_of old.actor command o))
proposed_so old new read command (Ok o) told = told.added
proposed_so old new read command (Err e) told = tt

pub propose_so : (table : TableId) (old new : Sits) (idle : Option Version) (topo : HostId) (command : Command) (answer : Result (Appended Rule) BookError) (result : Result (Appended Rule) Refused) → IsSat old idle → Turned run_meaning old new → old.actor ≡ ByTopo topo
    → IfOk answer (λ (o : Appended Rule). result ≡ Ok o) → OnErr answer ((refused : Refused) × (result ≡ Err refused))
    → IfOk answer (λ (o : Appended Rule). HasAdded run_meaning old new (proposal_of old.actor command o))
    → OnErr answer (new.own ≡ old.own)
    → IsProposal (known_of table old idle) topo command result (known_of table new idle)
propose_so table old new idle topo command (Ok o) result sat turned actor ok err told idle_told =
    let added = subst (λ (e : Entry). HasAdded run_meaning old new e) (named_entry old.actor topo command o actor) told in
    subst (λ (r : Result (Appended Rule) Refused). IsProposal (known_of table old idle) topo command r (known_of table new idle)) (sym ok)
    (length new.seen, committed_so table old new idle (propose_entry topo command o) (length new.seen) sat turned added refl)
propose_so table old new idle topo command (Err e) result sat turned actor ok err told same =
    subst (λ (r : Result (Appended Rule) Refused). IsProposal (known_of table old idle) topo command r (known_of table new idle)) (sym err.1) (turned_so table old new idle sat turned same)
