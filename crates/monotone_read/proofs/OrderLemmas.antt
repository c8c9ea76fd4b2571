-- The list of repaired reads is in order; and it is the one that is wanted.
use Rattle.std.proofs.Common.{◌≡◌, ◌+◌, ◌≤◌, ℕ, Option, Some, None, List, [], ◌∷◌, ◌++◌, length, arith, refl, ap, inl, inr}
use Rattle.std.specs.Prelude.{option_to_list, reverse}
use Rattle.base_ids.specs.declared.ids.LaneId.{LaneId}
use Rattle.base_ids.specs.declared.ids.OpId.{OpId}
use Rattle.quorum_ops.specs.declared.data.Reply.{Reply}
use Rattle.quorum_ops.specs.declared.data.Reply.TheVariants.{Ok, Read, Stale, Timeout as TimedOut, NoTable, NotMember}
use Rattle.cluster_history.specs.History.{History}
use Rattle.cluster_history.specs.Legal.{IsLegalRun, history_of}
use Rattle.cluster_history.specs.declared.data.Event.{Event}
use Rattle.cluster_history.specs.declared.data.Event.TheVariants.{Take}
use Rattle.cluster_history.specs.declared.data.Journal.{Journal}
use Rattle.cluster_history.specs.declared.data.Output.{Output}
use Rattle.cluster_history.specs.declared.data.Output.TheVariants.{Reply as Replied}
use Rattle.cluster_history.specs.declared.data.Entry.{Entry}
use Rattle.monotone_read.specs.declared.data.Note.{Note}
use Rattle.monotone_read.specs.declared.data.Note.TheVariants.{Reading, Found, Back}
use Rattle.monotone_read.specs.declared.data.Repaired.{Repaired}
use Rattle.monotone_read.specs.Lists.{IsBehind, AreInOrder, AreRepaired, ReadsAreFound, IsAmong, IsRead}
use Rattle.monotone_read.specs.Notes.{note, written_back, none_read, answered_by, answered_in, answered_at, repaired_in}
use Rattle.monotone_read.proofs.NoteLemmas.{each_is_read}
use Rattle.monotone_read.proofs.FoundLemmas.{all_are_among}

-- all stand at one place
abbrev AreAt : ℕ → List Repaired → Type 0
AreAt place [] = Unit {0}
AreAt place (r ∷ rest) = (r.place ≡ place) × AreAt place rest

-- all stand at or before one
abbrev AreUpto : ℕ → List Repaired → Type 0
AreUpto place [] = Unit {0}
AreUpto place (r ∷ rest) = (r.place ≤ place) × AreUpto place rest

at_then : (place : ℕ) (xs ys : List Repaired) → AreAt place xs → AreAt place ys → AreAt place (xs ++ ys)
at_then place [] ys a b = b
at_then place (x ∷ xs) ys a b = (a.0, at_then place xs ys a.1 b)

back_at : (lane : LaneId) (op : OpId) (place : ℕ) (n : Option Note) → AreAt place (option_to_list (written_back lane op place n))
back_at lane op place None = tt
back_at lane op place (Some (Reading key)) = tt
back_at lane op place (Some (Found key cell)) = tt
back_at lane op place (Some (Back cell)) = (refl, tt)

none_at : (lane : LaneId) (op : OpId) (place : ℕ) (n : Option Note) → AreAt place (option_to_list (none_read lane op place n))
none_at lane op place None = tt
none_at lane op place (Some (Reading key)) = (refl, tt)
none_at lane op place (Some (Found key cell)) = tt
none_at lane op place (Some (Back cell)) = tt

by_at : (lane : LaneId) (op : OpId) (place : ℕ) (n : Option Note) (reply : Reply) → AreAt place (option_to_list (answered_by lane op place n reply))
by_at lane op place n (Read None) = none_at lane op place n
by_at lane op place n (Read (Some cell)) = tt
by_at lane op place n Ok = back_at lane op place n
by_at lane op place n (Stale refused fence) = tt
by_at lane op place n (TimedOut answered required) = tt
by_at lane op place n NoTable = tt
by_at lane op place n NotMember = tt

in_at : (history : History) (lane : LaneId) (place : ℕ) (outputs : List Output) → AreAt place (answered_in history lane place outputs)
in_at history lane place [] = tt
in_at history lane place (Replied op version kind reply ∷ outputs) =
    at_then place (option_to_list (answered_by lane op place (note history lane op) reply)) (answered_in history lane place outputs) (by_at lane op place (note history lane op) reply) (in_at history lane place outputs)
in_at history lane place (output ∷ outputs) = in_at history lane place outputs

event_at : (history : History) (event : Event) (place : ℕ) (outputs : List Output) → AreAt place (answered_at history event place outputs)
event_at history (Take lane at) place outputs = in_at history lane place outputs
event_at history event place outputs = tt

behind_at : (place low : ℕ) (xs : List Repaired) → low ≤ place → AreAt place xs → IsBehind low xs
behind_at place low [] below at = tt
behind_at place low (x ∷ xs) below at = (let same : x.place ≡ place = at.0 in omega arith, behind_at place low xs below at.1)

order_at : (place : ℕ) (xs : List Repaired) → AreAt place xs → AreInOrder xs
order_at place [] at = tt
order_at place (x ∷ xs) at = (let same : x.place ≡ place = at.0 in behind_at place x.place xs (omega arith) at.1, order_at place xs at.1)

behind_then : (low : ℕ) (xs ys : List Repaired) → IsBehind low xs → IsBehind low ys → IsBehind low (xs ++ ys)
behind_then low [] ys a b = b
behind_then low (x ∷ xs) ys a b = (a.0, behind_then low xs ys a.1 b)

order_then : (place : ℕ) (xs ys : List Repaired) → AreInOrder xs → AreUpto place xs → AreAt place ys → AreInOrder (xs ++ ys)
order_then place [] ys a upto at = order_at place ys at
order_then place (x ∷ xs) ys a upto at =
    (behind_then x.place xs ys a.0 (behind_at place x.place ys upto.0 at), order_then place xs ys a.1 upto.1 at)

upto_more : (place more : ℕ) (xs : List Repaired) → place ≤ more → AreUpto place xs → AreUpto more xs
upto_more place more [] below upto = tt
upto_more place more (x ∷ xs) below upto = (let here : x.place ≤ place = upto.0 in omega arith, upto_more place more xs below upto.1)

upto_at : (place : ℕ) (xs : List Repaired) → AreAt place xs → AreUpto place xs
upto_at place [] at = tt
upto_at place (x ∷ xs) at = (let same : x.place ≡ place = at.0 in omega arith, upto_at place xs at.1)

upto_then : (place : ℕ) (xs ys : List Repaired) → AreUpto place xs → AreUpto place ys → AreUpto place (xs ++ ys)
upto_then place [] ys a b = b
upto_then place (x ∷ xs) ys a b = (a.0, upto_then place xs ys a.1 b)

places : (history : History) → AreUpto (length history) (repaired_in history)
places [] = tt
places (entry ∷ history) =
    let old : AreUpto (length (entry ∷ history)) (repaired_in history) = upto_more (length history) (length (entry ∷ history)) (repaired_in history) (omega arith) (places history) in
    let new : AreUpto (length (entry ∷ history)) (answered_at history entry.event (length history + 1) entry.outputs) =
    upto_more (length history + 1) (length (entry ∷ history)) (answered_at history entry.event (length history + 1) entry.outputs) (omega arith)
    (upto_at (length history + 1) (answered_at history entry.event (length history + 1) entry.outputs) (event_at history entry.event (length history + 1) entry.outputs)) in
    upto_then (length (entry ∷ history)) (repaired_in history) (answered_at history entry.event (length history + 1) entry.outputs) old new

in_order : (history : History) → AreInOrder (repaired_in history)
in_order [] = tt
in_order (entry ∷ history) =
    order_then (length history + 1) (repaired_in history) (answered_at history entry.event (length history + 1) entry.outputs) (in_order history)
    (upto_more (length history) (length history + 1) (repaired_in history) (omega arith) (places history)) (event_at history entry.event (length history + 1) entry.outputs)

-- no entries, no repaired reads
nothing : (history : History) → history ≡ [] → AreRepaired history (repaired_in history)
nothing [] e = record { each = λ r among. cc (among.stands); all = λ r is. cc (is.repaired.begins.stands); order = tt }
nothing (entry ∷ history) e = cc e

pub reads_are_found : (journal : Journal) → IsLegalRun journal → ReadsAreFound journal
reads_are_found journal (inl run) =
    record {
      each = λ r among. each_is_read journal.opening (history_of journal) run.0 run.1 r among;
      all = λ r is. all_are_among journal.opening (history_of journal) run.0 run.1 r is;
      order = in_order (history_of journal);
    }
reads_are_found journal (inr empty) = nothing (history_of journal) (ap (λ (l : List Entry). reverse l) empty.1)
