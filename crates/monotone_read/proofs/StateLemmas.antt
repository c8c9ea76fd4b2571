-- What is kept after an entry.
use Rattle.std.proofs.Common.{◌≡◌, ◌+◌, ◌-◌, ◌<◌, ◌≤◌, ◌==◌, ◌&&◌, ℕ, Bool, true, false, cond, Option, Some, None, List, [], ◌∷◌, ◌++◌, length, arith, refl, ap, sym, subst, ◌∙◌, append_assoc}
use Rattle.std.specs.Prelude.{option_to_list, if◌then◌else◌}
use Rattle.std.specs.Option.{option_or}
use Rattle.std.specs.Cmp.{unsigned_Decides}
use Rattle.std.specs.Ordering.{nat_cmp, ordering_then, is_eq}
use Rattle.std.specs.declared.cmp.Ordering.{Ordering}
use Rattle.std.specs.declared.cmp.Ordering.TheVariants.{Less, Equal, Greater}
use Rattle.std.proofs.lemmas.Bool.{eqb-true}
use Rattle.std.proofs.lemmas.Bool.Decides.{nat_tests}
use Rattle.base_ids.specs.Names.{same_lane, same_op}
use Rattle.base_ids.specs.declared.ids.LaneId.{LaneId}
use Rattle.base_ids.specs.declared.ids.OpId.{OpId}
use Rattle.cell_merge.specs.declared.cell.Cell.{Cell}
use Rattle.quorum_ops.specs.declared.data.Reply.TheVariants.{Read}
use Rattle.register_model.specs.Known.{is_that_request, lane_order}
use Rattle.register_model.specs.declared.data.Key.{Key}
use Rattle.register_model.specs.declared.data.Request.{Request}
use Rattle.cluster_history.specs.History.{History}
use Rattle.cluster_history.specs.Requests.{begins_request, begun_count, is_begin_of}
use Rattle.cluster_history.specs.declared.data.Entry.{Entry}
use Rattle.cluster_history.specs.declared.data.Event.{Event}
use Rattle.cluster_history.specs.declared.data.Event.TheVariants.{Begin, Take}
use Rattle.cluster_history.specs.declared.data.Operation.{Operation}
use Rattle.cluster_history.specs.declared.data.Output.{Output}
use Rattle.cluster_history.specs.declared.data.Output.TheVariants.{Reply as Replied}
use Rattle.base_ids.proofs.NameLemmas.{same_lane-same, same_lane-refl, same_op-refl}
use Rattle.overlap_law.specs.Counts.{count_at, AreCounts, IsCounted}
use Rattle.monotone_read.specs.declared.data.Note.{Note}
use Rattle.monotone_read.specs.declared.data.Note.TheVariants.{Reading, Found, Back}
use Rattle.monotone_read.specs.declared.data.Repaired.{Repaired}
use Rattle.monotone_read.specs.Kept.{named, note_at, TellsNote, TellsNotes, AreNotes, BeginsNote, answers_by, StateAfter, ListAfter}
use Rattle.monotone_read.specs.Notes.{previous_of, operation_in, is_take_of, cell_told, begun_note, told_note, note, answered_by, answered_in, answered_at, repaired_in}
use Rattle.monotone_read.proofs.KeptLemmas.{is_at_lane-same, is_eq-then}

-- ---- names

pub named_same : (lane other : LaneId) (op number : OpId) → is_that_request (named lane op) (named other number) ≡ (same_lane lane other && same_op op number)
named_same lane other op number =
    is_eq-then (lane_order lane other) (nat_cmp op.0 number.0)
    ∙ (ap (λ b. b && is_eq (nat_cmp op.0 number.0)) (is_at_lane-same lane other)
    ∙ ap (λ b. same_lane lane other && b) (eq_number op.0 number.0))
  where
    eq_number : (a b : ℕ) → is_eq (nat_cmp a b) ≡ (a == b)
    eq_number a b = grind (arith, nat_tests)

-- ---- what is told

told_twice : (n : Option Note) (a b : Option Cell) → told_note (told_note n a) b ≡ told_note n (option_or a b)
told_twice None a b = refl
told_twice (Some (Reading key)) None b = refl
told_twice (Some (Reading key)) (Some cell) b = refl
told_twice (Some (Found key cell)) a b = refl
told_twice (Some (Back cell)) a b = refl

told_first : (output : Output) (outputs : List Output) (op : OpId) → cell_told (output ∷ outputs) op ≡ option_or (cell_told (output ∷ []) op) (cell_told outputs op)
told_first (Replied other version kind (Read (Some cell))) outputs op =
    elim (same_op other op) as (λ v. cond v (Some cell) (cell_told outputs op) ≡ option_or (cond v (Some cell) None) (cell_told outputs op)) [ true ↦ refl | false ↦ refl ]
told_first output outputs op = refl

pub tells_both : (old mid new : List (Request × Note)) (lane : LaneId) (output : Output) (outputs : List Output) → TellsNotes old mid lane (output ∷ []) → TellsNotes mid new lane outputs → TellsNotes old new lane (output ∷ outputs)
tells_both old mid new lane output outputs first rest other number =
    rest other number
    ∙ elim (same_lane lane other) as (λ v. same_lane lane other ≡ v → cond v (told_note (note_at mid other number) (cell_told outputs number)) (note_at mid other number) ≡ cond v (told_note (note_at old other number) (cell_told (output ∷ outputs) number)) (note_at old other number)) [
      | true ↦ λ e.
          let here : note_at mid other number ≡ told_note (note_at old other number) (cell_told (output ∷ []) number) = first other number ∙ rw e refl in
          ap (λ n. told_note n (cell_told outputs number)) here
          ∙ (told_twice (note_at old other number) (cell_told (output ∷ []) number) (cell_told outputs number)
          ∙ ap (told_note (note_at old other number)) (sym (told_first output outputs number)))
      | false ↦ λ e. first other number ∙ rw e refl
    ] refl

told_none : (n : Option Note) → told_note n None ≡ n
told_none None = refl
told_none (Some (Reading key)) = refl
told_none (Some (Found key cell)) = refl
told_none (Some (Back cell)) = refl

pub tells_nothing : (old : List (Request × Note)) (lane : LaneId) (outputs : List Output) → ((op : OpId) → cell_told outputs op ≡ None) → TellsNotes old old lane outputs
tells_nothing old lane outputs none other number =
    elim (same_lane lane other) as (λ v. note_at old other number ≡ cond v (told_note (note_at old other number) (cell_told outputs number)) (note_at old other number)) [
      | true ↦ sym (ap (told_note (note_at old other number)) (none number) ∙ told_none (note_at old other number))
      | false ↦ refl
    ]

pub tells_one : (old new : List (Request × Note)) (lane : LaneId) (op : OpId) (cell : Cell) (told : OpId → Option Cell) → ((number : OpId) → told number ≡ (if same_op op number then Some cell else None)) → TellsNote old new lane op cell → (other : LaneId) (number : OpId) → note_at new other number ≡ (if same_lane lane other then told_note (note_at old other number) (told number) else note_at old other number)
tells_one old new lane op cell told is tell other number =
    tell other number
    ∙ (ap (λ b. cond b (told_note (note_at old other number) (Some cell)) (note_at old other number)) (named_same lane other op number)
    ∙ (elim (same_lane lane other) as (λ v. cond (v && same_op op number) (told_note (note_at old other number) (Some cell)) (note_at old other number) ≡ cond v (told_note (note_at old other number) (cond (same_op op number) (Some cell) None)) (note_at old other number)) [
      | true ↦ elim (same_op op number) as (λ v. cond v (told_note (note_at old other number) (Some cell)) (note_at old other number) ≡ told_note (note_at old other number) (cond v (Some cell) None)) [ true ↦ refl | false ↦ sym (told_none (note_at old other number)) ]
      | false ↦ refl
    ] ∙ ap (λ t. cond (same_lane lane other) (told_note (note_at old other number) t) (note_at old other number)) (sym (is number))))

-- ---- after an entry

pub answers_are : (history : History) (notes : List (Request × Note)) (lane : LaneId) (place : ℕ) (outputs : List Output) → AreNotes history notes → answers_by notes lane place outputs ≡ answered_in history lane place outputs
answers_are history notes lane place [] are = refl
answers_are history notes lane place (Replied op version kind reply ∷ outputs) are =
    ap (λ n. option_to_list (answered_by lane op place n reply) ++ answers_by notes lane place outputs) (are lane op)
    ∙ ap (λ (l : List Repaired). option_to_list (answered_by lane op place (note history lane op) reply) ++ l) (answers_are history notes lane place outputs are)
answers_are history notes lane place (output ∷ outputs) are = answers_are history notes lane place outputs are

-- nothing is kept of a request that has not begun
note-above : (history : History) (lane : LaneId) (op : OpId) → begun_count history lane < op.0 → note history lane op ≡ None
note-above [] lane op above = refl
note-above (entry ∷ history) lane op above =
    elim (is_begin_of lane entry.event) as (λ v. is_begin_of lane entry.event ≡ v → (if v then begun_count history lane + 1 else begun_count history lane) < op.0 → cond (v && (op.0 == begun_count history lane + 1)) (begun_note (note history lane (previous_of op)) (operation_in entry.event)) (cond (is_take_of lane entry.event) (told_note (note history lane op) (cell_told entry.outputs op)) (note history lane op)) ≡ None) [
      | true ↦ λ _ more.
          let other : (op.0 == begun_count history lane + 1) ≡ false = not_same op.0 (begun_count history lane + 1) more in
          let was : note history lane op ≡ None = note-above history lane op (omega arith) in
          ap (λ b. cond b (begun_note (note history lane (previous_of op)) (operation_in entry.event)) (cond (is_take_of lane entry.event) (told_note (note history lane op) (cell_told entry.outputs op)) (note history lane op))) other ∙ none_still was
      | false ↦ λ _ more. none_still (note-above history lane op more)
    ] refl above
  where
    not_same : (a b : ℕ) → b < a → (a == b) ≡ false
    not_same a b h = grind (arith, nat_tests)

    none_still : note history lane op ≡ None → cond (is_take_of lane entry.event) (told_note (note history lane op) (cell_told entry.outputs op)) (note history lane op) ≡ None
    none_still was =
        ap (λ n. cond (is_take_of lane entry.event) (told_note n (cell_told entry.outputs op)) n) was
        ∙ elim (is_take_of lane entry.event) as (λ v. cond v (told_note None (cell_told entry.outputs op)) None ≡ None) [ true ↦ refl | false ↦ refl ]

pub notes_begun : (history : History) (counts : List (LaneId × ℕ)) (old new : List (Request × Note)) (lane : LaneId) (operation : Operation) → AreCounts history counts → AreNotes history old → BeginsNote old new lane (count_at counts lane) operation → (other : LaneId) (op : OpId) → note_at new other op ≡ cond (same_lane lane other && (op.0 == begun_count history other + 1)) (begun_note (note history other (previous_of op)) (Some operation)) (note history other op)
notes_begun history counts old new lane operation are notes begins other op =
    let count : ℕ = count_at counts lane in
    let number : OpId = record { 0 = count + 1 } in
    begins other op
    ∙ (ap (λ b. cond b (option_or (begun_note (note_at old lane (record { 0 = count })) (Some operation)) (note_at old other op)) (note_at old other op)) (named_same lane other number op)
    ∙ elim (same_lane lane other) as (λ v. same_lane lane other ≡ v → cond (v && (count + 1 == op.0)) (option_or (begun_note (note_at old lane (record { 0 = count })) (Some operation)) (note_at old other op)) (note_at old other op) ≡ cond (v && (op.0 == begun_count history other + 1)) (begun_note (note history other (previous_of op)) (Some operation)) (note history other op)) [
      | true ↦ λ e.
          let who : lane ≡ other = same_lane-same lane other e in
          let same : count ≡ begun_count history other = are lane ∙ ap (begun_count history) who in
          let turned : (count + 1 == op.0) ≡ (op.0 == begun_count history other + 1) = turn count (begun_count history other) op.0 same in
          ap (λ b. cond b (option_or (begun_note (note_at old lane (record { 0 = count })) (Some operation)) (note_at old other op)) (note_at old other op)) turned
          ∙ elim (op.0 == begun_count history other + 1) as (λ v. (op.0 == begun_count history other + 1) ≡ v → cond v (option_or (begun_note (note_at old lane (record { 0 = count })) (Some operation)) (note_at old other op)) (note_at old other op) ≡ cond v (begun_note (note history other (previous_of op)) (Some operation)) (note history other op)) [
            | true ↦ λ is.
                let at : op.0 ≡ begun_count history other + 1 = eqb-true op.0 (begun_count history other + 1) is in
                let none : note_at old other op ≡ None = notes other op ∙ note-above history other op (omega arith) in
                let before : (let o : OpId = record { 0 = count } in o) ≡ previous_of op = (let n : count ≡ op.0 - 1 = omega arith in ap (λ (k : ℕ). let o : OpId = record { 0 = k } in o) n) in
                let kept : note_at old lane (record { 0 = count }) ≡ note history other (previous_of op) =
                (λ i. note_at old (who i) (before i)) ∙ notes other (previous_of op) in
                ap (option_or (begun_note (note_at old lane (record { 0 = count })) (Some operation))) none
                ∙ (or_none (begun_note (note_at old lane (record { 0 = count })) (Some operation))
                ∙ ap (λ n. begun_note n (Some operation)) kept)
            | false ↦ λ _. notes other op
          ] refl
      | false ↦ λ _. notes other op
    ] refl)
  where
    turn : (a b c : ℕ) → a ≡ b → (a + 1 == c) ≡ (c == b + 1)
    turn a b c e = grind (arith, nat_tests)

    or_none : (n : Option Note) → option_or n None ≡ n
    or_none None = refl
    or_none (Some n) = refl

-- counts and notes go with the history
pub counts_after : (history : History) (entry : Entry) (event : Event) (counts new : List (LaneId × ℕ)) (notes kept : List (Request × Note)) → entry.event ≡ event → AreCounts history counts → StateAfter counts notes event entry.outputs new kept → AreCounts (entry ∷ history) new
counts_after history entry (Begin lane operation version) counts new notes kept is are after other =
    after.0 other
    ∙ (elim (same_lane lane other) as (λ v. cond v (count_at counts other + 1) (count_at counts other) ≡ (if v then begun_count history other + 1 else begun_count history other)) [ true ↦ ap (λ n. n + 1) (are other) | false ↦ are other ]
    ∙ ap (λ (e : Event). if is_begin_of other e then begun_count history other + 1 else begun_count history other) (sym is))
counts_after history entry (Take lane at) counts new notes kept is are after other =
    ap (λ l. count_at l other) after.0 ∙ (are other ∙ ap (λ (e : Event). if is_begin_of other e then begun_count history other + 1 else begun_count history other) (sym is))
counts_after history entry event counts new notes kept is are after other =
    ap (λ l. count_at l other) after.0 ∙ (are other ∙ ap (λ (e : Event). if is_begin_of other e then begun_count history other + 1 else begun_count history other) (sym is))

-- the notes by an event
abbrev note_by : History → LaneId → OpId → Event → List Output → Option Note
note_by history lane op event outputs =
    cond (begins_request history event lane op) (begun_note (note history lane (previous_of op)) (operation_in event))
    (cond (is_take_of lane event) (told_note (note history lane op) (cell_told outputs op)) (note history lane op))

pub notes_after : (history : History) (entry : Entry) (event : Event) (counts new : List (LaneId × ℕ)) (notes kept : List (Request × Note)) → entry.event ≡ event → AreCounts history counts → AreNotes history notes → StateAfter counts notes event entry.outputs new kept → AreNotes (entry ∷ history) kept
notes_after history entry (Begin lane operation version) counts new notes kept is are were after other op =
    notes_begun history counts notes kept lane operation are were after.1 other op
    ∙ ap (λ (e : Event). note_by history other op e entry.outputs) (sym is)
notes_after history entry (Take lane at) counts new notes kept is are were after other op =
    after.1 other op
    ∙ (ap (λ n. cond (same_lane lane other) (told_note n (cell_told entry.outputs op)) n) (were other op)
    ∙ ap (λ (e : Event). note_by history other op e entry.outputs) (sym is))
notes_after history entry event counts new notes kept is are were after other op =
    ap (λ l. note_at l other op) after.1 ∙ (were other op ∙ ap (λ (e : Event). note_by history other op e entry.outputs) (sym is))

pub list_after : (history : History) (entry : Entry) (event : Event) (notes : List (Request × Note)) (list new : List Repaired) (place : ℕ) → entry.event ≡ event → AreNotes history notes → ListAfter notes list event place entry.outputs new → new ≡ list ++ answered_at history entry.event place entry.outputs
list_after history entry (Take lane at) notes list new place is were after =
    after ∙ (ap (λ (l : List Repaired). list ++ l) (answers_are history notes lane place entry.outputs were)
    ∙ ap (λ (e : Event). list ++ answered_at history e place entry.outputs) (sym is))
list_after history entry event notes list new place is were after =
    after ∙ (sym (none_more list) ∙ ap (λ (e : Event). list ++ answered_at history e place entry.outputs) (sym is))
  where
    none_more : (l : List Repaired) → l ++ [] ≡ l
    none_more [] = refl
    none_more (x ∷ xs) = ap (λ (l : List Repaired). x ∷ l) (none_more xs)

-- what was found so far
pub record IsFinding (history : History) (index : ℕ) (counts : List (LaneId × ℕ)) (notes : List (Request × Note)) (list : List Repaired) (place : ℕ) : Type 0 where
  pub counted : AreCounts history counts
  pub noted : AreNotes history notes
  pub found : list ≡ repaired_in history
  pub at : place ≡ index
  pub size : length history ≡ index

pub finding_begins : IsFinding [] 0 [] [] [] 0
finding_begins = record { counted = λ lane. refl; noted = λ lane op. refl; found = refl; at = refl; size = refl }

pub finding_more : (history : History) (entry : Entry) (index : ℕ) (counts new : List (LaneId × ℕ)) (notes kept : List (Request × Note)) (list more : List Repaired) (place : ℕ) → IsFinding history index counts notes list place → StateAfter counts notes entry.event entry.outputs new kept → ListAfter notes list entry.event (place + 1) entry.outputs more → IsFinding (entry ∷ history) (index + 1) new kept more (place + 1)
finding_more history entry index counts new notes kept list more place now state added =
    let at : place ≡ index = now.at in
    let size : length history ≡ index = now.size in
    let here : place + 1 ≡ length history + 1 = omega arith in
    record {
      counted = counts_after history entry entry.event counts new notes kept refl now.counted state;
      noted = notes_after history entry entry.event counts new notes kept refl now.counted now.noted state;
      found = list_after history entry entry.event notes list more (place + 1) refl now.noted added
          ∙ (ap (λ (l : List Repaired). l ++ answered_at history entry.event (place + 1) entry.outputs) now.found
          ∙ ap (λ (n : ℕ). repaired_in history ++ answered_at history entry.event n entry.outputs) here);
      at = omega arith;
      size = omega arith;
    }
