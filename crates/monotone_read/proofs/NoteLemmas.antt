-- What notes stand for, and that the list of repaired reads has them and nothing else.
use Rattle.std.proofs.Common.{◌≡◌, ◌+◌, ◌-◌, ◌<◌, ◌≤◌, ◌⊎◌, inl, inr, ◌==◌, ◌&&◌, ◌||◌, not, ℕ, zero, suc, Bool, true, false, cond, Option, Some, None, List, [], ◌∷◌, ◌++◌, length, arith, refl, ap, sym, subst, ◌∙◌}
use Rattle.std.specs.Prelude.{slice_get, option_to_list, if◌then◌else◌}
use Rattle.std.proofs.lemmas.Bool.{eqb-true}
use Rattle.std.specs.Cmp.{unsigned_Decides, Equal-is, tied_itself}
use Rattle.base_ids.specs.Names.{same_lane, same_op}
use Rattle.base_ids.specs.declared.ids.LaneId.{LaneId}
use Rattle.base_ids.specs.declared.ids.OpId.{OpId}
use Rattle.base_ids.specs.declared.ids.Version.{Version}
use Rattle.cell_merge.specs.declared.cell.Cell.{Cell}
use Rattle.stage_graph.specs.declared.kind.Kind.{Kind}
use Rattle.stage_graph.specs.declared.level.Level.{Level}
use Rattle.stage_graph.specs.declared.level.Level.TheVariants.{One, Two, Three, Quorum, All}
use Rattle.quorum_ops.specs.declared.data.Reply.{Reply}
use Rattle.quorum_ops.specs.declared.data.Reply.TheVariants.{Ok, Read, Stale, Timeout as TimedOut, NoTable, NotMember}
use Rattle.cell_merge.proofs.CellOrder.{cell_same, cell_total}
use Rattle.cell_merge.specs.Cell.{cell_order}
use Rattle.token_ring.proofs.Tokens.{same_token}
use Rattle.std.specs.Ordering.{int_eq, is_eq}
use Rattle.std.proofs.lemmas.Bool.Decides.{Decides-int_eq}
use Rattle.register_model.specs.declared.data.Key.{Key}
use Rattle.cluster_history.specs.History.{History, entry_at}
use Rattle.cluster_history.specs.Requests.{begins_request, begun_count, is_begin_of, is_event_of, next_op}
use Rattle.cluster_history.specs.declared.data.Entry.{Entry}
use Rattle.cluster_history.specs.declared.data.Event.{Event}
use Rattle.cluster_history.specs.declared.data.Event.TheVariants.{Begin, Take, Timeout}
use Rattle.cluster_history.specs.declared.data.Operation.{Operation}
use Rattle.cluster_history.specs.declared.data.Operation.TheVariants.{Read as ReadOf, Write as WriteOf}
use Rattle.cluster_history.specs.Legal.{IsLegalHistory}
use Rattle.cluster_history.specs.Openings.{IsValidOpening}
use Rattle.cluster_history.specs.declared.data.Opening.{Opening}
use Rattle.base_ids.specs.declared.ids.TableId.{TableId}
use Rattle.token_ring.specs.declared.token.Token.{Token}
use Rattle.cluster_history.specs.declared.data.Output.{Output}
use Rattle.cluster_history.specs.declared.data.Output.TheVariants.{Reply as Replied}
use Rattle.history_facts.proofs.EntryLemmas.{inside_more, newest_entry, before_newest, before_older, entry_cases, before_length}
use Rattle.base_ids.proofs.NameLemmas.{same_lane-same, same_lane-refl}
use Rattle.history_facts.specs.Prefixes.{history_before}
use Rattle.answer_law.proofs.BegunAtLemmas.{begun_at-later}
use Rattle.answer_law.specs.Told.{IsBegunAt, IsToldAt}
use Rattle.monotone_read.specs.declared.data.Note.{Note}
use Rattle.monotone_read.specs.declared.data.Note.TheVariants.{Reading, Found, Back}
use Rattle.monotone_read.specs.declared.data.Repaired.{Repaired}
use Rattle.monotone_read.specs.Lists.{IsAmong, IsRead}
use Rattle.monotone_read.specs.Notes.{previous_of, operation_in, cell_told, same_write, back_note, begun_note, told_note, is_take_of, note, written_back, none_read, answered_by, answered_in, answered_at, repaired_in}
use Rattle.monotone_read.specs.Repaired.{IsWrittenBack, IsAnswered, IsRepaired, next_of}

both_true : (a b : Bool) → (a && b) ≡ true → (a ≡ true) × (b ≡ true)
both_true true true p = (refl, refl)
both_true true false p = cc
both_true false b p = cc

-- what was told stays told
pub told_at-later : (history : History) (first : Entry) (number : ℕ) (lane : LaneId) (op : OpId) (reply : Reply) → IsToldAt history number lane op reply → IsToldAt (first ∷ history) number lane op reply
told_at-later history first number lane op reply was =
    record { entry = was.entry; version = was.version; kind = was.kind; place = was.place; stands = (inside_more first history number was.entry was.stands).0; own = was.own; tells = was.tells }

-- ---- what notes stand for

pub record HasBegun (history : History) (lane : LaneId) (op : OpId) (key : Key) : Type 0 where
  pub begin : ℕ
  pub begins : IsBegunAt history begin lane op (ReadOf key.table key.token Quorum)

pub record HasFound (history : History) (lane : LaneId) (op : OpId) (key : Key) (cell : Cell) : Type 0 where
  pub begin : ℕ
  pub told : ℕ
  pub within : told ≤ length history
  pub begins : IsBegunAt history begin lane op (ReadOf key.table key.token Quorum)
  pub reads : IsToldAt history told lane op (Read (Some cell))

pub record HasBack (history : History) (lane : LaneId) (op : OpId) (cell : Cell) : Type 0 where
  pub key : Key
  pub begin : ℕ
  pub told : ℕ
  pub wrote : ℕ
  pub later : told < wrote
  pub before : OpId
  pub before_is : before ≡ previous_of op
  pub after_is : next_of before ≡ op
  pub begins : IsBegunAt history begin lane before (ReadOf key.table key.token Quorum)
  pub reads : IsToldAt history told lane before (Read (Some cell))
  pub writes : IsBegunAt history wrote lane op (WriteOf key.table key.token cell Quorum)

abbrev pub Stands : History → LaneId → OpId → Option Note → Type 0
Stands history lane op None = Unit {0}
Stands history lane op (Some (Reading key)) = HasBegun history lane op key
Stands history lane op (Some (Found key cell)) = HasFound history lane op key cell
Stands history lane op (Some (Back cell)) = HasBack history lane op cell

stands-later : (history : History) (first : Entry) (lane : LaneId) (op : OpId) (n : Option Note) → Stands history lane op n → Stands (first ∷ history) lane op n
stands-later history first lane op None was = tt
stands-later history first lane op (Some (Reading key)) was = record { begin = was.begin; begins = begun_at-later history first was.begin lane op (ReadOf key.table key.token Quorum) was.begins }
stands-later history first lane op (Some (Found key cell)) was =
    record {
      begin = was.begin;
      told = was.told;
      within = (let w : was.told ≤ length history = was.within in omega arith);
      begins = begun_at-later history first was.begin lane op (ReadOf key.table key.token Quorum) was.begins;
      reads = told_at-later history first was.told lane op (Read (Some cell)) was.reads;
    }
stands-later history first lane op (Some (Back cell)) was =
    record {
      key = was.key;
      begin = was.begin;
      told = was.told;
      wrote = was.wrote;
      later = was.later;
      before = was.before;
      before_is = was.before_is;
      after_is = was.after_is;
      begins = begun_at-later history first was.begin lane was.before (ReadOf was.key.table was.key.token Quorum) was.begins;
      reads = told_at-later history first was.told lane was.before (Read (Some cell)) was.reads;
      writes = begun_at-later history first was.wrote lane op (WriteOf was.key.table was.key.token cell Quorum) was.writes;
    }

-- the request that the newest entry begins
begun_by_event : (history : History) (entry : Entry) (lane : LaneId) (op : OpId) (operation : Operation) (event : Event) → entry.event ≡ event → is_begin_of lane event ≡ true → (op.0 == begun_count history lane + 1) ≡ true → operation_in event ≡ Some operation → IsBegunAt (entry ∷ history) (length history + 1) lane op operation
begun_by_event history entry lane op operation (Begin by other version) same own number found =
    let who : by ≡ lane = same_lane-same by lane own in
    let what : other ≡ operation = cc in
    let count : op.0 ≡ begun_count history lane + 1 = eqb-true op.0 (begun_count history lane + 1) number in
    let number_is : op ≡ next_op history lane = ap (λ (n : ℕ). let o : OpId = record { 0 = n } in o) count in
    record {
      entry = entry;
      version = version;
      stands = newest_entry entry history;
      begins = same ∙ λ i. Begin (who i) (what i) version;
      next = number_is ∙ ap (λ (h : History). next_op h lane) (sym (before_newest entry history (length history + 1) (same_number_itself (length history + 1))));
    }
  where
    same_number_itself : (n : ℕ) → (n == n) ≡ true
    same_number_itself n = (unsigned_Decides n n).1 refl
begun_by_event history entry lane op operation event same own number found = cc found

begun_now : (history : History) (entry : Entry) (lane : LaneId) (op : OpId) (operation : Operation) → begins_request history entry.event lane op ≡ true → operation_in entry.event ≡ Some operation → IsBegunAt (entry ∷ history) (length history + 1) lane op operation
begun_now history entry lane op operation begins found =
    let parts = both_true (is_begin_of lane entry.event) (op.0 == begun_count history lane + 1) begins in
    begun_by_event history entry lane op operation entry.event refl parts.0 parts.1 found

-- the number before, and the next one
next_previous : (op : OpId) (n : ℕ) → op.0 ≡ n + 1 → next_of (previous_of op) ≡ op
next_previous op n e = (let same : op.0 - 1 + 1 ≡ op.0 = omega arith in ap (λ (k : ℕ). let o : OpId = record { 0 = k } in o) same)

-- what the test finds the same is the same
write_same : (a : Key) (cell : Cell) (b : Key) (other : Cell) → same_write a cell b other ≡ true → (a ≡ b) × (cell ≡ other)
write_same a cell b other e =
    let parts = both_true ((a.table.0 == b.table.0) && int_eq a.token.value b.token.value) (is_eq (cell_order cell other)) e in
    let places = both_true (a.table.0 == b.table.0) (int_eq a.token.value b.token.value) parts.0 in
    let table : a.table.0 ≡ b.table.0 = eqb-true a.table.0 b.table.0 places.0 in
    let token = same_token a.token b.token ((Decides-int_eq a.token.value b.token.value).0 places.1) in
    (λ i. record { table = record { 0 = table i }; token = token i }, cell_same cell other ((Equal-is (cell_order cell other)).0 parts.1))

pub write_itself : (a : Key) (cell : Cell) → same_write a cell a cell ≡ true
write_itself a cell =
    let table : (a.table.0 == a.table.0) ≡ true = (unsigned_Decides a.table.0 a.table.0).1 refl in
    let token : int_eq a.token.value a.token.value ≡ true = (Decides-int_eq a.token.value a.token.value).1 refl in
    let order : is_eq (cell_order cell cell) ≡ true = ap is_eq (tied_itself cell_total cell) in
    rw (table, token, order) refl

-- what is noted of a request that the newest entry begins
stands_back : (history : History) (entry : Entry) (lane : LaneId) (op : OpId) (before : Option Note) (key : Key) (cell : Cell) → next_of (previous_of op) ≡ op → IsBegunAt (entry ∷ history) (length history + 1) lane op (WriteOf key.table key.token cell Quorum) → Stands history lane (previous_of op) before → Stands (entry ∷ history) lane op (back_note before key cell)
stands_back history entry lane op None key cell is writes was = tt
stands_back history entry lane op (Some (Reading found)) key cell is writes was = tt
stands_back history entry lane op (Some (Back found)) key cell is writes was = tt
stands_back history entry lane op (Some (Found found told)) key cell is writes was =
    elim (same_write found told key cell) as (λ v. same_write found told key cell ≡ v → Stands (entry ∷ history) lane op (cond v (Some (Back cell)) None)) [
      | true ↦ λ e.
          let same = write_same found told key cell e in
          let within : was.told ≤ length history = was.within in
          let P : Cell → Type 0 = λ x. IsToldAt (entry ∷ history) was.told lane (previous_of op) (Read (Some x)) in
          let Q : Key → Type 0 = λ x. IsBegunAt (entry ∷ history) was.begin lane (previous_of op) (ReadOf x.table x.token Quorum) in
          record {
            key = key;
            begin = was.begin;
            told = was.told;
            wrote = length history + 1;
            later = omega arith;
            before = previous_of op;
            before_is = refl;
            after_is = is;
            begins = subst Q same.0 (begun_at-later history entry was.begin lane (previous_of op) (ReadOf found.table found.token Quorum) was.begins);
            reads = subst P same.1 (told_at-later history entry was.told lane (previous_of op) (Read (Some told)) was.reads);
            writes = writes;
          }
      | false ↦ λ _. tt
    ] refl

stands_begun : (history : History) (entry : Entry) (lane : LaneId) (op : OpId) (before : Option Note) (found : Option Operation) → next_of (previous_of op) ≡ op → ((operation : Operation) → found ≡ Some operation → IsBegunAt (entry ∷ history) (length history + 1) lane op operation) → Stands history lane (previous_of op) before → Stands (entry ∷ history) lane op (begun_note before found)
stands_begun history entry lane op before None is begins was = tt
stands_begun history entry lane op before (Some (ReadOf table token One)) is begins was = tt
stands_begun history entry lane op before (Some (ReadOf table token Two)) is begins was = tt
stands_begun history entry lane op before (Some (ReadOf table token Three)) is begins was = tt
stands_begun history entry lane op before (Some (ReadOf table token Quorum)) is begins was =
    record { begin = length history + 1; begins = begins (ReadOf table token Quorum) refl }
stands_begun history entry lane op before (Some (ReadOf table token All)) is begins was = tt
stands_begun history entry lane op before (Some (WriteOf table token cell One)) is begins was = tt
stands_begun history entry lane op before (Some (WriteOf table token cell Two)) is begins was = tt
stands_begun history entry lane op before (Some (WriteOf table token cell Three)) is begins was = tt
stands_begun history entry lane op before (Some (WriteOf table token cell Quorum)) is begins was =
    stands_back history entry lane op before (record { table = table; token = token }) cell is (begins (WriteOf table token cell Quorum) refl) was
stands_begun history entry lane op before (Some (WriteOf table token cell All)) is begins was = tt

-- a cell that the outputs tell
record IsTelling (outputs : List Output) (op : OpId) (cell : Cell) : Type 0 where
  place : ℕ
  version : Version
  kind : Kind
  tells : slice_get outputs place ≡ Some (Replied op version kind (Read (Some cell)))

telling_later : (output : Output) (outputs : List Output) (op : OpId) (cell : Cell) → IsTelling outputs op cell → IsTelling (output ∷ outputs) op cell
telling_later output outputs op cell was = record { place = suc was.place; version = was.version; kind = was.kind; tells = was.tells }

op_is : (a b : OpId) → same_op a b ≡ true → a ≡ b
op_is a b e = ap (λ (n : ℕ). let o : OpId = record { 0 = n } in o) (eqb-true a.0 b.0 e)

tells : (outputs : List Output) (op : OpId) (cell : Cell) → cell_told outputs op ≡ Some cell → IsTelling outputs op cell
tells [] op cell e = cc e
tells (Replied other version kind (Read (Some told)) ∷ outputs) op cell e =
    elim (same_op other op) as (λ v. same_op other op ≡ v → cond v (Some told) (cell_told outputs op) ≡ Some cell → IsTelling (Replied other version kind (Read (Some told)) ∷ outputs) op cell) [
      | true ↦ λ same h.
          let who : other ≡ op = op_is other op same in
          let what : told ≡ cell = cc in
          record { place = 0; version = version; kind = kind; tells = λ i. Some (Replied (who i) version kind (Read (Some (what i)))) }
      | false ↦ λ _ h. telling_later (Replied other version kind (Read (Some told))) outputs op cell (tells outputs op cell h)
    ] refl e
tells (output ∷ outputs) op cell e = telling_later output outputs op cell (tells outputs op cell e)

stands_told : (history : History) (entry : Entry) (lane : LaneId) (op : OpId) (n : Option Note) (told : Option Cell) → is_event_of lane entry.event ≡ true → cell_told entry.outputs op ≡ told → Stands (entry ∷ history) lane op n → Stands (entry ∷ history) lane op (told_note n told)
stands_told history entry lane op None told own e was = tt
stands_told history entry lane op (Some (Found key cell)) told own e was = was
stands_told history entry lane op (Some (Back cell)) told own e was = was
stands_told history entry lane op (Some (Reading key)) None own e was = was
stands_told history entry lane op (Some (Reading key)) (Some cell) own e was =
    let told = tells entry.outputs op cell e in
    record {
      begin = was.begin;
      told = length history + 1;
      within = omega arith;
      begins = was.begins;
      reads = record { entry = entry; version = told.version; kind = told.kind; place = told.place; stands = newest_entry entry history; own = own; tells = told.tells };
    }

take_own : (lane : LaneId) (event : Event) → is_take_of lane event ≡ true → is_event_of lane event ≡ true
take_own lane (Take by at) e = e
take_own lane event e = cc e

-- notes stand for what happened
pub notes_stand : (history : History) (lane : LaneId) (op : OpId) → Stands history lane op (note history lane op)
notes_stand [] lane op = tt
notes_stand (entry ∷ history) lane op =
    elim (begins_request history entry.event lane op) as (λ v. begins_request history entry.event lane op ≡ v → Stands (entry ∷ history) lane op (cond v (begun_note (note history lane (previous_of op)) (operation_in entry.event)) (cond (is_take_of lane entry.event) (told_note (note history lane op) (cell_told entry.outputs op)) (note history lane op)))) [
      | true ↦ λ begins.
          let count : op.0 ≡ begun_count history lane + 1 = eqb-true op.0 (begun_count history lane + 1) (both_true (is_begin_of lane entry.event) (op.0 == begun_count history lane + 1) begins).1 in
          stands_begun history entry lane op (note history lane (previous_of op)) (operation_in entry.event) (next_previous op (begun_count history lane) count)
          (λ operation found. begun_now history entry lane op operation begins found) (notes_stand history lane (previous_of op))
      | false ↦ λ _.
          let was : Stands (entry ∷ history) lane op (note history lane op) = stands-later history entry lane op (note history lane op) (notes_stand history lane op) in
          elim (is_take_of lane entry.event) as (λ v. is_take_of lane entry.event ≡ v → Stands (entry ∷ history) lane op (cond v (told_note (note history lane op) (cell_told entry.outputs op)) (note history lane op))) [
            | true ↦ λ own. stands_told history entry lane op (note history lane op) (cell_told entry.outputs op) (take_own lane entry.event own) refl was
            | false ↦ λ _. was
          ] refl
    ] refl

-- ---- the list has repaired reads alone

among_cases : (xs ys : List Repaired) (n : ℕ) (r : Repaired) → slice_get (xs ++ ys) n ≡ Some r → IsAmong xs r ⊎ IsAmong ys r
among_cases [] ys n r e = inr (record { at = n; stands = e })
among_cases (x ∷ xs) ys zero r e = inl (record { at = 0; stands = e })
among_cases (x ∷ xs) ys (suc n) r e =
    elim (among_cases xs ys n r e) [
      | inl a ↦ inl (record { at = suc a.at; stands = a.stands })
      | inr b ↦ inr b
    ]

pub among_left : (xs ys : List Repaired) (n : ℕ) (r : Repaired) → slice_get xs n ≡ Some r → IsAmong (xs ++ ys) r
among_left [] ys n r e = cc e
among_left (x ∷ xs) ys zero r e = record { at = 0; stands = e }
among_left (x ∷ xs) ys (suc n) r e = (let a = among_left xs ys n r e in record { at = suc a.at; stands = a.stands })

pub among_right : (xs ys : List Repaired) (r : Repaired) → IsAmong ys r → IsAmong (xs ++ ys) r
among_right [] ys r a = a
among_right (x ∷ xs) ys r a = (let b = among_right xs ys r a in record { at = suc b.at; stands = b.stands })

record IsFrom (history : History) (lane : LaneId) (place : ℕ) (outputs : List Output) (r : Repaired) : Type 0 where
  at : ℕ
  op : OpId
  version : Version
  kind : Kind
  reply : Reply
  got : slice_get outputs at ≡ Some (Replied op version kind reply)
  is : answered_by lane op place (note history lane op) reply ≡ Some r

from_later : (history : History) (lane : LaneId) (place : ℕ) (output : Output) (outputs : List Output) (r : Repaired) → IsFrom history lane place outputs r → IsFrom history lane place (output ∷ outputs) r
from_later history lane place output outputs r was = record { at = suc was.at; op = was.op; version = was.version; kind = was.kind; reply = was.reply; got = was.got; is = was.is }

only_one : (o : Option Repaired) (n : ℕ) (r : Repaired) → slice_get (option_to_list o) n ≡ Some r → o ≡ Some r
only_one None n r e = cc e
only_one (Some x) zero r e = e
only_one (Some x) (suc n) r e = cc e

answered_from : (history : History) (lane : LaneId) (place : ℕ) (outputs : List Output) (r : Repaired) → IsAmong (answered_in history lane place outputs) r → IsFrom history lane place outputs r
answered_from history lane place [] r among = cc (among.stands)
answered_from history lane place (Replied op version kind reply ∷ outputs) r among =
    elim (among_cases (option_to_list (answered_by lane op place (note history lane op) reply)) (answered_in history lane place outputs) among.at r among.stands) [
      | inl here ↦ record { at = 0; op = op; version = version; kind = kind; reply = reply; got = refl; is = only_one (answered_by lane op place (note history lane op) reply) here.at r here.stands }
      | inr there ↦ from_later history lane place (Replied op version kind reply) outputs r (answered_from history lane place outputs r there)
    ]
answered_from history lane place (output ∷ outputs) r among = from_later history lane place output outputs r (answered_from history lane place outputs r among)

pub answered_has : (history : History) (lane : LaneId) (place : ℕ) (outputs : List Output) (n : ℕ) (op : OpId) (version : Version) (kind : Kind) (reply : Reply) (r : Repaired) → slice_get outputs n ≡ Some (Replied op version kind reply) → answered_by lane op place (note history lane op) reply ≡ Some r → IsAmong (answered_in history lane place outputs) r
answered_has history lane place [] n op version kind reply r got is = cc got
answered_has history lane place (output ∷ outputs) zero op version kind reply r got is =
    let same : output ≡ Replied op version kind reply = cc in
    let P : Output → Type 0 = λ o. IsAmong (answered_in history lane place (o ∷ outputs)) r in
    let Q : Option Repaired → Type 0 = λ o. IsAmong (option_to_list o ++ answered_in history lane place outputs) r in
    subst P (sym same) (subst Q (sym is) (record { at = 0; stands = refl }))
answered_has history lane place (Replied o v k p ∷ outputs) (suc n) op version kind reply r got is =
    among_right (option_to_list (answered_by lane o place (note history lane o) p)) (answered_in history lane place outputs) r (answered_has history lane place outputs n op version kind reply r got is)
answered_has history lane place (output ∷ outputs) (suc n) op version kind reply r got is = answered_has history lane place outputs n op version kind reply r got is

written_back_is : (history : History) (entry : Entry) (lane : LaneId) (op : OpId) (n : Option Note) (r : Repaired) → written_back lane op (length history + 1) n ≡ Some r → Stands history lane op n → IsToldAt (entry ∷ history) (length history + 1) lane op Ok → IsRead (entry ∷ history) r
written_back_is history entry lane op None r e was told = cc e
written_back_is history entry lane op (Some (Reading key)) r e was told = cc e
written_back_is history entry lane op (Some (Found key cell)) r e was told = cc e
written_back_is history entry lane op (Some (Back cell)) r e was told =
    let same : (let x : Repaired = record { lane = lane; op = previous_of op; cell = Some cell; place = length history + 1 } in x) ≡ r = cc in
    let key = was.key in
    let B : OpId → Type 0 = λ o. IsBegunAt (entry ∷ history) was.begin lane o (ReadOf key.table key.token Quorum) in
    let R : OpId → Type 0 = λ o. IsToldAt (entry ∷ history) was.told lane o (Read (Some cell)) in
    let N : OpId → Type 0 = λ o. next_of o ≡ op in
    let next : next_of (previous_of op) ≡ op = subst N was.before_is was.after_is in
    let W : OpId → Type 0 = λ o. IsBegunAt (entry ∷ history) was.wrote lane o (WriteOf key.table key.token cell Quorum) in
    let A : OpId → Type 0 = λ o. IsToldAt (entry ∷ history) (length history + 1) lane o Ok in
    let P : Repaired → Type 0 = IsRead (entry ∷ history) in
    subst P same (record {
      table = key.table;
      token = key.token;
      repaired = record {
        begin = was.begin;
        told = was.told;
        begins = subst B was.before_is (begun_at-later history entry was.begin lane was.before (ReadOf key.table key.token Quorum) was.begins);
        reads = subst R was.before_is (told_at-later history entry was.told lane was.before (Read (Some cell)) was.reads);
        answered = record {
          wrote = was.wrote;
          later = was.later;
          begins = subst W (sym next) (begun_at-later history entry was.wrote lane op (WriteOf key.table key.token cell Quorum) was.writes);
          acked = subst A (sym next) told;
        };
      };
    })

none_read_is : (history : History) (entry : Entry) (lane : LaneId) (op : OpId) (n : Option Note) (r : Repaired) → none_read lane op (length history + 1) n ≡ Some r → Stands history lane op n → IsToldAt (entry ∷ history) (length history + 1) lane op (Read None) → IsRead (entry ∷ history) r
none_read_is history entry lane op None r e was told = cc e
none_read_is history entry lane op (Some (Found key cell)) r e was told = cc e
none_read_is history entry lane op (Some (Back cell)) r e was told = cc e
none_read_is history entry lane op (Some (Reading key)) r e was told =
    let same : (let x : Repaired = record { lane = lane; op = op; cell = None; place = length history + 1 } in x) ≡ r = cc in
    let P : Repaired → Type 0 = IsRead (entry ∷ history) in
    subst P same (record {
      table = key.table;
      token = key.token;
      repaired = record {
        begin = was.begin;
        told = length history + 1;
        begins = begun_at-later history entry was.begin lane op (ReadOf key.table key.token Quorum) was.begins;
        reads = told;
        answered = refl;
      };
    })

answered_is : (opening : Opening) (history : History) (entry : Entry) (lane : LaneId) (op : OpId) (reply : Reply) (r : Repaired) → IsValidOpening opening → IsLegalHistory opening (entry ∷ history) → answered_by lane op (length history + 1) (note history lane op) reply ≡ Some r → IsToldAt (entry ∷ history) (length history + 1) lane op reply → IsRead (entry ∷ history) r
answered_is opening history entry lane op (Read None) r valid legal e told = none_read_is history entry lane op (note history lane op) r e (notes_stand history lane op) told
answered_is opening history entry lane op Ok r valid legal e told = written_back_is history entry lane op (note history lane op) r e (notes_stand history lane op) told
answered_is opening history entry lane op (Read (Some cell)) r valid legal e told = cc e
answered_is opening history entry lane op (Stale refused fence) r valid legal e told = cc e
answered_is opening history entry lane op (TimedOut answered required) r valid legal e told = cc e
answered_is opening history entry lane op NoTable r valid legal e told = cc e
answered_is opening history entry lane op NotMember r valid legal e told = cc e

answered_of : (opening : Opening) (history : History) (entry : Entry) (lane : LaneId) (r : Repaired) → IsValidOpening opening → IsLegalHistory opening (entry ∷ history) → is_event_of lane entry.event ≡ true → IsAmong (answered_in history lane (length history + 1) entry.outputs) r → IsRead (entry ∷ history) r
answered_of opening history entry lane r valid legal own among =
    let from = answered_from history lane (length history + 1) entry.outputs r among in
    answered_is opening history entry lane from.op from.reply r valid legal from.is
    (record { entry = entry; version = from.version; kind = from.kind; place = from.at; stands = newest_entry entry history; own = own; tells = from.got })

answered_now : (opening : Opening) (history : History) (entry : Entry) (event : Event) (r : Repaired) → IsValidOpening opening → IsLegalHistory opening (entry ∷ history) → entry.event ≡ event → IsAmong (answered_at history event (length history + 1) entry.outputs) r → IsRead (entry ∷ history) r
answered_now opening history entry (Take lane at) r valid legal is among = answered_of opening history entry lane r valid legal (ap (is_event_of lane) is ∙ same_lane-refl lane) among
answered_now opening history entry event r valid legal is among = cc (among.stands)

read_later : (history : History) (entry : Entry) (r : Repaired) → IsRead history r → IsRead (entry ∷ history) r
read_later history entry r was =
    record {
      table = was.table;
      token = was.token;
      repaired = record {
        begin = was.repaired.begin;
        told = was.repaired.told;
        begins = begun_at-later history entry was.repaired.begin r.lane r.op (ReadOf was.table was.token Quorum) was.repaired.begins;
        reads = told_at-later history entry was.repaired.told r.lane r.op (Read r.cell) was.repaired.reads;
        answered = answered_later history entry was.repaired.told r.place r.lane r.op was.table was.token r.cell was.repaired.answered;
      };
    }
  where
    answered_later : (history : History) (entry : Entry) (told place : ℕ) (lane : LaneId) (op : OpId) (table : TableId) (token : Token) (cell : Option Cell) → IsAnswered history told place lane op table token cell → IsAnswered (entry ∷ history) told place lane op table token cell
    answered_later history entry told place lane op table token None was = was
    answered_later history entry told place lane op table token (Some cell) was =
        record {
          wrote = was.wrote;
          later = was.later;
          begins = begun_at-later history entry was.wrote lane (next_of op) (WriteOf table token cell Quorum) was.begins;
          acked = told_at-later history entry place lane (next_of op) Ok was.acked;
        }

pub each_is_read : (opening : Opening) (history : History) → IsValidOpening opening → IsLegalHistory opening history → (r : Repaired) → IsAmong (repaired_in history) r → IsRead history r
each_is_read opening [] valid legal r among = cc (among.stands)
each_is_read opening (entry ∷ history) valid legal r among =
    elim (among_cases (repaired_in history) (answered_at history entry.event (length history + 1) entry.outputs) among.at r among.stands) [
      | inl old ↦ read_later history entry r (each_is_read opening history valid legal.1 r old)
      | inr new ↦ answered_now opening history entry entry.event r valid legal refl new
    ]
