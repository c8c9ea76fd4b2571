-- Each cell that a host holds was begun to be written, whether it served the write or pulled the cell.
use Rattle.std.proofs.Common.{ap, inl, inr, refl, subst, sym, ◌∙◌}
use Rattle.std.specs.Cmp.{signed_Decides, unsigned_Decides}
use Rattle.std.specs.List.{list_any}
use Rattle.std.specs.Ordering.{int_eq}
use Rattle.std.specs.Prelude.{List, None, Option, Some, [], false, if◌then◌else◌, map, slice_get, true, ◌==◌, ◌∷◌, ◌≡◌}
use Rattle.base_ids.specs.Names.{same_host}
use Rattle.base_ids.specs.declared.ids.HostId.{HostId}
use Rattle.base_ids.specs.declared.ids.MsgRef.{MsgRef}
use Rattle.base_ids.specs.declared.ids.TableId.{TableId}
use Rattle.barrier_law.proofs.AskedLemmas.{IsAsked, ask_fact}
use Rattle.cell_merge.proofs.CellOrder.{greater-choice}
use Rattle.cell_merge.specs.declared.cell.Cell.{Cell}
use Rattle.cluster_history.proofs.HeldLemmas.{cell_at-held_cells, held_cells-ordered}
use Rattle.cluster_history.specs.Held.{chunk_cells, drops, gained_cell, held_cell, held_cells, pull_of, pulled_cells, served_cells, stored_cell, stored_cells, tells_written}
use Rattle.cluster_history.specs.History.{History, message_at}
use Rattle.cluster_history.specs.Legal.{IsLegalHistory}
use Rattle.cluster_history.specs.Messages.{written_key}
use Rattle.cluster_history.specs.Openings.{IsValidOpening}
use Rattle.cluster_history.specs.Outputs.{ask_of}
use Rattle.cluster_history.specs.Requests.{next_op}
use Rattle.cluster_history.specs.Topology.{log_of}
use Rattle.cluster_history.specs.declared.data.Entry.{Entry}
use Rattle.cluster_history.specs.declared.data.Event.{Event}
use Rattle.cluster_history.specs.declared.data.Event.TheVariants.{Serve, TakeChunk}
use Rattle.cluster_history.specs.declared.data.Message.{Message}
use Rattle.cluster_history.specs.declared.data.Message.TheVariants.{Chunk as ChunkSent, Write as WriteSent}
use Rattle.cluster_history.specs.declared.data.Opening.{Opening}
use Rattle.cluster_history.specs.declared.data.Operation.{Operation}
use Rattle.cluster_history.specs.declared.data.Operation.TheVariants.{Read as ReadOf, Write as WriteOf}
use Rattle.cluster_history.specs.declared.data.Output.{Output}
use Rattle.history_facts.proofs.LegalLemmas.{sent_split}
use Rattle.base_ids.proofs.NameLemmas.{both_true}
use Rattle.history_facts.proofs.SentLemmas.{Sends, sends}
use Rattle.history_facts.proofs.SentLemmas.Sends.{sends_ask, sends_chunk, sends_chunk_ask, sends_cleaned, sends_fact, sends_found, sends_not_mine, sends_question, sends_written}
use Rattle.quorum_ops.specs.declared.data.WriteAsk.{WriteAsk}
use Rattle.register_model.specs.declared.data.Key.{Key}
use Rattle.replica_store.specs.Cells.{Cells, is_same, only_at}
use Rattle.replica_store.specs.declared.store.Stored.{Stored}
use Rattle.stream_core.specs.Pulls.{Pulling, is_next, served_chunk}
use Rattle.stream_core.specs.declared.data.ChunkAsk.{ChunkAsk}
use Rattle.stream_core.specs.declared.data.ChunkMsg.{ChunkMsg}
use Rattle.token_ring.proofs.Tokens.{same_token}
use Rattle.token_ring.specs.declared.token.Token.{Token}
use Rattle.answer_law.proofs.BegunAtLemmas.{IsBegunBy, begun_at-later, request_entry}
use Rattle.answer_law.proofs.ChunkLemmas.{AreAll, chunk_of_source}
use Rattle.answer_law.proofs.PullLemmas.{IsPullOf, chunk_ask_is, pull_is}
use Rattle.answer_law.proofs.SessionLemmas.{StartsIn, one_table, starts-later}
use Rattle.answer_law.specs.Laws.{HeldCellsWereWritten}
use Rattle.answer_law.specs.Told.{IsBegunAt, IsWritten}

-- the key of a table and a token
abbrev pub key_at : TableId → Token → Key
key_at table token = record { table = table; token = token }

pub written-later : (history : History) (entry : Entry) (key : Key) (cell : Cell) → IsWritten history key cell → IsWritten (entry ∷ history) key cell
written-later history entry key cell was =
    record { at = was.at; lane = was.lane; op = was.op; level = was.level; begins = begun_at-later history entry was.at was.lane was.op (WriteOf key.table key.token cell was.level) was.begins }

-- ---- lists of cells

-- each of the cells was written at its key
abbrev pub AreWritten : History → Cells → Type 0
AreWritten history [] = Unit {0}
AreWritten history (e ∷ cells) = IsWritten history (key_at e.0 e.1.token) e.1.cell × AreWritten history cells

pub are_written-later : (history : History) (entry : Entry) (cells : Cells) → AreWritten history cells → AreWritten (entry ∷ history) cells
are_written-later history entry [] all = tt
are_written-later history entry (e ∷ cells) all = (written-later history entry (key_at e.0 e.1.token) e.1.cell all.0, are_written-later history entry cells all.1)

-- the cells of one table
all_of_table : (history : History) (table : TableId) (cells : List Stored) → AreAll (λ token cell. IsWritten history (key_at table token) cell) cells → AreWritten history (map (λ stored. (table, stored)) cells)
all_of_table history table [] all = tt
all_of_table history table (stored ∷ rest) all = (all.0, all_of_table history table rest all.1)

same_place : (table : TableId) (token : Token) (key : Key) → is_same table token key.table key.token ≡ true → key_at table token ≡ key
same_place table token key e =
    let both = both_true (table.0 == key.table.0) (int_eq token.value key.token.value) e in
    let table_is : table.0 ≡ key.table.0 = (unsigned_Decides table.0 key.table.0).0 both.0 in
    let token_is : token ≡ key.token = same_token token key.token ((signed_Decides token.value key.token.value).0 both.1) in
    λ i. record { table = record { 0 = table_is i }; token = token_is i }

-- the cell that a key gains was written there
gained_written : (history : History) (cells : Cells) (key : Key) (cell : Cell) → AreWritten history cells → gained_cell cells key ≡ Some cell → IsWritten history key cell
gained_written history [] key cell all e = cc e
gained_written history (first ∷ cells) key cell all e =
    elim (greater-choice (only_at first.0 first.1.token first.1.cell key.table key.token) (gained_cell cells key)) [
      | inl here ↦ only (sym here ∙ e)
      | inr behind ↦ gained_written history cells key cell all.1 (sym behind ∙ e)
    ]
  where
    only : only_at first.0 first.1.token first.1.cell key.table key.token ≡ Some cell → IsWritten history key cell
    only h =
        (elim (is_same first.0 first.1.token key.table key.token) as (λ b. is_same first.0 first.1.token key.table key.token ≡ b → (if b then Some first.1.cell else None) ≡ Some cell → IsWritten history key cell) [
          | true ↦ λ there g.
              let what : first.1.cell ≡ cell = cc g in
              subst (IsWritten history key) what (subst (λ k. IsWritten history k first.1.cell) (same_place first.0 first.1.token key there) all.0)
          | false ↦ λ there g. cc g
        ]) refl h

-- ---- writes

-- what a write ask that was sent asks was begun to be written
pub ask_written : (opening : Opening) (history : History) (at : MsgRef) (ask : WriteAsk) → IsLegalHistory opening history → message_at history at ≡ Some (WriteSent ask) → IsWritten history (written_key ask) ask.cell
ask_written opening history at ask legal sent =
    let fact = ask_fact opening history legal at (WriteSent ask) sent in
    let asked : IsAsked opening history ask.lane ask.op ask.version (WriteOf ask.table ask.token ask.cell fact.0) ask.to = fact.1 in
    let by : IsBegunBy history ask.lane ask.op asked.request.operation = request_entry opening history ask.lane ask.op asked.request asked.begun in
    record { at = by.number; lane = ask.lane; op = ask.op; level = fact.0; begins = subst (IsBegunAt history by.number ask.lane ask.op) asked.operation_is by.begun }

-- ---- chunks

-- the cells of a chunk were written in the table in which its session started
pub record IsOfTable (history : History) (chunk : ChunkMsg) : Type 0 where
  pub table : TableId
  pub starts : StartsIn (log_of history) chunk.session table
  pub written : AreWritten history (map (λ stored. (table, stored)) chunk.cells)

abbrev pub AreHeldWritten : Opening → History → Type 0
AreHeldWritten opening history = (host : HostId) (key : Key) (cell : Cell) → held_cell opening history host key ≡ Some cell → IsWritten history key cell

abbrev pub AreSentWritten : History → Type 0
AreSentWritten history = (at : MsgRef) (chunk : ChunkMsg) → message_at history at ≡ Some (ChunkSent chunk) → IsOfTable history chunk

of_table-later : (history : History) (entry : Entry) (chunk : ChunkMsg) → IsOfTable history chunk → IsOfTable (entry ∷ history) chunk
of_table-later history entry chunk was =
    record {
      table = was.table;
      starts = starts-later history entry chunk.session was.table was.starts;
      written = are_written-later history entry (map (λ stored. (was.table, stored)) chunk.cells) was.written;
    }

-- a chunk that a host serves has cells that it holds
served_of_table :
    (opening : Opening) (history : History) (host : HostId) (at : MsgRef) (ask : ChunkAsk) → IsValidOpening opening → IsLegalHistory opening history → AreHeldWritten opening history →
    StartsIn (log_of history) ask.session ask.table → IsOfTable history (served_chunk (held_cells opening history host) ask)
served_of_table opening history host at ask valid legal held starts =
    record {
      table = ask.table;
      starts = starts;
      written = all_of_table history ask.table (served_chunk (held_cells opening history host) ask).cells
          (chunk_of_source (λ token cell. IsWritten history (key_at ask.table token) cell) (held_cells opening history host) ask (held_cells-ordered opening history host)
          (λ token cell e. held host (key_at ask.table token) cell (sym (cell_at-held_cells opening history host (key_at ask.table token)) ∙ e)));
    }

-- what a message has sent is one chunk
pub chunk_same : (a b : ChunkMsg) → ChunkSent a ≡ ChunkSent b → a ≡ b
chunk_same a b e = cc e

chunk_by :
    (opening : Opening) (history : History) (event : Event) (message : Message) (chunk : ChunkMsg) → IsValidOpening opening → IsLegalHistory opening history → AreHeldWritten opening history →
    Sends opening history event message → message ≡ ChunkSent chunk → IsOfTable history chunk
chunk_by opening history event message chunk valid legal held (sends_chunk {host = host} {at = at} ask sent here) e =
    subst (IsOfTable history) (chunk_same (served_chunk (held_cells opening history host) ask) chunk e)
    (served_of_table opening history host at ask valid legal held (chunk_ask_is opening history at ask valid legal sent).starts)
chunk_by opening history event message chunk valid legal held (sends_ask {lane = lane} {operation = operation} {version = version} route to there among) e =
    absurd (no_chunk operation e)
  where
    no_chunk : (operation : Operation) → ask_of lane (next_op history lane) version operation to ≡ ChunkSent chunk → ⊥
    no_chunk (WriteOf table token cell level) e = cc e
    no_chunk (ReadOf table token level) e = cc e
chunk_by opening history event message chunk valid legal held (sends_written asked sent here) e = cc e
chunk_by opening history event message chunk valid legal held (sends_found asked sent here) e = cc e
chunk_by opening history event message chunk valid legal held (sends_fact asked sent here so) e = cc e
chunk_by opening history event message chunk valid legal held (sends_cleaned asked session sent here what mine) e = cc e
chunk_by opening history event message chunk valid legal held (sends_not_mine asked session sent here what mine) e = cc e
chunk_by opening history event message chunk valid legal held (sends_chunk_ask pull there) e = cc e
chunk_by opening history event message chunk valid legal held sends_question e = cc e

-- ---- what an event stores

served_written : (opening : Opening) (history : History) (at : MsgRef) (served : Option Message) (outputs : List Output) → IsLegalHistory opening history → message_at history at ≡ served → AreWritten history (served_cells served outputs)
served_written opening history at (Some (WriteSent ask)) outputs legal sent =
    elim (list_any tells_written outputs) as (λ b. AreWritten history (if b then (ask.table, record { token = ask.token; cell = ask.cell }) ∷ [] else [])) [
      | true ↦ (ask_written opening history at ask legal sent, tt)
      | false ↦ tt
    ]
served_written opening history at served outputs legal sent = tt

pulled_written :
    (opening : Opening) (history : History) (host : HostId) (chunk : ChunkMsg) (pull : Option Pulling) → IsValidOpening opening → IsLegalHistory opening history →
    pull_of opening history host chunk.session ≡ pull → IsOfTable history chunk → AreWritten history (pulled_cells pull chunk)
pulled_written opening history host chunk None valid legal is known = tt
pulled_written opening history host chunk (Some pull) valid legal is known =
    let ours : IsPullOf history host chunk.session pull = pull_is opening history host chunk.session pull valid legal is in
    let table : known.table ≡ pull.table = one_table (log_of history) chunk.session known.table pull.table known.starts ours.starts in
    elim (is_next pull chunk) as (λ b. AreWritten history (if b then map (λ stored. (pull.table, stored)) chunk.cells else [])) [
      | true ↦ subst (λ t. AreWritten history (map (λ stored. (t, stored)) chunk.cells)) table known.written
      | false ↦ tt
    ]

taken_written :
    (opening : Opening) (history : History) (host : HostId) (at : MsgRef) (taken : Option Message) → IsValidOpening opening → IsLegalHistory opening history → AreSentWritten history →
    message_at history at ≡ taken → AreWritten history (chunk_cells (pull_of opening history host) taken)
taken_written opening history host at (Some (ChunkSent chunk)) valid legal chunks sent =
    pulled_written opening history host chunk (pull_of opening history host chunk.session) valid legal refl (chunks at chunk sent)
taken_written opening history host at taken valid legal chunks sent = tt

stored_written :
    (opening : Opening) (history : History) (host : HostId) (event : Event) (outputs : List Output) → IsValidOpening opening → IsLegalHistory opening history → AreSentWritten history →
    AreWritten history (stored_cells opening history host event outputs)
stored_written opening history host (Serve by at) outputs valid legal chunks =
    elim (same_host by host) as (λ b. AreWritten history (if b then served_cells (message_at history at) outputs else [])) [
      | true ↦ served_written opening history at (message_at history at) outputs legal refl
      | false ↦ tt
    ]
stored_written opening history host (TakeChunk by at) outputs valid legal chunks =
    elim (same_host by host) as (λ b. AreWritten history (if b then chunk_cells (pull_of opening history host) (message_at history at) else [])) [
      | true ↦ taken_written opening history host at (message_at history at) valid legal chunks refl
      | false ↦ tt
    ]
stored_written opening history host event outputs valid legal chunks = tt

-- ---- what hosts hold and send

held_next :
    (opening : Opening) (history : History) (entry : Entry) → IsValidOpening opening → IsLegalHistory opening history → AreHeldWritten opening history → AreSentWritten history →
    AreHeldWritten opening (entry ∷ history)
held_next opening history entry valid legal held chunks host key cell e =
    written-later history entry key cell
    (elim (greater-choice (if drops opening history entry host key then None else held_cell opening history host key) (stored_cell opening history entry host key)) [
      | inl old ↦
          (elim (drops opening history entry host key) as (λ b. (if b then None else held_cell opening history host key) ≡ Some cell → IsWritten history key cell) [
            | true ↦ λ h. cc h
            | false ↦ λ h. held host key cell h
          ]) (sym old ∙ e)
      | inr new ↦
          gained_written history (stored_cells opening history host entry.event entry.outputs) key cell
          (stored_written opening history host entry.event entry.outputs valid legal chunks) (sym new ∙ e)
    ])

sent_next :
    (opening : Opening) (history : History) (entry : Entry) → IsValidOpening opening → IsLegalHistory opening (entry ∷ history) → AreHeldWritten opening history → AreSentWritten history →
    AreSentWritten (entry ∷ history)
sent_next opening history entry valid legal held chunks at chunk e =
    of_table-later history entry chunk
    (elim (sent_split entry history at (ChunkSent chunk) e) [
      | inl fresh ↦
          chunk_by opening history entry.event (ChunkSent chunk) chunk valid legal.1 held
          (sends opening history entry.event at.out (ChunkSent chunk) legal.0.enabled (ap (λ outputs. slice_get outputs at.out) (sym legal.0.outputs) ∙ fresh)) refl
      | inr old ↦ chunks at chunk old
    ])

pub all_written : (opening : Opening) → IsValidOpening opening → (history : History) → IsLegalHistory opening history → AreHeldWritten opening history × AreSentWritten history
all_written opening valid [] legal = (λ host key cell e. cc e, λ at chunk e. cc e)
all_written opening valid (entry ∷ history) legal =
    let before = all_written opening valid history legal.1 in (
      held_next opening history entry valid legal.1 before.0 before.1,
      sent_next opening history entry valid legal before.0 before.1,
    )

-- each cell that a host holds was begun to be written at its key
pub held_cells_were_written : HeldCellsWereWritten
held_cells_were_written opening history host key cell valid legal e = (all_written opening valid history legal).0 host key cell e

-- and each that a chunk carries, at its token in the table in which the chunk's session started
pub chunk_written : (opening : Opening) (history : History) (at : MsgRef) (chunk : ChunkMsg) → IsValidOpening opening → IsLegalHistory opening history → message_at history at ≡ Some (ChunkSent chunk) → IsOfTable history chunk
chunk_written opening history at chunk valid legal e = (all_written opening valid history legal).1 at chunk e
