-- What pulls bring: by the steps, one after the other.
use Rattle.std.proofs.Common.{◌≡◌, ◌+◌, ◌<◌, ◌≤◌, ◌⊎◌, inl, inr, ◌==◌, ◌&&◌, ◌||◌, ℕ, zero, suc, Bool, true, false, cond, not, Option, Some, None, List, [], ◌∷◌, ◌++◌, arith, refl, ap, sym, subst, ◌∙◌}
use Rattle.std.specs.Prelude.{slice_get, option_map, option_to_list}
use Rattle.std.proofs.lemmas.Bool.{eqb-true, cases_lt}
use Rattle.std.proofs.lemmas.Bool.Decides.{nat_tests}
use Rattle.base_ids.specs.Names.{same_host}
use Rattle.base_ids.specs.declared.ids.HostId.{HostId}
use Rattle.base_ids.specs.declared.ids.Session.{Session}
use Rattle.base_ids.specs.declared.ids.TableId.{TableId}
use Rattle.cell_merge.proofs.CellOrder.{not_below}
use Rattle.cell_merge.specs.Cell.{IsNotBelow}
use Rattle.cell_merge.specs.declared.cell.Cell.{Cell}
use Rattle.token_ring.specs.declared.ring.TokenRange.{TokenRange}
use Rattle.token_ring.specs.declared.token.Token.{Token}
use Rattle.replica_store.specs.declared.store.Stored.{Stored}
use Rattle.replica_store.specs.Cells.{Cells, IsOrdered, cell_at, is_within, stored_at}
use Rattle.replica_store.specs.Columns.{put_at}
use Rattle.replica_store.specs.Puts.{cells_with}
use Rattle.replica_store.proofs.PutLemmas.{IsOrdered-put_at}
use Rattle.stream_core.proofs.PassedLemmas.{passed_is_covered}
use Rattle.stream_core.specs.Passed.{has_passed, HasCell}
use Rattle.stream_core.specs.Pulls.{Pulling, new_pull, next_ask, is_next, pull_after, cells_after, served_chunk, last_token}
use Rattle.stream_core.specs.declared.data.ChunkAsk.{ChunkAsk}
use Rattle.stream_core.specs.declared.data.ChunkMsg.{ChunkMsg}
use Rattle.gather_core.specs.declared.data.Route.{Route}
use Rattle.gather_core.specs.Gathers.{Gathering, begun, next_session, gone_on}
use Rattle.gather_core.specs.Laws.{AreOrdered, also, spread, IsDone, end_of, PullsSpread}
use Rattle.gather_core.specs.Steps.{Stores, Scene, Step, Ask, Serve, Take, Put, with_store, served, taken, taken_by, after_step, after_steps, at_start}
use Rattle.gather_core.proofs.PutManyLemmas.{ordered_with, put_grows, with_grows, with_has}

-- an item of a list with one more
pub got_more : {X : Type 0} (xs : List X) (y z : X) (n : ℕ) → slice_get (xs ++ y ∷ []) n ≡ Some z → (slice_get xs n ≡ Some z) ⊎ (y ≡ z)
got_more [] y z zero e = inr (cc)
got_more [] y z (suc n) e = cc e
got_more (x ∷ xs) y z zero e = inl e
got_more (x ∷ xs) y z (suc n) e = got_more xs y z n e

-- ---- stores

pub host_is : (a b : HostId) → same_host a b ≡ true → a ≡ b
host_is a b e = ap (λ (n : ℕ). let r : HostId = record { 0 = n } in r) (eqb-true a.0 b.0 e)

-- where each host's cells have something, and the new ones too
pub store_has : (P : HostId → Cells → Type 0) (stores : Stores) (host : HostId) (cells : Cells) → P host cells → (other : HostId) → P other (stores other) → P other (with_store stores host cells other)
store_has P stores host cells here other old =
    elim (same_host host other) as (λ v. same_host host other ≡ v → P other (cond v cells (stores other))) [
      | true ↦ λ e. (let Q : HostId → Type 0 = λ h. P h cells in subst Q (host_is host other e) here)
      | false ↦ λ _. old
    ] refl

pub store_here : (stores : Stores) (host : HostId) (cells : Cells) → with_store stores host cells host ≡ cells
store_here stores host cells = (let same : same_host host host ≡ true = grind (arith, nat_tests) in rw same refl)

-- the stores where a host holds what it holds
same_at : (stores : Stores) (by other : HostId) → with_store stores by (stores by) other ≡ stores other
same_at stores by other =
    elim (same_host by other) as (λ v. same_host by other ≡ v → cond v (stores by) (stores other) ≡ stores other) [
      | true ↦ λ e. ap stores (host_is by other e)
      | false ↦ λ _. refl
    ] refl

pub same_stores : (stores : Stores) (by : HostId) → with_store stores by (stores by) ≡ stores
same_stores stores by = λ i other. same_at stores by other i

-- ---- one cell at one key

module _ (table : TableId) (range : TokenRange) (token : Token) (within : is_within table range table token ≡ true) (cell : Option Cell) (host : HostId) where
  abbrev Has : Cells → Type 0
  Has cells = IsNotBelow (cell_at cells table token) cell

  -- a chunk was served by a store that had it
  pub record Carries (chunk : ChunkMsg) : Type 0 where
    pub source : Cells
    pub ask : ChunkAsk
    pub ordered : IsOrdered source
    pub is : served_chunk source ask ≡ chunk
    pub of_table : ask.table ≡ table
    pub of_range : ask.range ≡ range
    pub has : Has source

  -- an ask of no later session than the pull's; one of the pull's own session is the pull's
  pub record IsAsk (pull : Pulling) (ask : ChunkAsk) : Type 0 where
    pub early : ask.session.0 ≤ pull.session.0
    pub of_table : ask.session.0 ≡ pull.session.0 → ask.table ≡ table
    pub of_range : ask.session.0 ≡ pull.session.0 → ask.range ≡ range
    pub to_source : ask.session.0 ≡ pull.session.0 → ask.to ≡ pull.from

  pub record IsChunk (has : HostId → Bool) (pull : Pulling) (chunk : ChunkMsg) : Type 0 where
    pub early : chunk.session.0 ≤ pull.session.0
    pub carries : chunk.session.0 ≡ pull.session.0 → has pull.from ≡ true → Carries chunk

  abbrev route_of : Pulling → Route
  route_of pull = record { by = pull.by; from = pull.from }

  -- a pull goes on
  pub record Going (has : HostId → Bool) (stores : Stores) (pull : Pulling) (rest : List Route) (asks : List ChunkAsk) (chunks : List ChunkMsg) : Type 0 where
    pub ordered : AreOrdered stores
    pub known : (h : HostId) → has h ≡ true → Has (stores h)
    pub of_table : pull.table ≡ table
    pub of_range : pull.range ≡ range
    pub asks_are : (n : ℕ) (ask : ChunkAsk) → slice_get asks n ≡ Some ask → IsAsk pull ask
    pub chunks_are : (n : ℕ) (chunk : ChunkMsg) → slice_get chunks n ≡ Some chunk → IsChunk has pull chunk
    pub passing : has pull.from ≡ true → has_passed pull token ≡ true → Has (stores pull.by)
    pub brings : spread has (route_of pull ∷ rest) host ≡ true

  -- all are done
  pub record Stopped (has : HostId → Bool) (stores : Stores) : Type 0 where
    pub ordered : AreOrdered stores
    pub known : (h : HostId) → has h ≡ true → Has (stores h)
    pub brings : has host ≡ true

  abbrev going : Stores → Pulling → List Route → List ChunkAsk → List ChunkMsg → Scene
  going stores pull rest asks chunks = record { stores = stores; gather = record { pull = Some pull; rest = rest }; asks = asks; chunks = chunks }

  abbrev stopped : Stores → List Route → List ChunkAsk → List ChunkMsg → Scene
  stopped stores rest asks chunks = record { stores = stores; gather = record { pull = None; rest = rest }; asks = asks; chunks = chunks }

  -- ---- puts

  put_ordered : (stores : Stores) (by : HostId) (t : TableId) (s : Stored) → AreOrdered stores → AreOrdered (with_store stores by (put_at (stores by) (t, s)))
  put_ordered stores by t s ordered other =
      store_has (λ h cells. IsOrdered cells) stores by (put_at (stores by) (t, s)) (IsOrdered-put_at (stores by) (t, s) (ordered by)) other (ordered other)

  -- no store loses it
  put_kept : (stores : Stores) (by : HostId) (t : TableId) (s : Stored) → AreOrdered stores → (h : HostId) → Has (stores h) → Has (with_store stores by (put_at (stores by) (t, s)) h)
  put_kept stores by t s ordered h old =
      let new : Cells = put_at (stores by) (t, s) in
      store_has (λ other cells. Has (stores other) → Has cells) stores by new
      (λ before. not_below.transitive (cell_at new table token) (cell_at (stores by) table token) cell (put_grows (stores by) (t, s) table token (ordered by)) before)
      h (λ before. before) old

  -- ---- chunks

  chunk_ordered : (stores : Stores) (pull : Pulling) (chunk : ChunkMsg) → AreOrdered stores → AreOrdered (with_store stores pull.by (cells_with (stores pull.by) pull.table chunk.cells))
  chunk_ordered stores pull chunk ordered other =
      store_has (λ h cells. IsOrdered cells) stores pull.by (cells_with (stores pull.by) pull.table chunk.cells) (ordered_with (stores pull.by) pull.table chunk.cells (ordered pull.by)) other (ordered other)

  chunk_kept : (stores : Stores) (pull : Pulling) (chunk : ChunkMsg) → AreOrdered stores → (h : HostId) → Has (stores h) → Has (with_store stores pull.by (cells_with (stores pull.by) pull.table chunk.cells) h)
  chunk_kept stores pull chunk ordered h old =
      let new : Cells = cells_with (stores pull.by) pull.table chunk.cells in
      store_has (λ other cells. Has (stores other) → Has cells) stores pull.by new
      (λ before. not_below.transitive (cell_at new table token) (cell_at (stores pull.by) table token) cell (with_grows (stores pull.by) pull.table chunk.cells table token (ordered pull.by)) before)
      h (λ before. before) old

  -- the pull after its next chunk
  abbrev further : Pulling → ChunkMsg → Pulling
  further pull chunk = record pull { after = last_token pull.after chunk.cells; done = not chunk.more }

  next_is_it : (pull : Pulling) (chunk : ChunkMsg) → is_next pull chunk ≡ true → pull_after pull chunk ≡ further pull chunk
  next_is_it pull chunk next = rw next refl

  both_true : (a b : Bool) → (a && b) ≡ true → (a ≡ true) × (b ≡ true)
  both_true true true both = (refl, refl)
  both_true true false both = cc
  both_true false b both = cc

  session_is : (pull : Pulling) (chunk : ChunkMsg) → is_next pull chunk ≡ true → chunk.session.0 ≡ pull.session.0
  session_is pull chunk next = eqb-true chunk.session.0 pull.session.0 (both_true (chunk.session.0 == pull.session.0) _ next).0

  -- what the pull has passed by the chunk is there
  passed_now : (has : HostId → Bool) (stores : Stores) (pull : Pulling) (rest : List Route) (asks : List ChunkAsk) (chunks : List ChunkMsg) (chunk : ChunkMsg) → Going has stores pull rest asks chunks → IsChunk has pull chunk → is_next pull chunk ≡ true → has pull.from ≡ true → has_passed (further pull chunk) token ≡ true → Has (cells_with (stores pull.by) pull.table chunk.cells)
  passed_now has stores pull rest asks chunks chunk now is next from passed =
      let new : Cells = cells_with (stores pull.by) pull.table chunk.cells in
      elim (has_passed pull token) as (λ v. has_passed pull token ≡ v → Has new) [
        | true ↦ λ before.
            not_below.transitive (cell_at new table token) (cell_at (stores pull.by) table token) cell
            (with_grows (stores pull.by) pull.table chunk.cells table token (now.ordered pull.by)) (now.passing from before)
        | false ↦ λ not_before.
            let carried = is.carries (session_is pull chunk next) from in
            let ask = carried.ask in
            let P : ChunkMsg → Type 0 = λ c. has_passed (pull_after pull c) token ≡ true in
            let W : TableId × TokenRange → Type 0 = λ x. is_within x.0 x.1 x.0 token ≡ true in
            let within_ask : is_within ask.table ask.range ask.table token ≡ true = subst W (λ i. (sym carried.of_table i, sym carried.of_range i)) within in
            let after : has_passed (pull_after pull (served_chunk carried.source ask)) token ≡ true =
            subst P (sym carried.is) (let R : Pulling → Type 0 = λ p. has_passed p token ≡ true in subst R (sym (next_is_it pull chunk next)) passed) in
            let found = passed_is_covered carried.source ask pull token carried.ordered within_ask not_before after in
            let told : stored_at chunk.cells token ≡ cell_at carried.source table token =
            ap (λ (c : ChunkMsg). stored_at c.cells token) (sym carried.is) ∙ (found.cell ∙ ap (λ (t : TableId). cell_at carried.source t token) carried.of_table) in
            let T : TableId → Type 0 = λ t. IsNotBelow (cell_at (cells_with (stores pull.by) pull.table chunk.cells) t token) (stored_at chunk.cells token) in
            let put : IsNotBelow (cell_at new table token) (stored_at chunk.cells token) = subst T now.of_table (with_has (stores pull.by) pull.table chunk.cells token (now.ordered pull.by)) in
            let S : Option Cell → Type 0 = λ c. IsNotBelow (cell_at new table token) c in
            not_below.transitive (cell_at new table token) (cell_at carried.source table token) cell (subst S told put) carried.has
      ] refl

  -- ---- the steps

  abbrev Holds : Scene → Type 0
  Holds scene = Has (scene.stores host)

  ends_stopped : (steps : List Step) (has : HostId → Bool) (stores : Stores) (rest : List Route) (asks : List ChunkAsk) (chunks : List ChunkMsg) → Stopped has stores → Holds (after_steps (stopped stores rest asks chunks) steps)
  ends_stopped [] has stores rest asks chunks now = now.known host now.brings
  ends_stopped (Ask ∷ steps) has stores rest asks chunks now = ends_stopped steps has stores rest (asks ++ []) chunks now
  ends_stopped (Serve number ∷ steps) has stores rest asks chunks now =
      elim (slice_get asks number) as (λ v. Holds (after_steps (served (stopped stores rest asks chunks) v) steps)) [
        | None ↦ ends_stopped steps has stores rest asks chunks now
        | Some ask ↦ ends_stopped steps has stores rest asks (chunks ++ served_chunk (stores ask.to) ask ∷ []) now
      ]
  ends_stopped (Take number ∷ steps) has stores rest asks chunks now =
      elim (slice_get chunks number) as (λ v. Holds (after_steps (taken (stopped stores rest asks chunks) v) steps)) [
        | None ↦ ends_stopped steps has stores rest asks chunks now
        | Some chunk ↦ ends_stopped steps has stores rest asks chunks now
      ]
  ends_stopped (Put by t s ∷ steps) has stores rest asks chunks now =
      ends_stopped steps has (with_store stores by (put_at (stores by) (t, s))) rest asks chunks (record {
        ordered = put_ordered stores by t s now.ordered;
        known = λ h is. put_kept stores by t s now.ordered h (now.known h is);
        brings = now.brings;
      })

  -- the pull's own ask
  own_ask : (pull : Pulling) → pull.table ≡ table → pull.range ≡ range → IsAsk pull (next_ask pull)
  own_ask pull t r = record { early = omega arith; of_table = λ _. t; of_range = λ _. r; to_source = λ _. refl }

  asked_more : (has : HostId → Bool) (stores : Stores) (pull : Pulling) (rest : List Route) (asks : List ChunkAsk) (chunks : List ChunkMsg) → Going has stores pull rest asks chunks → Going has stores pull rest (asks ++ next_ask pull ∷ []) chunks
  asked_more has stores pull rest asks chunks now =
      record {
        ordered = now.ordered;
        known = now.known;
        of_table = now.of_table;
        of_range = now.of_range;
        asks_are = λ n ask got. elim (got_more asks (next_ask pull) ask n got) [
          | inl old ↦ now.asks_are n ask old
          | inr same ↦ (let P : ChunkAsk → Type 0 = IsAsk pull in subst P same (own_ask pull now.of_table now.of_range))
        ];
        chunks_are = now.chunks_are;
        passing = now.passing;
        brings = now.brings;
      }

  served_more : (has : HostId → Bool) (stores : Stores) (pull : Pulling) (rest : List Route) (asks : List ChunkAsk) (chunks : List ChunkMsg) (ask : ChunkAsk) → Going has stores pull rest asks chunks → IsAsk pull ask → Going has stores pull rest asks (chunks ++ served_chunk (stores ask.to) ask ∷ [])
  served_more has stores pull rest asks chunks ask now is =
      record {
        ordered = now.ordered;
        known = now.known;
        of_table = now.of_table;
        of_range = now.of_range;
        asks_are = now.asks_are;
        chunks_are = λ n chunk got. elim (got_more chunks (served_chunk (stores ask.to) ask) chunk n got) [
          | inl old ↦ now.chunks_are n chunk old
          | inr same ↦ (let P : ChunkMsg → Type 0 = IsChunk has pull in
              subst P same (record {
                early = is.early;
                carries = λ session from. (let to : ask.to ≡ pull.from = is.to_source session in record {
                  source = stores ask.to;
                  ask = ask;
                  ordered = now.ordered ask.to;
                  is = refl;
                  of_table = is.of_table session;
                  of_range = is.of_range session;
                  has = now.known ask.to (ap has to ∙ from);
                });
              }))
        ];
        passing = now.passing;
        brings = now.brings;
      }

  put_more : (has : HostId → Bool) (stores : Stores) (pull : Pulling) (rest : List Route) (asks : List ChunkAsk) (chunks : List ChunkMsg) (by : HostId) (t : TableId) (s : Stored) → Going has stores pull rest asks chunks → Going has (with_store stores by (put_at (stores by) (t, s))) pull rest asks chunks
  put_more has stores pull rest asks chunks by t s now =
      record {
        ordered = put_ordered stores by t s now.ordered;
        known = λ h is. put_kept stores by t s now.ordered h (now.known h is);
        of_table = now.of_table;
        of_range = now.of_range;
        asks_are = now.asks_are;
        chunks_are = now.chunks_are;
        passing = λ from passed. put_kept stores by t s now.ordered pull.by (now.passing from passed);
        brings = now.brings;
      }

  -- the stores after the pull's next chunk
  abbrev fed : Stores → Pulling → ChunkMsg → Stores
  fed stores pull chunk = with_store stores pull.by (cells_with (stores pull.by) pull.table chunk.cells)

  passed_fed : (has : HostId → Bool) (stores : Stores) (pull : Pulling) (rest : List Route) (asks : List ChunkAsk) (chunks : List ChunkMsg) (chunk : ChunkMsg) → Going has stores pull rest asks chunks → IsChunk has pull chunk → is_next pull chunk ≡ true → has pull.from ≡ true → has_passed (further pull chunk) token ≡ true → Has (fed stores pull chunk pull.by)
  passed_fed has stores pull rest asks chunks chunk now is next from passed =
      let P : Cells → Type 0 = Has in
      subst P (sym (store_here stores pull.by (cells_with (stores pull.by) pull.table chunk.cells))) (passed_now has stores pull rest asks chunks chunk now is next from passed)

  taken_more : (has : HostId → Bool) (stores : Stores) (pull : Pulling) (rest : List Route) (asks : List ChunkAsk) (chunks : List ChunkMsg) (chunk : ChunkMsg) → Going has stores pull rest asks chunks → IsChunk has pull chunk → is_next pull chunk ≡ true → Going has (fed stores pull chunk) (further pull chunk) rest asks chunks
  taken_more has stores pull rest asks chunks chunk now is next =
      record {
        ordered = chunk_ordered stores pull chunk now.ordered;
        known = λ h known. chunk_kept stores pull chunk now.ordered h (now.known h known);
        of_table = now.of_table;
        of_range = now.of_range;
        asks_are = λ n ask got. (let a = now.asks_are n ask got in record { early = a.early; of_table = a.of_table; of_range = a.of_range; to_source = a.to_source });
        chunks_are = λ n c got. (let a = now.chunks_are n c got in record { early = a.early; carries = a.carries });
        passing = λ from passed. passed_fed has stores pull rest asks chunks chunk now is next from passed;
        brings = now.brings;
      }

  -- who has it once the pull is done
  also_known : (has : HostId → Bool) (stores : Stores) (pull : Pulling) (rest : List Route) (asks : List ChunkAsk) (chunks : List ChunkMsg) (chunk : ChunkMsg) → Going has stores pull rest asks chunks → IsChunk has pull chunk → is_next pull chunk ≡ true → not chunk.more ≡ true → (h : HostId) → also has (route_of pull) h ≡ true → Has (fed stores pull chunk h)
  also_known has stores pull rest asks chunks chunk now is next ended h known =
      elim (has h) as (λ v. has h ≡ v → (v || (has pull.from && same_host pull.by h)) ≡ true → Has (fed stores pull chunk h)) [
        | true ↦ λ had _. chunk_kept stores pull chunk now.ordered h (now.known h had)
        | false ↦ λ _ by.
            let parts = both_true (has pull.from) (same_host pull.by h) by in
            let passed : has_passed (further pull chunk) token ≡ true = rw ended refl in
            let P : HostId → Type 0 = λ x. Has (fed stores pull chunk x) in
            subst P (host_is pull.by h parts.1) (passed_fed has stores pull rest asks chunks chunk now is next parts.0 passed)
      ] refl known

  -- the next pull begins
  begun_next : (has : HostId → Bool) (stores : Stores) (pull : Pulling) (route : Route) (rest : List Route) (asks : List ChunkAsk) (chunks : List ChunkMsg) (chunk : ChunkMsg) → Going has stores pull (route ∷ rest) asks chunks → IsChunk has pull chunk → is_next pull chunk ≡ true → not chunk.more ≡ true → Going (also has (route_of pull)) (fed stores pull chunk) (new_pull (next_session pull.session) pull.table pull.range route.by route.from) rest asks chunks
  begun_next has stores pull route rest asks chunks chunk now is next ended =
      record {
        ordered = chunk_ordered stores pull chunk now.ordered;
        known = also_known has stores pull (route ∷ rest) asks chunks chunk now is next ended;
        of_table = now.of_table;
        of_range = now.of_range;
        asks_are = λ n ask got.
            (let early : ask.session.0 ≤ pull.session.0 = (now.asks_are n ask got).early in
            record { early = omega arith; of_table = λ same. absurd (omega arith); of_range = λ same. absurd (omega arith); to_source = λ same. absurd (omega arith) });
        chunks_are = λ n c got.
            (let early : c.session.0 ≤ pull.session.0 = (now.chunks_are n c got).early in
            record { early = omega arith; carries = λ same _. absurd (omega arith) });
        passing = λ _ passed. cc passed;
        brings = now.brings;
      }

  abbrev Ends : List Step → Scene → Type 0
  Ends steps scene = IsDone (after_steps scene steps) → Holds (after_steps scene steps)

  -- what goes on from each way that things stand
  record Continues (P : Scene → Type 0) : Type 0 where
    keep : (has : HostId → Bool) (stores : Stores) (pull : Pulling) (rest : List Route) (asks : List ChunkAsk) (chunks : List ChunkMsg) → Going has stores pull rest asks chunks → P (going stores pull rest asks chunks)
    stop : (has : HostId → Bool) (stores : Stores) (rest : List Route) (asks : List ChunkAsk) (chunks : List ChunkMsg) → Stopped has stores → P (stopped stores rest asks chunks)

  after_done : (P : Scene → Type 0) → Continues P → (has : HostId → Bool) (stores : Stores) (pull : Pulling) (rest : List Route) (asks : List ChunkAsk) (chunks : List ChunkMsg) (chunk : ChunkMsg) → Going has stores pull rest asks chunks → IsChunk has pull chunk → is_next pull chunk ≡ true → not chunk.more ≡ true → P (record { stores = fed stores pull chunk; gather = begun (next_session pull.session) pull.table pull.range rest; asks = asks; chunks = chunks })
  after_done P on has stores pull [] asks chunks chunk now is next ended =
      on.stop (also has (route_of pull)) (fed stores pull chunk) [] asks chunks (record {
        ordered = chunk_ordered stores pull chunk now.ordered;
        known = also_known has stores pull [] asks chunks chunk now is next ended;
        brings = now.brings;
      })
  after_done P on has stores pull (route ∷ rest) asks chunks chunk now is next ended =
      on.keep (also has (route_of pull)) (fed stores pull chunk) (new_pull (next_session pull.session) pull.table pull.range route.by route.from) rest asks chunks
      (begun_next has stores pull route rest asks chunks chunk now is next ended)

  after_take : (P : Scene → Type 0) → Continues P → (has : HostId → Bool) (stores : Stores) (pull : Pulling) (rest : List Route) (asks : List ChunkAsk) (chunks : List ChunkMsg) (chunk : ChunkMsg) → Going has stores pull rest asks chunks → IsChunk has pull chunk → P (taken_by (going stores pull rest asks chunks) chunk (Some pull))
  after_take P on has stores pull rest asks chunks chunk now is =
      elim (is_next pull chunk) as (λ v. is_next pull chunk ≡ v → P (record {
        stores = with_store stores pull.by (cond v (cells_with (stores pull.by) pull.table chunk.cells) (stores pull.by));
        gather = cond v (gone_on (cond v (further pull chunk) pull) rest) (record { pull = Some pull; rest = rest });
        asks = asks;
        chunks = chunks;
      })) [
        | true ↦ λ next.
            elim (not chunk.more) as (λ v. not chunk.more ≡ v → P (record {
              stores = fed stores pull chunk;
              gather = cond v (begun (next_session pull.session) pull.table pull.range rest) (record { pull = Some (record pull { after = last_token pull.after chunk.cells; done = v }); rest = rest });
              asks = asks;
              chunks = chunks;
            })) [
              | true ↦ λ ended. after_done P on has stores pull rest asks chunks chunk now is next ended
              | false ↦ λ open_still.
                  (let Q : Bool → Type 0 = λ b. Going has (fed stores pull chunk) (record pull { after = last_token pull.after chunk.cells; done = b }) rest asks chunks in
                  on.keep has (fed stores pull chunk) (record pull { after = last_token pull.after chunk.cells; done = false }) rest asks chunks
                  (subst Q open_still (taken_more has stores pull rest asks chunks chunk now is next)))
            ] refl
        | false ↦ λ _.
            (let Q : Stores → Type 0 = λ s. P (going s pull rest asks chunks) in
            subst Q (sym (same_stores stores pull.by)) (on.keep has stores pull rest asks chunks now))
      ] refl

  ends_going : (steps : List Step) (has : HostId → Bool) (stores : Stores) (pull : Pulling) (rest : List Route) (asks : List ChunkAsk) (chunks : List ChunkMsg) → Going has stores pull rest asks chunks → Ends steps (going stores pull rest asks chunks)
  ends_going [] has stores pull rest asks chunks now = λ done. cc done
  ends_going (Ask ∷ steps) has stores pull rest asks chunks now =
      ends_going steps has stores pull rest (asks ++ next_ask pull ∷ []) chunks (asked_more has stores pull rest asks chunks now)
  ends_going (Serve number ∷ steps) has stores pull rest asks chunks now =
      elim (slice_get asks number) as (λ v. slice_get asks number ≡ v → Ends steps (served (going stores pull rest asks chunks) v)) [
        | None ↦ λ _. ends_going steps has stores pull rest asks chunks now
        | Some ask ↦ λ got. ends_going steps has stores pull rest asks (chunks ++ served_chunk (stores ask.to) ask ∷ []) (served_more has stores pull rest asks chunks ask now (now.asks_are number ask got))
      ] refl
  ends_going (Take number ∷ steps) has stores pull rest asks chunks now =
      elim (slice_get chunks number) as (λ v. slice_get chunks number ≡ v → Ends steps (taken (going stores pull rest asks chunks) v)) [
        | None ↦ λ _. ends_going steps has stores pull rest asks chunks now
        | Some chunk ↦ λ got.
            after_take (Ends steps) (record {
              keep = λ has2 stores2 pull2 rest2 asks2 chunks2 now2. ends_going steps has2 stores2 pull2 rest2 asks2 chunks2 now2;
              stop = λ has2 stores2 rest2 asks2 chunks2 now2 _. ends_stopped steps has2 stores2 rest2 asks2 chunks2 now2;
            }) has stores pull rest asks chunks chunk now (now.chunks_are number chunk got)
      ] refl
  ends_going (Put by t s ∷ steps) has stores pull rest asks chunks now =
      ends_going steps has (with_store stores by (put_at (stores by) (t, s))) pull rest asks chunks (put_more has stores pull rest asks chunks by t s now)

  pub begins : (session : Session) (stores : Stores) (routes : List Route) (steps : List Step) (has : HostId → Bool) → AreOrdered stores → ((h : HostId) → has h ≡ true → Has (stores h)) → spread has routes host ≡ true → Ends steps (at_start stores (begun session table range routes))
  begins session stores [] steps has ordered known brings = λ _.
      ends_stopped steps has stores [] [] [] (record { ordered = ordered; known = known; brings = brings })
  begins session stores (route ∷ rest) steps has ordered known brings =
      ends_going steps has stores (new_pull session table range route.by route.from) rest [] [] (record {
        ordered = ordered;
        known = known;
        of_table = refl;
        of_range = refl;
        asks_are = λ n ask got. cc got;
        chunks_are = λ n chunk got. cc got;
        passing = λ _ passed. cc passed;
        brings = brings;
      })

pub pulls_spread : PullsSpread
pulls_spread stores session table range routes steps token cell has host ordered within known done brings =
    begins table range token within cell host session stores routes steps has ordered known brings done
