-- Where the stores take nothing but the chunks.
use Rattle.std.proofs.Common.{◌≡◌, ◌+◌, ◌<◌, ◌≤◌, ◌⊎◌, inl, inr, ◌==◌, ◌&&◌, ◌||◌, ℕ, zero, suc, Bool, true, false, cond, not, Option, Some, None, List, [], ◌∷◌, ◌++◌, take, arith, refl, ap, sym, subst, ◌∙◌}
use Rattle.std.specs.Prelude.{slice_get, option_map, option_to_list}
use Rattle.std.specs.List.{list_any, list_all}
use Rattle.std.proofs.lemmas.Bool.{eqb-true}
use Rattle.std.proofs.lemmas.Bool.Decides.{nat_tests}
use Rattle.base_ids.specs.Names.{same_host}
use Rattle.base_ids.specs.declared.ids.HostId.{HostId}
use Rattle.base_ids.specs.declared.ids.Session.{Session}
use Rattle.base_ids.specs.declared.ids.TableId.{TableId}
use Rattle.cell_merge.specs.Cell.{IsNotBelow}
use Rattle.cell_merge.specs.declared.cell.Cell.{Cell}
use Rattle.token_ring.specs.declared.ring.TokenRange.{TokenRange}
use Rattle.token_ring.specs.declared.token.Token.{Token}
use Rattle.replica_store.specs.declared.store.Stored.{Stored}
use Rattle.replica_store.specs.Cells.{Cells, IsOrdered, cell_at, only_at, is_same, is_within, range_cells, rank}
use Rattle.replica_store.specs.Puts.{cells_with}
use Rattle.replica_store.proofs.RankLemmas.{is_same-rank, is_within-rank}
use Rattle.stream_core.specs.Pulls.{Pulling, new_pull, next_ask, is_next, pull_after, served_chunk, most_cells, last_token}
use Rattle.stream_core.specs.declared.data.ChunkAsk.{ChunkAsk}
use Rattle.stream_core.specs.declared.data.ChunkMsg.{ChunkMsg}
use Rattle.gather_core.specs.declared.data.Route.{Route}
use Rattle.gather_core.specs.Gathers.{Gathering, begun, next_session, gone_on, gather_with, gather_after, first_of, others_of}
use Rattle.gather_core.specs.Laws.{AreOrdered, end_of, is_put, ArePutFree, is_among, PullsAdd, IsKept, PullsKeep}
use Rattle.gather_core.specs.Steps.{Stores, Scene, Step, Ask, Serve, Take, Put, with_store, served, taken, taken_by, after_step, after_steps, at_start}
use Rattle.gather_core.proofs.PutManyLemmas.{ordered_with, with_bounded, with_elsewhere, EachOf, each_weaker, IsOf, chunk_cells_of}
use Rattle.gather_core.proofs.SameCellLemmas.{cell_same, within_same}
use Rattle.gather_core.proofs.SpreadLemmas.{got_more, store_has, same_stores}

both_true : (a b : Bool) → (a && b) ≡ true → (a ≡ true) × (b ≡ true)
both_true true true both = (refl, refl)
both_true true false both = cc
both_true false b both = cc

-- what holds of the hosts that pull, and of those that are pulled from
abbrev pub RoutesOf : (HostId → Type 0) → (HostId → Type 0) → List Route → Type 0
RoutesOf IsBy IsFrom [] = Unit {0}
RoutesOf IsBy IsFrom (route ∷ rest) = IsBy route.by × IsFrom route.from × RoutesOf IsBy IsFrom rest

-- what holds of each host's cells and is kept by a chunk of such a host holds at the end
module _ (table : TableId) (range : TokenRange) (Good : HostId → Cells → Type 0) (IsBy : HostId → Type 0) (IsFrom : HostId → Type 0)
    (rule : (by from : HostId) (cells source : Cells) (after : Option Token) → IsBy by → IsFrom from → IsOrdered cells → IsOrdered source → Good by cells → Good from source → Good by (cells_with cells table (take most_cells (range_cells source table range after)))) where
  record IsAsk (ask : ChunkAsk) : Type 0 where
    of_table : ask.table ≡ table
    of_range : ask.range ≡ range
    to_from : IsFrom ask.to

  record IsChunk (chunk : ChunkMsg) : Type 0 where
    from : HostId
    is_from : IsFrom from
    source : Cells
    ordered : IsOrdered source
    good : Good from source
    after : Option Token
    are : chunk.cells ≡ take most_cells (range_cells source table range after)

  record IsPull (pull : Pulling) : Type 0 where
    of_table : pull.table ≡ table
    of_range : pull.range ≡ range
    by_by : IsBy pull.by
    from_from : IsFrom pull.from

  abbrev PullIs : Option Pulling → Type 0
  PullIs None = Unit {0}
  PullIs (Some pull) = IsPull pull

  abbrev RoutesAre : List Route → Type 0
  RoutesAre routes = RoutesOf IsBy IsFrom routes

  record Quiet (stores : Stores) (pull : Option Pulling) (rest : List Route) (asks : List ChunkAsk) (chunks : List ChunkMsg) : Type 0 where
    ordered : AreOrdered stores
    good : (h : HostId) → Good h (stores h)
    pull_is : PullIs pull
    rest_are : RoutesAre rest
    asks_are : (n : ℕ) (ask : ChunkAsk) → slice_get asks n ≡ Some ask → IsAsk ask
    chunks_are : (n : ℕ) (chunk : ChunkMsg) → slice_get chunks n ≡ Some chunk → IsChunk chunk

  abbrev scene_of : Stores → Option Pulling → List Route → List ChunkAsk → List ChunkMsg → Scene
  scene_of stores pull rest asks chunks = record { stores = stores; gather = record { pull = pull; rest = rest }; asks = asks; chunks = chunks }

  first_is : (session : Session) (t : TableId) (r : TokenRange) (routes : List Route) → t ≡ table → r ≡ range → RoutesAre routes → PullIs (first_of session t r routes)
  first_is session t r [] a b are = tt
  first_is session t r (route ∷ rest) a b are = record { of_table = a; of_range = b; by_by = are.0; from_from = are.1 }

  others_are : (routes : List Route) → RoutesAre routes → RoutesAre (others_of routes)
  others_are [] are = tt
  others_are (route ∷ rest) are = are.2

  asked : (stores : Stores) (pull : Option Pulling) (rest : List Route) (asks : List ChunkAsk) (chunks : List ChunkMsg) → Quiet stores pull rest asks chunks → (n : ℕ) (ask : ChunkAsk) → slice_get (asks ++ option_to_list (option_map next_ask pull)) n ≡ Some ask → IsAsk ask
  asked stores None rest asks chunks now n ask got = now.asks_are n ask (ap (λ (l : List ChunkAsk). slice_get l n) (sym (none_more asks)) ∙ got)
    where
      none_more : (l : List ChunkAsk) → l ++ [] ≡ l
      none_more [] = refl
      none_more (x ∷ xs) = ap (λ (l : List ChunkAsk). x ∷ l) (none_more xs)
  asked stores (Some pull) rest asks chunks now n ask got =
      elim (got_more asks (next_ask pull) ask n got) [
        | inl old ↦ now.asks_are n ask old
        | inr same ↦ (let P : ChunkAsk → Type 0 = IsAsk in subst P same (record { of_table = now.pull_is.of_table; of_range = now.pull_is.of_range; to_from = now.pull_is.from_from }))
      ]

  chunk_is : (stores : Stores) (ask : ChunkAsk) → AreOrdered stores → ((h : HostId) → Good h (stores h)) → IsAsk ask → IsChunk (served_chunk (stores ask.to) ask)
  chunk_is stores ask ordered good is =
      record {
        from = ask.to;
        is_from = is.to_from;
        source = stores ask.to;
        ordered = ordered ask.to;
        good = good ask.to;
        after = ask.after;
        are = λ i. take most_cells (range_cells (stores ask.to) (is.of_table i) (is.of_range i) ask.after);
      }

  -- the host that pulls after its next chunk
  fed_good : (stores : Stores) (pull : Pulling) (chunk : ChunkMsg) → AreOrdered stores → ((h : HostId) → Good h (stores h)) → IsPull pull → IsChunk chunk → (h : HostId) → Good h (with_store stores pull.by (cells_with (stores pull.by) pull.table chunk.cells) h)
  fed_good stores pull chunk ordered good is chunk_of h =
      let new : Cells = cells_with (stores pull.by) pull.table chunk.cells in
      let P : TableId × List Stored → Type 0 = λ x. Good pull.by (cells_with (stores pull.by) x.0 x.1) in
      let here : Good pull.by new =
      subst P (λ i. (sym is.of_table i, sym chunk_of.are i)) (rule pull.by chunk_of.from (stores pull.by) chunk_of.source chunk_of.after is.by_by chunk_of.is_from (ordered pull.by) chunk_of.ordered (good pull.by) chunk_of.good) in
      store_has Good stores pull.by new here h (good h)

  fed_ordered : (stores : Stores) (pull : Pulling) (chunk : ChunkMsg) → AreOrdered stores → AreOrdered (with_store stores pull.by (cells_with (stores pull.by) pull.table chunk.cells))
  fed_ordered stores pull chunk ordered other =
      store_has (λ h cells. IsOrdered cells) stores pull.by (cells_with (stores pull.by) pull.table chunk.cells) (ordered_with (stores pull.by) pull.table chunk.cells (ordered pull.by)) other (ordered other)

  abbrev further : Pulling → ChunkMsg → Bool → Pulling
  further pull chunk done = record pull { after = last_token pull.after chunk.cells; done = done }

  took : (P : Scene → Type 0) (keep : (stores : Stores) (pull : Option Pulling) (rest : List Route) (asks : List ChunkAsk) (chunks : List ChunkMsg) → Quiet stores pull rest asks chunks → P (scene_of stores pull rest asks chunks)) (stores : Stores) (pull : Pulling) (rest : List Route) (asks : List ChunkAsk) (chunks : List ChunkMsg) (chunk : ChunkMsg) → Quiet stores (Some pull) rest asks chunks → IsChunk chunk → P (taken_by (scene_of stores (Some pull) rest asks chunks) chunk (Some pull))
  took P keep stores pull rest asks chunks chunk now is =
      let fed : Stores = with_store stores pull.by (cells_with (stores pull.by) pull.table chunk.cells) in
      elim (is_next pull chunk) as (λ v. P (record {
        stores = with_store stores pull.by (cond v (cells_with (stores pull.by) pull.table chunk.cells) (stores pull.by));
        gather = cond v (gone_on (cond v (further pull chunk (not chunk.more)) pull) rest) (record { pull = Some pull; rest = rest });
        asks = asks;
        chunks = chunks;
      })) [
        | true ↦
            elim (not chunk.more) as (λ v. P (record {
              stores = fed;
              gather = cond v (begun (next_session pull.session) pull.table pull.range rest) (record { pull = Some (further pull chunk v); rest = rest });
              asks = asks;
              chunks = chunks;
            })) [
              | true ↦ keep fed (first_of (next_session pull.session) pull.table pull.range rest) (others_of rest) asks chunks (record {
                ordered = fed_ordered stores pull chunk now.ordered;
                good = fed_good stores pull chunk now.ordered now.good now.pull_is is;
                pull_is = first_is (next_session pull.session) pull.table pull.range rest now.pull_is.of_table now.pull_is.of_range now.rest_are;
                rest_are = others_are rest now.rest_are;
                asks_are = now.asks_are;
                chunks_are = now.chunks_are;
              })
              | false ↦ keep fed (Some (further pull chunk false)) rest asks chunks (record {
                ordered = fed_ordered stores pull chunk now.ordered;
                good = fed_good stores pull chunk now.ordered now.good now.pull_is is;
                pull_is = record { of_table = now.pull_is.of_table; of_range = now.pull_is.of_range; by_by = now.pull_is.by_by; from_from = now.pull_is.from_from };
                rest_are = now.rest_are;
                asks_are = now.asks_are;
                chunks_are = now.chunks_are;
              })
            ]
        | false ↦
            (let Q : Stores → Type 0 = λ s. P (scene_of s (Some pull) rest asks chunks) in
            subst Q (sym (same_stores stores pull.by)) (keep stores (Some pull) rest asks chunks now))
      ]

  took_by : (P : Scene → Type 0) (keep : (stores : Stores) (pull : Option Pulling) (rest : List Route) (asks : List ChunkAsk) (chunks : List ChunkMsg) → Quiet stores pull rest asks chunks → P (scene_of stores pull rest asks chunks)) (stores : Stores) (pull : Option Pulling) (rest : List Route) (asks : List ChunkAsk) (chunks : List ChunkMsg) (chunk : ChunkMsg) → Quiet stores pull rest asks chunks → IsChunk chunk → P (taken_by (scene_of stores pull rest asks chunks) chunk pull)
  took_by P keep stores None rest asks chunks chunk now is = keep stores None rest asks chunks now
  took_by P keep stores (Some pull) rest asks chunks chunk now is = took P keep stores pull rest asks chunks chunk now is

  abbrev Ends : List Step → Scene → Type 0
  Ends steps scene = (h : HostId) → Good h ((after_steps scene steps).stores h)

  quiet_ends : (steps : List Step) (stores : Stores) (pull : Option Pulling) (rest : List Route) (asks : List ChunkAsk) (chunks : List ChunkMsg) → ArePutFree steps → Quiet stores pull rest asks chunks → Ends steps (scene_of stores pull rest asks chunks)
  quiet_ends [] stores pull rest asks chunks free now = now.good
  quiet_ends (Ask ∷ steps) stores pull rest asks chunks free now =
      quiet_ends steps stores pull rest (asks ++ option_to_list (option_map next_ask pull)) chunks free (record {
        ordered = now.ordered;
        good = now.good;
        pull_is = now.pull_is;
        rest_are = now.rest_are;
        asks_are = asked stores pull rest asks chunks now;
        chunks_are = now.chunks_are;
      })
  quiet_ends (Serve number ∷ steps) stores pull rest asks chunks free now =
      elim (slice_get asks number) as (λ v. slice_get asks number ≡ v → Ends steps (served (scene_of stores pull rest asks chunks) v)) [
        | None ↦ λ _. quiet_ends steps stores pull rest asks chunks free now
        | Some ask ↦ λ got. quiet_ends steps stores pull rest asks (chunks ++ served_chunk (stores ask.to) ask ∷ []) free (record {
          ordered = now.ordered;
          good = now.good;
          pull_is = now.pull_is;
          rest_are = now.rest_are;
          asks_are = now.asks_are;
          chunks_are = λ n chunk there. elim (got_more chunks (served_chunk (stores ask.to) ask) chunk n there) [
            | inl old ↦ now.chunks_are n chunk old
            | inr same ↦ (let P : ChunkMsg → Type 0 = IsChunk in subst P same (chunk_is stores ask now.ordered now.good (now.asks_are number ask got)))
          ];
        })
      ] refl
  quiet_ends (Take number ∷ steps) stores pull rest asks chunks free now =
      elim (slice_get chunks number) as (λ v. slice_get chunks number ≡ v → Ends steps (taken (scene_of stores pull rest asks chunks) v)) [
        | None ↦ λ _. quiet_ends steps stores pull rest asks chunks free now
        | Some chunk ↦ λ got.
            took_by (Ends steps) (λ stores2 pull2 rest2 asks2 chunks2 now2. quiet_ends steps stores2 pull2 rest2 asks2 chunks2 free now2)
            stores pull rest asks chunks chunk now (now.chunks_are number chunk got)
      ] refl
  quiet_ends (Put by t s ∷ steps) stores pull rest asks chunks free now = cc free

  pub quiet : (stores : Stores) (session : Session) (routes : List Route) (steps : List Step) → AreOrdered stores → ArePutFree steps → RoutesAre routes → ((h : HostId) → Good h (stores h)) → (h : HostId) → Good h ((end_of stores session table range routes steps).stores h)
  quiet stores session routes steps ordered free are good =
      quiet_ends steps stores (first_of session table range routes) (others_of routes) [] [] free (record {
        ordered = ordered;
        good = good;
        pull_is = first_is session table range routes refl refl are;
        rest_are = others_are routes are;
        asks_are = λ n ask got. cc got;
        chunks_are = λ n chunk got. cc got;
      })

-- ---- a bound

-- cells of a bounded source are bounded
each_bounded : (most : Option Cell) (source : Cells) (table : TableId) (range : TokenRange) (token : Token) (s : Stored) → IsNotBelow most (cell_at source table token) → IsOf source table range s → IsNotBelow most (only_at table s.token s.cell table token)
each_bounded most source table range token s bound is =
    elim (is_same table s.token table token) as (λ v. is_same table s.token table token ≡ v → IsNotBelow most (cond v (Some s.cell) None)) [
      | true ↦ λ same.
          let P : Option Cell → Type 0 = IsNotBelow most in
          subst P (cell_same source table s.token token same ∙ is.told) bound
      | false ↦ λ _. none_below most
    ] refl
  where
    none_below : (c : Option Cell) → IsNotBelow c None
    none_below None = refl
    none_below (Some c) = refl

routes_among : (hosts : HostId → Bool) (routes : List Route) → list_all (is_among hosts) routes ≡ true → RoutesOf (λ h. hosts h ≡ true) (λ h. hosts h ≡ true) routes
routes_among hosts [] all = tt
routes_among hosts (route ∷ rest) all =
    let parts = both_true (is_among hosts route) (list_all (is_among hosts) rest) all in
    let two = both_true (hosts route.by) (hosts route.from) parts.0 in
    (two.0, two.1, routes_among hosts rest parts.1)

pub pulls_add : PullsAdd
pulls_add stores session table range routes steps token most hosts host ordered within free among bound is =
    quiet table range (λ h cells. hosts h ≡ true → IsNotBelow most (cell_at cells table token)) (λ h. hosts h ≡ true) (λ h. hosts h ≡ true)
    (λ by from cells source after by_in from_in cells_ordered source_ordered by_good from_good in_hosts.
    with_bounded most cells table (take most_cells (range_cells source table range after)) table token cells_ordered (by_good by_in)
    (each_weaker (IsOf source table range) (λ s. IsNotBelow most (only_at table s.token s.cell table token))
    (λ s of_source. each_bounded most source table range token s (from_good from_in) of_source)
    (take most_cells (range_cells source table range after)) (chunk_cells_of source table range after source_ordered)))
    stores session routes steps ordered free (routes_among hosts routes among) bound host is

-- ---- what is kept

any_routes : (routes : List Route) → RoutesOf (λ h. Unit {0}) (λ h. Unit {0}) routes
any_routes [] = tt
any_routes (route ∷ rest) = (tt, tt, any_routes rest)

apart : (table : TableId) (range : TokenRange) (source : Cells) (t : TableId) (k : Token) (s : Stored) → is_within table range t k ≡ false → IsOf source table range s → is_same table s.token t k ≡ false
apart table range source t k s outside is =
    elim (is_same table s.token t k) as (λ v. is_same table s.token t k ≡ v → v ≡ false) [
      | true ↦ λ same. (let in_it : is_within table range table s.token ≡ true = is.within in let both : is_within table range table s.token ≡ is_within table range t k = within_same table range s.token t k same in cc)
      | false ↦ λ _. refl
    ] refl

kept_outside : (stores : Stores) (session : Session) (table : TableId) (range : TokenRange) (routes : List Route) (steps : List Step) → AreOrdered stores → ArePutFree steps → (host : HostId) (t : TableId) (k : Token) → is_within table range t k ≡ false → cell_at ((end_of stores session table range routes steps).stores host) t k ≡ cell_at (stores host) t k
kept_outside stores session table range routes steps ordered free host t k outside =
    quiet table range (λ h cells. cell_at cells t k ≡ cell_at (stores h) t k) (λ h. Unit {0}) (λ h. Unit {0})
    (λ by from cells source after _ _ cells_ordered source_ordered by_good _.
    with_elsewhere cells table (take most_cells (range_cells source table range after)) t k cells_ordered
    (each_weaker (IsOf source table range) (λ s. is_same table s.token t k ≡ false)
    (λ s of_source. apart table range source t k s outside of_source)
    (take most_cells (range_cells source table range after)) (chunk_cells_of source table range after source_ordered))
    ∙ by_good)
    stores session routes steps ordered free (any_routes routes) (λ h. refl) host

or_second : (a b : Bool) → b ≡ true → (a || b) ≡ true
or_second true b h = refl
or_second false b h = h

routes_by : (is_by : HostId → Bool) (routes : List Route) → ((h : HostId) → list_any (λ (r : Route). same_host r.by h) routes ≡ true → is_by h ≡ true) → RoutesOf (λ h. is_by h ≡ true) (λ h. Unit {0}) routes
routes_by is_by [] each = tt
routes_by is_by (route ∷ rest) each =
    let same : same_host route.by route.by ≡ true = grind (arith, nat_tests) in
    let here : is_by route.by ≡ true = each route.by (rw same refl) in
    (here, tt, routes_by is_by rest (λ h later. each h (or_second (same_host route.by h) (list_any (λ (r : Route). same_host r.by h) rest) later)))

kept_others : (stores : Stores) (session : Session) (table : TableId) (range : TokenRange) (routes : List Route) (steps : List Step) → AreOrdered stores → ArePutFree steps → (host : HostId) → list_any (λ (r : Route). same_host r.by host) routes ≡ false → (end_of stores session table range routes steps).stores host ≡ stores host
kept_others stores session table range routes steps ordered free host no_pull =
    let is_by : HostId → Bool = λ h. list_any (λ (r : Route). same_host r.by h) routes in
    quiet table range (λ h cells. is_by h ≡ false → cells ≡ stores h) (λ h. is_by h ≡ true) (λ h. Unit {0})
    (λ by from cells source after pulls _ _ _ _ _ none. cc)
    stores session routes steps ordered free (routes_by is_by routes (λ h is. is)) (λ h _. refl) host no_pull

pub pulls_keep : PullsKeep
pulls_keep stores session table range routes steps ordered free =
    record {
      outside = λ host t k out. kept_outside stores session table range routes steps ordered free host t k out;
      others = λ host none. kept_others stores session table range routes steps ordered free host none;
    }
