-- The pulls come to an end: ask, serve, take, and again.
use Rattle.std.proofs.Common.{◌≡◌, ◌+◌, ◌-◌, ◌<◌, ◌≤◌, ◌==◌, ◌&&◌, ◌||◌, ℕ, zero, suc, Bool, true, false, cond, not, Option, Some, None, List, [], ◌∷◌, ◌++◌, take, length, length-take, get_or, nat_lt, arith, refl, ap, sym, subst, ◌∙◌}
use Rattle.std.specs.Prelude.{slice_get}
use Rattle.std.specs.List.{list_any, list_all}
use Rattle.std.proofs.lemmas.Bool.Decides.{nat_tests}
use Rattle.base_ids.specs.Names.{same_host, same_session}
use Rattle.base_ids.specs.declared.ids.HostId.{HostId}
use Rattle.base_ids.specs.declared.ids.Session.{Session}
use Rattle.base_ids.specs.declared.ids.TableId.{TableId}
use Rattle.token_ring.specs.declared.ring.TokenRange.{TokenRange}
use Rattle.token_ring.specs.declared.token.Token.{Token}
use Rattle.replica_store.specs.declared.store.Stored.{Stored}
use Rattle.replica_store.specs.Cells.{Cells, IsOrdered, range_cells}
use Rattle.replica_store.specs.Puts.{cells_with}
use Rattle.replica_store.proofs.GatherLemmas.{fewer_left}
use Rattle.stream_core.specs.Pulls.{Pulling, next_ask, is_next, same_after, pull_after, cells_after, served_chunk, most_cells, last_token}
use Rattle.stream_core.specs.declared.data.ChunkAsk.{ChunkAsk}
use Rattle.stream_core.specs.declared.data.ChunkMsg.{ChunkMsg}
use Rattle.stream_core.proofs.ChunkLemmas.{last_token-last}
use Rattle.gather_core.specs.declared.data.Route.{Route}
use Rattle.gather_core.specs.Gathers.{Gathering, begun, next_session, gone_on, gather_with, first_of, others_of}
use Rattle.gather_core.specs.Laws.{AreOrdered, is_put}
use Rattle.gather_core.specs.Steps.{Stores, Scene, Step, Ask, Serve, Take, with_store, served, taken, taken_by, after_step, after_steps}
use Rattle.gather_core.specs.Ends.{is_apart, Ending, HasEnding, PullsEnd}
use Rattle.gather_core.proofs.PutManyLemmas.{ordered_with}
use Rattle.gather_core.proofs.SpreadLemmas.{store_has}

-- ---- what is left falls

any_default : {X : Type 0} (xs : List X) (i : ℕ) (d e : X) → i < length xs → get_or xs i d ≡ get_or xs i e
any_default [] i d e within = absurd (omega arith)
any_default (x ∷ xs) zero d e within = refl
any_default (x ∷ xs) (suc i) d e within = any_default xs i d e (omega arith)

pub take_own : {X : Type 0} (n : ℕ) (xs : List X) → take n xs ≡ take (length (take n xs)) xs
take_own zero xs = refl
take_own (suc n) [] = refl
take_own (suc n) (x ∷ xs) = ap (λ l. x ∷ l) (take_own n xs)

pub fewer : (xs : Cells) (table : TableId) (range : TokenRange) (after : Option Token) (cells : List Stored) → IsOrdered xs → cells ≡ take (length cells) (range_cells xs table range after) → 0 < length cells → length (range_cells xs table range (last_token after cells)) < length (range_cells xs table range after)
fewer xs table range after [] ordered are some = absurd (omega arith)
fewer xs table range after (c ∷ cs) ordered are some =
    let last : Stored = get_or (c ∷ cs) (length (c ∷ cs) - 1) c in
    let is_last : last ≡ get_or (c ∷ cs) (length (c ∷ cs) - 1) last = any_default (c ∷ cs) (length (c ∷ cs) - 1) c last (omega arith) in
    let P : Option Token → Type 0 = λ t. length (range_cells xs table range t) < length (range_cells xs table range after) in
    subst P (last_token-last after (c ∷ cs) last some is_last) (fewer_left xs table range after (c ∷ cs) last ordered are some is_last)

-- ---- one round

last_got : {X : Type 0} (xs : List X) (x : X) → slice_get (xs ++ x ∷ []) (length xs) ≡ Some x
last_got [] x = refl
last_got (y ∷ xs) x = last_got xs x

same_token : (after : Option Token) → same_after after after ≡ true
same_token None = refl
same_token (Some token) = grind (arith, nat_tests)

pub next_is : (stores : Stores) (pull : Pulling) → pull.done ≡ false → is_next pull (served_chunk (stores pull.from) (next_ask pull)) ≡ true
next_is stores pull going =
    let session : same_session pull.session pull.session ≡ true = grind (arith, nat_tests) in
    rw (session, same_token pull.after, going) refl

abbrev pub fed : Pulling → ChunkMsg → Pulling
fed pull chunk = record pull { after = last_token pull.after chunk.cells; done = not chunk.more }

abbrev pub new_stores : Stores → Pulling → ChunkMsg → Stores
new_stores stores pull chunk = with_store stores pull.by (cells_with (stores pull.by) pull.table chunk.cells)

-- the scene after a round
pub round : (stores : Stores) (pull : Pulling) (rest : List Route) (asks : List ChunkAsk) (chunks : List ChunkMsg) → pull.done ≡ false
    → (let chunk : ChunkMsg = served_chunk (stores pull.from) (next_ask pull) in
    let from : Scene = record { stores = stores; gather = record { pull = Some pull; rest = rest }; asks = asks; chunks = chunks } in
    let to : Scene = record { stores = new_stores stores pull chunk; gather = gone_on (fed pull chunk) rest; asks = asks ++ next_ask pull ∷ []; chunks = chunks ++ chunk ∷ [] } in
    after_steps from (Ask ∷ Serve (length asks) ∷ Take (length chunks) ∷ []) ≡ to)
round stores pull rest asks chunks going =
    let chunk : ChunkMsg = served_chunk (stores pull.from) (next_ask pull) in
    rw (last_got asks (next_ask pull), last_got chunks chunk, next_is stores pull going) refl

-- an ending after a round is one from before it
by_round : (stores : Stores) (pull : Pulling) (rest : List Route) → pull.done ≡ false
    → (let chunk : ChunkMsg = served_chunk (stores pull.from) (next_ask pull) in
    HasEnding (new_stores stores pull chunk) (gone_on (fed pull chunk) rest)
    → HasEnding stores (record { pull = Some pull; rest = rest }))
by_round stores pull rest going after asks chunks =
    let chunk : ChunkMsg = served_chunk (stores pull.from) (next_ask pull) in
    let end = after (asks ++ next_ask pull ∷ []) (chunks ++ chunk ∷ []) in
    let Is : Scene → Type 0 = λ s. (after_steps s end.steps).gather.pull ≡ None in
    record {
      steps = Ask ∷ Serve (length asks) ∷ Take (length chunks) ∷ end.steps;
      free = end.free;
      done = subst Is (sym (round stores pull rest asks chunks going)) end.done;
    }

pub not_true : (b : Bool) → not b ≡ true → b ≡ false
not_true true e = cc e
not_true false e = refl

pub both_true : (a b : Bool) → (a && b) ≡ true → (a ≡ true) × (b ≡ true)
both_true true true both = (refl, refl)
both_true true false both = cc
both_true false b both = cc

-- the source keeps what it holds
pub source_same : (stores : Stores) (pull : Pulling) (cells : Cells) → same_host pull.by pull.from ≡ false → with_store stores pull.by cells pull.from ≡ stores pull.from
source_same stores pull cells apart = rw apart refl

pub ordered_new : (stores : Stores) (pull : Pulling) (chunk : ChunkMsg) → AreOrdered stores → AreOrdered (new_stores stores pull chunk)
ordered_new stores pull chunk ordered h =
    store_has (λ h cells. IsOrdered cells) stores pull.by (cells_with (stores pull.by) pull.table chunk.cells) (ordered_with (stores pull.by) pull.table chunk.cells (ordered pull.by)) h (ordered h)

-- a pull ends, and so do those after it
ends_in : (n : ℕ) (rest : List Route) → ((stores : Stores) (session : Session) (table : TableId) (range : TokenRange) → AreOrdered stores → HasEnding stores (begun session table range rest)) → (stores : Stores) (pull : Pulling) → AreOrdered stores → pull.done ≡ false → same_host pull.by pull.from ≡ false → length (range_cells (stores pull.from) pull.table pull.range pull.after) < n → HasEnding stores (record { pull = Some pull; rest = rest })
ends_in zero rest next stores pull ordered going apart left = absurd (omega arith)
ends_in (suc n) rest next stores pull ordered going apart left =
    let all : List Stored = range_cells (stores pull.from) pull.table pull.range pull.after in
    let chunk : ChunkMsg = served_chunk (stores pull.from) (next_ask pull) in
    let new : Stores = new_stores stores pull chunk in
    let P : Bool → Type 0 = λ more. HasEnding new (gone_on (record pull { after = last_token pull.after chunk.cells; done = not more }) rest) in
    let goes : P (nat_lt most_cells (length all)) =
    elim (nat_lt most_cells (length all)) as (λ b. nat_lt most_cells (length all) ≡ b → P b) [
      | true ↦ λ more. (
          let many : 64 < length all = grind (arith, nat_tests, more) in
          let falls = fewer (stores pull.from) pull.table pull.range pull.after (take 64 all) (ordered pull.from) (take_own 64 all) (omega (arith, length-take 64 all)) in
          let kept = source_same stores pull (cells_with (stores pull.by) pull.table chunk.cells) apart in
          let pull_next : Pulling = record pull { after = last_token pull.after chunk.cells; done = false } in
          let L : Cells → Type 0 = λ cells. length (range_cells cells pull.table pull.range (last_token pull.after chunk.cells)) < n in
          let less : L (stores pull.from) = omega (arith, falls, left) in
          ends_in n rest next new pull_next (ordered_new stores pull chunk ordered) refl apart (subst L (sym kept) less))
      | false ↦ λ _. next new (next_session pull.session) pull.table pull.range (ordered_new stores pull chunk ordered)
    ] refl in
    by_round stores pull rest going goes

pub pulls_end : PullsEnd
pulls_end stores session table range [] ordered apart = λ asks chunks. record { steps = []; free = refl; done = refl }
pulls_end stores session table range (route ∷ rest) ordered apart =
    let both = both_true (is_apart route) (list_all is_apart rest) apart in
    let all : List Stored = range_cells (stores route.from) table range None in
    ends_in (suc (length all)) rest (λ s i t r o. pulls_end s i t r rest o both.1) stores (record { session = session; table = table; range = range; by = route.by; from = route.from; after = None; done = false }) ordered refl (not_true (same_host route.by route.from) both.0) (omega arith)
