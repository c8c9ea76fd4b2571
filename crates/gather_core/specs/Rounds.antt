-- Rounds: the next ask is served and its chunk taken at once.
use Rattle.std.specs.Prelude.{◌≡◌, ℕ, suc, ◌<◌, nat_lt, Bool, true, false, not, ◌&&◌, List, [], ◌∷◌, length, slice_get, Option, Some, None, IfSome, if◌then◌else◌}
use Rattle.std.specs.List.{list_all}
use Rattle.base_ids.specs.Names.{same_host, same_session}
use Rattle.base_ids.specs.declared.ids.Session.{Session}
use Rattle.base_ids.specs.declared.ids.HostId.{HostId}
use Rattle.replica_store.specs.Cells.{Cells, range_cells}
use Rattle.stream_core.specs.Pulls.{Pulling, next_ask, cells_after, served_chunk}
use Rattle.stream_core.specs.declared.data.ChunkAsk.{ChunkAsk}
use Rattle.stream_core.specs.declared.data.ChunkMsg.{ChunkMsg}
use Rattle.gather_core.specs.declared.data.Route.{Route}
use Rattle.gather_core.specs.Gathers.{Gathering, gather_after, stored_after}
use Rattle.gather_core.specs.Laws.{AreOrdered, ArePutFree}
use Rattle.gather_core.specs.Steps.{Stores, Scene, Step, with_store, after_steps}

-- what the hosts hold, the one of number n the n-th store
abbrev pub of_store : {X : Type 0} → (X → Cells) → Option X → Cells
of_store cells None = []
of_store cells (Some store) = cells store

abbrev pub cells_in : {X : Type 0} → (X → Cells) → List X → Stores
cells_in cells stores host = of_store cells (slice_get stores host.0)

-- the chunk that is served for an ask, and what the stores and the pulls are once it is taken
abbrev pub chunk_for : Stores → ChunkAsk → ChunkMsg
chunk_for stores ask = served_chunk (stores ask.to) ask

abbrev pub round_stores : Stores → Gathering → ChunkAsk → Stores
round_stores stores gather ask =
    with_store stores ask.by (stored_after gather (stores ask.by) (chunk_for stores ask))

abbrev pub round_gather : Stores → Gathering → ChunkAsk → Gathering
round_gather stores gather ask = gather_after gather (chunk_for stores ask)

-- two hosts that have a store, and are not the same
abbrev pub are_fit : ℕ → HostId → HostId → Bool
are_fit count by from = not (same_host by from) && (nat_lt by.0 count && nat_lt from.0 count)

abbrev pub is_fit : ℕ → Route → Bool
is_fit count route = are_fit count route.by route.from

-- the pulls can go on: the one that goes on is not done, and all are between two hosts that have a store
pub record CanGather (count : ℕ) (gather : Gathering) : Type 0 where
  pub going : IfSome gather.pull (λ pull. pull.done ≡ false)
  pub pull_fit : IfSome gather.pull (λ pull. are_fit count pull.by pull.from ≡ true)
  pub rest_fit : list_all (is_fit count) gather.rest ≡ true

-- steps without puts that lead from a scene to these stores and pulls
pub record Leads (scene : Scene) (stores : Stores) (gather : Gathering) : Type 0 where
  pub steps : List Step
  pub free : ArePutFree steps
  pub stores_are : (after_steps scene steps).stores ≡ stores
  pub gather_is : (after_steps scene steps).gather ≡ gather

-- whatever was asked and served before, there are such steps
abbrev pub Comes : Stores → Gathering → Stores → Gathering → Type 0
Comes stores gather new_stores new_gather =
    (asks : List ChunkAsk) (chunks : List ChunkMsg)
    → Leads (record { stores = stores; gather = gather; asks = asks; chunks = chunks }) new_stores new_gather

-- how many pulls are not done
abbrev pub pulls_with : Option Pulling → ℕ → ℕ
pulls_with None n = n
pulls_with (Some pull) n = suc n

abbrev pub pulls_left : Gathering → ℕ
pulls_left gather = pulls_with gather.pull (length gather.rest)

-- how many cells the pull of this session has before it, and one; none where it is done
abbrev pub cells_left : Stores → Session → Option Pulling → ℕ
cells_left stores session None = 0
cells_left stores session (Some pull) =
    if same_session pull.session session
    then suc (length (range_cells (stores pull.from) pull.table pull.range pull.after))
    else 0

-- the pull of this session is the one that goes on
abbrev pub is_of : Session → Option Pulling → Bool
is_of session None = false
is_of session (Some pull) = same_session pull.session session

-- how many pulls are not done, and one more where the one of this session is
abbrev pub left_with : Session → Gathering → ℕ
left_with session gather = if is_of session gather.pull then pulls_left gather else suc (pulls_left gather)

-- from some stores and pulls on, these were come to
pub record IsCome
    (count : ℕ) (stores : Stores) (gather : Gathering) (new_stores : Stores) (new_gather : Gathering) : Type 0 where
  pub can : CanGather count new_gather
  pub ordered : AreOrdered new_stores
  pub comes : Comes stores gather new_stores new_gather
