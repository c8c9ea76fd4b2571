-- What gathering brings about.
use Rattle.std.specs.Prelude.{◌≡◌, Bool, true, false, ◌||◌, ◌&&◌, not, List, [], ◌∷◌, Option, Some, None, is_none, if◌then◌else◌}
use Rattle.std.specs.List.{list_all, list_any}
use Rattle.base_ids.specs.Names.{same_host}
use Rattle.base_ids.specs.declared.ids.HostId.{HostId}
use Rattle.base_ids.specs.declared.ids.Session.{Session}
use Rattle.base_ids.specs.declared.ids.TableId.{TableId}
use Rattle.cell_merge.specs.Cell.{IsNotBelow}
use Rattle.cell_merge.specs.declared.cell.Cell.{Cell}
use Rattle.token_ring.specs.declared.ring.TokenRange.{TokenRange}
use Rattle.token_ring.specs.declared.token.Token.{Token}
use Rattle.replica_store.specs.Cells.{IsOrdered, cell_at, is_within}
use Rattle.gather_core.specs.declared.data.Route.{Route}
use Rattle.gather_core.specs.Gathers.{begun}
use Rattle.gather_core.specs.Steps.{Stores, Scene, Step, Ask, Serve, Take, Put, at_start, after_steps}

-- the hosts that have something once these pulls are made, one after the other, where these have it before
abbrev pub also : (HostId → Bool) → Route → HostId → Bool
also has route host = has host || (has route.from && same_host route.by host)

abbrev pub spread : (HostId → Bool) → List Route → HostId → Bool
spread has [] = has
spread has (route ∷ rest) = spread (also has route) rest

-- the stores are in order
abbrev pub AreOrdered : Stores → Type 0
AreOrdered stores = (host : HostId) → IsOrdered (stores host)

-- the end of these steps, from these stores and pulls on
abbrev pub end_of : Stores → Session → TableId → TokenRange → List Route → List Step → Scene
end_of stores session table range routes steps = after_steps (at_start stores (begun session table range routes)) steps

-- all pulls are done
abbrev pub IsDone : Scene → Type 0
IsDone scene = scene.gather.pull ≡ None

-- A cell of the range that some hosts hold at the start, or a greater one, is held at the end by each host to which the
-- pulls bring it: where a host that has it is pulled from, the host that pulls has it from then on.
abbrev pub PullsSpread : Type 0
PullsSpread =
    (stores : Stores) (session : Session) (table : TableId) (range : TokenRange) (routes : List Route)
    (steps : List Step) (token : Token) (cell : Option Cell) (has : HostId → Bool) (host : HostId)
    → AreOrdered stores
    → is_within table range table token ≡ true
    → ((other : HostId) → has other ≡ true → IsNotBelow (cell_at (stores other) table token) cell)
    → IsDone (end_of stores session table range routes steps)
    → spread has routes host ≡ true
    → IsNotBelow (cell_at ((end_of stores session table range routes steps).stores host) table token) cell

-- ---- where the stores take nothing but the chunks

abbrev pub is_put : Step → Bool
is_put (Put host table stored) = true
is_put step = false

abbrev pub ArePutFree : List Step → Type 0
ArePutFree steps = list_any is_put steps ≡ false

-- both hosts of the route are among these
abbrev pub is_among : (HostId → Bool) → Route → Bool
is_among hosts route = hosts route.by && hosts route.from

-- hosts that pull from one another come to hold no more than one of them did
abbrev pub PullsAdd : Type 0
PullsAdd =
    (stores : Stores) (session : Session) (table : TableId) (range : TokenRange) (routes : List Route)
    (steps : List Step) (token : Token) (most : Option Cell) (hosts : HostId → Bool) (host : HostId)
    → AreOrdered stores
    → is_within table range table token ≡ true
    → ArePutFree steps
    → list_all (is_among hosts) routes ≡ true
    → ((other : HostId) → hosts other ≡ true → IsNotBelow most (cell_at (stores other) table token))
    → hosts host ≡ true
    → IsNotBelow most (cell_at ((end_of stores session table range routes steps).stores host) table token)

-- a host keeps what it has of other tables and outside of the range, and keeps all where it does not pull
pub record IsKept
    (stores : Stores) (table : TableId) (range : TokenRange) (routes : List Route) (end : Stores) : Type 0 where
  pub outside :
      (host : HostId) (other : TableId) (token : Token) → is_within table range other token ≡ false →
      cell_at (end host) other token ≡ cell_at (stores host) other token
  pub others :
      (host : HostId) → list_any (λ (route : Route). same_host route.by host) routes ≡ false →
      end host ≡ stores host

abbrev pub PullsKeep : Type 0
PullsKeep =
    (stores : Stores) (session : Session) (table : TableId) (range : TokenRange) (routes : List Route)
    (steps : List Step)
    → AreOrdered stores
    → ArePutFree steps
    → IsKept stores table range routes (end_of stores session table range routes steps).stores
