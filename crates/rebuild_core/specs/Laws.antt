-- What a rebuild brings about, by any list of steps.
use Rattle.std.specs.Prelude.{◌≡◌, ◌≤◌, ℕ, Bool, true, false, List, Option, Some}
use Rattle.std.specs.List.{count_by}
use Rattle.base_ids.specs.Replicas.{has_replica, has_host, on_distinct_hosts}
use Rattle.base_ids.specs.Names.{same_host}
use Rattle.base_ids.specs.declared.ids.HostId.{HostId}
use Rattle.base_ids.specs.declared.ids.Replica.{Replica}
use Rattle.base_ids.specs.declared.ids.Session.{Session}
use Rattle.base_ids.specs.declared.ids.TableId.{TableId}
use Rattle.cell_merge.specs.Cell.{IsNotBelow, greater_cell}
use Rattle.cell_merge.specs.declared.cell.Cell.{Cell}
use Rattle.token_ring.specs.declared.ring.TokenRange.{TokenRange}
use Rattle.token_ring.specs.declared.token.Token.{Token}
use Rattle.tablet_map.specs.Replicas.{replaced_list}
use Rattle.replica_store.specs.Cells.{cell_at, is_within}
use Rattle.gather_core.specs.Held.{held, greatest_held, holds}
use Rattle.gather_core.specs.Laws.{AreOrdered, IsDone, ArePutFree}
use Rattle.gather_core.specs.Steps.{Stores, Scene, Step, at_start, after_steps}
use Rattle.rebuild_core.specs.Rebuilds.{rebuild_of, others_than}

-- how things stand after steps of a rebuild from the start on
abbrev pub end_of : Stores → Session → TableId → TokenRange → HostId → List Replica → List Step → Scene
end_of stores first table range pending sources steps =
    after_steps (at_start stores (rebuild_of first table range pending sources)) steps

-- once it is done, the pending host holds no less than any source held at the start
abbrev pub RebuildGathers : Type 0
RebuildGathers =
    (stores : Stores) (first : Session) (table : TableId) (range : TokenRange) (pending : HostId)
    (sources : List Replica) (steps : List Step) (source : Replica) (token : Token)
    → AreOrdered stores
    → IsDone (end_of stores first table range pending sources steps)
    → has_replica sources source ≡ true
    → is_within table range table token ≡ true
    → IsNotBelow (cell_at ((end_of stores first table range pending sources steps).stores pending) table token)
    (held stores table token source)

-- what w of the old list held, and w is at least 2, is held by w of the new one, where the sources are all but the lost
-- replica
abbrev pub RebuildCovers : Type 0
RebuildCovers =
    (stores : Stores) (first : Session) (table : TableId) (range : TokenRange) (replicas : List Replica)
    (lost pending : Replica) (steps : List Step) (token : Token) (cell : Cell) (w : ℕ)
    → AreOrdered stores
    → IsDone (end_of stores first table range pending.host (others_than lost replicas) steps)
    → has_replica replicas lost ≡ true
    → is_within table range table token ≡ true
    → 2 ≤ w
    → w ≤ count_by (holds stores table token cell) replicas
    → w ≤ count_by
    (holds (end_of stores first table range pending.host (others_than lost replicas) steps).stores table token cell)
    (replaced_list lost pending replicas)

-- where the stores take nothing but the chunks: the pending host holds the greatest of what it and the sources held,
-- and elsewhere all is as it was
pub record IsRebuilt
    (stores : Stores) (table : TableId) (range : TokenRange) (pending : HostId) (sources : List Replica) (end : Stores)
    : Type 0 where
  pub greatest :
      (token : Token) → is_within table range table token ≡ true →
      cell_at (end pending) table token ≡
      greater_cell (cell_at (stores pending) table token) (greatest_held stores table token sources)
  pub outside :
      (other : TableId) (token : Token) → is_within table range other token ≡ false →
      cell_at (end pending) other token ≡ cell_at (stores pending) other token
  pub others : (host : HostId) → same_host pending host ≡ false → end host ≡ stores host

-- of stores that are so rebuilt from all but the lost replica: what w of the old list held, and w is at least 2, is held
-- by w of the new one
abbrev pub RebuiltCovers : Type 0
RebuiltCovers =
    (stores end : Stores) (table : TableId) (range : TokenRange) (replicas : List Replica) (lost pending : Replica)
    (token : Token) (cell : Cell) (w : ℕ)
    → IsRebuilt stores table range pending.host (others_than lost replicas) end
    → has_replica replicas lost ≡ true
    → is_within table range table token ≡ true
    → 2 ≤ w
    → w ≤ count_by (holds stores table token cell) replicas
    → w ≤ count_by (holds end table token cell) (replaced_list lost pending replicas)

abbrev pub RebuildIsExact : Type 0
RebuildIsExact =
    (stores : Stores) (first : Session) (table : TableId) (range : TokenRange) (pending : HostId)
    (sources : List Replica) (steps : List Step)
    → AreOrdered stores
    → ArePutFree steps
    → IsDone (end_of stores first table range pending sources steps)
    → IsRebuilt stores table range pending sources (end_of stores first table range pending sources steps).stores
