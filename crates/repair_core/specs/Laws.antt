-- What a repair brings about, by any list of steps.
use Rattle.std.specs.Prelude.{◌≡◌, true, false, List}
use Rattle.base_ids.specs.Replicas.{has_replica, has_host}
use Rattle.base_ids.specs.declared.ids.HostId.{HostId}
use Rattle.base_ids.specs.declared.ids.Replica.{Replica}
use Rattle.base_ids.specs.declared.ids.TableId.{TableId}
use Rattle.cell_merge.specs.Cell.{IsNotBelow}
use Rattle.token_ring.specs.declared.ring.TokenRange.{TokenRange}
use Rattle.token_ring.specs.declared.token.Token.{Token}
use Rattle.replica_store.specs.Cells.{cell_at, is_within}
use Rattle.gather_core.specs.Held.{held, greatest_held}
use Rattle.gather_core.specs.Laws.{AreOrdered, IsDone, ArePutFree}
use Rattle.gather_core.specs.Steps.{Stores, Scene, Step, at_start, after_steps}
use Rattle.repair_core.specs.Repairs.{repair_of}

-- how things stand after steps of a repair from the start on
abbrev pub end_of : Stores → TableId → TokenRange → List Replica → List Step → Scene
end_of stores table range replicas steps = after_steps (at_start stores (repair_of table range replicas)) steps

-- once it is done, every replica holds no less than any of them held at the start
abbrev pub RepairGathers : Type 0
RepairGathers =
    (stores : Stores) (table : TableId) (range : TokenRange) (replicas : List Replica) (steps : List Step)
    (from to : Replica) (token : Token)
    → AreOrdered stores
    → IsDone (end_of stores table range replicas steps)
    → has_replica replicas from ≡ true
    → has_replica replicas to ≡ true
    → is_within table range table token ≡ true
    → IsNotBelow (held (end_of stores table range replicas steps).stores table token to)
    (held stores table token from)

-- where the stores take nothing but the chunks: every replica holds the greatest of what they held, and elsewhere all
-- is as it was
pub record IsRepaired
    (stores : Stores) (table : TableId) (range : TokenRange) (replicas : List Replica) (end : Stores) : Type 0 where
  pub greatest :
      (token : Token) (replica : Replica) → is_within table range table token ≡ true →
      has_replica replicas replica ≡ true →
      held end table token replica ≡ greatest_held stores table token replicas
  pub outside :
      (host : HostId) (other : TableId) (token : Token) → is_within table range other token ≡ false →
      cell_at (end host) other token ≡ cell_at (stores host) other token
  pub others : (host : HostId) → has_host replicas host ≡ false → end host ≡ stores host

abbrev pub RepairIsExact : Type 0
RepairIsExact =
    (stores : Stores) (table : TableId) (range : TokenRange) (replicas : List Replica) (steps : List Step)
    → AreOrdered stores
    → ArePutFree steps
    → IsDone (end_of stores table range replicas steps)
    → IsRepaired stores table range replicas (end_of stores table range replicas steps).stores
