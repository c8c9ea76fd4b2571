-- Tablets that are rebuilt one after the other.
use Rattle.std.specs.Prelude.{◌≡◌, ◌≤◌, ◌<◌, ℕ, Bool, true, false, ◌&&◌, List, [], ◌∷◌, length, slice_get, Some}
use Rattle.std.specs.List.{list_any}
use Rattle.base_ids.specs.Names.{same_host}
use Rattle.base_ids.specs.Replicas.{has_host, on_distinct_hosts}
use Rattle.base_ids.specs.declared.ids.HostId.{HostId}
use Rattle.base_ids.specs.declared.ids.TableId.{TableId}
use Rattle.cell_merge.specs.Cell.{greater_cell}
use Rattle.token_ring.specs.declared.token.Token.{Token}
use Rattle.replica_store.specs.Cells.{cell_at, is_within}
use Rattle.gather_core.specs.Held.{greatest_held}
use Rattle.gather_core.specs.Steps.{Stores}
use Rattle.rebuild_core.specs.Rebuilds.{are_known}
use Rattle.rebuild_core.specs.declared.tablets.LostTablet.{LostTablet}

-- the tablet can be rebuilt among so many stores
pub record CanRebuild (count : ℕ) (tablet : LostTablet) : Type 0 where
  pub some : 1 ≤ length tablet.sources
  pub few : length tablet.sources ≤ 7
  pub distinct : on_distinct_hosts tablet.sources ≡ true
  pub other : has_host tablet.sources tablet.pending ≡ false
  pub pending_known : tablet.pending.0 < count
  pub known : are_known count tablet.sources ≡ true

-- the tablet has the key
abbrev pub has_key : TableId → Token → LostTablet → Bool
has_key table token tablet = is_within tablet.table tablet.range table token

-- no two of the tablets have a key in common
abbrev pub AreApart : List LostTablet → Type 0
AreApart tablets =
    (n m : ℕ) (one other : LostTablet) (table : TableId) (token : Token)
    → n < m
    → slice_get tablets n ≡ Some one
    → slice_get tablets m ≡ Some other
    → has_key table token other ≡ true
    → has_key table token one ≡ false

-- the host is to have a tablet with the key
abbrev pub is_rebuilt_on : HostId → TableId → Token → LostTablet → Bool
is_rebuilt_on host table token tablet = same_host tablet.pending host && has_key table token tablet

-- the new replica of each tablet holds the greatest of what its host and the sources held at the start, and all else is
-- as it was
pub record AreRebuilt (stores : Stores) (tablets : List LostTablet) (end : Stores) : Type 0 where
  pub greatest :
      (n : ℕ) (tablet : LostTablet) (token : Token) → slice_get tablets n ≡ Some tablet →
      has_key tablet.table token tablet ≡ true →
      cell_at (end tablet.pending) tablet.table token ≡
      greater_cell (cell_at (stores tablet.pending) tablet.table token)
      (greatest_held stores tablet.table token tablet.sources)
  pub elsewhere :
      (host : HostId) (table : TableId) (token : Token) → list_any (is_rebuilt_on host table token) tablets ≡ false →
      cell_at (end host) table token ≡ cell_at (stores host) table token
