-- What a tablet's list of replicas is, how a replica moves in it, and lists that are the same as sets.
use Rattle.std.specs.Prelude.{◌≤◌, ◌+◌, ℕ, zero, suc, ◌&&◌, Bool, not, List, [], ◌∷◌, length, if◌then◌else◌, IsTrue}
use Rattle.std.specs.List.{list_all}
use Rattle.base_ids.specs.Replicas.{same_replica, has_replica, has_host, on_distinct_hosts}
use Rattle.base_ids.specs.declared.ids.Replica.{Replica}

-- what a tablet's list is: one to eight replicas on distinct hosts
pub record IsReplicaSet (replicas : List Replica) : Type 0 where
  pub some : 1 ≤ length replicas
  pub few : length replicas ≤ 8
  pub distinct : IsTrue (on_distinct_hosts replicas)

-- a replica may move: the leaving one is in the list, and no replica is on the host of the pending one
pub record CanMove (replicas : List Replica) (leaving : Replica) (pending : Replica) : Type 0 where
  pub leaves : IsTrue (has_replica replicas leaving)
  pub comes : IsTrue (not (has_host replicas pending.host))

-- the list in which the pending replica replaces the leaving one, where that stood
abbrev pub replaced_list : Replica → Replica → List Replica → List Replica
replaced_list leaving pending [] = []
replaced_list leaving pending (replica ∷ rest) =
    if same_replica leaving replica then pending ∷ rest else replica ∷ replaced_list leaving pending rest

-- the same replicas, in whatever order
abbrev pub same_set : List Replica → List Replica → Bool
same_set a b = list_all (has_replica b) a && list_all (has_replica a) b

-- how many of the hosts below a number pass a test
abbrev pub hosts_below : ℕ → (ℕ → Bool) → ℕ
hosts_below zero test = 0
hosts_below (suc n) test = (if test n then 1 else 0) + hosts_below n test
