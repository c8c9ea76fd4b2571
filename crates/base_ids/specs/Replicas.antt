-- Lists of replicas: when two are the same, and which hosts they are on.
use Rattle.std.specs.Prelude.{◌&&◌, ◌==◌, Bool, true, not, List, [], ◌∷◌, IsTrue}
use Rattle.std.specs.List.{list_any}
use Rattle.base_ids.specs.declared.ids.HostId.{HostId}
use Rattle.base_ids.specs.declared.ids.Replica.{Replica}

-- the same shard of the same host
abbrev pub same_replica : Replica → Replica → Bool
same_replica a b = (a.host.0 == b.host.0) && (a.shard.0 == b.shard.0)

-- the replica is on the host
abbrev pub is_on : HostId → Replica → Bool
is_on host replica = host.0 == replica.host.0

-- a replica is in a list
abbrev pub has_replica : List Replica → Replica → Bool
has_replica replicas replica = list_any (same_replica replica) replicas

-- a replica of a list is on a host
abbrev pub has_host : List Replica → HostId → Bool
has_host replicas host = list_any (is_on host) replicas

-- no replica stands twice
abbrev pub are_distinct : List Replica → Bool
are_distinct [] = true
are_distinct (replica ∷ rest) = not (has_replica rest replica) && are_distinct rest

-- the same as a premise
abbrev pub AreDistinct : List Replica → Type 0
AreDistinct replicas = IsTrue (are_distinct replicas)

-- no two replicas of a list are on one host
abbrev pub on_distinct_hosts : List Replica → Bool
on_distinct_hosts [] = true
on_distinct_hosts (replica ∷ rest) = not (has_host rest replica.host) && on_distinct_hosts rest
