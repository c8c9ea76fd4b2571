-- What lines of a header lead to, whatever they are.
use Rattle.std.specs.Prelude.{◌≡◌, ◌≤◌, ◌<◌, ◌&&◌, ℕ, nat_lt, Bool, true, List, length, IfSome, None}
use Rattle.std.specs.List.{All, list_all}
use Rattle.base_ids.specs.declared.ids.HostId.{HostId}
use Rattle.base_ids.specs.declared.ids.Replica.{Replica}
use Rattle.tablet_map.specs.Replicas.{IsReplicaSet}
use Rattle.tablet_map.specs.Tablets.{IsMap, tablet_in}
use Rattle.tablet_map.specs.declared.tablet.Tablet.{Tablet}
use Rattle.topo_state.specs.declared.data.Table.{Table}
use Rattle.topo_state.specs.State.{distinct_members, is_on_member}
use Rattle.topo_state.specs.Tables.{table_in, have_distinct_ids, tablet_count}
use Rattle.cluster_history.specs.Openings.{IsValidOpening}
use Rattle.schedule_header.specs.Header.{Header, Step, More, Opened, TabletLine, no_header, host_count, shard_count, members_of}

-- members: one or more, each a host and none twice
pub record AreMembers (hosts : ℕ) (members : List HostId) : Type 0 where
  pub some : 1 ≤ length members
  pub once : distinct_members members ≡ true
  pub within : All (λ (host : HostId). host.0 < hosts) members

-- what replicas stand on: hosts, shards and members
pub record Ground : Type 0 where
  pub hosts : ℕ
  pub shards : ℕ
  pub members : List HostId

abbrev pub ground_of : Header → Ground
ground_of header = record { hosts = host_count header; shards = shard_count header; members = members_of header }

abbrev pub is_on_ground : Ground → Replica → Bool
is_on_ground ground replica = nat_lt replica.host.0 ground.hosts && nat_lt replica.shard.0 ground.shards

-- the replicas of a tablet: a set, of hosts and shards that exist, on members
pub record AreReplicas (ground : Ground) (replicas : List Replica) : Type 0 where
  pub set : IsReplicaSet replicas
  pub known : list_all (is_on_ground ground) replicas ≡ true
  pub here : list_all (is_on_member ground.members) replicas ≡ true

-- a tablet that does not move, on such replicas
pub record IsPlaced (ground : Ground) (tablet : Tablet) : Type 0 where
  pub rests : tablet.transition ≡ None
  pub replicas : AreReplicas ground tablet.replicas

-- a table that is not to be resized, with such tablets
pub record IsTableHere (ground : Ground) (table : Table) : Type 0 where
  pub undecided : table.resize ≡ None
  pub map : IsMap table.map.log2 table.map.list
  pub tablets : All (IsPlaced ground) table.map.list

-- Nothing is said before the count of hosts. Counts are within their limits, members are hosts, and the tables have
-- distinct numbers, are at most 64 with at most 1024 tablets in all, and stand on members.
pub record IsSoundHeader (header : Header) : Type 0 where
  pub first : header.hosts ≡ None → header ≡ no_header header.format
  pub hosts : IfSome header.hosts (λ n. (1 ≤ n) × (n ≤ 256))
  pub lanes : IfSome header.lanes (λ n. (1 ≤ n) × (n ≤ 4))
  pub shards : IfSome header.shards (λ n. (1 ≤ n) × (n ≤ 16))
  pub members : IfSome header.members (AreMembers (host_count header))
  pub distinct : have_distinct_ids header.tables ≡ true
  pub few : length header.tables ≤ 64
  pub tablets : tablet_count header.tables ≤ 1024
  pub each : All (IsTableHere (ground_of header)) header.tables

-- what a line makes of a header is sound, and so is the opening at `go`
abbrev pub IsSoundStep : Step → Type 0
IsSoundStep (More header) = IsSoundHeader header
IsSoundStep (Opened opening) = IsValidOpening opening

-- a tablet may be given these replicas: its table is there, the tablet is in it and does not move
pub record CanPlace (tables : List Table) (line : TabletLine) : Type 0 where
  pub there : IfSome (table_in tables line.table) (λ table. line.tablet.0 < length table.map.list)
  pub rests : IfSome (table_in tables line.table) (λ table. (tablet_in table.map.list line.tablet.0).transition ≡ None)
  pub set : IsReplicaSet line.replicas
