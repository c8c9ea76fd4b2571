-- How a log of commands begins.
use Rattle.std.specs.Prelude.{◌≡◌, ◌≤◌, ◌<◌, ◌&&◌, ℕ, Bool, true, not, List, [], ◌∷◌, length, is_none}
use Rattle.std.specs.List.{All, list_all}
use Rattle.base_ids.specs.Names.{first_version}
use Rattle.base_ids.specs.declared.ids.HostId.{HostId}
use Rattle.tablet_map.specs.declared.tablet.Tablet.{Tablet}
use Rattle.tablet_map.specs.Tablets.{is_moving}
use Rattle.topo_state.specs.declared.data.Table.{Table}
use Rattle.topo_state.specs.State.{Topology, distinct_members, is_known}
use Rattle.topo_state.specs.Tables.{every_tablet}
use Rattle.topo_state.specs.Sound.{IsTopology}

-- the tablet does not move
abbrev pub is_still : Tablet → Bool
is_still tablet = not (is_moving tablet)

-- no split or merge of the table is decided
abbrev pub is_undecided : Table → Bool
is_undecided table = is_none table.resize

-- the hosts and shards of the tablet's replicas exist
abbrev pub has_known_replicas : Topology → Tablet → Bool
has_known_replicas state tablet = list_all (is_known state) tablet.replicas

-- the first state over these hosts, members and tables
abbrev pub first_state : ℕ → ℕ → List HostId → List Table → Topology
first_state hosts shards members tables =
    record {
      hosts = hosts;
      shards = shards;
      members = members;
      before = members;
      version = first_version;
      fence = first_version;
      tables = tables;
    }

-- An opening: 1 to 256 hosts of 1 to 16 shards, one or more members among them, and tables on members that neither
-- move nor are to be resized. Version and fence are 1.
pub record IsOpening (first : Topology) : Type 0 where
  pub version : first.version.0 ≡ 1
  pub fence : first.fence.0 ≡ 1
  pub before : first.before ≡ first.members
  pub hosts : (1 ≤ first.hosts) × (first.hosts ≤ 256)
  pub shards : (1 ≤ first.shards) × (first.shards ≤ 16)
  pub some : 1 ≤ length first.members
  pub once : distinct_members first.members ≡ true
  pub within : All (λ (host : HostId). host.0 < first.hosts) first.members
  pub known : every_tablet (has_known_replicas first) first.tables ≡ true
  pub still : every_tablet is_still first.tables ≡ true
  pub undecided : list_all is_undecided first.tables ≡ true
  pub sound : IsTopology first
