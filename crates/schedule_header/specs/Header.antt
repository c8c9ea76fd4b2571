-- What the lines of a header say, the opening that they make, and which of them may stand where.
use Rattle.std.specs.Prelude.{ℕ, zero, suc, ◌==◌, ◌&&◌, Bool, false, List, [], ◌∷◌, ◌++◌, Option, Some, None, is_some, is_none, unwrap_or, if◌then◌else◌}
use Rattle.std.specs.List.{list_any}
use Rattle.base_ids.specs.Names.{same_table}
use Rattle.base_ids.specs.declared.ids.HostId.{HostId}
use Rattle.base_ids.specs.declared.ids.Replica.{Replica}
use Rattle.base_ids.specs.declared.ids.TableId.{TableId}
use Rattle.token_ring.specs.declared.ring.TabletId.{TabletId}
use Rattle.tablet_map.specs.Calls.{at_rest, with_tablet}
use Rattle.topo_state.specs.declared.data.Table.{Table}
use Rattle.cluster_history.specs.declared.data.Opening.{Opening}
use Rattle.schedule_words.specs.Words.{is_empty}
use Rattle.schedule_words.specs.declared.counts.Format.{Format}
use Rattle.schedule_words.specs.declared.verbs.HeaderVerb.{HeaderVerb}
use Rattle.schedule_words.specs.declared.verbs.HeaderVerb.TheVariants.{Tablets as TabletsWord, Hosts as HostsWord, Lanes as LanesWord, Shards as ShardsWord, Members as MembersWord, Table as TableWord, Tablet as TabletWord, Go as GoWord}

-- other replicas for one tablet of a table
pub record TabletLine : Type 0 where
  pub table : TableId
  pub tablet : TabletId
  pub replicas : List Replica

-- what a line says
pub data Said : Type 0 where
  SaidHosts : ℕ → Said
  SaidLanes : ℕ → Said
  SaidShards : ℕ → Said
  SaidMembers : List HostId → Said
  SaidTable : Table → Said
  SaidTablet : TabletLine → Said
  SaidGo : Said

-- what the header has said so far in this format, and which tablets have had a line of their own
pub record Header : Type 0 where
  pub format : Format
  pub hosts : Option ℕ
  pub lanes : Option ℕ
  pub shards : Option ℕ
  pub members : Option (List HostId)
  pub tables : List Table
  pub placed : List (TableId × TabletId)

-- nothing is said yet but the format
abbrev pub no_header : Format → Header
no_header format =
    record {
      format = format;
      hosts = None;
      lanes = None;
      shards = None;
      members = None;
      tables = [];
      placed = [];
    }

-- ---- the opening

-- the hosts below a number
abbrev pub hosts_under : ℕ → List HostId
hosts_under zero = []
hosts_under (suc n) = hosts_under n ++ record { 0 = n } ∷ []

-- what the header says, and where it says nothing: no hosts, no lanes, one shard on each host, all hosts as members
abbrev pub host_count : Header → ℕ
host_count header = unwrap_or header.hosts 0

abbrev pub lane_count : Header → ℕ
lane_count header = unwrap_or header.lanes 0

abbrev pub shard_count : Header → ℕ
shard_count header = unwrap_or header.shards 1

abbrev pub members_of : Header → List HostId
members_of header = unwrap_or header.members (hosts_under (host_count header))

-- how the cluster stands at first
abbrev pub opening_of : Header → Opening
opening_of header =
    record {
      hosts = host_count header;
      lanes = lane_count header;
      shards = shard_count header;
      members = members_of header;
      tables = header.tables;
    }

-- ---- the order of the lines

-- nothing is said behind the counts of hosts, lanes and shards
abbrev pub is_before_members : Header → Bool
is_before_members header = is_none header.members && is_empty header.tables

-- A header line that begins so may stand here: `hosts` first, then `lanes`, `shards`, `members` and the tables, each
-- but the tables once; `shards` and `members` may be left out, and `lanes` is wanted at `go`.
abbrev pub may_stand : Header → HeaderVerb → Bool
may_stand header TabletsWord = false
may_stand header HostsWord = is_none header.hosts
may_stand header LanesWord =
    is_some header.hosts && (is_none header.lanes && (is_none header.shards && is_before_members header))
may_stand header ShardsWord = is_some header.hosts && (is_none header.shards && is_before_members header)
may_stand header MembersWord = is_some header.hosts && is_before_members header
may_stand header TableWord = is_some header.hosts
may_stand header TabletWord = is_some header.hosts
may_stand header GoWord = is_some header.hosts && is_some header.lanes

-- ---- what a line changes

-- the place is this tablet of this table
abbrev pub is_placed_at : TableId → TabletId → TableId × TabletId → Bool
is_placed_at table tablet place = same_table table place.0 && (tablet.0 == place.1.0)

-- the tablet has had a line of its own
abbrev pub is_placed : List (TableId × TabletId) → TableId → TabletId → Bool
is_placed placed table tablet = list_any (is_placed_at table tablet) placed

-- the table with other replicas for one tablet
abbrev pub placed_in : TabletLine → Table → Table
placed_in line table = record table { map = with_tablet table.map line.tablet.0 (at_rest line.replicas) }

-- the tables with that change in the table of this number
abbrev pub placed_tables : TabletLine → List Table → List Table
placed_tables line [] = []
placed_tables line (table ∷ rest) =
    if same_table line.table table.id then placed_in line table ∷ rest else table ∷ placed_tables line rest

-- what the header has said behind a line
abbrev pub after_said : Header → Said → Header
after_said header (SaidHosts n) = record header { hosts = Some n }
after_said header (SaidLanes n) = record header { lanes = Some n }
after_said header (SaidShards n) = record header { shards = Some n }
after_said header (SaidMembers members) = record header { members = Some members }
after_said header (SaidTable table) = record header { tables = header.tables ++ table ∷ [] }
after_said header (SaidTablet line) =
    record header {
      tables = placed_tables line header.tables;
      placed = header.placed ++ (line.table, line.tablet) ∷ [];
    }
after_said header SaidGo = header

-- the header goes on, or it is ended and the cluster stands so
pub data Step : Type 0 where
  More : Header → Step
  Opened : Opening → Step

-- what a line does: `go` ends the header, and each other line adds to it
abbrev pub step_of : Header → Said → Step
step_of header SaidGo = Opened (opening_of header)
step_of header said = More (after_said header said)
