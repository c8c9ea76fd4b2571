-- The forms of what a document says of the cluster at first: its counts, its members and its tables.
use Rattle.std.specs.Prelude.{ℕ, ◌+◌, ◌^◌, ◌==◌, ◌&&◌, nat_le, nat_lt, not, Bool, List, [], ◌∷◌, length, None, Result, codes, is_some, if◌then◌else◌}
use Rattle.std.specs.List.{list_any}
use Rattle.base_ids.specs.Replicas.{has_host}
use Rattle.base_ids.specs.declared.ids.HostId.{HostId}
use Rattle.base_ids.specs.declared.ids.Replica.{Replica}
use Rattle.base_ids.specs.declared.ids.TableId.{TableId}
use Rattle.base_ids.specs.declared.rules.LimitName.TheVariants.{Hosts, Lanes, Shards, Tables, Log2, Tablets as TabletsLimit}
use Rattle.token_ring.specs.declared.ring.TabletId.{TabletId}
use Rattle.tablet_map.specs.Calls.{at_rest, new_tablets, with_tablet}
use Rattle.tablet_map.specs.Tablets.{Tablets}
use Rattle.topo_state.specs.declared.data.Table.{Table}
use Rattle.topo_state.specs.State.{is_member}
use Rattle.topo_state.specs.Tables.{table_in, tablet_count}
use Rattle.schedule_words.specs.Places.{next_replica}
use Rattle.schedule_words.specs.declared.counts.Format.{Format}
use Rattle.schedule_words.specs.declared.counts.Format.TheVariants.{One, Two}
use Rattle.schedule_header.specs.Forms.{most_hosts}
use Rattle.schedule_header.specs.Header.{hosts_under}
use Rattle.json_forms.specs.declared.faults.Fault.{Fault}
use Rattle.json_forms.specs.Forms.{Form, Word, Judged, Each, Object, Member, MemberOr, Then, Done}
use Rattle.json_forms.specs.Judging.{if_good, if_within, whole, number_below, count, some_of, only_if}
use Rattle.cluster_file.specs.declared.frame.Frame.{Frame}
use Rattle.cluster_file.specs.declared.tables.Other.{Other}

-- ---- hosts

-- a member behind others, one of so many hosts
abbrev pub member_by : List HostId → ℕ → Result HostId Fault
member_by earlier n = if_good (not (is_member earlier (record { 0 = n }))) (record { 0 = n })

unfoldable pub member : ℕ → List HostId → Form HostId
member hosts earlier = Judged (number_below hosts) (member_by earlier)

-- the format of a document by its number
abbrev pub format_of : ℕ → Format
format_of n = if n == 1 then One else Two

-- the counts of hosts, lanes and shards, and the members; one shard and all hosts where they are left out
unfoldable pub frame : Format → Form Frame
frame format =
    Then (Member (codes "hosts") (count 1 (most_hosts format) Hosts)) (λ hosts.
    Then (Member (codes "lanes") (count 1 4 Lanes)) (λ lanes.
    Then (MemberOr (codes "shards") 1 (count 1 16 Shards)) (λ shards.
    Then (MemberOr (codes "members") (hosts_under hosts) (some_of (member hosts))) (λ members.
    Done (record { format = format; hosts = hosts; lanes = lanes; shards = shards; members = members })))))

-- ---- replicas

-- a replica on a member behind others, on none of their hosts
abbrev pub may_hold : Frame → List Replica → Replica → Bool
may_hold frame earlier r =
    is_member frame.members r.host && (nat_lt r.shard.0 frame.shards && not (has_host earlier r.host))

unfoldable pub replica : Frame → List Replica → Form Replica
replica frame earlier = Judged (Word (next_replica earlier)) (λ r. if_good (may_hold frame earlier r) r)

unfoldable pub replicas : Frame → Form (List Replica)
replicas frame = some_of (replica frame)

-- ---- tables

-- the number of a table behind others
abbrev pub id_by : List Table → ℕ → Result TableId Fault
id_by earlier n = if_good (not (is_some (table_in earlier (record { 0 = n })))) (record { 0 = n })

unfoldable pub new_id : List Table → Form TableId
new_id earlier = Judged (number_below (2 ^ 32)) (id_by earlier)

-- the logarithm of a count of tablets, of which all tables have at most 1024
unfoldable pub size : List Table → Form ℕ
size earlier =
    Judged (count 0 10 Log2) (λ b. if_within (nat_le (tablet_count earlier + 2 ^ b) 1024) TabletsLimit b)

-- a tablet of the table behind others
abbrev pub is_named : ℕ → Other → Bool
is_named tablet other = other.tablet.0 == tablet

abbrev pub tablet_by : List Other → ℕ → Result TabletId Fault
tablet_by earlier n = if_good (not (list_any (is_named n) earlier)) (record { 0 = n })

unfoldable pub tablet : ℕ → List Other → Form TabletId
tablet log2 earlier = Judged (number_below (2 ^ log2)) (tablet_by earlier)

-- other replicas for one tablet
unfoldable pub other : Frame → ℕ → List Other → Form Other
other frame log2 earlier =
    Object (
    Then (Member (codes "tablet") (tablet log2 earlier)) (λ at.
    Then (Member (codes "replicas") (replicas frame)) (λ rs.
    Done (record { tablet = at; replicas = rs }))))

-- the tablets with these for some of them
abbrev pub with_others : List Other → Tablets → Tablets
with_others [] map = map
with_others (o ∷ others) map = with_others others (with_tablet map o.tablet.0 (at_rest o.replicas))

abbrev pub table_of : TableId → ℕ → List Replica → List Other → Table
table_of id log2 rs others = record { id = id; map = with_others others (new_tablets log2 rs); resize = None }

unfoldable pub table : Frame → List Table → Form Table
table frame earlier =
    Object (
    Then (Member (codes "id") (new_id earlier)) (λ id.
    Then (Member (codes "log2") (size earlier)) (λ log2.
    Then (Member (codes "replicas") (replicas frame)) (λ rs.
    Then (MemberOr (codes "other") [] (Each (other frame log2))) (λ others.
    Done (table_of id log2 rs others))))))

-- at most 64 tables
abbrev pub next_table : Frame → List Table → Form Table
next_table frame earlier = only_if (nat_lt (length earlier) 64) Tables (table frame earlier)

unfoldable pub tables : Frame → Form (List Table)
tables frame = Each (next_table frame)
