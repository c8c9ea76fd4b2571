-- The forms of the lines of a header. Inside a word the spelling comes first, then the fit of the type, then a limit,
-- then the other rules; but the limit on tables comes after the rule on a table that is named twice.
use Rattle.std.specs.Prelude.{ℕ, ◌+◌, ◌^◌, ◌&&◌, nat_lt, nat_le, Bool, not, List, [], ◌∷◌, length, Option, Some, None, is_some, Result, Err, codes, if◌then◌else◌}
use Rattle.std.specs.Str.{bytes_eq}
use Rattle.base_ids.specs.Replicas.{has_host}
use Rattle.base_ids.specs.declared.ids.HostId.{HostId}
use Rattle.base_ids.specs.declared.ids.Replica.{Replica}
use Rattle.base_ids.specs.declared.ids.TableId.{TableId}
use Rattle.base_ids.specs.declared.rules.LimitName.{LimitName}
use Rattle.base_ids.specs.declared.rules.LimitName.TheVariants.{Hosts, Lanes, Shards, Tables, Tablets}
use Rattle.token_ring.specs.declared.ring.TabletId.{TabletId}
use Rattle.tablet_map.specs.Calls.{new_tablets}
use Rattle.topo_state.specs.declared.data.Table.{Table}
use Rattle.topo_state.specs.State.{is_member}
use Rattle.topo_state.specs.Tables.{table_in, tablet_count}
use Rattle.text_grammar.specs.declared.faults.TextRule.TheVariants.{BadHeader, BadWord, BadReplicas}
use Rattle.text_grammar.specs.declared.faults.Fault.{Fault}
use Rattle.text_grammar.specs.declared.faults.Fault.TheVariants.{Refused}
use Rattle.text_grammar.specs.Shapes.{Place, Known, Judged, Shape, End, Word, Each, Made, Whole}
use Rattle.text_grammar.specs.Readings.{or_rule, ◌>>=◌}
use Rattle.text_grammar.specs.Judging.{if_so, if_within}
use Rattle.schedule_words.specs.Places.{number, host, log2, table_number, tablet_number, next_replica}
use Rattle.schedule_words.specs.Words.{header_word, meaning}
use Rattle.schedule_words.specs.declared.counts.Format.{Format}
use Rattle.schedule_words.specs.declared.counts.Format.TheVariants.{One as FirstFormat, Two as SecondFormat}
use Rattle.schedule_words.specs.declared.verbs.HeaderVerb.{HeaderVerb}
use Rattle.schedule_words.specs.declared.verbs.HeaderVerb.TheVariants.{Tablets as TabletsWord, Hosts as HostsWord, Lanes as LanesWord, Shards as ShardsWord, Members as MembersWord, Table as TableWord, Tablet as TabletWord, Go as GoWord}
use Rattle.schedule_header.specs.Header.{Header, Said, SaidHosts, SaidLanes, SaidShards, SaidMembers, SaidTable, SaidTablet, SaidGo, TabletLine, host_count, shard_count, members_of, may_stand, is_placed}

-- ---- counts and members

-- a count that fits its type and is within its limit, and that is not 0
abbrev pub count_by : ℕ → LimitName → ℕ → Result ℕ Fault
count_by most name n = if_within (nat_le n most) name n >>= λ m. if_so (nat_le 1 m) BadHeader m

-- N, a count from 1 to the most that is allowed; `limit` is that of its type
unfoldable pub count : ℕ → ℕ → LimitName → Place ℕ
count limit most name = Judged (number limit) (count_by most name)

-- N, alone
unfoldable pub count_line : ℕ → ℕ → LimitName → Shape ℕ
count_line limit most name = Word (count limit most name) (λ n. End n)

-- H, a member behind others
unfoldable pub member : ℕ → List HostId → Place HostId
member hosts earlier = Judged (host hosts) (λ h. if_so (not (is_member earlier h)) BadHeader h)

-- H H H, one or more
unfoldable pub members_line : ℕ → Shape (List HostId)
members_line hosts = Each (member hosts) (λ members. members)

-- ---- replicas

-- a replica behind others: its host and shard exist, the host is a member, and none of the others is on it
abbrev pub may_hold : Header → List Replica → Replica → Bool
may_hold header earlier replica =
    nat_lt replica.host.0 (host_count header)
    && (nat_lt replica.shard.0 (shard_count header)
    && (is_member (members_of header) replica.host && not (has_host earlier replica.host)))

-- H:S, a replica of a table behind others
unfoldable pub table_replica : Header → List Replica → Place Replica
table_replica header earlier =
    Judged (next_replica earlier) (λ replica. if_so (may_hold header earlier replica) BadReplicas replica)

-- R R R, one or more
unfoldable pub replicas_line : Header → Shape (List Replica)
replicas_line header = Each (table_replica header) (λ replicas. replicas)

-- ---- tables

-- the table is not there yet, and there are fewer than 64
abbrev pub new_table_by : List Table → TableId → Result TableId Fault
new_table_by tables id =
    if_so (not (is_some (table_in tables id))) BadHeader id >>= λ new. if_within (nat_lt (length tables) 64) Tables new

-- T, the number of a table that is not there yet
unfoldable pub new_table : List Table → Place TableId
new_table tables = Judged table_number (new_table_by tables)

-- B, the logarithm of a count of tablets that leaves at most 1024 in all
unfoldable pub table_size : List Table → Place ℕ
table_size tables = Judged log2 (λ b. if_within (nat_le (tablet_count tables + 2 ^ b) 1024) Tablets b)

-- T B R R R
unfoldable pub table_line : Header → Shape Table
table_line header =
    Word (new_table header.tables) (λ id. Word (table_size header.tables) (λ b.
    Made (replicas_line header) (λ replicas. record { id = id; map = new_tablets b replicas; resize = None })))

-- T, the number of a table that is there
unfoldable pub named_table : List Table → Place Table
named_table tables = Judged table_number (λ id. or_rule BadHeader (table_in tables id))

-- the table has the tablet, which has had no line of its own
abbrev pub may_place : Header → Table → TabletId → Bool
may_place header table tablet =
    nat_lt tablet.0 (length table.map.list) && not (is_placed header.placed table.id tablet)

-- I, a tablet of the table that has had no line of its own
unfoldable pub named_tablet : Header → Table → Place TabletId
named_tablet header table = Judged tablet_number (λ tablet. if_so (may_place header table tablet) BadHeader tablet)

-- T I R R R
unfoldable pub tablet_line : Header → Shape TabletLine
tablet_line header =
    Word (named_table header.tables) (λ table. Word (named_tablet header table) (λ tablet.
    Made (replicas_line header) (λ replicas. record { table = table.id; tablet = tablet; replicas = replicas })))

-- ---- lines

-- so many hosts there may be
abbrev pub most_hosts : Format → ℕ
most_hosts FirstFormat = 64
most_hosts SecondFormat = 256

-- what stands behind the first word of a line
abbrev pub line_by : Header → HeaderVerb → Shape Said
line_by header TabletsWord = Whole (λ _. Err (Refused BadHeader))
line_by header HostsWord = Made (count_line (2 ^ 16) (most_hosts header.format) Hosts) SaidHosts
line_by header LanesWord = Made (count_line (2 ^ 8) 4 Lanes) SaidLanes
line_by header ShardsWord = Made (count_line (2 ^ 8) 16 Shards) SaidShards
line_by header MembersWord = Made (members_line (host_count header)) SaidMembers
line_by header TableWord = Made (table_line header) SaidTable
line_by header TabletWord = Made (tablet_line header) SaidTablet
line_by header GoWord = End SaidGo

-- a word of the header, where a line that begins with it may stand
abbrev pub verb_if : Header → Option HeaderVerb → Result HeaderVerb Fault
verb_if header None = Err (Refused BadWord)
verb_if header (Some verb) = if_so (may_stand header verb) BadHeader verb

-- the first word of a line
abbrev pub first_word : Header → List ℕ → Result HeaderVerb Fault
first_word header word = verb_if header (header_word word)

-- a line of the header
unfoldable pub header_line : Header → Shape Said
header_line header = Word (Known (first_word header)) (line_by header)

-- ---- the first line

-- the words of the formats, and which of them a word is
abbrev pub format_word : List ℕ → Option Format
format_word word = meaning ((codes "1", FirstFormat) ∷ (codes "2", SecondFormat) ∷ []) word

-- the words are `tablets` and a format
abbrev pub format_of : List (List ℕ) → Option Format
format_of (word ∷ version ∷ []) = if bytes_eq word (codes "tablets") then format_word version else None
format_of words = None
