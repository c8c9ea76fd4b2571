-- The words of a written header are of the forms of its lines.
use Rattle.std.proofs.Common.{List, None, Ok, Some, [], ap, append-nil, append_assoc, arith, codes, false, length, map, nat_le, nat_lt, refl, subst, sym, true, ℕ, ◌++◌, ◌+◌, ◌<◌, ◌^◌, ◌∷◌, ◌≡◌, ◌≤◌}
use Rattle.std.proofs.lemmas.Bool.Decides.{nat_tests}
use Rattle.std.proofs.lemmas.List.{length-append}
use Rattle.std.specs.Fmt.{decimal}
use Rattle.std.specs.List.{All, list_all, list_any}
use Rattle.std.proofs.lemmas.List.Elements.{All-head, All-tail}
use Rattle.base_ids.specs.Names.{same_table}
use Rattle.base_ids.specs.Replicas.{has_host, on_distinct_hosts}
use Rattle.base_ids.specs.declared.ids.HostId.{HostId}
use Rattle.base_ids.specs.declared.ids.Replica.{Replica}
use Rattle.base_ids.specs.declared.ids.TableId.{TableId}
use Rattle.base_ids.specs.declared.rules.LimitName.{LimitName}
use Rattle.base_ids.specs.declared.rules.LimitName.TheVariants.{Replicas}
use Rattle.cluster_history.specs.Openings.{opening_state}
use Rattle.cluster_history.specs.declared.data.Opening.{Opening}
use Rattle.schedule_header.specs.Forms.{count, count_by, count_line, header_line, may_hold, may_place, member, members_line, named_table, named_tablet, new_table, new_table_by, replicas_line, table_line, table_replica, table_size, tablet_line}
use Rattle.schedule_words.specs.declared.counts.Format.TheVariants.{Two as SecondFormat}
use Rattle.schedule_header.specs.Header.{Header, SaidTable, SaidTablet, is_placed}
use Rattle.schedule_words.specs.Places.{next_replica}
use Rattle.schedule_words.specs.declared.verbs.HeaderVerb.TheVariants.{Table as TableWord, Tablet as TabletWord}
use Rattle.schedule_write.specs.Words.{spelt_host, replica_words}
use Rattle.tablet_map.proofs.Joined.{or_left, or_right}
use Rattle.tablet_map.specs.Calls.{new_tablets}
use Rattle.tablet_map.specs.declared.tablet.Tablet.{Tablet}
use Rattle.text_grammar.specs.Judging.{if_within}
use Rattle.text_grammar.specs.Readings.{or_rule}
use Rattle.text_grammar.specs.Shapes.{AreEach, Spells}
use Rattle.text_grammar.specs.declared.faults.TextRule.TheVariants.{BadHeader, BadReplicas}
use Rattle.token_ring.specs.declared.ring.TabletId.{TabletId}
use Rattle.topo_state.specs.State.{distinct_members, is_known, is_member, is_on_member}
use Rattle.topo_state.specs.Tables.{has_id, table_in, tablet_count}
use Rattle.topo_state.specs.declared.data.Table.{Table}
use Rattle.written_text.proofs.FitLemmas.{IsTabletFit, both, found_at, no_member_before, no_replica_before}
use Rattle.written_text.proofs.PlaceLemmas.{is_any_replica, is_host, is_log2, is_number, is_table_number, is_tablet_number, passes}

below : (n limit : ℕ) → n < limit → nat_lt n limit ≡ true
below n limit few = grind (arith, nat_tests)

above : (n limit : ℕ) → nat_lt n limit ≡ true → n < limit
above n limit is = grind (arith, nat_tests)

not_above : (n limit : ℕ) → n ≤ limit → nat_le n limit ≡ true
not_above n limit few = grind (arith, nat_tests)

-- ---- the header behind its counts and members

abbrev pub header_at : Opening → List Table → List (TableId × TabletId) → Header
header_at opening tables placed =
    record { format = SecondFormat; hosts = Some opening.hosts; lanes = Some opening.lanes; shards = Some opening.shards; members = Some opening.members; tables = tables; placed = placed }

-- ---- counts and members

counted : (most n : ℕ) (name : LimitName) → 1 ≤ n → n ≤ most → count_by most name n ≡ Ok n
counted most n name some few = rw (not_above n most few, not_above 1 n some) refl

pub spells_count : (limit most n : ℕ) (name : LimitName) → 1 ≤ n → n ≤ most → most < limit → limit ≤ 2 ^ 64 → Spells (count_line limit most name) (decimal n ∷ []) n
unfolding count_line count
spells_count limit most n name some few less small =
    (n, (n, is_number limit n (omega arith) small, counted most n name some few), refl)

are_members : (hosts : ℕ) → hosts ≤ 256 → (members earlier : List HostId) → All (λ (h : HostId). h.0 < hosts) members → distinct_members (earlier ++ members) ≡ true → AreEach (member hosts) earlier (map spelt_host members) (earlier ++ members)
unfolding member
are_members hosts small [] earlier within distinct = append-nil earlier
are_members hosts small (h ∷ members) earlier within distinct =
    let none : is_member earlier h ≡ false = no_member_before earlier h members distinct in
    let more : (earlier ++ h ∷ []) ++ members ≡ earlier ++ h ∷ members = append_assoc earlier (h ∷ []) members in (
      h,
      (h, is_host hosts h (All-head (λ (x : HostId). x.0 < hosts) h members within) small, rw none refl),
      subst
          (AreEach (member hosts) (earlier ++ h ∷ []) (map spelt_host members))
          more
          (are_members hosts small members (earlier ++ h ∷ []) (All-tail (λ (x : HostId). x.0 < hosts) h members within) (subst (λ (list : List HostId). distinct_members list ≡ true) (sym more) distinct)),
    )

pub spells_members : (hosts : ℕ) → hosts ≤ 256 → (members : List HostId) → 1 ≤ length members → All (λ (h : HostId). h.0 < hosts) members → distinct_members members ≡ true → Spells (members_line hosts) (map spelt_host members) members
unfolding members_line
spells_members hosts small [] some within distinct = absurd (omega arith)
spells_members hosts small (h ∷ members) some within distinct = (h ∷ members, are_members hosts small (h ∷ members) [] within distinct, refl)

-- ---- replicas

room : (earlier : List Replica) (r : Replica) → length earlier < 8 → if_within (nat_lt (length earlier) 8) Replicas r ≡ Ok r
room earlier r few = rw (below (length earlier) 8 few) refl

-- of the replicas of an opening, the next one may follow those before it
holds : (opening : Opening) (tables : List Table) (placed : List (TableId × TabletId)) (earlier : List Replica) (r : Replica) → is_known (opening_state opening) r ≡ true → is_on_member opening.members r ≡ true → has_host earlier r.host ≡ false → may_hold (header_at opening tables placed) earlier r ≡ true
holds opening tables placed earlier r known here none =
    let parts = both (nat_lt r.host.0 opening.hosts) (nat_lt r.shard.0 opening.shards) known in
    rw (parts.0, parts.1, here, none) refl

record AreFit (opening : Opening) (replicas : List Replica) : Type 0 where
  pub known : list_all (is_known (opening_state opening)) replicas ≡ true
  pub here : list_all (is_on_member opening.members) replicas ≡ true

are_replicas : (opening : Opening) → opening.hosts ≤ 256 → opening.shards ≤ 16 → (tables : List Table) (placed : List (TableId × TabletId)) (replicas earlier : List Replica) → AreFit opening replicas → on_distinct_hosts (earlier ++ replicas) ≡ true → length earlier + length replicas ≤ 8 → AreEach (table_replica (header_at opening tables placed)) earlier (replica_words replicas) (earlier ++ replicas)
unfolding table_replica next_replica
are_replicas opening small least tables placed [] earlier fit distinct few = append-nil earlier
are_replicas opening small least tables placed (r ∷ replicas) earlier fit distinct few =
    let knows = both (is_known (opening_state opening) r) (list_all (is_known (opening_state opening)) replicas) fit.known in
    let on = both (is_on_member opening.members r) (list_all (is_on_member opening.members) replicas) fit.here in
    let tests = both (nat_lt r.host.0 opening.hosts) (nat_lt r.shard.0 opening.shards) knows.0 in
    let host_few : r.host.0 < opening.hosts = above r.host.0 opening.hosts tests.0 in
    let shard_few : r.shard.0 < opening.shards = above r.shard.0 opening.shards tests.1 in
    let none : has_host earlier r.host ≡ false = no_replica_before earlier r replicas distinct in
    let more : (earlier ++ r ∷ []) ++ replicas ≡ earlier ++ r ∷ replicas = append_assoc earlier (r ∷ []) replicas in
    let size : length (earlier ++ r ∷ []) ≡ length earlier + length (r ∷ []) = length-append earlier (r ∷ []) in (
      r,
      (
        r,
        (r, is_any_replica r (omega arith, omega arith), room earlier r (omega arith)),
        passes (may_hold (header_at opening tables placed) earlier r) BadReplicas r (holds opening tables placed earlier r knows.0 on.0 none),
      ),
      subst
          (AreEach (table_replica (header_at opening tables placed)) (earlier ++ r ∷ []) (replica_words replicas))
          more
          (are_replicas opening small least tables placed replicas (earlier ++ r ∷ []) (record { known = knows.1; here = on.1 }) (subst (λ (list : List Replica). on_distinct_hosts list ≡ true) (sym more) distinct) (omega arith)),
    )

abbrev AreOf : Opening → List Table → List (TableId × TabletId) → List Replica → Type 0
AreOf opening tables placed replicas = Spells (replicas_line (header_at opening tables placed)) (replica_words replicas) replicas

spells_replicas : (opening : Opening) → opening.hosts ≤ 256 → opening.shards ≤ 16 → (tables : List Table) (placed : List (TableId × TabletId)) (replicas : List Replica) → 1 ≤ length replicas → length replicas ≤ 8 → on_distinct_hosts replicas ≡ true → AreFit opening replicas → AreOf opening tables placed replicas
unfolding replicas_line
spells_replicas opening small least tables placed [] some few distinct fit = absurd (omega arith)
spells_replicas opening small least tables placed (r ∷ replicas) some few distinct fit =
    (r ∷ replicas, are_replicas opening small least tables placed (r ∷ replicas) [] fit distinct (omega arith), refl)

-- ---- tables

none_there : (tables : List Table) (id : TableId) → list_any (has_id id) tables ≡ false → table_in tables id ≡ None
none_there [] id none = refl
none_there (t ∷ tables) id none =
    let first : same_table id t.id ≡ false = or_left (same_table id t.id) (list_any (has_id id) tables) none in
    rw first (none_there tables id (or_right (same_table id t.id) (list_any (has_id id) tables) none))

new_there : (tables : List Table) (id : TableId) → table_in tables id ≡ None → length tables < 64 → new_table_by tables id ≡ Ok id
new_there tables id none few = rw (none, below (length tables) 64 few) refl

-- a table of 2^log2 tablets with these replicas
abbrev pub table_of : TableId → ℕ → List Tablet → Table
table_of id log2 list = record { id = id; map = record { log2 = log2; list = list }; resize = None }

pub spells_table : (opening : Opening) → opening.hosts ≤ 256 → opening.shards ≤ 16 → (tables : List Table) (placed : List (TableId × TabletId)) (id : TableId) (b : ℕ) (tablet : Tablet) → id.0 < 2 ^ 32 → list_any (has_id id) tables ≡ false → length tables < 64 → b ≤ 10 → tablet_count tables + 2 ^ b ≤ 1024 → IsTabletFit opening tablet
    → Spells (header_line (header_at opening tables placed)) (codes "table" ∷ decimal id.0 ∷ decimal b ∷ replica_words tablet.replicas) (SaidTable (table_of id b (new_tablets b tablet.replicas).list))
unfolding header_line table_line new_table table_size
spells_table opening small least tables placed id b tablet fits none few log all fit = (
  TableWord,
  refl,
  (
    table_of id b (new_tablets b tablet.replicas).list,
    (
      id,
      (id, is_table_number id fits, new_there tables id (none_there tables id none) few),
      (
        b,
        (b, is_log2 b log, rw (not_above (tablet_count tables + 2 ^ b) 1024 all) refl),
        (
          tablet.replicas,
          spells_replicas opening small least tables placed tablet.replicas fit.some fit.few fit.distinct (record { known = fit.known; here = fit.here }),
          refl,
        ),
      ),
    ),
    refl,
  ),
)

pub spells_tablet : (opening : Opening) → opening.hosts ≤ 256 → opening.shards ≤ 16 → (earlier : List Table) (t : Table) (placed : List (TableId × TabletId)) (at : ℕ) (tablet : Tablet) → t.id.0 < 2 ^ 32 → list_any (has_id t.id) earlier ≡ false → at < length t.map.list → length t.map.list ≤ 1024 → is_placed placed t.id (record { 0 = at }) ≡ false → IsTabletFit opening tablet
    → Spells (header_line (header_at opening (earlier ++ t ∷ []) placed)) (codes "tablet" ∷ decimal t.id.0 ∷ decimal at ∷ replica_words tablet.replicas) (SaidTablet (record { table = t.id; tablet = record { 0 = at }; replicas = tablet.replicas }))
unfolding header_line tablet_line named_table named_tablet
spells_tablet opening small least earlier t placed at tablet fits none inside few new fit = (
  TabletWord,
  refl,
  (
    record { table = t.id; tablet = record { 0 = at }; replicas = tablet.replicas },
    (
      t,
      (t.id, is_table_number t.id fits, ap (or_rule BadHeader) (found_at earlier t [] none)),
      (
        record { 0 = at },
        (
          record { 0 = at },
          is_tablet_number (record { 0 = at }) (omega arith),
          passes (may_place (header_at opening (earlier ++ t ∷ []) placed) t (record { 0 = at })) BadHeader (record { 0 = at }) (rw (below at (length t.map.list) inside, new) refl),
        ),
        (
          tablet.replicas,
          spells_replicas opening small least (earlier ++ t ∷ []) placed tablet.replicas fit.some fit.few fit.distinct (record { known = fit.known; here = fit.here }),
          refl,
        ),
      ),
    ),
    refl,
  ),
)
