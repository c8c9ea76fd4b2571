-- The lines of a written header lead to the opening that they were written of.
use Rattle.std.proofs.Common.{Bool, ◌||◌, List, None, Option, Some, [], ap, append-nil, append_assoc, arith, codes, cond, false, length, refl, replicate, set, subst, suc, sym, true, ℕ, ◌&&◌, ◌++◌, ◌+◌, ◌<◌, ◌==◌, ◌^◌, ◌∙◌, ◌∷◌, ◌≡◌, ◌≤◌}
use Rattle.std.proofs.Math.Seq.{set-append_seam}
use Rattle.std.proofs.lemmas.Bool.Decides.{nat_tests}
use Rattle.std.proofs.lemmas.List.{length-append, length-replicate}
use Rattle.std.proofs.lemmas.Nat.{pow_pos}
use Rattle.std.proofs.lemmas.List.Sums.{sum_by-append, sum_by-cons}
use Rattle.std.specs.Fmt.{decimal}
use Rattle.std.specs.List.{AllByRecursion, flat_map, list_any}
use Rattle.base_ids.specs.Names.{same_table}
use Rattle.base_ids.specs.Replicas.{same_replica}
use Rattle.base_ids.specs.declared.ids.Replica.{Replica}
use Rattle.base_ids.specs.declared.ids.TableId.{TableId}
use Rattle.cluster_history.specs.declared.data.Opening.{Opening}
use Rattle.schedule_words.specs.declared.counts.Format.TheVariants.{Two as SecondFormat}
use Rattle.schedule_header.specs.Forms.{most_hosts}
use Rattle.schedule_header.specs.Header.{Header, SaidGo, SaidHosts, SaidLanes, SaidMembers, SaidShards, SaidTable, SaidTablet, TabletLine, is_placed, is_placed_at, no_header, placed_tables}
use Rattle.schedule_header.specs.Forms.{header_line}
use Rattle.base_ids.specs.declared.rules.LimitName.TheVariants.{Hosts, Lanes, Shards}
use Rattle.cluster_history.specs.Openings.{IsValidOpening}
use Rattle.schedule_words.specs.Labels.{no_labels}
use Rattle.schedule_words.specs.declared.verbs.HeaderVerb.TheVariants.{Go, Hosts as HostsWord, Lanes as LanesWord, Members as MembersWord, Shards as ShardsWord}
use Rattle.tablet_map.specs.Tablets.{tablet_in}
use Rattle.written_text.specs.Fits.{FitsTable}
use Rattle.schedule_text.specs.Language.{Body, InBody, InHeader, Nothing, SaidFormat, SaidHeader, schedules}
use Rattle.schedule_write.specs.Words.{replica_words}
use Rattle.schedule_write.specs.Written.{count_lines, first_replicas, header_lines, spelt_members, same_replicas, table_lines, tablet_lines}
use Rattle.tablet_map.proofs.Joined.{or_left, or_right}
use Rattle.tablet_map.specs.Calls.{at_rest, new_tablets}
use Rattle.tablet_map.specs.declared.tablet.Tablet.{Tablet}
use Rattle.tablet_map.specs.declared.tablet.Transition.{Transition}
use Rattle.text_grammar.specs.Lines.{Language, Leads, Line}
use Rattle.token_ring.specs.declared.ring.TabletId.{TabletId}
use Rattle.topo_state.specs.Tables.{have_distinct_ids, has_id, tablet_count}
use Rattle.topo_state.specs.declared.data.Resize.{Resize}
use Rattle.topo_state.specs.declared.data.Table.{Table}
use Rattle.written_text.proofs.FitLemmas.{IsTableFit, IsTabletFit, both, no_table_before, no_table_behind, opening_fits}
use Rattle.written_text.proofs.HeaderLemmas.{header_at, spells_count, spells_members, spells_table, spells_tablet, table_of}
use Rattle.base_ids.proofs.NameLemmas.{same_replica-same}

-- ---- lines one after another

pub leads_append : {S X Y : Type 0} (language : Language S X Y) (number : ℕ) (first middle last : S) (one other : List Line) → Leads language number first one middle → Leads language (number + length one) middle other last → Leads language number first (one ++ other) last
leads_append language number first middle last [] other leads more =
    let e : number + 0 ≡ number = omega arith in
    subst (λ s. Leads language number s other last) leads (subst (λ (n : ℕ). Leads language n middle other last) e more)
leads_append language number first middle last (line ∷ one) other leads more =
    let e : number + suc (length one) ≡ number + 1 + length one = omega arith in (
      leads.0,
      leads.1,
      leads_append language (number + 1) leads.0 middle last one other leads.2 (subst (λ (n : ℕ). Leads language n middle other last) e more),
    )

-- ---- the tablets of a table

same_list : (one other : List Replica) → same_replicas one other ≡ true → one ≡ other
same_list [] [] e = refl
same_list [] (b ∷ other) e = absurd (cc)
same_list (a ∷ one) [] e = absurd (cc)
same_list (a ∷ one) (b ∷ other) e =
    let parts = both (same_replica a b) (same_replicas one other) e in
    ap (λ (r : Replica). r ∷ one) (same_replica-same a b parts.0) ∙ ap (λ (list : List Replica). b ∷ list) (same_list one other parts.1)

-- a tablet that rests is its list at rest
rested : (tablet : Tablet) → tablet.transition ≡ None → at_rest tablet.replicas ≡ tablet
rested tablet rests = ap (λ (found : Option Transition). let t : Tablet = record { replicas = tablet.replicas; transition = found } in t) (sym rests)

same_id : (n : ℕ) → (n == n) ≡ true
same_id n = grind (arith, nat_tests)

-- a table behind others that have other numbers gets the replicas
placed_last : (earlier : List Table) (id : TableId) (b : ℕ) (list : List Tablet) (at : ℕ) (tablet : Tablet) → list_any (has_id id) earlier ≡ false → tablet.transition ≡ None
    → placed_tables (record { table = id; tablet = record { 0 = at }; replicas = tablet.replicas }) (earlier ++ table_of id b list ∷ []) ≡ earlier ++ table_of id b (set list at tablet) ∷ []
placed_last [] id b list at tablet none rests =
    rw (same_id id.0) (ap (λ (t : Tablet). table_of id b (set list at t) ∷ []) (rested tablet rests))
placed_last (x ∷ earlier) id b list at tablet none rests =
    let other : same_table id x.id ≡ false = or_left (same_table id x.id) (list_any (has_id id) earlier) none in
    rw other (ap (λ (list : List Table). x ∷ list) (placed_last earlier id b list at tablet (or_right (same_table id x.id) (list_any (has_id id) earlier) none) rests))

placed_there : (placed : List (TableId × TabletId)) (id : TableId) (at : ℕ) (other : TableId) (k : TabletId) → (same_table other id && (k.0 == at)) ≡ false → is_placed (placed ++ (id, record { 0 = at }) ∷ []) other k ≡ is_placed placed other k
placed_there [] id at other k apart = rw apart refl
placed_there (x ∷ placed) id at other k apart = ap (λ (t : Bool). is_placed_at other k x || t) (placed_there placed id at other k apart)

-- the lines lead from a table with these tablets to one with others, and only tablets of it get lines of their own
record LeadsTo (opening : Opening) (earlier : List Table) (id : TableId) (b : ℕ) (list whole : List Tablet) (placed : List (TableId × TabletId)) (number : ℕ) (lines : List Line) : Type 0 where
  pub after : List (TableId × TabletId)
  pub leads : Leads schedules number (InHeader (header_at opening (earlier ++ table_of id b list ∷ []) placed)) lines (InHeader (header_at opening (earlier ++ table_of id b whole ∷ []) after))
  pub others : (other : TableId) (k : TabletId) → same_table other id ≡ false → is_placed after other k ≡ is_placed placed other k

-- where the tablets of a table are written
record IsPlace (opening : Opening) (earlier : List Table) (id : TableId) : Type 0 where
  pub hosts : opening.hosts ≤ 256
  pub shards : opening.shards ≤ 16
  pub fits : id.0 < 2 ^ 32
  pub new : list_any (has_id id) earlier ≡ false

one_line : (opening : Opening) (earlier : List Table) (id : TableId) (b : ℕ) (list whole : List Tablet) (placed : List (TableId × TabletId)) (number at : ℕ) (tablet : Tablet) (lines : List Line) → IsPlace opening earlier id → at < length list → length list ≤ 1024 → is_placed placed id (record { 0 = at }) ≡ false → IsTabletFit opening tablet
    → LeadsTo opening earlier id b (set list at tablet) whole (placed ++ (id, record { 0 = at }) ∷ []) (number + 1) lines
    → LeadsTo opening earlier id b list whole placed number ((codes "tablet" ∷ decimal id.0 ∷ decimal at ∷ replica_words tablet.replicas) ∷ lines)
one_line opening earlier id b list whole placed number at tablet lines place inside few new fit more =
    let said : TabletLine = record { table = id; tablet = record { 0 = at }; replicas = tablet.replicas } in
    let after : List (TableId × TabletId) = placed ++ (id, record { 0 = at }) ∷ [] in
    let spells = spells_tablet opening place.hosts place.shards earlier (table_of id b list) placed at tablet place.fits place.new inside few new fit in
    record {
      after = more.after;
      leads = (
        InHeader (header_at opening (earlier ++ table_of id b (set list at tablet) ∷ []) after),
        (
          SaidHeader (SaidTablet said),
          (SaidTablet said, spells, refl),
          ap (λ (tables : List Table). InHeader (header_at opening tables after)) (sym (placed_last earlier id b list at tablet place.new fit.rests)),
        ),
        more.leads,
      );
      others = λ other k differs. more.others other k differs ∙ placed_there placed id at other k (rw differs refl);
    }

tablets_lead : (opening : Opening) (earlier : List Table) (id : TableId) (b : ℕ) (usual : List Replica) (front tablets list whole : List Tablet) (placed : List (TableId × TabletId)) (number at : ℕ) → IsPlace opening earlier id → at ≡ length front → list ≡ front ++ replicate (length tablets) (at_rest usual) → whole ≡ front ++ tablets → length front + length tablets ≤ 1024 → ((k : ℕ) → at ≤ k → is_placed placed id (record { 0 = k }) ≡ false) → AllByRecursion (IsTabletFit opening) tablets
    → LeadsTo opening earlier id b list whole placed number (tablet_lines id usual at tablets)
tablets_lead opening earlier id b usual front [] list whole placed number at place here now all few new fit = record {
  after = placed;
  leads = ap (λ (tablets : List Tablet). InHeader (header_at opening (earlier ++ table_of id b tablets ∷ []) placed)) (all ∙ sym now);
  others = λ other k differs. refl;
}
tablets_lead opening earlier id b usual front (tablet ∷ tablets) list whole placed number at place here now all few new fit =
    let rest : List Tablet = replicate (length tablets) (at_rest usual) in
    let size : length (front ++ tablet ∷ []) ≡ length front + length (tablet ∷ []) = length-append front (tablet ∷ []) in
    let next : at + 1 ≡ length (front ++ tablet ∷ []) = omega arith in
    let whole_next : whole ≡ (front ++ tablet ∷ []) ++ tablets = all ∙ sym (append_assoc front (tablet ∷ []) tablets) in
    let few_next : length (front ++ tablet ∷ []) + length tablets ≤ 1024 = omega arith in
    let joined : (front ++ tablet ∷ []) ++ rest ≡ front ++ tablet ∷ rest = append_assoc front (tablet ∷ []) rest in
    elim (same_replicas usual tablet.replicas) as (λ (t : Bool). same_replicas usual tablet.replicas ≡ t → LeadsTo opening earlier id b list whole placed number (cond t [] ((codes "tablet" ∷ decimal id.0 ∷ decimal at ∷ replica_words tablet.replicas) ∷ []) ++ tablet_lines id usual (at + 1) tablets)) [
      | true ↦ λ e.
          let same : at_rest usual ≡ tablet = ap at_rest (same_list usual tablet.replicas e) ∙ rested tablet fit.0.rests in
          let stays : list ≡ (front ++ tablet ∷ []) ++ rest = now ∙ ap (λ (t : Tablet). front ++ t ∷ rest) same ∙ sym joined in
          tablets_lead opening earlier id b usual (front ++ tablet ∷ []) tablets list whole placed number (at + 1) place next stays whole_next few_next (λ k later. new k (omega arith)) fit.1
      | false ↦ λ e.
          let set_there : set list at tablet ≡ (front ++ tablet ∷ []) ++ rest =
          ap (λ (l : List Tablet). set l at tablet) now
          ∙ ap (λ (n : ℕ). set (front ++ at_rest usual ∷ rest) n tablet) here
          ∙ set-append_seam front (at_rest usual) rest tablet
          ∙ sym joined in
          let count : length list ≡ length front + suc (length rest) = ap length now ∙ length-append front (at_rest usual ∷ rest) in
          let left : length rest ≡ length tablets = length-replicate (length tablets) (at_rest usual) in
          let later_new : (k : ℕ) → at + 1 ≤ k → is_placed (placed ++ (id, record { 0 = at }) ∷ []) id (record { 0 = k }) ≡ false =
          λ k later.
          let apart : (k == at) ≡ false = grind (arith, nat_tests) in
          placed_there placed id at id (record { 0 = k }) (rw (same_id id.0, apart) refl) ∙ new k (omega arith) in
          one_line opening earlier id b list whole placed number at tablet (tablet_lines id usual (at + 1) tablets) place (omega arith) (omega arith) (new at (omega arith)) fit.0
          (tablets_lead opening earlier id b usual (front ++ tablet ∷ []) tablets (set list at tablet) whole (placed ++ (id, record { 0 = at }) ∷ []) (number + 1) (at + 1) place next set_there whole_next few_next later_new fit.1)
    ] refl

-- ---- the tables

-- no tablet of the table has had a line of its own
abbrev IsUnplaced : List (TableId × TabletId) → Table → Type 0
IsUnplaced placed t = (k : TabletId) → is_placed placed t.id k ≡ false

turned : (a b : ℕ) → (a == b) ≡ false → (b == a) ≡ false
turned a b h = grind (arith, nat_tests)

still_unplaced : (placed after : List (TableId × TabletId)) (id : TableId) → ((other : TableId) (k : TabletId) → same_table other id ≡ false → is_placed after other k ≡ is_placed placed other k) → (tables : List Table) → list_any (has_id id) tables ≡ false → AllByRecursion (IsUnplaced placed) tables → AllByRecursion (IsUnplaced after) tables
still_unplaced placed after id others [] none new = tt
still_unplaced placed after id others (t ∷ tables) none new =
    let apart : same_table id t.id ≡ false = or_left (same_table id t.id) (list_any (has_id id) tables) none in (
      λ k. others t.id k (turned id.0 t.id.0 apart) ∙ new.0 k,
      still_unplaced placed after id others tables (or_right (same_table id t.id) (list_any (has_id id) tables) none) new.1,
    )

-- a table that is not to be resized
whole_table : (t : Table) → t.resize ≡ None → table_of t.id t.map.log2 t.map.list ≡ t
whole_table t undecided = ap (λ (found : Option Resize). let table : Table = record { id = t.id; map = t.map; resize = found } in table) (sym undecided)

-- the first tablet of a table
first_fit : (opening : Opening) (list : List Tablet) → 1 ≤ length list → AllByRecursion (IsTabletFit opening) list → IsTabletFit opening (tablet_in list 0)
first_fit opening [] some fit = absurd (omega arith)
first_fit opening (tablet ∷ list) some fit = fit.0

abbrev tablets_in : Table → ℕ
tablets_in t = length t.map.list

count_behind : (earlier later : List Table) → tablet_count (earlier ++ later) ≡ tablet_count earlier + tablet_count later
count_behind earlier later = sum_by-append tablets_in earlier later

count_first : (t : Table) (tables : List Table) → tablet_count (t ∷ tables) ≡ length t.map.list + tablet_count tables
count_first t tables = sum_by-cons tablets_in t tables

record LeadsOver (opening : Opening) (earlier whole : List Table) (placed : List (TableId × TabletId)) (number : ℕ) (lines : List Line) : Type 0 where
  pub after : List (TableId × TabletId)
  pub leads : Leads schedules number (InHeader (header_at opening earlier placed)) lines (InHeader (header_at opening whole after))

-- the lines of one table
table_leads : (opening : Opening) (earlier : List Table) (t : Table) (placed : List (TableId × TabletId)) (number : ℕ) → IsPlace opening earlier t.id → length earlier < 64 → tablet_count earlier + length t.map.list ≤ 1024 → IsTableFit opening t → IsUnplaced placed t
    → LeadsTo opening earlier t.id t.map.log2 (new_tablets t.map.log2 (first_replicas t)).list t.map.list placed (number + 1) (tablet_lines t.id (first_replicas t) 0 t.map.list)
table_leads opening earlier t placed number place few all fit new =
    let count : length t.map.list ≡ 2 ^ t.map.log2 = fit.count in
    tablets_lead opening earlier t.id t.map.log2 (first_replicas t) [] t.map.list (new_tablets t.map.log2 (first_replicas t)).list t.map.list placed (number + 1) 0 place refl
    (ap (λ (n : ℕ). replicate n (at_rest (first_replicas t))) (sym count))
    refl (omega arith) (λ k later. new (record { 0 = k })) fit.tablets

some_tablets : (n b : ℕ) → n ≡ 2 ^ b → 1 ≤ n
some_tablets n b e = let some : 0 < 2 ^ b = pow_pos b in omega arith

tables_lead : (opening : Opening) → opening.hosts ≤ 256 → opening.shards ≤ 16 → (earlier tables : List Table) (placed : List (TableId × TabletId)) (number : ℕ) → have_distinct_ids (earlier ++ tables) ≡ true → length (earlier ++ tables) ≤ 64 → tablet_count (earlier ++ tables) ≤ 1024 → AllByRecursion (IsTableFit opening) tables → AllByRecursion (IsUnplaced placed) tables
    → LeadsOver opening earlier (earlier ++ tables) placed number (flat_map table_lines tables)
tables_lead opening small least earlier [] placed number distinct few all fit new =
    record { after = placed; leads = ap (λ (tables : List Table). InHeader (header_at opening tables placed)) (append-nil earlier) }
tables_lead opening small least earlier (t ∷ tables) placed number distinct few all fit new =
    let none : list_any (has_id t.id) earlier ≡ false = no_table_before earlier t tables distinct in
    let behind : list_any (has_id t.id) tables ≡ false = no_table_behind earlier t tables distinct in
    let place : IsPlace opening earlier t.id = record { hosts = small; shards = least; fits = fit.0.id; new = none } in
    let size : length (earlier ++ t ∷ tables) ≡ length earlier + length (t ∷ tables) = length-append earlier (t ∷ tables) in
    let count : tablet_count (earlier ++ t ∷ tables) ≡ tablet_count earlier + tablet_count (t ∷ tables) = count_behind earlier (t ∷ tables) in
    let first_count : tablet_count (t ∷ tables) ≡ length t.map.list + tablet_count tables = count_first t tables in
    let own : length t.map.list ≡ 2 ^ t.map.log2 = fit.0.count in
    let some : 1 ≤ length t.map.list = some_tablets (length t.map.list) t.map.log2 own in
    let one = table_leads opening earlier t placed number place (omega arith) (omega arith) fit.0 new.0 in
    let spells = spells_table opening small least earlier placed t.id t.map.log2 (tablet_in t.map.list 0) fit.0.id none (omega arith) fit.0.log2 (omega arith) (first_fit opening t.map.list some fit.0.tablets) in
    let first : Table = table_of t.id t.map.log2 (new_tablets t.map.log2 (first_replicas t)).list in
    let more : (earlier ++ t ∷ []) ++ tables ≡ earlier ++ t ∷ tables = append_assoc earlier (t ∷ []) tables in
    let rest : LeadsOver opening (earlier ++ t ∷ []) ((earlier ++ t ∷ []) ++ tables) one.after (number + length (table_lines t)) (flat_map table_lines tables) =
    tables_lead opening small least (earlier ++ t ∷ []) tables one.after (number + length (table_lines t))
    (subst (λ (list : List Table). have_distinct_ids list ≡ true) (sym more) distinct)
    (subst (λ (list : List Table). length list ≤ 64) (sym more) few)
    (subst (λ (list : List Table). tablet_count list ≤ 1024) (sym more) all)
    fit.1
    (still_unplaced placed one.after t.id one.others tables behind new.1) in
    let written : Leads schedules number (InHeader (header_at opening earlier placed)) (table_lines t) (InHeader (header_at opening (earlier ++ t ∷ []) one.after)) = (
      InHeader (header_at opening (earlier ++ first ∷ []) placed),
      (SaidHeader (SaidTable first), (SaidTable first, spells, refl), refl),
      subst
          (λ (table : Table). Leads schedules (number + 1) (InHeader (header_at opening (earlier ++ first ∷ []) placed)) (tablet_lines t.id (first_replicas t) 0 t.map.list) (InHeader (header_at opening (earlier ++ table ∷ []) one.after)))
          (whole_table t fit.0.undecided)
          one.leads,
    ) in
    record {
      after = rest.after;
      leads =
          leads_append schedules number
          (InHeader (header_at opening earlier placed))
          (InHeader (header_at opening (earlier ++ t ∷ []) one.after))
          (InHeader (header_at opening (earlier ++ t ∷ tables) rest.after))
          (table_lines t)
          (flat_map table_lines tables)
          written
          (subst
          (λ (list : List Table). Leads schedules (number + length (table_lines t)) (InHeader (header_at opening (earlier ++ t ∷ []) one.after)) (flat_map table_lines tables) (InHeader (header_at opening list rest.after)))
          more
          rest.leads);
    }

-- ---- the header

all_unplaced : (tables : List Table) → AllByRecursion (IsUnplaced []) tables
all_unplaced [] = tt
all_unplaced (t ∷ tables) = (λ k. refl, all_unplaced tables)

abbrev no_hosts : Opening → Header
no_hosts opening = record (no_header SecondFormat) { hosts = Some opening.hosts }

abbrev no_shards : Opening → Header
no_shards opening = record (no_header SecondFormat) { hosts = Some opening.hosts; lanes = Some opening.lanes }

abbrev no_members : Opening → Header
no_members opening = record (no_header SecondFormat) { hosts = Some opening.hosts; lanes = Some opening.lanes; shards = Some opening.shards }

counts_lead : (opening : Opening) → IsValidOpening opening → Leads schedules 1 Nothing (count_lines opening) (InHeader (no_members opening))
unfolding header_line
counts_lead opening valid = (
  InHeader (no_header SecondFormat),
  (SaidFormat SecondFormat, (SecondFormat, refl, refl), refl),
  (
    InHeader (no_hosts opening),
    (
      SaidHeader (SaidHosts opening.hosts),
      (
        SaidHosts opening.hosts,
        (HostsWord, refl, (opening.hosts, spells_count (2 ^ 16) (most_hosts SecondFormat) opening.hosts Hosts valid.topology.hosts.0 valid.topology.hosts.1 (omega arith) (omega arith), refl)),
        refl,
      ),
      refl,
    ),
    (
      InHeader (no_shards opening),
      (
        SaidHeader (SaidLanes opening.lanes),
        (
          SaidLanes opening.lanes,
          (LanesWord, refl, (opening.lanes, spells_count (2 ^ 8) 4 opening.lanes Lanes valid.lanes.0 valid.lanes.1 (omega arith) (omega arith), refl)),
          refl,
        ),
        refl,
      ),
      (
        InHeader (no_members opening),
        (
          SaidHeader (SaidShards opening.shards),
          (
            SaidShards opening.shards,
            (ShardsWord, refl, (opening.shards, spells_count (2 ^ 8) 16 opening.shards Shards valid.topology.shards.0 valid.topology.shards.1 (omega arith) (omega arith), refl)),
            refl,
          ),
          refl,
        ),
        refl,
      ),
    ),
  ),
)

members_lead : (opening : Opening) (number : ℕ) → IsValidOpening opening → Leads schedules number (InHeader (no_members opening)) (spelt_members opening.members ∷ []) (InHeader (header_at opening [] []))
unfolding header_line
members_lead opening number valid = (
  InHeader (header_at opening [] []),
  (
    SaidHeader (SaidMembers opening.members),
    (
      SaidMembers opening.members,
      (
        MembersWord,
        refl,
        (
          opening.members,
          spells_members opening.hosts valid.topology.hosts.1 opening.members valid.topology.some valid.topology.within valid.topology.once,
          refl,
        ),
      ),
      refl,
    ),
    refl,
  ),
  refl,
)

abbrev pub body_of : Opening → Body
body_of opening = record { format = SecondFormat; opening = opening; labels = no_labels; lines = [] }

go_leads : (opening : Opening) (number : ℕ) (placed : List (TableId × TabletId)) → Leads schedules number (InHeader (header_at opening opening.tables placed)) ((codes "go" ∷ []) ∷ []) (InBody (body_of opening))
unfolding header_line
go_leads opening number placed = (
  InBody (body_of opening),
  (SaidHeader SaidGo, (SaidGo, (Go, refl, refl), refl), refl),
  refl,
)

-- a written header leads to its opening
pub header_leads : (opening : Opening) → IsValidOpening opening → AllByRecursion FitsTable opening.tables → Leads schedules 1 Nothing (header_lines opening) (InBody (body_of opening))
header_leads opening valid fits =
    let sound = valid.topology.sound in
    let counts : ℕ = 1 + length (count_lines opening) in
    let tables = tables_lead opening valid.topology.hosts.1 valid.topology.shards.1 [] opening.tables [] (counts + 1) sound.distinct sound.few sound.tablets (opening_fits opening valid fits) (all_unplaced opening.tables) in
    leads_append schedules 1 Nothing (InHeader (no_members opening)) (InBody (body_of opening)) (count_lines opening) (spelt_members opening.members ∷ (flat_map table_lines opening.tables ++ (codes "go" ∷ []) ∷ []))
    (counts_lead opening valid)
    (leads_append schedules counts (InHeader (no_members opening)) (InHeader (header_at opening [] [])) (InBody (body_of opening)) (spelt_members opening.members ∷ []) (flat_map table_lines opening.tables ++ (codes "go" ∷ []) ∷ [])
    (members_lead opening counts valid)
    (leads_append schedules (counts + 1) (InHeader (header_at opening [] [])) (InHeader (header_at opening opening.tables tables.after)) (InBody (body_of opening)) (flat_map table_lines opening.tables) ((codes "go" ∷ []) ∷ [])
    tables.leads
    (go_leads opening (counts + 1 + length (flat_map table_lines opening.tables)) tables.after)))
