-- The opening of a document is valid.
use Rattle.std.proofs.Common.{◌≡◌, ℕ, ◌+◌, ◌<◌, ◌≤◌, ◌^◌, ◌==◌, ◌&&◌, ◌||◌, not, nat_lt, nat_le, Bool, true, false, List, [], ◌∷◌, ◌++◌, length, Some, None, Result, Ok, Err, refl, sym, subst, arith}
use Rattle.std.specs.List.{All, list_all}
use Rattle.std.specs.Prelude.{IfOk, is_some}
use Rattle.std.proofs.lemmas.Bool.Decides.{nat_tests}
use Rattle.std.proofs.lemmas.List.{length-append}
use Rattle.std.proofs.lemmas.List.Elements.{All-nil, All-push, All-head, All-tail}
use Rattle.base_ids.specs.Names.{same_host}
use Rattle.base_ids.specs.Replicas.{has_host, on_distinct_hosts}
use Rattle.base_ids.specs.declared.ids.HostId.{HostId}
use Rattle.base_ids.specs.declared.ids.Replica.{Replica}
use Rattle.base_ids.specs.declared.ids.TableId.{TableId}
use Rattle.base_ids.specs.declared.rules.LimitName.{LimitName}
use Rattle.base_ids.specs.declared.rules.LimitName.TheVariants.{Hosts, Lanes, Shards, Tables, Log2, Replicas, Tablets as TabletsLimit}
use Rattle.serde_json.specs.Data.{Data}
use Rattle.tablet_map.specs.Replicas.{IsReplicaSet}
use Rattle.tablet_map.specs.Calls.{new_tablets}
use Rattle.tablet_map.proofs.Joined.{and_left, and_right, and_both, not_true}
use Rattle.topo_state.specs.declared.data.Table.{Table}
use Rattle.topo_state.specs.State.{distinct_members, is_member, is_on_member}
use Rattle.topo_state.specs.Tables.{table_in, have_distinct_ids, tablet_count}
use Rattle.cluster_history.specs.declared.data.Opening.{Opening}
use Rattle.cluster_history.specs.Openings.{IsValidOpening}
use Rattle.text_grammar.proofs.TellLaws.{is_within as is_word_within}
use Rattle.schedule_words.specs.Places.{next_replica}
use Rattle.schedule_words.specs.declared.counts.Format.{Format}
use Rattle.schedule_words.specs.declared.counts.Format.TheVariants.{One, Two}
use Rattle.schedule_header.specs.Forms.{most_hosts}
use Rattle.schedule_header.specs.Header.{Header, TabletLine, hosts_under, placed_in}
use Rattle.schedule_header.specs.Sound.{AreMembers, AreReplicas, Ground, is_on_ground, IsTableHere, IsSoundHeader}
use Rattle.schedule_header.proofs.ListLemmas.{replica_behind, member_behind, pass_behind}
use Rattle.schedule_header.proofs.TableLemmas.{new_here, new_count, new_distinct, placed_here}
use Rattle.schedule_header.proofs.OpeningLemmas.{valid, all_members}
use Rattle.run_plan.specs.declared.plan.RunPlan.{RunPlan}
use Rattle.json_forms.specs.Forms.{Form, Word, Is, Each}
use Rattle.json_forms.specs.Judging.{number, number_below, count, is_empty, some_of, only_if}
use Rattle.json_forms.proofs.TellLaws.{AllTell, all_tell, all_weaker, always, each_keeps, is_good, is_within, number_below_tells, count_tells}
use Rattle.cluster_file.specs.declared.frame.Frame.{Frame}
use Rattle.cluster_file.specs.declared.tables.Other.{Other}
use Rattle.cluster_file.specs.Openings.{member, format_of, frame, may_hold, replica, replicas, new_id, size, other, tablet, with_others, table_of, table, next_table, tables}
use Rattle.cluster_file.specs.declared.errors.FileError.{FileError}
use Rattle.cluster_file.specs.Documents.{opening_of, document, plan, IsDocument, IsTold}
use Rattle.cluster_file.specs.Plans.{pace}
use Rattle.cluster_file.proofs.SoundLemmas.{table_length}

-- ---- lists of one or more

some_there : {A : Type 0} (all : List A) → not (is_empty all) ≡ true → 1 ≤ length all
some_there [] e = absurd (cc)
some_there (a ∷ all) e = omega arith

some_tells : {B : Type 0} (P : List B → Type 0) (form : List B → Form B) → P [] → ((earlier : List B) (d : Data) (b : B) → P earlier → Is (form earlier) d b → P (earlier ++ b ∷ [])) → AllTell (λ all. (1 ≤ length all) × P all) (some_of form)
some_tells P form none more = λ ds all are a e.
    let p = is_good (not (is_empty all)) all a e in
    subst (λ x. (1 ≤ length x) × P x) p.1 (some_there all p.0, each_keeps P form more [] ds all none are)

-- ---- members

record MayMeet (hosts : ℕ) (members : List HostId) : Type 0 where
  pub once : distinct_members members ≡ true
  pub within : All (λ (h : HostId). h.0 < hosts) members

member_there : (hosts : ℕ) (earlier : List HostId) (d : Data) (h : HostId) → Is (member hosts earlier) d h → (is_member earlier h ≡ false) × (h.0 < hosts)
unfolding member
member_there hosts earlier d h is =
    let n : ℕ = is.0 in
    let less : n < hosts = all_tell (λ x. x < hosts) (number_below hosts) d n (number_below_tells hosts) is.1 in
    let found : HostId = record { 0 = n } in
    let p = is_good (not (is_member earlier found)) found h is.2 in
    (subst (λ (x : HostId). is_member earlier x ≡ false) p.1 (not_true (is_member earlier found) p.0), subst (λ (x : HostId). x.0 < hosts) p.1 less)

members_tell : (hosts : ℕ) → AllTell (AreMembers hosts) (some_of (member hosts))
members_tell hosts =
    all_weaker (λ all. (1 ≤ length all) × MayMeet hosts all) (AreMembers hosts) (λ all may. record { some = may.0; once = may.1.once; within = may.1.within }) (some_of (member hosts))
    (some_tells (MayMeet hosts) (member hosts) (record { once = refl; within = All-nil (λ (h : HostId). h.0 < hosts) })
    (λ earlier d h may is.
    let t = member_there hosts earlier d h is in
    record { once = member_behind earlier h may.once t.0; within = All-push (λ (x : HostId). x.0 < hosts) earlier h may.within t.1 }))

-- ---- the frame

pub record IsFrame (f : Frame) : Type 0 where
  pub hosts : (1 ≤ f.hosts) × (f.hosts ≤ 256)
  pub lanes : (1 ≤ f.lanes) × (f.lanes ≤ 4)
  pub shards : (1 ≤ f.shards) × (f.shards ≤ 16)
  pub members : AreMembers f.hosts f.members

-- no format has more than 256 hosts
hosts_within : (format : Format) (n : ℕ) → (1 ≤ n) × (n ≤ most_hosts format) → (1 ≤ n) × (n ≤ 256)
hosts_within One n within = (within.0, omega arith)
hosts_within Two n within = within

hosts_tell : (format : Format) → AllTell (λ n. (1 ≤ n) × (n ≤ 256)) (count 1 (most_hosts format) Hosts)
hosts_tell format =
    all_weaker (λ n. (1 ≤ n) × (n ≤ most_hosts format)) _ (λ n within. hosts_within format n within) (count 1 (most_hosts format) Hosts) (count_tells 1 (most_hosts format) Hosts)

-- all hosts are members: what schedule_header proves of a header whose members are left out
pub frame_tells : ((n : ℕ) → 1 ≤ n → AreMembers n (hosts_under n)) → (format : Format) → AllTell IsFrame (frame format)
unfolding frame
frame_tells everyone format =
    all_weaker (λ n. (1 ≤ n) × (n ≤ 256)) _ (λ hosts h.
    all_weaker (λ n. (1 ≤ n) × (n ≤ 4)) _ (λ lanes l.
    let one : (1 ≤ 1) × (1 ≤ 16) = (omega arith, omega arith) in
    let rest : (shards : ℕ) → (1 ≤ shards) × (shards ≤ 16) → (members : List HostId) → AreMembers hosts members → IsFrame (record { format = format; hosts = hosts; lanes = lanes; shards = shards; members = members }) = λ shards s members m. record { hosts = h; lanes = l; shards = s; members = m } in
    let later : (shards : ℕ) → (1 ≤ shards) × (shards ≤ 16) → Unit {0} → AllTell (λ (members : List HostId). IsFrame (record { format = format; hosts = hosts; lanes = lanes; shards = shards; members = members })) (some_of (member hosts)) = λ shards s _. all_weaker (AreMembers hosts) _ (rest shards s) (some_of (member hosts)) (members_tell hosts) in (
      (rest 1 one (hosts_under hosts) (everyone hosts h.0), later 1 one tt),
      all_weaker (λ n. (1 ≤ n) × (n ≤ 16)) _ (λ shards s. (rest shards s (hosts_under hosts) (everyone hosts h.0), later shards s tt)) (count 1 16 Shards) (count_tells 1 16 Shards),
    ))
    (count 1 4 Lanes) (count_tells 1 4 Lanes))
    (count 1 (most_hosts format) Hosts) (hosts_tell format)

-- ---- replicas

site : Frame → Ground
site f = record { hosts = f.hosts; shards = f.shards; members = f.members }

record MayBe (f : Frame) (replicas : List Replica) : Type 0 where
  pub few : length replicas ≤ 8
  pub distinct : on_distinct_hosts replicas ≡ true
  pub known : list_all (is_on_ground (site f)) replicas ≡ true
  pub here : list_all (is_on_member f.members) replicas ≡ true

same_number : (a b : ℕ) → (a == b) ≡ true → a ≡ b
same_number a b e = grind (arith, nat_tests)

member_below : (hosts : ℕ) (members : List HostId) (h : HostId) → All (λ (x : HostId). x.0 < hosts) members → is_member members h ≡ true → h.0 < hosts
member_below hosts [] h all is = absurd (cc)
member_below hosts (x ∷ rest) h all is =
    elim (same_host h x) as (λ (t : Bool). same_host h x ≡ t → (t || is_member rest h) ≡ true → h.0 < hosts) [
      | true ↦ λ same _. subst (λ (n : ℕ). n < hosts) (sym (same_number h.0 x.0 same)) (All-head (λ (y : HostId). y.0 < hosts) x rest all)
      | false ↦ λ _ more. member_below hosts rest h (All-tail (λ (y : HostId). y.0 < hosts) x rest all) more
    ] refl is

room : (earlier : List Replica) → AllTell (λ _. length earlier < 8) (Word (next_replica earlier))
unfolding next_replica
room earlier = λ text r is.
    let p = is_word_within (nat_lt (length earlier) 8) Replicas is.0 r is.2 in
    let test : nat_lt (length earlier) 8 ≡ true = p.0 in
    grind (arith, nat_tests)

held : (f : Frame) (earlier : List Replica) (d : Data) (r : Replica) → Is (replica f earlier) d r → (may_hold f earlier r ≡ true) × (length earlier < 8)
unfolding replica
held f earlier d r is =
    let p = is_good (may_hold f earlier is.0) is.0 r is.2 in
    (subst (λ (x : Replica). may_hold f earlier x ≡ true) p.1 p.0, all_tell (λ _. length earlier < 8) (Word (next_replica earlier)) d is.0 (room earlier) is.1)

lower : (a b : ℕ) → a < b → nat_lt a b ≡ true
lower a b less = grind (arith, nat_tests)

one_more : (f : Frame) → IsFrame f → (earlier : List Replica) (r : Replica) → MayBe f earlier → may_hold f earlier r ≡ true → length earlier < 8 → MayBe f (earlier ++ r ∷ [])
unfolding site
one_more f ok earlier r may hold few =
    let there : is_member f.members r.host ≡ true = and_left _ _ hold in
    let behind : (nat_lt r.shard.0 f.shards && not (has_host earlier r.host)) ≡ true = and_right _ _ hold in
    let shard : nat_lt r.shard.0 f.shards ≡ true = and_left _ _ behind in
    let alone : has_host earlier r.host ≡ false = not_true (has_host earlier r.host) (and_right _ _ behind) in
    let exists : nat_lt r.host.0 f.hosts ≡ true = lower r.host.0 f.hosts (member_below f.hosts f.members r.host ok.members.within there) in
    let count : length (earlier ++ r ∷ []) ≡ length earlier + length (r ∷ []) = length-append earlier (r ∷ []) in
    record {
      few = omega arith;
      distinct = replica_behind earlier r may.distinct alone;
      known = pass_behind _ earlier r may.known (and_both _ _ exists shard);
      here = pass_behind _ earlier r may.here there;
    }

replicas_tell : (f : Frame) → IsFrame f → AllTell (AreReplicas (site f)) (replicas f)
unfolding replicas site
replicas_tell f ok =
    all_weaker (λ all. (1 ≤ length all) × MayBe f all) (AreReplicas (site f))
    (λ all may. let is_set : IsReplicaSet all = record { some = may.0; few = may.1.few; distinct = may.1.distinct } in record { set = is_set; known = may.1.known; here = may.1.here })
    (some_of (replica f))
    (some_tells (MayBe f) (replica f) (record { few = omega arith; distinct = refl; known = refl; here = refl }) (λ earlier d r may is. let h = held f earlier d r is in one_more f ok earlier r may h.0 h.1))

-- ---- tables

other_tells : (f : Frame) → IsFrame f → (b : ℕ) (earlier : List Other) → AllTell (λ o. AreReplicas (site f) o.replicas) (other f b earlier)
unfolding other
other_tells f ok b earlier = always _ (λ at. replicas_tell f ok) (tablet b earlier)

others_tell : (f : Frame) → IsFrame f → (b : ℕ) → AllTell (All (λ (o : Other). AreReplicas (site f) o.replicas)) (Each (other f b))
others_tell f ok b = λ ds all are.
    each_keeps (All (λ (o : Other). AreReplicas (site f) o.replicas)) (other f b)
    (λ earlier d o so is. All-push (λ (o : Other). AreReplicas (site f) o.replicas) earlier o so (all_tell (λ o. AreReplicas (site f) o.replicas) (other f b earlier) d o (other_tells f ok b earlier) is))
    [] ds all (All-nil (λ (o : Other). AreReplicas (site f) o.replicas)) are

all_here : (g : Ground) (others : List Other) (t : Table) → All (λ (o : Other). AreReplicas g o.replicas) others → IsTableHere g t → IsTableHere g (record { id = t.id; map = with_others others t.map; resize = t.resize })
all_here g [] t so here = here
all_here g (o ∷ others) t so here =
    let line : TabletLine = record { table = t.id; tablet = o.tablet; replicas = o.replicas } in
    all_here g others (placed_in line t) (All-tail (λ (x : Other). AreReplicas g x.replicas) o others so) (placed_here g line t here (All-head (λ (x : Other). AreReplicas g x.replicas) o others so))

record IsNew (f : Frame) (earlier : List Table) (t : Table) : Type 0 where
  pub new : is_some (table_in earlier t.id) ≡ false
  pub fits : tablet_count earlier + length t.map.list ≤ 1024
  pub here : IsTableHere (site f) t

id_tells : (earlier : List Table) → AllTell (λ id. is_some (table_in earlier id) ≡ false) (new_id earlier)
unfolding new_id
id_tells earlier =
    always _ (λ n id e.
    let found : TableId = record { 0 = n } in
    let p = is_good (not (is_some (table_in earlier found))) found id e in
    subst (λ (x : TableId). is_some (table_in earlier x) ≡ false) p.1 (not_true (is_some (table_in earlier found)) p.0))
    (number_below (2 ^ 32))

size_tells : (earlier : List Table) → AllTell (λ b. (b ≤ 10) × (tablet_count earlier + 2 ^ b ≤ 1024)) (size earlier)
unfolding size
size_tells earlier =
    all_weaker (λ n. (0 ≤ n) × (n ≤ 10)) _ (λ b few a e.
    let p = is_within (nat_le (tablet_count earlier + 2 ^ b) 1024) TabletsLimit b a e in
    let test : nat_le (tablet_count earlier + 2 ^ b) 1024 ≡ true = p.0 in
    let most : tablet_count earlier + 2 ^ b ≤ 1024 = grind (arith, nat_tests) in
    subst (λ (x : ℕ). (x ≤ 10) × (tablet_count earlier + 2 ^ x ≤ 1024)) p.1 (few.1, most))
    (count 0 10 Log2) (count_tells 0 10 Log2)

made : (f : Frame) (earlier : List Table) (id : TableId) (b : ℕ) (rs : List Replica) (others : List Other) → is_some (table_in earlier id) ≡ false → (b ≤ 10) × (tablet_count earlier + 2 ^ b ≤ 1024) → AreReplicas (site f) rs → All (λ (o : Other). AreReplicas (site f) o.replicas) others → IsNew f earlier (table_of id b rs others)
made f earlier id b rs others new few are so =
    let fresh : Table = record { id = id; map = new_tablets b rs; resize = None } in
    record {
      new = new;
      fits = subst (λ (n : ℕ). tablet_count earlier + n ≤ 1024) (sym (table_length b rs others)) few.1;
      here = all_here (site f) others fresh so (new_here (site f) id b rs few.0 are);
    }

table_tells : (f : Frame) → IsFrame f → (earlier : List Table) → AllTell (IsNew f earlier) (table f earlier)
unfolding table
table_tells f ok earlier =
    all_weaker (λ id. is_some (table_in earlier id) ≡ false) _ (λ id new.
    all_weaker (λ b. (b ≤ 10) × (tablet_count earlier + 2 ^ b ≤ 1024)) _ (λ b few.
    all_weaker (AreReplicas (site f)) _ (λ rs are. (
      made f earlier id b rs [] new few are (All-nil (λ (o : Other). AreReplicas (site f) o.replicas)),
      all_weaker (All (λ (o : Other). AreReplicas (site f) o.replicas)) _ (λ others so. made f earlier id b rs others new few are so) (Each (other f b)) (others_tell f ok b),
    ))
    (replicas f) (replicas_tell f ok))
    (size earlier) (size_tells earlier))
    (new_id earlier) (id_tells earlier)

record AreTables (f : Frame) (ts : List Table) : Type 0 where
  pub distinct : have_distinct_ids ts ≡ true
  pub few : length ts ≤ 64
  pub tablets : tablet_count ts ≤ 1024
  pub each : All (IsTableHere (site f)) ts

only_so : {A : Type 0} (test : Bool) (name : LimitName) (form : Form A) (d : Data) (a : A) → Is (only_if test name form) d a → (test ≡ true) × Is form d a
only_so true name form d a is = (refl, is)
only_so false name form d a is = absurd is

one_table : (f : Frame) → IsFrame f → (earlier : List Table) (d : Data) (t : Table) → AreTables f earlier → Is (next_table f earlier) d t → AreTables f (earlier ++ t ∷ [])
one_table f ok earlier d t so is =
    let p = only_so (nat_lt (length earlier) 64) Tables (table f earlier) d t is in
    let test : nat_lt (length earlier) 64 ≡ true = p.0 in
    let below : length earlier < 64 = grind (arith, nat_tests) in
    let new : IsNew f earlier t = all_tell (IsNew f earlier) (table f earlier) d t (table_tells f ok earlier) p.1 in
    let count : length (earlier ++ t ∷ []) ≡ length earlier + length (t ∷ []) = length-append earlier (t ∷ []) in
    record {
      distinct = new_distinct earlier t so.distinct new.new;
      few = omega arith;
      tablets = subst (λ (n : ℕ). n ≤ 1024) (sym (new_count earlier t)) new.fits;
      each = All-push (IsTableHere (site f)) earlier t so.each new.here;
    }

tables_tell : (f : Frame) → IsFrame f → AllTell (AreTables f) (tables f)
unfolding tables
tables_tell f ok = λ ds all are.
    each_keeps (AreTables f) (next_table f) (λ earlier d t so is. one_table f ok earlier d t so is) [] ds all
    (record { distinct = refl; few = omega arith; tablets = omega arith; each = All-nil (IsTableHere (site f)) }) are

-- ---- the opening

header_of : Frame → List Table → Header
header_of f ts = record { format = f.format; hosts = Some f.hosts; lanes = Some f.lanes; shards = Some f.shards; members = Some f.members; tables = ts; placed = [] }

sound_header : (f : Frame) → IsFrame f → (ts : List Table) → AreTables f ts → IsSoundHeader (header_of f ts)
unfolding header_of site
sound_header f ok ts are = record {
  first = λ e. absurd (cc);
  hosts = ok.hosts;
  lanes = ok.lanes;
  shards = ok.shards;
  members = ok.members;
  distinct = are.distinct;
  few = are.few;
  tablets = are.tablets;
  each = are.each;
}

valid_opening : (f : Frame) → IsFrame f → (ts : List Table) → AreTables f ts → IsValidOpening (opening_of f ts)
unfolding header_of
valid_opening f ok ts are = valid (header_of f ts) (sound_header f ok ts are) refl refl

document_tells : AllTell (λ (x : Opening × RunPlan). IsValidOpening x.0) document
unfolding document
document_tells =
    always _ (λ n. all_weaker IsFrame _ (λ f ok. always _ (λ p. all_weaker (AreTables f) _ (λ ts are. always _ (λ _. valid_opening f ok ts are) (plan f p)) (tables f) (tables_tell f ok)) pace) (frame (format_of n)) (frame_tells all_members (format_of n))) (number 1 2)

pub says_valid : (bytes : List ℕ) (opening : Opening) (said : RunPlan) → IsDocument bytes opening said → IsValidOpening opening
says_valid bytes opening said is = all_tell (λ (x : Opening × RunPlan). IsValidOpening x.0) document is.value (opening, said) document_tells is.says

pub told_valid : (bytes : List ℕ) (r : Result (Opening × RunPlan) FileError) → IsTold bytes r → IfOk r (λ said. IsValidOpening said.0)
told_valid bytes (Ok said) told = says_valid bytes said.0 said.1 told
told_valid bytes (Err error) told = tt
