-- The next move of a plan is legal, and goes from a greatest load to a least one; there is one where the spread is
-- above 1.
use Rattle.std.proofs.Common.{◌≡◌, ◌+◌, ◌-◌, ◌<◌, ◌≤◌, ℕ, List, [], ◌∷◌, map, length, get_or, cond, eqb, nat_lt, Bool, true, false, not, ◌&&◌, ◌||◌, Option, Some, None, refl, ap, sym, subst, ◌∙◌, arith}
use Rattle.std.specs.Prelude.{is_some, option_map, position, find, filter}
use Rattle.std.specs.Option.{option_or}
use Rattle.std.specs.List.{list_any, list_all, sum_by, count_by, All}
use Rattle.std.proofs.lemmas.Bool.{eqb-true, eq-eqb, ltb-true, lt-ltb, cases_lt}
use Rattle.std.proofs.lemmas.List.Elements.{All-head, All-tail}
use Rattle.std.proofs.lemmas.List.Quantifiers.{position-Some}
use Rattle.std.proofs.lemmas.List.Sums.{sum_by-cons}
use Rattle.tablet_map.proofs.Joined.{and_left, and_right, or_left, or_right, or_first, or_second, not_true, not_false, is_false}
use Rattle.tablet_map.proofs.Places.{none_passes}
use Rattle.tablet_map.proofs.Members.{is_same}
use Rattle.tablet_map.specs.Calls.{least_moving}
use Rattle.tablet_map.specs.Tablets.{tablet_in, no_tablet, is_moving}
use Rattle.tablet_map.specs.declared.tablet.Tablet.{Tablet}
use Rattle.base_ids.specs.declared.ids.HostId.{HostId}
use Rattle.base_ids.specs.declared.ids.Replica.{Replica}
use Rattle.base_ids.specs.declared.ids.TableId.{TableId}
use Rattle.base_ids.specs.Replicas.{is_on, same_replica, has_host, has_replica}
use Rattle.topo_state.proofs.TableLemmas.{table_in-id, none_of}
use Rattle.topo_state.proofs.Passed.{named}
use Rattle.topo_state.specs.declared.data.Table.{Table}
use Rattle.topo_state.specs.declared.command.Rule.{Rule}
use Rattle.topo_state.specs.declared.command.Rule.TheVariants.{NoSuchTable, UnknownHost, NotMember, Moving, BadReplicas}
use Rattle.topo_state.specs.Rules.{first_broken, rule}
use Rattle.topo_state.specs.State.{Topology, is_member, is_on_member, is_known, has_table, table_or_empty}
use Rattle.topo_state.specs.Tables.{table_in, has_id, have_distinct_ids}
use Rattle.balance_plan.specs.declared.data.Move.{Move}
use Rattle.balance_plan.specs.Laws.{IsAtRest}
use Rattle.balance_plan.specs.Loads.{lies_on, table_load, load, loads, greatest, least, spread}
use Rattle.balance_plan.specs.Moves.{IsLegal}
use Rattle.balance_plan.specs.Plans.{is_between, tablet_move, move_at, first_move, move_between, next_move, giver, taker, least_host, place_in, first_moving}
use Rattle.balance_plan.proofs.SumLemmas.{host_is}
use Rattle.balance_plan.proofs.ExcessLemmas.{IsBetween}
use Rattle.balance_plan.proofs.ExtremeLemmas.{HasOne, greatest_most, least_least, greatest_is, least_is, least_passes, least_found}

-- ---- the tablet that moves

-- a move that was found, with its table and its tablet
pub record Found (tables : List Table) (from to : HostId) (move : Move) : Type 0 where
  pub table : Table
  pub there : table_in tables move.table ≡ Some table
  pub below : move.tablet.0 < length table.map.list
  pub between : is_between from to (tablet_in table.map.list move.tablet.0) ≡ true
  pub leaves : has_replica (tablet_in table.map.list move.tablet.0).replicas move.from ≡ true
  pub gives : from ≡ move.from.host
  pub to_host : to ≡ move.to.host
  pub shard : move.to.shard.0 ≡ 0

-- the replica that is found on a host
record OnHost (host : HostId) (replicas : List Replica) (replica : Replica) : Type 0 where
  found : find (is_on host) replicas ≡ Some replica
  is : has_replica replicas replica ≡ true
  on : host ≡ replica.host

find_on : (host : HostId) (replicas : List Replica) → has_host replicas host ≡ true → (replica : Replica) × OnHost host replicas replica
find_on host [] is = cc is
find_on host (r ∷ rest) is =
    elim (eqb host.0 r.host.0) as (λ v. eqb host.0 r.host.0 ≡ v → (v || has_host rest host) ≡ true → (replica : Replica) × OnHost host (r ∷ rest) replica) [
      | true ↦ λ e _. (
        r,
        record {
          found = rw e refl;
          is = or_first (same_replica r r) (has_replica rest r) (is_same r);
          on = host_is host r.host e;
        },
      )
      | false ↦ λ e m.
          let later = find_on host rest m in (
            later.0,
            record {
              found = rw e later.1.found;
              is = or_second (same_replica later.0 r) (has_replica rest later.0) later.1.is;
              on = later.1.on;
            },
          )
    ] refl is

-- where no tablet is between, the one load is not greater
no_more : (from to : HostId) (list : List Tablet) → All (λ (t : Tablet). is_between from to t ≡ false) list → count_by (lies_on from) list ≤ count_by (lies_on to) list
no_more from to [] none = omega arith
no_more from to (t ∷ rest) none =
    let P : Tablet → Type 0 = λ (x : Tablet). is_between from to x ≡ false in
    let a : Tablet → ℕ = λ (x : Tablet). cond (lies_on from x) 1 0 in
    let b : Tablet → ℕ = λ (x : Tablet). cond (lies_on to x) 1 0 in
    let here : a t ≤ b t = first_no_more (lies_on from t) (lies_on to t) (All-head P t rest none) in
    let there : sum_by a rest ≤ sum_by b rest = no_more from to rest (All-tail P t rest none) in
    omega (arith, sum_by-cons a t rest, sum_by-cons b t rest)
  where
    first_no_more : (a b : Bool) → (a && not b) ≡ false → cond a 1 0 ≤ cond b 1 0
    first_no_more true true h = omega arith
    first_no_more true false h = cc h
    first_no_more false true h = omega arith
    first_no_more false false h = omega arith

not_in : (id : TableId) (tables : List Table) → list_any (has_id id) tables ≡ false → table_in tables id ≡ None
not_in id [] h = refl
not_in id (t ∷ rest) h =
    rw (or_left (eqb id.0 t.id.0) (list_any (has_id id) rest) h) (not_in id rest (or_right (eqb id.0 t.id.0) (list_any (has_id id) rest) h))

pub first_found : (from to : HostId) (tables : List Table) → have_distinct_ids tables ≡ true → load tables to < load tables from → (move : Move) × (first_move from to tables ≡ Some move) × Found tables from to move
first_found from to [] distinct more = absurd (omega arith)
first_found from to (t ∷ rest) distinct more =
    let alone : list_any (has_id t.id) rest ≡ false = not_true (list_any (has_id t.id) rest) (and_left (not (list_any (has_id t.id) rest)) (have_distinct_ids rest) distinct) in
    let others : have_distinct_ids rest ≡ true = and_right (not (list_any (has_id t.id) rest)) (have_distinct_ids rest) distinct in
    elim (position (is_between from to) t.map.list) as (λ v. position (is_between from to) t.map.list ≡ v → (move : Move) × (option_or (move_at from to t v) (first_move from to rest) ≡ Some move) × Found (t ∷ rest) from to move) [
      | None ↦ λ none.
          let here : table_load from t ≤ table_load to t = no_more from to t.map.list (λ k d below. none_passes (is_between from to) t.map.list d none k below) in
          let less : load rest to < load rest from = omega (arith, sum_by-cons (table_load from) t rest, sum_by-cons (table_load to) t rest) in
          let later = first_found from to rest others less in
          let found = later.2 in
          let apart : eqb later.0.table.0 t.id.0 ≡ false = is_false (eqb later.0.table.0 t.id.0) (λ e.
          (let is : later.0.table ≡ t.id = ap (λ (n : ℕ). let r : TableId = record { 0 = n } in r) (eqb-true later.0.table.0 t.id.0 e) in
          let gone : table_in rest later.0.table ≡ None = ap (table_in rest) is ∙ not_in t.id rest alone in
          let there : table_in rest later.0.table ≡ Some found.table = found.there in cc)) in (
            later.0,
            later.1,
            record {
              table = found.table;
              there = rw apart found.there;
              below = found.below;
              between = found.between;
              leaves = found.leaves;
              gives = found.gives;
              to_host = found.to_host;
              shard = found.shard;
            },
          )
      | Some n ↦ λ some.
          let facts = position-Some (is_between from to) t.map.list n no_tablet some in
          let tablet = tablet_in t.map.list n in
          let one = find_on from tablet.replicas (and_left (lies_on from tablet) (not (lies_on to tablet)) facts.1) in
          let move : Move = record { table = t.id; tablet = record { 0 = n }; from = one.0; to = record { host = to; shard = record { 0 = 0 } } } in
          let same : eqb t.id.0 t.id.0 ≡ true = eq-eqb t.id.0 t.id.0 refl in (
            move,
            rw one.1.found refl,
            record {
              table = t;
              there = rw same refl;
              below = facts.0;
              between = facts.1;
              leaves = one.1.is;
              gives = one.1.on;
              to_host = refl;
              shard = refl;
            },
          )
    ] refl

-- ---- it is legal

not_moving : (tables : List Table) (id : TableId) (t : Table) → first_moving tables ≡ None → table_in tables id ≡ Some t → least_moving t.map.list ≡ None
not_moving [] id t still found = cc found
not_moving (x ∷ rest) id t still found =
    let parts = split (place_in x.id (least_moving x.map.list)) (first_moving rest) still in
    elim (eqb id.0 x.id.0) as (λ v. cond v (Some x) (table_in rest id) ≡ Some t → least_moving t.map.list ≡ None) [
      | true ↦ λ h. (let same : x ≡ t = cc in ap (λ (y : Table). least_moving y.map.list) (sym same) ∙ unplaced x.id (least_moving x.map.list) parts.0)
      | false ↦ λ h. not_moving rest id t parts.1 h
    ] found
  where
    split : {X : Type 0} (a b : Option X) → option_or a b ≡ None → (a ≡ None) × (b ≡ None)
    split None b h = (refl, h)
    split (Some x) b h = cc h

    unplaced : (id : TableId) (o : Option ℕ) → place_in id o ≡ None → o ≡ None
    unplaced id None h = refl
    unplaced id (Some x) h = cc h

passes : (b : Bool) (r : Rule) (rest : Option Rule) → b ≡ false → rest ≡ None → cond b (Some r) rest ≡ None
passes true r rest h e = cc h
passes false r rest h e = e

no_both : (a b : Bool) → a ≡ true → b ≡ true → not (a && b) ≡ false
no_both true true p q = refl
no_both true false p q = cc q
no_both false b p q = cc p

no_not : (a : Bool) → a ≡ true → not a ≡ false
no_not true p = refl
no_not false p = cc p

-- hosts that are members exist
member_within : (bound : ℕ) (members : List HostId) (host : HostId) → All (λ (h : HostId). h.0 < bound) members → is_member members host ≡ true → host.0 < bound
member_within bound [] host within is = cc is
member_within bound (m ∷ rest) host within is =
    elim (eqb host.0 m.0) as (λ v. eqb host.0 m.0 ≡ v → (v || is_member rest host) ≡ true → host.0 < bound) [
      | true ↦ λ e _. (let same : host.0 ≡ m.0 = eqb-true host.0 m.0 e in let here : m.0 < bound = All-head (λ (h : HostId). h.0 < bound) m rest within in omega arith)
      | false ↦ λ _ m2. member_within bound rest host (All-tail (λ (h : HostId). h.0 < bound) m rest within) m2
    ] refl is

pub found_legal : (state : Topology) (from to : HostId) (move : Move) → IsAtRest state → is_member state.members to ≡ true → Found state.tables from to move → IsLegal state move
found_legal state from to move rest is found =
    let t = found.table in
    let tablet = tablet_in t.map.list move.tablet.0 in
    let same : table_or_empty state move.table ≡ t = named state move.table t found.there in
    let there : has_table state move.table ≡ true = ap is_some found.there in
    let P : Table → Type 0 = λ x. nat_lt move.tablet.0 (length x.map.list) ≡ true in
    let below : nat_lt move.tablet.0 (length (table_or_empty state move.table).map.list) ≡ true = subst P (sym same) (lt-ltb move.tablet.0 (length t.map.list) found.below) in
    let host : is_member state.members move.to.host ≡ true = ap (is_member state.members) (sym found.to_host) ∙ is in
    let in_hosts : move.to.host.0 < state.hosts = member_within state.hosts state.members move.to.host rest.sound.members.within host in
    let shards : 1 ≤ state.shards = rest.sound.members.shards in
    let shard : move.to.shard.0 ≡ 0 = found.shard in
    let known : is_known state move.to ≡ true = both (lt-ltb move.to.host.0 state.hosts in_hosts) (lt-ltb move.to.shard.0 state.shards (omega arith)) in
    let still : least_moving t.map.list ≡ None = not_moving state.tables move.table t rest.still found.there in
    let rests : is_moving (tablet_in (table_or_empty state move.table).map.list move.tablet.0) ≡ false =
    ap (λ (x : Table). is_moving (tablet_in x.map.list move.tablet.0)) same ∙ none_passes is_moving t.map.list no_tablet still move.tablet.0 found.below in
    let leaves : has_replica (tablet_in (table_or_empty state move.table).map.list move.tablet.0).replicas move.from ≡ true =
    ap (λ (x : Table). has_replica (tablet_in x.map.list move.tablet.0).replicas move.from) same ∙ found.leaves in
    let comes : not (has_host (tablet_in (table_or_empty state move.table).map.list move.tablet.0).replicas move.to.host) ≡ true =
    ap (λ (x : Table). not (has_host (tablet_in x.map.list move.tablet.0).replicas move.to.host)) same
    ∙ (ap (λ (h : HostId). not (has_host tablet.replicas h)) (sym found.to_host)
    ∙ and_right (lies_on from tablet) (not (lies_on to tablet)) found.between) in
    passes _ NoSuchTable _ (no_both _ _ there below)
    (passes _ UnknownHost _ (no_not _ known)
    (passes _ NotMember _ (no_not _ host)
    (passes _ Moving _ rests
    (passes _ BadReplicas _ (no_both _ _ leaves comes) refl))))
  where
    both : {a b : Bool} → a ≡ true → b ≡ true → (a && b) ≡ true
    both {a} {b} p q = rw (p, q) refl

-- ---- the next move

-- a next move, with what is known of it
pub record Next (state : Topology) (move : Move) : Type 0 where
  pub legal : IsLegal state move
  pub range : IsBetween (load state.tables) state.members (load state.tables move.to.host) (load state.tables move.from.host)
  pub wide : load state.tables move.to.host + 2 ≤ load state.tables move.from.host

some_next : (state : Topology) (host : HostId) (rest : List HostId) → state.members ≡ host ∷ rest → IsAtRest state → nat_lt 1 (spread state) ≡ true → (move : Move) × (next_move state ≡ Some move) × Next state move
some_next state host rest is at_rest wide =
    let f : HostId → ℕ = load state.tables in
    let top : ℕ = greatest (loads state) in
    let low : ℕ = least (loads state) in
    let P : List HostId → Type 0 = λ hosts. HasOne f hosts (greatest (map f hosts)) in
    let Q : List HostId → Type 0 = λ hosts. HasOne f hosts (least (map f hosts)) in
    let high = subst P (sym is) (greatest_is f host rest) in
    let less = subst Q (sym is) (least_is f host rest) in
    let from = least_found (λ h. eqb (f h) top) state.members high.host high.is (eq-eqb (f high.host) top high.has) in
    let to = least_found (λ h. eqb (f h) low) state.members less.host less.is (eq-eqb (f less.host) low less.has) in
    let from_is = least_passes (λ h. eqb (f h) top) state.members from.0 from.1 in
    let to_is = least_passes (λ h. eqb (f h) low) state.members to.0 to.1 in
    let from_has : f from.0 ≡ top = eqb-true (f from.0) top from_is.passes in
    let to_has : f to.0 ≡ low = eqb-true (f to.0) low to_is.passes in
    let apart : 1 < top - low = ltb-true 1 (spread state) wide in
    let found = first_found from.0 to.0 state.tables at_rest.sound.distinct (omega arith) in
    let move : Move = found.0 in
    let facts = found.2 in
    let f_from : f move.from.host ≡ top = ap f (sym facts.gives) ∙ from_has in
    let f_to : f move.to.host ≡ low = ap f (sym facts.to_host) ∙ to_has in (
      move,
      rw (wide, from.1, to.1) found.1,
      record {
        legal = found_legal state from.0 to.0 move at_rest to_is.is facts;
        range = record {
          least = λ h m. (let l : low ≤ f h = least_least f state.members h m in omega arith);
          most = λ h m. (let g : f h ≤ top = greatest_most f state.members h m in omega arith);
        };
        wide = omega arith;
      },
    )

pub has_next : (state : Topology) → IsAtRest state → nat_lt 1 (spread state) ≡ true → (move : Move) × (next_move state ≡ Some move) × Next state move
has_next state at_rest wide =
    elim state.members as (λ v. state.members ≡ v → (move : Move) × (next_move state ≡ Some move) × Next state move) [
      | [] ↦ λ none. (let flat : spread state ≡ 0 = ap (λ (hosts : List HostId). greatest (map (load state.tables) hosts) - least (map (load state.tables) hosts)) none in
          let apart : 1 < spread state = ltb-true 1 (spread state) wide in absurd (omega arith))
      | host ∷ rest ↦ λ is. some_next state host rest is at_rest wide
    ] refl
