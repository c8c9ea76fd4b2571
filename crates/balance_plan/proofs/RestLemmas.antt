-- A state in which no tablet moves stays one over a legal move.
use Rattle.std.proofs.Common.{◌≡◌, ◌+◌, ◌<◌, ◌≤◌, ℕ, List, [], ◌∷◌, map, set, length, get_or, cond, eqb, nat_lt, Bool, true, false, not, ◌&&◌, ◌||◌, Option, Some, None, refl, ap, sym, subst, ◌∙◌, arith}
use Rattle.std.specs.Prelude.{is_some, option_map, position}
use Rattle.std.specs.Option.{option_or}
use Rattle.std.specs.List.{list_any, sum_by, All}
use Rattle.std.proofs.lemmas.Bool.{eqb-true, eq-eqb, ne_eqb, cond_both}
use Rattle.std.proofs.lemmas.List.{length-map, get_or-set_same, get_or-set_other}
use Rattle.std.proofs.lemmas.List.Sums.{sum_by-cons}
use Rattle.std.proofs.lemmas.List.Elements.{All-set}
use Rattle.std.proofs.Math.ListN.{length-set}
use Rattle.tablet_map.proofs.Joined.{and_left, and_right, or_left, or_right, not_true}
use Rattle.tablet_map.proofs.Places.{none_passes, no_place}
use Rattle.tablet_map.proofs.Replaced.{replaced_set}
use Rattle.tablet_map.proofs.Sound.{sound_at, sound_at_rest, still_map}
use Rattle.tablet_map.specs.Calls.{at_rest, least_moving}
use Rattle.tablet_map.specs.Replicas.{replaced_list, CanMove}
use Rattle.tablet_map.specs.Tablets.{tablet_in, no_tablet, is_moving, IsMap, IsSound}
use Rattle.tablet_map.specs.declared.tablet.Tablet.{Tablet}
use Rattle.base_ids.specs.declared.ids.TableId.{TableId}
use Rattle.base_ids.specs.Replicas.{has_host}
use Rattle.topo_state.proofs.TableLemmas.{table_in-id, table_in-map}
use Rattle.topo_state.specs.After.{with_list}
use Rattle.topo_state.specs.declared.data.Table.{Table}
use Rattle.topo_state.specs.Sound.{IsTable, IsOnMembers, IsTopology, IsState}
use Rattle.topo_state.specs.State.{Topology}
use Rattle.topo_state.specs.Tables.{table_in, has_id, have_distinct_ids, tablet_count}
use Rattle.balance_plan.specs.declared.data.Move.{Move}
use Rattle.balance_plan.specs.Laws.{IsAtRest}
use Rattle.balance_plan.specs.Moves.{IsLegal, moved_tablet, moved_table, moved}
use Rattle.balance_plan.specs.Plans.{TabletPlace, place_in, first_moving}
use Rattle.balance_plan.proofs.LoadLemmas.{Legal, legal_move, moved_named, moved_others, is_table}
use Rattle.balance_plan.proofs.ReplacedLemmas.{replaced_members}

-- ---- what a change of tables by number keeps

any_map : (g : Table → Table) → ((t : Table) → (g t).id ≡ t.id) → (id : TableId) (tables : List Table) → list_any (has_id id) (map g tables) ≡ list_any (has_id id) tables
any_map g keeps id [] = refl
any_map g keeps id (t ∷ rest) =
    ap (λ (x : TableId). eqb id.0 x.0 || list_any (has_id id) (map g rest)) (keeps t) ∙ ap (λ (b : Bool). eqb id.0 t.id.0 || b) (any_map g keeps id rest)

distinct_map : (g : Table → Table) → ((t : Table) → (g t).id ≡ t.id) → (tables : List Table) → have_distinct_ids (map g tables) ≡ have_distinct_ids tables
distinct_map g keeps [] = refl
distinct_map g keeps (t ∷ rest) =
    ap (λ (x : TableId). not (list_any (has_id x) (map g rest)) && have_distinct_ids (map g rest)) (keeps t) ∙
    (ap (λ (b : Bool). not b && have_distinct_ids (map g rest)) (any_map g keeps t.id rest) ∙ ap (λ (b : Bool). not (list_any (has_id t.id) rest) && b) (distinct_map g keeps rest))

abbrev size : Table → ℕ
size t = length t.map.list

count_map : (g : Table → Table) → ((t : Table) → size (g t) ≡ size t) → (tables : List Table) → tablet_count (map g tables) ≡ tablet_count tables
count_map g keeps [] = refl
count_map g keeps (t ∷ rest) = omega (arith, sum_by-cons size t rest, sum_by-cons size (g t) (map g rest), count_map g keeps rest, keeps t)

keeps_id : (move : Move) (t : Table) → (moved_table move t).id ≡ t.id
keeps_id move t = elim (eqb move.table.0 t.id.0) as (λ v. (cond v (with_list t (set t.map.list move.tablet.0 (moved_tablet move (tablet_in t.map.list move.tablet.0)))) t).id ≡ t.id) [ true ↦ refl | false ↦ refl ]

keeps_size : (move : Move) (t : Table) → size (moved_table move t) ≡ size t
keeps_size move t =
    elim (eqb move.table.0 t.id.0) as (λ v. size (cond v (with_list t (set t.map.list move.tablet.0 (moved_tablet move (tablet_in t.map.list move.tablet.0)))) t) ≡ size t)
    [ true ↦ length-set {A = Tablet} t.map.list move.tablet.0 _ | false ↦ refl ]

-- ---- the table

new_sound : (state : Topology) (move : Move) → IsTopology state → (legal : Legal state move) → IsSound (moved_tablet move (tablet_in legal.table.map.list move.tablet.0))
new_sound state move sound legal =
    let t = legal.table in
    let old = tablet_in t.map.list move.tablet.0 in
    let tablet = sound_at t.map.log2 t.map.list move.tablet.0 (is_table state move.table t sound legal.there).map legal.below in
    let comes : not (has_host old.replicas move.to.host) ≡ true = ap not legal.comes in
    let can : CanMove old.replicas move.from move.to = record { leaves = legal.leaves; comes = comes } in
    sound_at_rest (replaced_list move.from move.to old.replicas) (replaced_set move.from move.to old.replicas tablet.replicas can)

table_kept : (state : Topology) (move : Move) (t : Table) → IsTopology state → (legal : Legal state move) → legal.table ≡ t → IsTable state.members (with_list t (set t.map.list move.tablet.0 (moved_tablet move (tablet_in t.map.list move.tablet.0))))
table_kept state move t sound legal is =
    let P : Table → Type 0 = λ x. IsTable state.members (with_list x (set x.map.list move.tablet.0 (moved_tablet move (tablet_in x.map.list move.tablet.0)))) in
    let x = legal.table in
    let old = tablet_in x.map.list move.tablet.0 in
    let whole : IsTable state.members x = is_table state move.table x sound legal.there in
    let on : IsOnMembers state.members old = whole.here move.tablet.0 no_tablet legal.below in
    subst P is (record {
      map = still_map x.map.log2 x.map.list move.tablet.0 (moved_tablet move old) whole.map (new_sound state move sound legal);
      here = All-set (IsOnMembers state.members) x.map.list move.tablet.0 (moved_tablet move old)
          (record { replicas = replaced_members state.members move.from move.to old.replicas on.replicas legal.here; pending = tt }) whole.here;
      decided = whole.decided;
    })

some_same : {X : Type 0} (o : Option X) (g : X → X) (y : X) → option_map g o ≡ Some y → (x : X) × (o ≡ Some x) × (g x ≡ y)
some_same None g y h = cc h
some_same (Some x) g y h = (x, refl, cc)

state_kept : (state : Topology) (move : Move) → IsTopology state → Legal state move → IsState (moved state move)
state_kept state move sound legal id after found =
    let before = some_same (table_in state.tables id) (moved_table move) after (sym (table_in-map (moved_table move) (keeps_id move) state.tables id) ∙ found) in
    let t : Table = before.0 in
    let there : table_in state.tables id ≡ Some t = before.1 in
    let P : Table → Type 0 = λ x. IsTable state.members x in
    subst P before.2 (elim (eqb move.table.0 t.id.0) as (λ v. eqb move.table.0 t.id.0 ≡ v → IsTable state.members (cond v (with_list t (set t.map.list move.tablet.0 (moved_tablet move (tablet_in t.map.list move.tablet.0)))) t)) [
      | true ↦ λ e.
          let named : move.table ≡ t.id = ap (λ (n : ℕ). let r : TableId = record { 0 = n } in r) (eqb-true move.table.0 t.id.0 e) in
          let one : move.table ≡ id = named ∙ sym (table_in-id state.tables id t there) in
          let both : Some legal.table ≡ Some t = sym legal.there ∙ (ap (table_in state.tables) one ∙ there) in
          table_kept state move t sound legal (cc)
      | false ↦ λ _. is_table state id t sound there
    ] refl)

-- ---- rest

or_none : {X : Type 0} (a b : Option X) → option_or a b ≡ None → (a ≡ None) × (b ≡ None)
or_none None b h = (refl, h)
or_none (Some x) b h = cc h

map_none : (id : TableId) (o : Option ℕ) → place_in id o ≡ None → o ≡ None
map_none id None h = refl
map_none id (Some x) h = cc h

list_still : (move : Move) (list : List Tablet) → least_moving list ≡ None → least_moving (set list move.tablet.0 (moved_tablet move (tablet_in list move.tablet.0))) ≡ None
list_still move list still =
    let at = move.tablet.0 in
    let new = moved_tablet move (tablet_in list at) in
    no_place is_moving (set list at new) no_tablet (λ k below.
    (let within : k < length list = omega (arith, length-set {A = Tablet} list at new) in
    elim (eqb k at) as (λ v. eqb k at ≡ v → is_moving (get_or (set list at new) k no_tablet) ≡ false) [
      | true ↦ λ e.
          let same : k ≡ at = eqb-true k at e in
          let Q : ℕ → Type 0 = λ j. is_moving (get_or (set list at new) j no_tablet) ≡ false in
          let inside : at < length list = omega arith in
          subst Q (sym same) (ap is_moving (get_or-set_same list at new no_tablet inside))
      | false ↦ λ e.
          ap is_moving (get_or-set_other list at k new no_tablet (λ same. (let t : eqb k at ≡ true = eq-eqb k at same in cc)))
          ∙ none_passes is_moving list no_tablet still k within
    ] refl))

table_still : (move : Move) (t : Table) → least_moving t.map.list ≡ None → least_moving (moved_table move t).map.list ≡ None
table_still move t still =
    elim (eqb move.table.0 t.id.0) as (λ v. least_moving (cond v (with_list t (set t.map.list move.tablet.0 (moved_tablet move (tablet_in t.map.list move.tablet.0)))) t).map.list ≡ None)
    [ true ↦ list_still move t.map.list still | false ↦ still ]

still_kept : (move : Move) (tables : List Table) → first_moving tables ≡ None → first_moving (map (moved_table move) tables) ≡ None
still_kept move [] still = refl
still_kept move (t ∷ rest) still =
    let parts = or_none (place_in t.id (least_moving t.map.list)) (first_moving rest) still in
    let here : least_moving (moved_table move t).map.list ≡ None = table_still move t (map_none t.id (least_moving t.map.list) parts.0) in
    let there : first_moving (map (moved_table move) rest) ≡ None = still_kept move rest parts.1 in
    ap (λ (o : Option ℕ). option_or (place_in (moved_table move t).id o) (first_moving (map (moved_table move) rest))) here ∙ there

pub rest_kept : (state : Topology) (move : Move) → IsAtRest state → IsLegal state move → IsAtRest (moved state move)
rest_kept state move rest judged =
    let sound : IsTopology state = rest.sound in
    let legal = legal_move state move judged in
    record {
      sound = record {
        members = record { shards = sound.members.shards; once = sound.members.once; within = sound.members.within };
        distinct = distinct_map (moved_table move) (keeps_id move) state.tables ∙ sound.distinct;
        few = (let few : length state.tables ≤ 64 = sound.few in omega (arith, length-map state.tables (moved_table move)));
        tablets = (let few : tablet_count state.tables ≤ 1024 = sound.tablets in omega (arith, count_map (moved_table move) (keeps_size move) state.tables));
        each = state_kept state move sound legal;
      };
      still = still_kept move state.tables rest.still;
    }
