-- What a legal move makes of the loads: one less where the replica leaves, one more where it comes.
use Rattle.std.proofs.Common.{◌≡◌, ◌+◌, ◌<◌, ◌≤◌, ℕ, List, [], ◌∷◌, map, set, length, cond, eqb, nat_lt, Bool, true, false, not, ◌&&◌, ◌||◌, Option, Some, None, refl, ap, sym, subst, ◌∙◌, arith}
use Rattle.std.specs.Prelude.{is_some, option_map}
use Rattle.std.specs.List.{list_any, sum_by, count_by}
use Rattle.std.proofs.lemmas.Bool.{eqb-true, eq-eqb, ltb-true}
use Rattle.std.proofs.lemmas.List.Sums.{sum_by-cons, sum_by-set}
use Rattle.tablet_map.proofs.Joined.{and_left, and_right, not_true, is_false}
use Rattle.tablet_map.proofs.Members.{all_of, host_of}
use Rattle.tablet_map.proofs.Sound.{sound_at}
use Rattle.tablet_map.specs.Replicas.{replaced_list}
use Rattle.tablet_map.specs.Tablets.{tablet_in, no_tablet, is_moving}
use Rattle.tablet_map.specs.declared.tablet.Tablet.{Tablet}
use Rattle.base_ids.specs.declared.ids.HostId.{HostId}
use Rattle.base_ids.specs.declared.ids.Replica.{Replica}
use Rattle.base_ids.specs.declared.ids.TableId.{TableId}
use Rattle.base_ids.specs.Replicas.{has_host, has_replica}
use Rattle.topo_state.proofs.Passed.{StartPasses, start_passes, named}
use Rattle.topo_state.proofs.DistinctLemmas.{untouched}
use Rattle.topo_state.proofs.TableLemmas.{table_in-id}
use Rattle.topo_state.specs.declared.data.Table.{Table}
use Rattle.topo_state.specs.After.{with_list}
use Rattle.topo_state.specs.Sound.{IsTable, IsOnMembers, IsTopology}
use Rattle.topo_state.specs.State.{Topology, is_member, is_on_member, has_table, table_or_empty}
use Rattle.topo_state.specs.Tables.{table_in, has_id, have_distinct_ids}
use Rattle.balance_plan.specs.declared.data.Move.{Move}
use Rattle.balance_plan.specs.Loads.{lies_on, table_load, load}
use Rattle.balance_plan.specs.Moves.{IsLegal, moved_tablet, moved_table, moved}
use Rattle.balance_plan.proofs.SumLemmas.{Shift, turned}
use Rattle.balance_plan.proofs.ReplacedLemmas.{replaced_other, replaced_comes, replaced_gone}

-- of tables with distinct numbers one changes
pub sum_changed : (f : Table → ℕ) (g : Table → Table) (id : TableId) → ((t : Table) → eqb id.0 t.id.0 ≡ false → g t ≡ t) → (tables : List Table) (t : Table) → have_distinct_ids tables ≡ true → table_in tables id ≡ Some t → sum_by f (map g tables) + f t ≡ sum_by f tables + f (g t)
sum_changed f g id same [] t distinct found = cc found
sum_changed f g id same (x ∷ rest) t distinct found =
    let alone : list_any (has_id x.id) rest ≡ false = not_true (list_any (has_id x.id) rest) (and_left (not (list_any (has_id x.id) rest)) (have_distinct_ids rest) distinct) in
    let others : have_distinct_ids rest ≡ true = and_right (not (list_any (has_id x.id) rest)) (have_distinct_ids rest) distinct in
    elim (eqb id.0 x.id.0) as (λ v. eqb id.0 x.id.0 ≡ v → cond v (Some x) (table_in rest id) ≡ Some t → sum_by f (map g (x ∷ rest)) + f t ≡ sum_by f (x ∷ rest) + f (g t)) [
      | true ↦ λ e h.
          let is : id ≡ x.id = ap (λ (n : ℕ). let r : TableId = record { 0 = n } in r) (eqb-true id.0 x.id.0 e) in
          let still : map g rest ≡ rest = untouched g id same rest (ap (λ (i : TableId). list_any (has_id i) rest) is ∙ alone) in
          let one : x ≡ t = cc in
          let fx : f x ≡ f t = ap f one in
          let fgx : f (g x) ≡ f (g t) = ap (λ (y : Table). f (g y)) one in
          let rest_same : sum_by f (map g rest) ≡ sum_by f rest = ap (sum_by f) still in
          omega (arith, sum_by-cons f x rest, sum_by-cons f (g x) (map g rest))
      | false ↦ λ e h.
          let fgx : f (g x) ≡ f x = ap f (same x e) in
          omega (arith, sum_by-cons f x rest, sum_by-cons f (g x) (map g rest), sum_changed f g id same rest t others h)
    ] refl found

-- ---- a legal move, with the table and the tablet that it names

pub record Legal (state : Topology) (move : Move) : Type 0 where
  pub table : Table
  pub there : table_in state.tables move.table ≡ Some table
  pub below : move.tablet.0 < length table.map.list
  pub here : is_on_member state.members move.to ≡ true
  pub rests : is_moving (tablet_in table.map.list move.tablet.0) ≡ false
  pub leaves : has_replica (tablet_in table.map.list move.tablet.0).replicas move.from ≡ true
  pub comes : has_host (tablet_in table.map.list move.tablet.0).replicas move.to.host ≡ false

some_of : {X : Type 0} (o : Option X) → is_some o ≡ true → (x : X) × (o ≡ Some x)
some_of None h = cc h
some_of (Some x) h = (x, refl)

pub legal_move : (state : Topology) (move : Move) → IsLegal state move → Legal state move
legal_move state move legal =
    let passes = start_passes state move.table move.tablet move.from move.to legal in
    let found = some_of (table_in state.tables move.table) passes.there in
    let is : table_or_empty state move.table ≡ found.0 = named state move.table found.0 found.1 in
    let below : nat_lt move.tablet.0 (length found.0.map.list) ≡ true = ap (λ (t : Table). nat_lt move.tablet.0 (length t.map.list)) (sym is) ∙ passes.below in
    let comes : not (has_host (tablet_in found.0.map.list move.tablet.0).replicas move.to.host) ≡ true = ap (λ (t : Table). not (has_host (tablet_in t.map.list move.tablet.0).replicas move.to.host)) (sym is) ∙ passes.comes in
    record {
      table = found.0;
      there = found.1;
      below = ltb-true move.tablet.0 (length found.0.map.list) below;
      here = passes.here;
      rests = ap (λ (t : Table). is_moving (tablet_in t.map.list move.tablet.0)) (sym is) ∙ passes.rests;
      leaves = ap (λ (t : Table). has_replica (tablet_in t.map.list move.tablet.0).replicas move.from) (sym is) ∙ passes.leaves;
      comes = not_true (has_host (tablet_in found.0.map.list move.tablet.0).replicas move.to.host) comes;
    }

abbrev one_if : Bool → ℕ
one_if b = cond b 1 0

-- the table that is named changes in one tablet
pub moved_named : (move : Move) (t : Table) → move.table ≡ t.id → moved_table move t ≡ with_list t (set t.map.list move.tablet.0 (moved_tablet move (tablet_in t.map.list move.tablet.0)))
moved_named move t is =
    let same : eqb move.table.0 t.id.0 ≡ true = eq-eqb move.table.0 t.id.0 (ap (λ (x : TableId). x.0) is) in rw same refl

pub moved_others : (move : Move) (t : Table) → eqb move.table.0 t.id.0 ≡ false → moved_table move t ≡ t
moved_others move t apart = rw apart refl

-- the load of a host changes by what that tablet was and is
load_changed : (state : Topology) (move : Move) (host : HostId) → IsTopology state → (legal : Legal state move) → load (moved state move).tables host + one_if (lies_on host (tablet_in legal.table.map.list move.tablet.0)) ≡ load state.tables host + one_if (has_host (replaced_list move.from move.to (tablet_in legal.table.map.list move.tablet.0).replicas) host)
load_changed state move host sound legal =
    let t = legal.table in
    let at = move.tablet.0 in
    let old = tablet_in t.map.list at in
    let new = moved_tablet move old in
    let p : Tablet → ℕ = λ (x : Tablet). one_if (lies_on host x) in
    let in_table : sum_by p (set t.map.list at new) + p old ≡ sum_by p t.map.list + p new = sum_by-set p t.map.list at new no_tablet legal.below in
    let is : table_load host (moved_table move t) ≡ sum_by p (set t.map.list at new) = ap (table_load host) (moved_named move t (table_in-id state.tables move.table t legal.there)) in
    let all = sum_changed (table_load host) (moved_table move) move.table (moved_others move) state.tables t sound.distinct legal.there in
    omega arith

pub is_table : (state : Topology) (id : TableId) (t : Table) → IsTopology state → table_in state.tables id ≡ Some t → IsTable state.members t
is_table state id t sound e = sound.each id t e

-- a legal move goes from one member to another, and shifts one
pub record Shifts (state : Topology) (move : Move) : Type 0 where
  pub giver : is_member state.members move.from.host ≡ true
  pub taker : is_member state.members move.to.host ≡ true
  pub shift : Shift (load state.tables) (load (moved state move).tables) move.from.host move.to.host

pub shifts : (state : Topology) (move : Move) → IsTopology state → IsLegal state move → Shifts state move
shifts state move sound judged =
    let legal = legal_move state move judged in
    let t = legal.table in
    let at = move.tablet.0 in
    let old = tablet_in t.map.list at in
    let whole : IsTable state.members t = is_table state move.table t sound legal.there in
    let on : IsOnMembers state.members old = whole.here at no_tablet legal.below in
    let tablet = sound_at t.map.log2 t.map.list at whole.map legal.below in
    let gives : has_host old.replicas move.from.host ≡ true = host_of old.replicas move.from legal.leaves in
    let apart : eqb move.from.host.0 move.to.host.0 ≡ false = is_false (eqb move.from.host.0 move.to.host.0) (λ e.
    (let same : has_host old.replicas move.from.host ≡ has_host old.replicas move.to.host =
    ap (λ (n : ℕ). let h : HostId = record { 0 = n } in has_host old.replicas h) (eqb-true move.from.host.0 move.to.host.0 e) in
    let missing_there : has_host old.replicas move.to.host ≡ false = legal.comes in cc)) in
    let gone : has_host (replaced_list move.from move.to old.replicas) move.from.host ≡ false = replaced_gone move.from move.to old.replicas legal.leaves tablet.replicas.distinct apart in
    let come : has_host (replaced_list move.from move.to old.replicas) move.to.host ≡ true = replaced_comes move.from move.to old.replicas legal.leaves in
    let a = load_changed state move move.from.host sound legal in
    let b = load_changed state move move.to.host sound legal in
    let missing : has_host old.replicas move.to.host ≡ false = legal.comes in
    record {
      giver = all_of (is_on_member state.members) old.replicas move.from on.replicas legal.leaves;
      taker = legal.here;
      shift = record {
        apart = apart;
        gives = (let x : one_if (has_host old.replicas move.from.host) ≡ 1 = ap one_if gives in
            let y : one_if (has_host (replaced_list move.from move.to old.replicas) move.from.host) ≡ 0 = ap one_if gone in omega arith);
        takes = (let x : one_if (has_host old.replicas move.to.host) ≡ 0 = ap one_if missing in
            let y : one_if (has_host (replaced_list move.from move.to old.replicas) move.to.host) ≡ 1 = ap one_if come in omega arith);
        others = λ h p q.
            (let x : one_if (has_host (replaced_list move.from move.to old.replicas) h) ≡ one_if (has_host old.replicas h) = ap one_if (replaced_other move.from move.to h old.replicas p q) in
            let c = load_changed state move h sound legal in omega arith);
      };
    }
