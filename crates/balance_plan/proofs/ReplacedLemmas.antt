-- The hosts of a list in which a replica replaces another.
use Rattle.std.proofs.Common.{◌≡◌, List, [], ◌∷◌, cond, eqb, Bool, true, false, not, ◌&&◌, ◌||◌, refl, ap, sym, ◌∙◌, arith}
use Rattle.std.proofs.lemmas.Bool.{eqb-true, eq-eqb}
use Rattle.std.specs.List.{list_all}
use Rattle.tablet_map.proofs.Joined.{and_left, and_right, and_both, or_first, or_second, or_neither, not_true, is_false}
use Rattle.tablet_map.proofs.Members.{same_is, host_of}
use Rattle.tablet_map.specs.Replicas.{replaced_list}
use Rattle.base_ids.specs.declared.ids.HostId.{HostId}
use Rattle.base_ids.specs.declared.ids.Replica.{Replica}
use Rattle.base_ids.specs.Replicas.{same_replica, is_on, has_replica, has_host, on_distinct_hosts}
use Rattle.topo_state.specs.State.{is_on_member}
use Rattle.balance_plan.proofs.SumLemmas.{host_same}

-- a host that is neither's
pub replaced_other : (from to : Replica) (host : HostId) (replicas : List Replica) → eqb from.host.0 host.0 ≡ false → eqb to.host.0 host.0 ≡ false → has_host (replaced_list from to replicas) host ≡ has_host replicas host
replaced_other from to host [] a b = refl
replaced_other from to host (r ∷ rest) a b =
    elim (same_replica from r) as (λ v. same_replica from r ≡ v → has_host (cond v (to ∷ rest) (r ∷ replaced_list from to rest)) host ≡ has_host (r ∷ rest) host) [
      | true ↦ λ e.
          let is : from ≡ r = same_is from r e in
          let x : eqb host.0 to.host.0 ≡ false = grind arith in
          let y : eqb host.0 from.host.0 ≡ false = grind arith in
          let z : eqb host.0 r.host.0 ≡ false = ap (λ (q : Replica). eqb host.0 q.host.0) (sym is) ∙ y in
          ap (λ (v : Bool). v || has_host rest host) (x ∙ sym z)
      | false ↦ λ _. ap (λ (v : Bool). eqb host.0 r.host.0 || v) (replaced_other from to host rest a b)
    ] refl

-- the new one's host is in it
pub replaced_comes : (from to : Replica) (replicas : List Replica) → has_replica replicas from ≡ true → has_host (replaced_list from to replicas) to.host ≡ true
replaced_comes from to [] is = cc is
replaced_comes from to (r ∷ rest) is =
    elim (same_replica from r) as (λ v. (v || has_replica rest from) ≡ true → has_host (cond v (to ∷ rest) (r ∷ replaced_list from to rest)) to.host ≡ true) [
      | true ↦ λ _. or_first (eqb to.host.0 to.host.0) (has_host rest to.host) (host_same to.host)
      | false ↦ λ m. or_second (eqb to.host.0 r.host.0) (has_host (replaced_list from to rest) to.host) (replaced_comes from to rest m)
    ] is

-- the old one's host is not
pub replaced_gone : (from to : Replica) (replicas : List Replica) → has_replica replicas from ≡ true → on_distinct_hosts replicas ≡ true → eqb from.host.0 to.host.0 ≡ false → has_host (replaced_list from to replicas) from.host ≡ false
replaced_gone from to [] is once apart = cc is
replaced_gone from to (r ∷ rest) is once apart =
    let alone : has_host rest r.host ≡ false = not_true (has_host rest r.host) (and_left (not (has_host rest r.host)) (on_distinct_hosts rest) once) in
    let others : on_distinct_hosts rest ≡ true = and_right (not (has_host rest r.host)) (on_distinct_hosts rest) once in
    elim (same_replica from r) as (λ v. same_replica from r ≡ v → (v || has_replica rest from) ≡ true → has_host (cond v (to ∷ rest) (r ∷ replaced_list from to rest)) from.host ≡ false) [
      | true ↦ λ e _. or_neither (eqb from.host.0 to.host.0) (has_host rest from.host) apart (ap (λ (q : Replica). has_host rest q.host) (same_is from r e) ∙ alone)
      | false ↦ λ _ m.
          let inside : has_host rest from.host ≡ true = host_of rest from m in
          let away : eqb from.host.0 r.host.0 ≡ false = is_false (eqb from.host.0 r.host.0) (λ e.
          (let same : has_host rest r.host ≡ has_host rest from.host = ap (λ (n : _). let h : HostId = record { 0 = n } in has_host rest h) (sym (eqb-true from.host.0 r.host.0 e)) in cc)) in
          or_neither (eqb from.host.0 r.host.0) (has_host (replaced_list from to rest) from.host) away (replaced_gone from to rest m others apart)
    ] refl is

-- all are on members
pub replaced_members : (members : List HostId) (from to : Replica) (replicas : List Replica) → list_all (is_on_member members) replicas ≡ true → is_on_member members to ≡ true → list_all (is_on_member members) (replaced_list from to replicas) ≡ true
replaced_members members from to [] all is = refl
replaced_members members from to (r ∷ rest) all is =
    let here : is_on_member members r ≡ true = and_left (is_on_member members r) (list_all (is_on_member members) rest) all in
    let there : list_all (is_on_member members) rest ≡ true = and_right (is_on_member members r) (list_all (is_on_member members) rest) all in
    elim (same_replica from r) as (λ v. list_all (is_on_member members) (cond v (to ∷ rest) (r ∷ replaced_list from to rest)) ≡ true) [
      | true ↦ and_both (is_on_member members to) (list_all (is_on_member members) rest) is there
      | false ↦ and_both (is_on_member members r) (list_all (is_on_member members) (replaced_list from to rest)) here (replaced_members members from to rest there is)
    ]
