-- A replica in another's place.
use Rattle.std.proofs.Common.{◌≡◌, ◌<◌, ℕ, zero, suc, List, [], ◌∷◌, length, get_or, set, true, false, cond, not, Some, None, refl, ap, arith}
use Rattle.std.proofs.lemmas.List.Quantifiers.{position-Some}
use Rattle.std.specs.List.{position}
use Rattle.base_ids.specs.declared.ids.HostId.{HostId}
use Rattle.base_ids.specs.declared.ids.Replica.{Replica}
use Rattle.base_ids.specs.Replicas.{same_replica, is_on, has_host, on_distinct_hosts}
use Rattle.tablet_map.specs.Replicas.{replaced_list, IsReplicaSet, CanMove}
use Rattle.tablet_map.proofs.Places.{none_passes}
use Rattle.tablet_map.proofs.Joined.{and_left, and_right, and_both, or_left, or_right, or_neither, not_true, not_false}

-- a write at the first place that is the leaving one's
pub replaced_at : (leaving pending d : Replica) (replicas : List Replica) (at : ℕ) → at < length replicas → same_replica leaving (get_or replicas at d) ≡ true → ((k : ℕ) → k < at → same_replica leaving (get_or replicas k d) ≡ false) → set replicas at pending ≡ replaced_list leaving pending replicas
replaced_at leaving pending d [] at lt here before = absurd (omega arith)
replaced_at leaving pending d (r ∷ rest) zero lt here before = rw here refl
replaced_at leaving pending d (r ∷ rest) (suc at) lt here before =
    let first : same_replica leaving r ≡ false = before 0 (omega arith) in
    rw first (ap (λ rs. r ∷ rs) (replaced_at leaving pending d rest at (omega arith) here (λ k below. before (suc k) (omega arith))))

pub replaced_where : (leaving pending : Replica) (replicas : List Replica) (at : ℕ) → position (same_replica leaving) replicas ≡ Some at → set replicas at pending ≡ replaced_list leaving pending replicas
replaced_where leaving pending replicas at found =
    let facts = position-Some (same_replica leaving) replicas at pending found in
    replaced_at leaving pending pending replicas at facts.0 facts.1 facts.2

untouched : (leaving pending d : Replica) (replicas : List Replica) → ((k : ℕ) → k < length replicas → same_replica leaving (get_or replicas k d) ≡ false) → replicas ≡ replaced_list leaving pending replicas
untouched leaving pending d [] none = refl
untouched leaving pending d (r ∷ rest) none =
    let first : same_replica leaving r ≡ false = none 0 (omega arith) in
    rw first (ap (λ rs. r ∷ rs) (untouched leaving pending d rest (λ k below. none (suc k) (omega arith))))

pub replaced_nowhere : (leaving pending : Replica) (replicas : List Replica) → position (same_replica leaving) replicas ≡ None → replicas ≡ replaced_list leaving pending replicas
replaced_nowhere leaving pending replicas none =
    untouched leaving pending pending replicas (λ k below. none_passes (same_replica leaving) replicas pending none k below)

pub length-replaced : (leaving pending : Replica) (replicas : List Replica) → length (replaced_list leaving pending replicas) ≡ length replicas
length-replaced leaving pending [] = refl
length-replaced leaving pending (r ∷ rest) =
    elim (same_replica leaving r) as (λ v. length (cond v (pending ∷ rest) (r ∷ replaced_list leaving pending rest)) ≡ length (r ∷ rest))
    [ true ↦ refl | false ↦ omega (arith, length-replaced leaving pending rest) ]

-- a host that is neither in the list nor the pending one's
pub replaced_misses : (leaving pending : Replica) (host : HostId) (replicas : List Replica) → has_host replicas host ≡ false → is_on host pending ≡ false → has_host (replaced_list leaving pending replicas) host ≡ false
replaced_misses leaving pending host [] out apart = refl
replaced_misses leaving pending host (r ∷ rest) out apart =
    let first : is_on host r ≡ false = or_left (is_on host r) (has_host rest host) out in
    let others : has_host rest host ≡ false = or_right (is_on host r) (has_host rest host) out in
    elim (same_replica leaving r) as (λ v. has_host (cond v (pending ∷ rest) (r ∷ replaced_list leaving pending rest)) host ≡ false) [
      | true ↦ or_neither (is_on host pending) (has_host rest host) apart others
      | false ↦ or_neither (is_on host r) (has_host (replaced_list leaving pending rest) host) first (replaced_misses leaving pending host rest others apart)
    ]

turned : (host : HostId) (a b : Replica) → is_on a.host b ≡ false → is_on b.host a ≡ false
turned host a b h = grind arith

pub replaced_distinct : (leaving pending : Replica) (replicas : List Replica) → on_distinct_hosts replicas ≡ true → has_host replicas pending.host ≡ false → on_distinct_hosts (replaced_list leaving pending replicas) ≡ true
replaced_distinct leaving pending [] distinct out = refl
replaced_distinct leaving pending (r ∷ rest) distinct out =
    let alone : not (has_host rest r.host) ≡ true = and_left (not (has_host rest r.host)) (on_distinct_hosts rest) distinct in
    let others : on_distinct_hosts rest ≡ true = and_right (not (has_host rest r.host)) (on_distinct_hosts rest) distinct in
    let first : is_on pending.host r ≡ false = or_left (is_on pending.host r) (has_host rest pending.host) out in
    let behind : has_host rest pending.host ≡ false = or_right (is_on pending.host r) (has_host rest pending.host) out in
    elim (same_replica leaving r) as (λ v. on_distinct_hosts (cond v (pending ∷ rest) (r ∷ replaced_list leaving pending rest)) ≡ true) [
      | true ↦ and_both (not (has_host rest pending.host)) (on_distinct_hosts rest) (not_false (has_host rest pending.host) behind) others
      | false ↦
          and_both (not (has_host (replaced_list leaving pending rest) r.host)) (on_distinct_hosts (replaced_list leaving pending rest))
          (not_false (has_host (replaced_list leaving pending rest) r.host)
          (replaced_misses leaving pending r.host rest (not_true (has_host rest r.host) alone) (turned r.host pending r first)))
          (replaced_distinct leaving pending rest others behind)
    ]

pub replaced_set : (leaving pending : Replica) (replicas : List Replica) → IsReplicaSet replicas → CanMove replicas leaving pending → IsReplicaSet (replaced_list leaving pending replicas)
replaced_set leaving pending replicas set moves =
    let same : length (replaced_list leaving pending replicas) ≡ length replicas = length-replaced leaving pending replicas in
    record {
      some = omega arith;
      few = omega arith;
      distinct = replaced_distinct leaving pending replicas set.distinct (not_true (has_host replicas pending.host) moves.comes);
    }
