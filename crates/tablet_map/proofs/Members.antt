-- Replicas in lists.
use Rattle.std.proofs.Common.{◌≡◌, ℕ, List, [], ◌∷◌, Bool, true, false, ◌||◌, eqb, refl, ap, sym, subst, ◌∙◌}
use Rattle.std.specs.List.{list_all}
use Rattle.base_ids.specs.declared.ids.Replica.{Replica}
use Rattle.base_ids.specs.Replicas.{same_replica, is_on, has_replica, has_host}
use Rattle.tablet_map.specs.Replicas.{same_set}
use Rattle.tablet_map.proofs.Joined.{and_left, and_right, and_both, or_first, or_second}
use Rattle.std.proofs.lemmas.Bool.{eqb-true, eq-eqb}

same_parts : (a b : Replica) → a.host.0 ≡ b.host.0 → a.shard.0 ≡ b.shard.0 → a ≡ b
same_parts a b e f = ap (λ (h : ℕ). let r : Replica = record { host = record { 0 = h }; shard = a.shard } in r) e ∙ ap (λ (s : ℕ). let r : Replica = record { host = b.host; shard = record { 0 = s } } in r) f

-- replicas that the test finds the same are the same
pub same_is : (a b : Replica) → same_replica a b ≡ true → a ≡ b
same_is a b h =
    same_parts a b
    (eqb-true a.host.0 b.host.0 (and_left (eqb a.host.0 b.host.0) (eqb a.shard.0 b.shard.0) h))
    (eqb-true a.shard.0 b.shard.0 (and_right (eqb a.host.0 b.host.0) (eqb a.shard.0 b.shard.0) h))

pub is_same : (a : Replica) → same_replica a a ≡ true
is_same a = and_both (eqb a.host.0 a.host.0) (eqb a.shard.0 a.shard.0) (eq-eqb a.host.0 a.host.0 refl) (eq-eqb a.shard.0 a.shard.0 refl)

-- what holds of all of a list
pub all_of : (test : Replica → Bool) (replicas : List Replica) (replica : Replica) → list_all test replicas ≡ true → has_replica replicas replica ≡ true → test replica ≡ true
all_of test [] replica all in_it = cc in_it
all_of test (r ∷ rest) replica all in_it =
    elim (same_replica replica r) as (λ v. same_replica replica r ≡ v → (v || has_replica rest replica) ≡ true → test replica ≡ true) [
      | true ↦ λ e h. (let P : Replica → Type 0 = λ x. test x ≡ true in subst P (sym (same_is replica r e)) (and_left (test r) (list_all test rest) all))
      | false ↦ λ e h. all_of test rest replica (and_right (test r) (list_all test rest) all) h
    ] refl in_it

pub all_from : (test : Replica → Bool) (replicas : List Replica) → ((replica : Replica) → has_replica replicas replica ≡ true → test replica ≡ true) → list_all test replicas ≡ true
all_from test [] each = refl
all_from test (r ∷ rest) each =
    and_both (test r) (list_all test rest) (each r (or_first (same_replica r r) (has_replica rest r) (is_same r)))
    (all_from test rest (λ x h. each x (or_second (same_replica x r) (has_replica rest x) h)))

-- a list is the same set as itself
pub same_set_itself : (replicas : List Replica) → same_set replicas replicas ≡ true
same_set_itself replicas =
    and_both (list_all (has_replica replicas) replicas) (list_all (has_replica replicas) replicas) (all_from (has_replica replicas) replicas (λ r h. h)) (all_from (has_replica replicas) replicas (λ r h. h))

-- a list that has a replica has its host
pub host_of : (replicas : List Replica) (replica : Replica) → has_replica replicas replica ≡ true → has_host replicas replica.host ≡ true
host_of [] replica in_it = cc in_it
host_of (r ∷ rest) replica in_it =
    elim (same_replica replica r) as (λ v. same_replica replica r ≡ v → (v || has_replica rest replica) ≡ true → has_host (r ∷ rest) replica.host ≡ true) [
      | true ↦ λ e h. or_first (is_on replica.host r) (has_host rest replica.host) (and_left (eqb replica.host.0 r.host.0) (eqb replica.shard.0 r.shard.0) e)
      | false ↦ λ e h. or_second (is_on replica.host r) (has_host rest replica.host) (host_of rest replica h)
    ] refl in_it
