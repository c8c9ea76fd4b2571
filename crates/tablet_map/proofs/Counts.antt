-- How many replicas of a list pass a test.
use Rattle.std.proofs.Common.{◌≡◌, ◌+◌, ◌≤◌, ℕ, List, [], ◌∷◌, ◌++◌, length, cond, Bool, true, false, ◌||◌, not, refl, ap, subst, arith}
use Rattle.std.proofs.lemmas.List.Sums.{sum_by-cons}
use Rattle.std.specs.List.{count_by, list_all}
use Rattle.base_ids.specs.declared.ids.Replica.{Replica}
use Rattle.base_ids.specs.Replicas.{same_replica, has_replica, has_host, on_distinct_hosts}
use Rattle.tablet_map.specs.Replicas.{replaced_list, same_set}
use Rattle.tablet_map.proofs.Joined.{and_left, and_right, or_first, or_second, not_true, is_false}
use Rattle.tablet_map.proofs.Members.{same_is, is_same, all_of, host_of}

abbrev pub one_if : Bool → ℕ
one_if b = cond b 1 0

pub count_first : (test : Replica → Bool) (r : Replica) (rest : List Replica) → count_by test (r ∷ rest) ≡ one_if (test r) + count_by test rest
count_first test r rest = sum_by-cons (λ x. cond (test x) 1 0) r rest

-- one more behind the list
pub count_behind : (test : Replica → Bool) (replicas : List Replica) (pending : Replica) → count_by test (replicas ++ pending ∷ []) ≡ count_by test replicas + one_if (test pending)
count_behind test [] pending = omega (arith, count_first test pending [])
count_behind test (r ∷ rest) pending =
    omega (arith, count_behind test rest pending, count_first test r (rest ++ pending ∷ []), count_first test r rest)

-- one in another's place
pub count_replaced : (test : Replica → Bool) (leaving pending : Replica) (replicas : List Replica) → has_replica replicas leaving ≡ true → count_by test (replaced_list leaving pending replicas) + one_if (test leaving) ≡ count_by test replicas + one_if (test pending)
count_replaced test leaving pending [] in_it = cc in_it
count_replaced test leaving pending (r ∷ rest) in_it =
    elim (same_replica leaving r) as (λ v. same_replica leaving r ≡ v → (v || has_replica rest leaving) ≡ true → count_by test (cond v (pending ∷ rest) (r ∷ replaced_list leaving pending rest)) + one_if (test leaving) ≡ count_by test (r ∷ rest) + one_if (test pending)) [
      | true ↦ λ e h.
          let same : one_if (test leaving) ≡ one_if (test r) = ap (λ x. one_if (test x)) (same_is leaving r e) in
          omega (arith, same, count_first test pending rest, count_first test r rest)
      | false ↦ λ e h.
          omega (arith, count_replaced test leaving pending rest h, count_first test r (replaced_list leaving pending rest), count_first test r rest)
    ] refl in_it

-- the list without the first one that is this replica
abbrev pub without : Replica → List Replica → List Replica
without x [] = []
without x (r ∷ rest) = cond (same_replica x r) rest (r ∷ without x rest)

count_without : (test : Replica → Bool) (x : Replica) (list : List Replica) → has_replica list x ≡ true → count_by test list ≡ one_if (test x) + count_by test (without x list)
count_without test x [] in_it = cc in_it
count_without test x (r ∷ rest) in_it =
    elim (same_replica x r) as (λ v. same_replica x r ≡ v → (v || has_replica rest x) ≡ true → count_by test (r ∷ rest) ≡ one_if (test x) + count_by test (cond v rest (r ∷ without x rest))) [
      | true ↦ λ e h.
          let same : one_if (test x) ≡ one_if (test r) = ap (λ y. one_if (test y)) (same_is x r e) in
          omega (arith, same, count_first test r rest)
      | false ↦ λ e h. omega (arith, count_without test x rest h, count_first test r (without x rest), count_first test r rest)
    ] refl in_it

has_without : (x y : Replica) (list : List Replica) → same_replica y x ≡ false → has_replica list y ≡ true → has_replica (without x list) y ≡ true
has_without x y [] apart in_it = in_it
has_without x y (r ∷ rest) apart in_it =
    elim (same_replica x r) as (λ v. same_replica x r ≡ v → has_replica (cond v rest (r ∷ without x rest)) y ≡ true) [
      | true ↦ λ e.
          let P : Replica → Type 0 = λ z. same_replica y z ≡ false in
          let other : same_replica y r ≡ false = subst P (same_is x r e) apart in
          let Q : Bool → Type 0 = λ v. (v || has_replica rest y) ≡ true in
          subst Q other in_it
      | false ↦ λ e.
          elim (same_replica y r) as (λ v. (v || has_replica rest y) ≡ true → (v || has_replica (without x rest) y) ≡ true)
          [ true ↦ λ h. refl | false ↦ λ h. has_without x y rest apart h ] in_it
    ] refl

-- of a list on distinct hosts whose replicas are all in another, no more pass a test
pub count_within : (test : Replica → Bool) (a b : List Replica) → on_distinct_hosts a ≡ true → ((x : Replica) → has_replica a x ≡ true → has_replica b x ≡ true) → count_by test a ≤ count_by test b
count_within test [] b distinct within = omega arith
count_within test (r ∷ rest) b distinct within =
    let alone : has_host rest r.host ≡ false = not_true (has_host rest r.host) (and_left (not (has_host rest r.host)) (on_distinct_hosts rest) distinct) in
    let others : on_distinct_hosts rest ≡ true = and_right (not (has_host rest r.host)) (on_distinct_hosts rest) distinct in
    let here : has_replica b r ≡ true = within r (or_first (same_replica r r) (has_replica rest r) (is_same r)) in
    let apart : (x : Replica) → has_replica rest x ≡ true → same_replica x r ≡ false =
    λ x h. is_false (same_replica x r) (λ e.
    let P : Replica → Type 0 = λ z. has_host rest z.host ≡ true in
    let there : has_host rest r.host ≡ true = subst P (same_is x r e) (host_of rest x h) in cc) in
    let less : count_by test rest ≤ count_by test (without r b) =
    count_within test rest (without r b) others (λ x h. has_without r x b (apart x h) (within x (or_second (same_replica x r) (has_replica rest x) h))) in
    omega (arith, less, count_first test r rest, count_without test r b here)

pub count_same : (test : Replica → Bool) (a b : List Replica) → on_distinct_hosts a ≡ true → on_distinct_hosts b ≡ true → same_set a b ≡ true → count_by test a ≡ count_by test b
count_same test a b p q same =
    let there : list_all (has_replica b) a ≡ true = and_left (list_all (has_replica b) a) (list_all (has_replica a) b) same in
    let back : list_all (has_replica a) b ≡ true = and_right (list_all (has_replica b) a) (list_all (has_replica a) b) same in
    let le : count_by test a ≤ count_by test b = count_within test a b p (λ x h. all_of (has_replica b) a x there h) in
    let ge : count_by test b ≤ count_by test a = count_within test b a q (λ x h. all_of (has_replica a) b x back h) in
    omega arith

count_all : (list : List Replica) → count_by (λ _. true) list ≡ length list
count_all [] = refl
count_all (r ∷ rest) = omega (arith, count_all rest, count_first (λ _. true) r rest)

pub length_same : (a b : List Replica) → on_distinct_hosts a ≡ true → on_distinct_hosts b ≡ true → same_set a b ≡ true → length a ≡ length b
length_same a b p q same = omega (arith, count_same (λ _. true) a b p q same, count_all a, count_all b)
