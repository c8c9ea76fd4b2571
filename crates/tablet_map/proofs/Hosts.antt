-- A count over a list on distinct hosts is a count over the hosts.
use Rattle.std.proofs.Common.{◌≡◌, ◌+◌, ◌<◌, ◌≤◌, ℕ, zero, suc, List, [], ◌∷◌, cond, eqb, Bool, true, false, ◌&&◌, ◌||◌, not, refl, ap, sym, subst, ◌∙◌, arith, inl, inr}
use Rattle.std.proofs.lemmas.Bool.{cases_lt, eq-eqb, ne_eqb}
use Rattle.std.proofs.lemmas.List.Elements.{All-head, All-tail}
use Rattle.std.proofs.lemmas.List.Sums.{sum_by-cons}
use Rattle.std.specs.List.{All, count_by}
use Rattle.base_ids.specs.declared.ids.Replica.{Replica}
use Rattle.base_ids.specs.Replicas.{has_host, on_distinct_hosts}
use Rattle.tablet_map.specs.Replicas.{hosts_below}
use Rattle.tablet_map.proofs.Joined.{and_left, and_right, not_true}

abbrev pub one_if : Bool → ℕ
one_if b = cond b 1 0

none_below : (n : ℕ) (test : ℕ → Bool) → hosts_below n (λ h. false && test h) ≡ 0
none_below zero test = refl
none_below (suc n) test = omega (arith, none_below n test)

-- a host that is not below the number
host_above : (m n : ℕ) (has test : ℕ → Bool) → n ≤ m → hosts_below n (λ h. (eqb h m || has h) && test h) ≡ hosts_below n (λ h. has h && test h)
host_above m zero has test above = refl
host_above m (suc n) has test above =
    let apart : eqb n m ≡ false = ne_eqb n m (λ e. omega arith) in
    rw apart (ap (λ k. one_if (has n && test n) + k) (host_above m n has test (omega arith)))

-- one host more
host_more : (m n : ℕ) (has test : ℕ → Bool) → has m ≡ false → m < n → hosts_below n (λ h. (eqb h m || has h) && test h) ≡ one_if (test m) + hosts_below n (λ h. has h && test h)
host_more m zero has test out below = absurd (omega arith)
host_more m (suc n) has test out below =
    elim (cases_lt m n) [
      | inl lt ↦
          let apart : eqb n m ≡ false = ne_eqb n m (λ e. omega arith) in
          rw apart (omega (arith, host_more m n has test out lt))
      | inr ge ↦
          let same : n ≡ m = omega arith in
          let yes : eqb n m ≡ true = eq-eqb n m same in
          let P : ℕ → Type 0 = λ k. has k ≡ false in
          let here : has n ≡ false = subst P (sym same) out in
          let t : one_if (test m) ≡ one_if (test n) = ap (λ k. one_if (test k)) (sym same) in
          rw (yes, here) (omega (arith, t, host_above m n has test ge))
    ]

pub count_hosts : (test : ℕ → Bool) (replicas : List Replica) (n : ℕ) → on_distinct_hosts replicas ≡ true → All (λ (r : Replica). r.host.0 < n) replicas → count_by (λ (r : Replica). test r.host.0) replicas ≡ hosts_below n (λ h. has_host replicas (record { 0 = h }) && test h)
count_hosts test [] n distinct below = sym (none_below n test)
count_hosts test (r ∷ rest) n distinct below =
    let alone : has_host rest r.host ≡ false = not_true (has_host rest r.host) (and_left (not (has_host rest r.host)) (on_distinct_hosts rest) distinct) in
    let others : on_distinct_hosts rest ≡ true = and_right (not (has_host rest r.host)) (on_distinct_hosts rest) distinct in
    let first : r.host.0 < n = All-head (λ (x : Replica). x.host.0 < n) r rest below in
    let tail = count_hosts test rest n others (All-tail (λ (x : Replica). x.host.0 < n) r rest below) in
    sum_by-cons (λ (x : Replica). cond (test x.host.0) 1 0) r rest ∙ (ap (λ k. one_if (test r.host.0) + k) tail ∙ sym
    (host_more r.host.0 n (λ h. has_host rest (record { 0 = h })) test alone first))
