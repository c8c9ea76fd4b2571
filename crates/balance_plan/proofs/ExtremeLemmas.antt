-- The greatest and the least of the loads, and the least hosts that have them.
use Rattle.std.proofs.Common.{◌≡◌, ◌+◌, ◌-◌, ◌<◌, ◌≤◌, ◌⊎◌, inl, inr, ℕ, List, [], ◌∷◌, map, max, min, cond, eqb, nat_lt, Bool, true, false, ◌||◌, Option, Some, None, refl, ap, sym, subst, ◌∙◌, arith}
use Rattle.std.specs.Prelude.{filter}
use Rattle.std.proofs.lemmas.Bool.{eqb-true, eq-eqb}
use Rattle.tablet_map.proofs.Joined.{or_first, or_second}
use Rattle.base_ids.specs.declared.ids.HostId.{HostId}
use Rattle.topo_state.specs.State.{is_member}
use Rattle.balance_plan.specs.Loads.{greatest, least}
use Rattle.balance_plan.specs.Plans.{lesser, least_host}
use Rattle.balance_plan.proofs.SumLemmas.{host_is, host_same, later_is}

pub greatest_most : (f : HostId → ℕ) (hosts : List HostId) (h : HostId) → is_member hosts h ≡ true → f h ≤ greatest (map f hosts)
greatest_most f [] h is = cc is
greatest_most f (host ∷ rest) h is =
    elim (eqb h.0 host.0) as (λ v. eqb h.0 host.0 ≡ v → (v || is_member rest h) ≡ true → f h ≤ max (f host) (greatest (map f rest))) [
      | true ↦ λ e _. (let same : f h ≡ f host = ap f (host_is h host e) in omega arith)
      | false ↦ λ _ m. (let there : f h ≤ greatest (map f rest) = greatest_most f rest h m in omega arith)
    ] refl is

pub least_least : (f : HostId → ℕ) (hosts : List HostId) (h : HostId) → is_member hosts h ≡ true → least (map f hosts) ≤ f h
least_least f [] h is = cc is
least_least f (host ∷ []) h is =
    elim (eqb h.0 host.0) as (λ v. eqb h.0 host.0 ≡ v → (v || false) ≡ true → f host ≤ f h) [
      | true ↦ λ e _. (let same : f h ≡ f host = ap f (host_is h host e) in omega arith)
      | false ↦ λ _ m. cc m
    ] refl is
least_least f (host ∷ next ∷ rest) h is =
    elim (eqb h.0 host.0) as (λ v. eqb h.0 host.0 ≡ v → (v || is_member (next ∷ rest) h) ≡ true → min (f host) (least (map f (next ∷ rest))) ≤ f h) [
      | true ↦ λ e _. (let same : f h ≡ f host = ap f (host_is h host e) in omega arith)
      | false ↦ λ _ m. (let there : least (map f (next ∷ rest)) ≤ f h = least_least f (next ∷ rest) h m in omega arith)
    ] refl is

-- someone has it
pub record HasOne (f : HostId → ℕ) (hosts : List HostId) (n : ℕ) : Type 0 where
  pub host : HostId
  pub is : is_member hosts host ≡ true
  pub has : f host ≡ n

one_here : (f : HostId → ℕ) (host : HostId) (rest : List HostId) (n : ℕ) → f host ≡ n → HasOne f (host ∷ rest) n
one_here f host rest n e = record { host = host; is = or_first (eqb host.0 host.0) (is_member rest host) (host_same host); has = e }

one_there : (f : HostId → ℕ) (host : HostId) (rest : List HostId) (n m : ℕ) → m ≡ n → HasOne f rest m → HasOne f (host ∷ rest) n
one_there f host rest n m e one = record { host = one.host; is = later_is host one.host rest one.is; has = one.has ∙ e }

max_either : (a b : ℕ) → (a ≡ max a b) ⊎ (b ≡ max a b)
max_either a b = grind arith

min_either : (a b : ℕ) → (a ≡ min a b) ⊎ (b ≡ min a b)
min_either a b = grind arith

pub greatest_is : (f : HostId → ℕ) (host : HostId) (rest : List HostId) → HasOne f (host ∷ rest) (greatest (map f (host ∷ rest)))
greatest_is f host [] = one_here f host [] (max (f host) 0) (omega arith)
greatest_is f host (next ∷ rest) =
    elim (max_either (f host) (greatest (map f (next ∷ rest)))) [
      | inl e ↦ one_here f host (next ∷ rest) _ e
      | inr e ↦ one_there f host (next ∷ rest) _ _ e (greatest_is f next rest)
    ]

pub least_is : (f : HostId → ℕ) (host : HostId) (rest : List HostId) → HasOne f (host ∷ rest) (least (map f (host ∷ rest)))
least_is f host [] = one_here f host [] (f host) refl
least_is f host (next ∷ rest) =
    elim (min_either (f host) (least (map f (next ∷ rest)))) [
      | inl e ↦ one_here f host (next ∷ rest) _ e
      | inr e ↦ one_there f host (next ∷ rest) _ _ e (least_is f next rest)
    ]

-- ---- the least host

lesser_is : (host : HostId) (other : Option HostId) (found : HostId) → lesser host other ≡ Some found → (host ≡ found) ⊎ (other ≡ Some found)
lesser_is host None found e = inl (cc)
lesser_is host (Some other) found e =
    elim (nat_lt other.0 host.0) as (λ v. cond v (Some other) (Some host) ≡ Some found → (host ≡ found) ⊎ (Some other ≡ Some found)) [
      | true ↦ λ h. inr h
      | false ↦ λ h. inl (cc h)
    ] e

lesser_some : (host : HostId) (other : Option HostId) → (found : HostId) × (lesser host other ≡ Some found)
lesser_some host None = (host, refl)
lesser_some host (Some other) =
    elim (nat_lt other.0 host.0) as (λ v. (found : HostId) × (cond v (Some other) (Some host) ≡ Some found)) [
      | true ↦ (other, refl)
      | false ↦ (host, refl)
    ]

-- who is found among those that pass is a member and passes
pub record Passes (p : HostId → Bool) (hosts : List HostId) (found : HostId) : Type 0 where
  pub is : is_member hosts found ≡ true
  pub passes : p found ≡ true

pub least_passes : (p : HostId → Bool) (hosts : List HostId) (found : HostId) → least_host (filter p hosts) ≡ Some found → Passes p hosts found
least_passes p [] found e = cc e
least_passes p (host ∷ rest) found e =
    let later : Passes p rest found → Passes p (host ∷ rest) found = λ x. record { is = later_is host found rest x.is; passes = x.passes } in
    elim (p host) as (λ v. p host ≡ v → least_host (cond v (host ∷ filter p rest) (filter p rest)) ≡ Some found → Passes p (host ∷ rest) found) [
      | true ↦ λ t h.
          elim (lesser_is host (least_host (filter p rest)) found h) [
            | inl same ↦ record {
              is = or_first (eqb found.0 host.0) (is_member rest found) (ap (λ (x : HostId). eqb found.0 x.0) same ∙ host_same found);
              passes = ap p (sym same) ∙ t;
            }
            | inr there ↦ later (least_passes p rest found there)
          ]
      | false ↦ λ _ h. later (least_passes p rest found h)
    ] refl e

-- someone is found where a member passes
pub least_found : (p : HostId → Bool) (hosts : List HostId) (host : HostId) → is_member hosts host ≡ true → p host ≡ true → (found : HostId) × (least_host (filter p hosts) ≡ Some found)
least_found p [] host is t = cc is
least_found p (first ∷ rest) host is t =
    elim (p first) as (λ v. p first ≡ v → (found : HostId) × (least_host (cond v (first ∷ filter p rest) (filter p rest)) ≡ Some found)) [
      | true ↦ λ _. lesser_some first (least_host (filter p rest))
      | false ↦ λ fails.
          elim (eqb host.0 first.0) as (λ v. eqb host.0 first.0 ≡ v → (v || is_member rest host) ≡ true → (found : HostId) × (least_host (filter p rest) ≡ Some found)) [
            | true ↦ λ e _. (let same : p host ≡ p first = ap p (host_is host first e) in cc)
            | false ↦ λ _ m. least_found p rest host m t
          ] refl is
    ] refl
