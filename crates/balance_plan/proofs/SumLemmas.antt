-- Sums over members that stand once each: where two functions differ at one of them, or at two.
use Rattle.std.proofs.Common.{◌≡◌, ◌+◌, ◌<◌, ◌≤◌, ℕ, List, [], ◌∷◌, cond, eqb, Bool, true, false, not, ◌&&◌, ◌||◌, refl, ap, sym, subst, ◌∙◌, arith}
use Rattle.std.proofs.lemmas.Bool.{eqb-true, eq-eqb}
use Rattle.tablet_map.proofs.Joined.{and_left, and_right, or_first, or_second, not_true, is_false}
use Rattle.base_ids.specs.declared.ids.HostId.{HostId}
use Rattle.topo_state.specs.State.{is_member, distinct_members}

abbrev pub total : (HostId → ℕ) → List HostId → ℕ
total f [] = 0
total f (host ∷ rest) = f host + total f rest

pub host_is : (a b : HostId) → eqb a.0 b.0 ≡ true → a ≡ b
host_is a b h = ap (λ (n : ℕ). let r : HostId = record { 0 = n } in r) (eqb-true a.0 b.0 h)

pub host_same : (a : HostId) → eqb a.0 a.0 ≡ true
host_same a = eq-eqb a.0 a.0 refl

pub turned : (a b : HostId) → eqb a.0 b.0 ≡ false → eqb b.0 a.0 ≡ false
turned a b h = grind arith

first_is : (host : HostId) (rest : List HostId) → is_member (host ∷ rest) host ≡ true
first_is host rest = or_first (eqb host.0 host.0) (is_member rest host) (host_same host)

pub later_is : (host other : HostId) (rest : List HostId) → is_member rest other ≡ true → is_member (host ∷ rest) other ≡ true
later_is host other rest is = or_second (eqb other.0 host.0) (is_member rest other) is

-- a member is not one who is none
pub apart_from : (hosts : List HostId) (out inside : HostId) → is_member hosts out ≡ false → is_member hosts inside ≡ true → eqb out.0 inside.0 ≡ false
apart_from hosts out inside missing there =
    is_false (eqb out.0 inside.0) (λ e.
    (let P : HostId → Type 0 = λ h. is_member hosts h ≡ true in
    let both : is_member hosts out ≡ true = subst P (sym (host_is out inside e)) there in cc))

pub total_at_most : (f g : HostId → ℕ) (hosts : List HostId) → ((h : HostId) → is_member hosts h ≡ true → f h ≤ g h) → total f hosts ≤ total g hosts
total_at_most f g [] each = omega arith
total_at_most f g (host ∷ rest) each =
    let here : f host ≤ g host = each host (first_is host rest) in
    let there : total f rest ≤ total g rest = total_at_most f g rest (λ h is. each h (later_is host h rest is)) in
    omega arith

pub total_same : (f g : HostId → ℕ) (hosts : List HostId) → ((h : HostId) → is_member hosts h ≡ true → f h ≡ g h) → total f hosts ≡ total g hosts
total_same f g [] each = refl
total_same f g (host ∷ rest) each =
    let here : f host ≡ g host = each host (first_is host rest) in
    let there : total f rest ≡ total g rest = total_same f g rest (λ h is. each h (later_is host h rest is)) in
    omega arith

pub total_zero : (f : HostId → ℕ) (hosts : List HostId) → ((h : HostId) → is_member hosts h ≡ true → f h ≡ 0) → total f hosts ≡ 0
total_zero f [] each = refl
total_zero f (host ∷ rest) each =
    let here : f host ≡ 0 = each host (first_is host rest) in
    let there : total f rest ≡ 0 = total_zero f rest (λ h is. each h (later_is host h rest is)) in
    omega arith

-- less at one of them
pub total_less : (f g : HostId → ℕ) (b : HostId) (hosts : List HostId) → is_member hosts b ≡ true → f b < g b → ((h : HostId) → is_member hosts h ≡ true → f h ≤ g h) → total f hosts < total g hosts
total_less f g b [] is less each = cc is
total_less f g b (host ∷ rest) is less each =
    let most : (h : HostId) → is_member rest h ≡ true → f h ≤ g h = λ h m. each h (later_is host h rest m) in
    elim (eqb b.0 host.0) as (λ v. eqb b.0 host.0 ≡ v → (v || is_member rest b) ≡ true → total f (host ∷ rest) < total g (host ∷ rest)) [
      | true ↦ λ e _.
          let P : HostId → Type 0 = λ h. f h < g h in
          let here : f host < g host = subst P (host_is b host e) less in
          let there : total f rest ≤ total g rest = total_at_most f g rest most in
          omega arith
      | false ↦ λ e m.
          let here : f host ≤ g host = each host (first_is host rest) in
          let there : total f rest < total g rest = total_less f g b rest m less most in
          omega arith
    ] refl is

-- other at one of them
pub total_one : (f g : HostId → ℕ) (a : HostId) (hosts : List HostId) → distinct_members hosts ≡ true → is_member hosts a ≡ true → ((h : HostId) → eqb a.0 h.0 ≡ false → f h ≡ g h) → total f hosts + g a ≡ total g hosts + f a
total_one f g a [] once is same = cc is
total_one f g a (host ∷ rest) once is same =
    let alone : is_member rest host ≡ false = not_true (is_member rest host) (and_left (not (is_member rest host)) (distinct_members rest) once) in
    let others : distinct_members rest ≡ true = and_right (not (is_member rest host)) (distinct_members rest) once in
    elim (eqb a.0 host.0) as (λ v. eqb a.0 host.0 ≡ v → (v || is_member rest a) ≡ true → total f (host ∷ rest) + g a ≡ total g (host ∷ rest) + f a) [
      | true ↦ λ e _.
          let is_host : a ≡ host = host_is a host e in
          let f_here : f a ≡ f host = ap f is_host in
          let g_here : g a ≡ g host = ap g is_host in
          let there : total f rest ≡ total g rest =
          total_same f g rest (λ h m. same h (ap (λ (x : HostId). eqb x.0 h.0) is_host ∙ apart_from rest host h alone m)) in
          omega arith
      | false ↦ λ e m.
          let here : f host ≡ g host = same host e in
          let there : total f rest + g a ≡ total g rest + f a = total_one f g a rest others m same in
          omega arith
    ] refl is

-- one gives one to another
pub record Shift (f g : HostId → ℕ) (from to : HostId) : Type 0 where
  pub apart : eqb from.0 to.0 ≡ false
  pub gives : g from + 1 ≡ f from
  pub takes : g to ≡ f to + 1
  pub others : (h : HostId) → eqb from.0 h.0 ≡ false → eqb to.0 h.0 ≡ false → g h ≡ f h

-- any sum over what the hosts have then changes at these two alone
abbrev between : (ℕ → ℕ) → (HostId → ℕ) → (HostId → ℕ) → HostId → HostId → ℕ
between w f g from h = cond (eqb from.0 h.0) (w (g h)) (w (f h))

cond_true : (b : Bool) (m n : ℕ) → b ≡ true → cond b m n ≡ m
cond_true true m n h = refl
cond_true false m n h = cc h

cond_false : (b : Bool) (m n : ℕ) → b ≡ false → cond b m n ≡ n
cond_false true m n h = cc h
cond_false false m n h = refl

pub total_shift : (w : ℕ → ℕ) (f g : HostId → ℕ) (from to : HostId) (hosts : List HostId) → distinct_members hosts ≡ true → is_member hosts from ≡ true → is_member hosts to ≡ true → Shift f g from to → (total (λ h. w (g h)) hosts + w (f from)) + w (f to) ≡ (total (λ h. w (f h)) hosts + w (g from)) + w (g to)
total_shift w f g from to hosts once gives takes shift =
    let mid : HostId → ℕ = λ h. between w f g from h in
    let one : total mid hosts + w (f from) ≡ total (λ h. w (f h)) hosts + mid from =
    total_one mid (λ h. w (f h)) from hosts once gives (λ h e. cond_false (eqb from.0 h.0) (w (g h)) (w (f h)) e) in
    let two : total (λ h. w (g h)) hosts + mid to ≡ total mid hosts + w (g to) =
    total_one (λ h. w (g h)) mid to hosts once takes (λ h e.
    elim (eqb from.0 h.0) as (λ v. eqb from.0 h.0 ≡ v → w (g h) ≡ cond v (w (g h)) (w (f h))) [
      | true ↦ λ _. refl
      | false ↦ λ d. ap w (shift.others h d e)
    ] refl) in
    let mid_from : mid from ≡ w (g from) = cond_true (eqb from.0 from.0) (w (g from)) (w (f from)) (host_same from) in
    let mid_to : mid to ≡ w (f to) = cond_false (eqb from.0 to.0) (w (g to)) (w (f to)) shift.apart in
    omega arith
