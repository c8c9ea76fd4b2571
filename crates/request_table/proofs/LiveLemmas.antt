-- What the words on live requests say of one another.
use Rattle.std.proofs.Common.{◌⊎◌, inl, inr, ℕ, suc, min, ◌<◌, length, arith, ◌≡◌, true, false, List, [], ◌∷◌, Some, None, option_map, cond, refl, ap, sym}
use Rattle.std.specs.Map.{set_value}
use Rattle.std.specs.List.{Contains, fold, reduce}
use Rattle.std.proofs.lemmas.Bool.{cases_lt}
use Rattle.base_ids.specs.declared.OpId.{OpId}
use Rattle.request_table.specs.declared.Live.{Live}
use Rattle.request_table.specs.Requests.{is_same_request, request_of, with_work}

module _ {P O : Type 0} where
  -- to write a whole request back with other work is to change its work
  pub set_value-with_work : (live : List (OpId × Live P O)) (op : OpId) (x : Live P O) (work : O) → request_of live op ≡ Some x → set_value (is_same_request op) live (record x { work = work }) ≡ with_work live op work
  set_value-with_work [] op x work found = refl
  set_value-with_work (r ∷ rs) op x work found =
      elim (is_same_request op r.0) as (λ b. cond b (Some r.1) (request_of rs op) ≡ Some x → cond b ((r.0, record x { work = work }) ∷ rs) (r ∷ set_value (is_same_request op) rs (record x { work = work })) ≡ cond b ((r.0, record r.1 { work = work }) ∷ rs) (r ∷ with_work rs op work)) [
        | true ↦ λ same. let e : r.1 ≡ x = cc in ap (λ (y : Live P O). (r.0, record y { work = work }) ∷ rs) (sym e)
        | false ↦ λ below. ap (λ es. r ∷ es) (set_value-with_work rs op x work below)
      ] found

  -- where the request is not live, there is no work to change
  pub with_work-absent : (live : List (OpId × Live P O)) (op : OpId) (work : O) → option_map (λ r. r.work) (request_of live op) ≡ None → live ≡ with_work live op work
  with_work-absent [] op work absent = refl
  with_work-absent (r ∷ rs) op work absent =
      elim (is_same_request op r.0) as (λ b. option_map (λ (x : Live P O). x.work) (cond b (Some r.1) (request_of rs op)) ≡ None → (r ∷ rs) ≡ cond b ((r.0, record r.1 { work = work }) ∷ rs) (r ∷ with_work rs op work)) [
        | true ↦ λ wrong. cc
        | false ↦ λ below. ap (λ es. r ∷ es) (with_work-absent rs op work below)
      ] absent

-- two lenders under one name are the same where they give the same for each value
pub same_lender : {A B C : Type 0} {name : A} {before after : B → C} → ((w : B) → before w ≡ after w) → (let lent : (A × (B → C)) ⊎ C = inl (name, before) in lent) ≡ inl (name, after)
same_lender {name = name} same = λ i. inl (name, λ w. same w i)

-- the least of two numbers is one of them
min-cases : (a x r : ℕ) → min a x ≡ r → (a ≡ r) ⊎ (x ≡ r)
min-cases a x r e = elim (cases_lt a x) [ inl below ↦ inl (omega arith) | inr above ↦ inr (omega arith) ]

-- the least of a number and a list is that number or in the list
fold-min_reached : (a : ℕ) (xs : List ℕ) (r : ℕ) → fold min a xs ≡ r → (a ≡ r) ⊎ Contains xs r
fold-min_reached a [] r e = inl e
fold-min_reached a (x ∷ xs) r e =
    elim (fold-min_reached (min a x) xs r e) [
      | inl least ↦ elim (min-cases a x r least) [ inl first ↦ inl first | inr second ↦ inr (0, omega arith, second) ]
      | inr rest ↦ let within : rest.0 < length xs = rest.1 in inr (suc rest.0, omega arith, rest.2)
    ]

-- the least number of a list is in it
pub Contains-reduce_min : (xs : List ℕ) (r : ℕ) → reduce min xs ≡ Some r → Contains xs r
Contains-reduce_min [] r e = cc
Contains-reduce_min (x ∷ xs) r e =
    let reached : fold min x xs ≡ r = cc in
    elim (fold-min_reached x xs r reached) [
      | inl first ↦ (0, omega arith, first)
      | inr rest ↦ let within : rest.0 < length xs = rest.1 in (suc rest.0, omega arith, rest.2)
    ]
