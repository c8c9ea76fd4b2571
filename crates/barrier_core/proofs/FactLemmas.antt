-- What the words on facts say of sets of facts and of longer lists.
use Rattle.std.proofs.Common.{is_none, ◌≡◌, ◌∙◌, Bool, true, false, cond, ◌||◌, ◌&&◌, not, nat_lt, ℕ, ◌+◌, ◌<◌, List, [], ◌∷◌, ◌++◌, length, take, filter, reverse, get_or, nat_eq, true≢false, Option, Some, None, refl, sym, ap, arith}
use Rattle.std.proofs.lemmas.List.{reverse-append, take_more}
use Rattle.std.proofs.lemmas.Grind.{reverse_onto}
use Rattle.std.proofs.lemmas.List.Folds.{list_any-append}
use Rattle.std.proofs.lemmas.List.Elements.{filter-append}
use Rattle.std.proofs.lemmas.Bool.Decides.{nat_tests}
use Rattle.std.specs.List.{list_any}
use Rattle.indexmap.specs.IndexSet.{insert_key}
use Rattle.base_ids.specs.declared.ids.HostId.{HostId}
use Rattle.barrier_core.specs.declared.data.What.{What}
use Rattle.barrier_core.specs.declared.data.What.TheVariants.{Drain, Fence as FenceAt, Done, Clean as CleanOf, Ready}
use Rattle.barrier_core.specs.declared.data.Told.{Told}
use Rattle.barrier_core.specs.declared.data.Fact.{Fact}
use Rattle.barrier_core.specs.Facts.{same_what, same_told, has_kind, has_told, is_told, noted_facts, lesser_host, least_host, least_without, all_told}
use Rattle.barrier_core.specs.contracts.data.WhatPartialEq.TheImpl.{eq-value as what_test}
use Rattle.barrier_core.specs.contracts.data.ToldPartialEq.TheImpl.{eq-value as told_test}

-- ---- the derived tests are those of the definitions

what_eq : (a b : What) → what_test.it a b ≡ same_what a b
what_eq (Drain a) (Drain b) = refl
what_eq (FenceAt a) (FenceAt b) = refl
what_eq (Done a) (Done b) = refl
what_eq (CleanOf a) (CleanOf b) = refl
what_eq (Ready a) (Ready b) = refl
what_eq a b = refl

told_eq : (a b : Told) → told_test.it a b ≡ same_told a b
told_eq a b = ap (λ c. (nat_eq a.from.0 b.from.0) && c) (what_eq a.what b.what)

-- the same test tells whether an element passes
list_any-alike : {X : Type 0} (p q : X → Bool) → ((x : X) → p x ≡ q x) → (xs : List X) → list_any p xs ≡ list_any q xs
list_any-alike p q same [] = refl
list_any-alike p q same (x ∷ xs) = rw (same x, list_any-alike p q same xs) refl

-- a test over a list in reverse
list_any-reverse : {X : Type 0} (test : X → Bool) (xs : List X) → list_any test (reverse xs) ≡ list_any test xs
list_any-reverse test [] = refl
list_any-reverse test (x ∷ xs) =
    ap (list_any test) (reverse_onto xs x []) ∙ list_any-append test (reverse xs) (x ∷ []) ∙ ap (λ c. c || (test x || false)) (list_any-reverse test xs) ∙ turned (list_any test xs) (test x)
  where
    turned : (a b : Bool) → (a || (b || false)) ≡ (b || a)
    turned true true = refl
    turned true false = refl
    turned false true = refl
    turned false false = refl

-- what the two sets find
pub told_found : (keys : List Told) (told : Told) → list_any (told_test.it told) keys ≡ list_any (same_told told) (reverse keys)
told_found keys told =
    list_any-alike (told_test.it told) (same_told told) (told_eq told) keys ∙ sym (list_any-reverse (same_told told) keys)

pub kind_found : (kinds : List What) (what : What) → list_any (what_test.it what) kinds ≡ has_kind kinds what
kind_found kinds what = list_any-alike (what_test.it what) (same_what what) (what_eq what) kinds

pub is_told-reverse : (keys : List Told) (what : What) → is_told (reverse keys) what ≡ is_told keys what
is_told-reverse keys what = list_any-reverse (λ (told : Told). same_what what told.what) keys

-- ---- a fact is noted

-- the list, with the fact in front where it was not there
pub reverse-insert_key : (keys : List Told) (fact : Fact) → reverse (insert_key told_test.it keys (record { from = fact.from; what = fact.what })) ≡ noted_facts (reverse keys) fact
reverse-insert_key keys fact =
    let told : Told = record { from = fact.from; what = fact.what } in
    rw (← told_found keys told) (
    elim (list_any (told_test.it told) keys) as (λ b. reverse (cond b keys (keys ++ told ∷ [])) ≡ cond b (reverse keys) (told ∷ reverse keys)) [
      | true ↦ refl
      | false ↦ reverse-append keys (told ∷ [])
    ]
    )

-- the same kind of fact is one value
same_number : {X : Type 0} (make : ℕ → X) (a b : ℕ) → nat_eq a b ≡ true → make a ≡ make b
same_number make a b same = let e : a ≡ b = grind (arith, nat_tests) in ap make e

same_what-is : (a b : What) → same_what a b ≡ true → a ≡ b
same_what-is (Drain a) (Drain b) same = same_number (λ n. Drain (record { 0 = n })) a.0 b.0 same
same_what-is (FenceAt a) (FenceAt b) same = same_number (λ n. FenceAt (record { 0 = n })) a.0 b.0 same
same_what-is (Done a) (Done b) same = same_number (λ n. Done (record { 0 = n })) a.0 b.0 same
same_what-is (CleanOf a) (CleanOf b) same = same_number (λ n. CleanOf (record { 0 = n })) a.0 b.0 same
same_what-is (Ready a) (Ready b) same = same_number (λ n. Ready (record { 0 = n })) a.0 b.0 same
same_what-is a b same = absurd (true≢false (sym same))

and_right : (a b : Bool) → (a && b) ≡ true → b ≡ true
and_right true b both = both
and_right false b both = absurd (true≢false (sym both))

or_false : (b : Bool) → (b || false) ≡ b
or_false true = refl
or_false false = refl

-- what one test implies of an element it implies of a list
list_any-implied : {X : Type 0} (p q : X → Bool) → ((x : X) → p x ≡ true → q x ≡ true) → (xs : List X) → list_any p xs ≡ true → list_any q xs ≡ true
list_any-implied p q implied [] found = absurd (true≢false (sym found))
list_any-implied p q implied (x ∷ xs) found =
    elim (p x) as (λ b. p x ≡ b → (b || list_any p xs) ≡ true → (q x || list_any q xs) ≡ true) [
      | true ↦ λ here _. rw (implied x here) refl
      | false ↦ λ _ behind. rw (list_any-implied p q implied xs behind) (or_true (q x))
    ] refl found
  where
    or_true : (b : Bool) → (b || true) ≡ true
    or_true true = refl
    or_true false = refl

-- a test over a list to which an element is added unless it is there
list_any-inserted : {X : Type 0} (there : Bool) (test : X → Bool) (xs : List X) (x : X) → (there ≡ true → test x ≡ true → list_any test xs ≡ true) → list_any test (cond there xs (xs ++ x ∷ [])) ≡ (list_any test xs || test x)
list_any-inserted true test xs x found =
    elim (test x) as (λ b. test x ≡ b → list_any test xs ≡ (list_any test xs || b)) [
      | true ↦ λ passes. rw (found refl passes) refl
      | false ↦ λ _. sym (or_false (list_any test xs))
    ] refl
list_any-inserted false test xs x found =
    list_any-append test xs (x ∷ []) ∙ ap (λ c. list_any test xs || c) (or_false (test x))

-- the set of kinds has what the facts tell, also with one more
pub kinds-kept : (kinds : List What) (keys : List Told) (fact : Fact) → ((what : What) → has_kind kinds what ≡ is_told keys what) → (what : What) → has_kind (insert_key what_test.it kinds fact.what) what ≡ is_told (insert_key told_test.it keys (record { from = fact.from; what = fact.what })) what
kinds-kept kinds keys fact tied what =
    list_any-inserted (list_any (what_test.it fact.what) kinds) (same_what what) kinds fact.what kind_there ∙ ap (λ c. c || same_what what fact.what) (tied what) ∙ sym (list_any-inserted (list_any (told_test.it told) keys) test keys told told_there)
  where
    told : Told
    told = record { from = fact.from; what = fact.what }

    test : Told → Bool
    test = λ t. same_what what t.what

    kind_there : list_any (what_test.it fact.what) kinds ≡ true → same_what what fact.what ≡ true → has_kind kinds what ≡ true
    kind_there found same =
        ap (has_kind kinds) (same_what-is what fact.what same) ∙ sym (kind_found kinds fact.what) ∙ found

    told_there : list_any (told_test.it told) keys ≡ true → same_what what fact.what ≡ true → list_any test keys ≡ true
    told_there found same =
        ap (λ w. list_any (λ (t : Told). same_what w t.what) keys) (same_what-is what fact.what same) ∙ list_any-implied (told_test.it told) (λ t. same_what fact.what t.what) (λ t e. and_right (nat_eq told.from.0 t.from.0) (same_what fact.what t.what) (sym (told_eq told t) ∙ e)) keys found

-- ---- the least host

lesser_host-assoc : (a b c : Option HostId) → lesser_host a (lesser_host b c) ≡ lesser_host (lesser_host a b) c
lesser_host-assoc None b c = refl
lesser_host-assoc (Some a) None c = refl
lesser_host-assoc (Some a) (Some b) None = refl
lesser_host-assoc (Some a) (Some b) (Some c) = ap Some (by (nat_lt c.0 b.0) (nat_lt b.0 a.0) refl refl)
  where
    by : (q p : Bool) → nat_lt c.0 b.0 ≡ q → nat_lt b.0 a.0 ≡ p → cond (nat_lt (cond q c b).0 a.0) (cond q c b) a ≡ cond (nat_lt c.0 (cond p b a).0) c (cond p b a)
    by true true cb ba = let ca : nat_lt c.0 a.0 ≡ true = grind (arith, nat_tests) in rw (ca, cb) refl
    by true false cb ba = refl
    by false true cb ba = rw (ba, cb) refl
    by false false cb ba = let ca : nat_lt c.0 a.0 ≡ false = grind (arith, nat_tests) in rw (ba, ca) refl

least_host-append : (xs ys : List HostId) → least_host (xs ++ ys) ≡ lesser_host (least_host xs) (least_host ys)
least_host-append [] ys = refl
least_host-append (x ∷ xs) ys =
    ap (lesser_host (Some x)) (least_host-append xs ys) ∙ lesser_host-assoc (Some x) (least_host xs) (least_host ys)

-- of two lists
pub least_without-append : (facts : List Told) (what : What) (xs ys : List HostId) → least_without facts what (xs ++ ys) ≡ lesser_host (least_without facts what xs) (least_without facts what ys)
least_without-append facts what xs ys =
    let test = λ (host : HostId). not (has_told facts what host) in
    ap least_host (filter-append test xs ys) ∙ least_host-append (filter test xs) (filter test ys)

-- with one host more
least_without-more : (facts : List Told) (what : What) (hosts : List HostId) (i : ℕ) (d : HostId) → i < length hosts → least_without facts what (take (i + 1) hosts) ≡ lesser_host (least_without facts what (take i hosts)) (cond (has_told facts what (get_or hosts i d)) None (Some (get_or hosts i d)))
least_without-more facts what hosts i d below =
    ap (least_without facts what) (take_more hosts i d below) ∙ least_without-append facts what (take i hosts) (get_or hosts i d ∷ []) ∙ ap (lesser_host (least_without facts what (take i hosts))) (alone (has_told facts what (get_or hosts i d)))
  where
    alone : (b : Bool) → least_host (cond (not b) (get_or hosts i d ∷ []) []) ≡ cond b None (Some (get_or hosts i d))
    alone true = refl
    alone false = refl

-- in a loop over hosts
module _ (facts : List Told) (what : What) (hosts : List HostId) (i : ℕ) (d : HostId) (below : i < length hosts) (least : Option HostId) (so_far : least ≡ least_without facts what (take i hosts)) where
  pub least_without-told : has_told facts what (get_or hosts i d) ≡ true → least ≡ least_without facts what (take (i + 1) hosts)
  least_without-told told =
      so_far ∙ sym (least_without-more facts what hosts i d below ∙ ap (λ b. lesser_host (least_without facts what (take i hosts)) (cond b None (Some (get_or hosts i d)))) told ∙ lesser_host-None (least_without facts what (take i hosts)))
    where
      lesser_host-None : (a : Option HostId) → lesser_host a None ≡ a
      lesser_host-None None = refl
      lesser_host-None (Some a) = refl

  pub least_without-untold : has_told facts what (get_or hosts i d) ≡ false → lesser_host least (Some (get_or hosts i d)) ≡ least_without facts what (take (i + 1) hosts)
  least_without-untold untold =
      ap (λ a. lesser_host a (Some (get_or hosts i d))) so_far ∙ sym (least_without-more facts what hosts i d below ∙ ap (λ b. lesser_host (least_without facts what (take i hosts)) (cond b None (Some (get_or hosts i d)))) untold)

-- none is waited for exactly where each host has told it
pub least_without-none : (facts : List Told) (what : What) (hosts : List HostId) → is_none (least_without facts what hosts) ≡ all_told facts what hosts
least_without-none facts what [] = refl
least_without-none facts what (host ∷ rest) =
    elim (has_told facts what host) as (λ b. is_none (least_host (cond (not b) (host ∷ waited) waited)) ≡ (b && all_told facts what rest)) [
      | true ↦ least_without-none facts what rest
      | false ↦ some (least_host waited)
    ]
  where
    waited : List HostId
    waited = filter (λ h. not (has_told facts what h)) rest

    some : (other : Option HostId) → is_none (lesser_host (Some host) other) ≡ false
    some None = refl
    some (Some _) = refl

pub none_waited : (facts : List Told) (what : What) (xs ys : List HostId) → is_none (lesser_host (least_without facts what xs) (least_without facts what ys)) ≡ (all_told facts what xs && all_told facts what ys)
none_waited facts what xs ys =
    both (least_without facts what xs) (least_without facts what ys) ∙ ap (λ b. b && is_none (least_without facts what ys)) (least_without-none facts what xs) ∙ ap (λ b. all_told facts what xs && b) (least_without-none facts what ys)
  where
    both : (a b : Option HostId) → is_none (lesser_host a b) ≡ (is_none a && is_none b)
    both None b = refl
    both (Some a) None = refl
    both (Some a) (Some b) = refl
