-- A range of a sorted list is one run of it.
use Rattle.std.proofs.Common.{◌≡◌, ℕ, suc, ◌+◌, ◌≤◌, ◌&&◌, not, nat_lt, nat_le, Bool, true, false, cond, Option, List, [], ◌∷◌, ◌++◌, take, drop, filter, arith, refl, ap, ◌∙◌}
use Rattle.std.proofs.lemmas.Bool.Decides.{nat_tests}
use Rattle.base_ids.specs.declared.ids.TableId.{TableId}
use Rattle.token_ring.specs.declared.token.Token.{Token}
use Rattle.token_ring.specs.declared.ring.TokenRange.{TokenRange}
use Rattle.replica_store.specs.declared.store.Stored.{Stored}
use Rattle.replica_store.specs.Cells.{Cells, IsOrdered, IsAfter, rank, rank_of, is_inside, is_above, outside}
use Rattle.replica_store.specs.Columns.{first_from, start_of, end_of}
use Rattle.replica_store.proofs.RankLemmas.{is_inside-rank, is_wanted-rank}

-- a cell stands from one place to below another
abbrev is_between : ℕ → ℕ → TableId × Stored → Bool
is_between from until e = nat_le from (rank_of e) && nat_lt (rank_of e) until

pub filter-same : {X : Type 0} (p q : X → Bool) (xs : List X) → ((x : X) → p x ≡ q x) → filter p xs ≡ filter q xs
filter-same p q [] same = refl
filter-same p q (x ∷ xs) same = rw (same x, filter-same p q xs same)

-- none of those behind a place stands before it
filter-behind : (xs : Cells) (from until first : ℕ) → IsAfter first xs → until ≤ first + 1 → filter (is_between from until) xs ≡ []
filter-behind [] from until first after behind = refl
filter-behind (x ∷ xs) from until first after behind =
    let late : is_between from until x ≡ false = grind (arith, nat_tests, after.0) in
    rw late (filter-behind xs from until first after.1 behind)

filter_out-behind : (xs : Cells) (from until first : ℕ) → IsAfter first xs → until ≤ first + 1 → filter (λ e. not (is_between from until e)) xs ≡ xs
filter_out-behind [] from until first after behind = refl
filter_out-behind (x ∷ xs) from until first after behind =
    let late : is_between from until x ≡ false = grind (arith, nat_tests, after.0) in
    rw late (ap (λ es. x ∷ es) (filter_out-behind xs from until first after.1 behind))

-- of cells that all stand from a place on, those below another are the first ones
filter-first : (xs : Cells) (from until first : ℕ) → IsOrdered xs → IsAfter first xs → from ≤ first + 1 → filter (is_between from until) xs ≡ take (first_from xs until) xs
filter-first [] from until first ordered after reached = refl
filter-first (x ∷ xs) from until first ordered after reached =
    elim (nat_lt (rank_of x) until) as (λ b. nat_lt (rank_of x) until ≡ b → filter (is_between from until) (x ∷ xs) ≡ take (cond b (suc (first_from xs until)) 0) (x ∷ xs)) [
      | true ↦ λ before. let within : is_between from until x ≡ true = grind (arith, nat_tests, after.0) in rw within (ap (λ es. x ∷ es) (filter-first xs from until first ordered.1 after.1 reached))
      | false ↦ λ behind. let late : is_between from until x ≡ false = grind (arith, nat_tests) in rw late (filter-behind xs from until (rank_of x) ordered.0 (grind (arith, nat_tests)))
    ] refl

filter_out-first : (xs : Cells) (from until first : ℕ) → IsOrdered xs → IsAfter first xs → from ≤ first + 1 → filter (λ e. not (is_between from until e)) xs ≡ drop (first_from xs until) xs
filter_out-first [] from until first ordered after reached = refl
filter_out-first (x ∷ xs) from until first ordered after reached =
    elim (nat_lt (rank_of x) until) as (λ b. nat_lt (rank_of x) until ≡ b → filter (λ e. not (is_between from until e)) (x ∷ xs) ≡ drop (cond b (suc (first_from xs until)) 0) (x ∷ xs)) [
      | true ↦ λ before. let within : is_between from until x ≡ true = grind (arith, nat_tests, after.0) in rw within (filter_out-first xs from until first ordered.1 after.1 reached)
      | false ↦ λ behind. let late : is_between from until x ≡ false = grind (arith, nat_tests) in rw late (ap (λ es. x ∷ es) (filter_out-behind xs from until (rank_of x) ordered.0 (grind (arith, nat_tests))))
    ] refl

-- those from one place to below another are one run
filter-run : (xs : Cells) (from until : ℕ) → IsOrdered xs → filter (is_between from until) xs ≡ take (first_from (drop (first_from xs from) xs) until) (drop (first_from xs from) xs)
filter-run [] from until ordered = refl
filter-run (x ∷ xs) from until ordered =
    elim (nat_lt (rank_of x) from) as (λ b. nat_lt (rank_of x) from ≡ b → filter (is_between from until) (x ∷ xs) ≡ take (first_from (drop (cond b (suc (first_from xs from)) 0) (x ∷ xs)) until) (drop (cond b (suc (first_from xs from)) 0) (x ∷ xs))) [
      | true ↦ λ before. let early : is_between from until x ≡ false = grind (arith, nat_tests) in rw early (filter-run xs from until ordered.1)
      | false ↦ λ reached. elim (nat_lt (rank_of x) until) as (λ b. nat_lt (rank_of x) until ≡ b → filter (is_between from until) (x ∷ xs) ≡ take (cond b (suc (first_from xs until)) 0) (x ∷ xs)) [
        | true ↦ λ here. let within : is_between from until x ≡ true = grind (arith, nat_tests) in rw within (ap (λ es. x ∷ es) (filter-first xs from until (rank_of x) ordered.1 ordered.0 (grind (arith, nat_tests))))
        | false ↦ λ behind. let late : is_between from until x ≡ false = grind (arith, nat_tests) in rw late (filter-behind xs from until (rank_of x) ordered.0 (grind (arith, nat_tests)))
      ] refl
    ] refl

-- and the others are what stands before that run and behind it
filter_out-run : (xs : Cells) (from until : ℕ) → IsOrdered xs → filter (λ e. not (is_between from until e)) xs ≡ take (first_from xs from) xs ++ drop (first_from (drop (first_from xs from) xs) until) (drop (first_from xs from) xs)
filter_out-run [] from until ordered = refl
filter_out-run (x ∷ xs) from until ordered =
    elim (nat_lt (rank_of x) from) as (λ b. nat_lt (rank_of x) from ≡ b → filter (λ e. not (is_between from until e)) (x ∷ xs) ≡ take (cond b (suc (first_from xs from)) 0) (x ∷ xs) ++ drop (first_from (drop (cond b (suc (first_from xs from)) 0) (x ∷ xs)) until) (drop (cond b (suc (first_from xs from)) 0) (x ∷ xs))) [
      | true ↦ λ before. let early : is_between from until x ≡ false = grind (arith, nat_tests) in rw early (ap (λ es. x ∷ es) (filter_out-run xs from until ordered.1))
      | false ↦ λ reached. elim (nat_lt (rank_of x) until) as (λ b. nat_lt (rank_of x) until ≡ b → filter (λ e. not (is_between from until e)) (x ∷ xs) ≡ drop (cond b (suc (first_from xs until)) 0) (x ∷ xs)) [
        | true ↦ λ here. let within : is_between from until x ≡ true = grind (arith, nat_tests) in rw within (filter_out-first xs from until (rank_of x) ordered.1 ordered.0 (grind (arith, nat_tests)))
        | false ↦ λ behind. let late : is_between from until x ≡ false = grind (arith, nat_tests) in rw late (ap (λ es. x ∷ es) (filter_out-behind xs from until (rank_of x) ordered.0 (grind (arith, nat_tests))))
      ] refl
    ] refl

pub wanted-run : (xs : Cells) (table : TableId) (range : TokenRange) (after : Option Token) → IsOrdered xs →
    filter (λ e. is_inside table range e && is_above after e.1.token) xs ≡ take (first_from (drop (first_from xs (start_of table range after)) xs) (end_of table range)) (drop (first_from xs (start_of table range after)) xs)
wanted-run xs table range after ordered =
    filter-same (λ e. is_inside table range e && is_above after e.1.token) (is_between (start_of table range after) (end_of table range)) xs (is_wanted-rank table range after) ∙ filter-run xs (start_of table range after) (end_of table range) ordered

pub outside-run : (xs : Cells) (table : TableId) (range : TokenRange) → IsOrdered xs →
    outside xs table range ≡ take (first_from xs (rank table range.first)) xs ++ drop (first_from (drop (first_from xs (rank table range.first)) xs) (end_of table range)) (drop (first_from xs (rank table range.first)) xs)
outside-run xs table range ordered =
    filter-same (λ e. not (is_inside table range e)) (λ e. not (is_between (rank table range.first) (end_of table range) e)) xs (λ e. ap not (is_inside-rank table range e)) ∙ filter_out-run xs (rank table range.first) (end_of table range) ordered

IsAfter-filter : (first : ℕ) (p : TableId × Stored → Bool) (xs : Cells) → IsAfter first xs → IsAfter first (filter p xs)
IsAfter-filter first p [] after = tt
IsAfter-filter first p (x ∷ xs) after =
    elim (p x) as (λ b. IsAfter first (cond b (x ∷ filter p xs) (filter p xs))) [
      | true ↦ (after.0, IsAfter-filter first p xs after.1)
      | false ↦ IsAfter-filter first p xs after.1
    ]

pub IsOrdered-filter : (p : TableId × Stored → Bool) (xs : Cells) → IsOrdered xs → IsOrdered (filter p xs)
IsOrdered-filter p [] ordered = tt
IsOrdered-filter p (x ∷ xs) ordered =
    elim (p x) as (λ b. IsOrdered (cond b (x ∷ filter p xs) (filter p xs))) [
      | true ↦ (IsAfter-filter (rank_of x) p xs ordered.0, IsOrdered-filter p xs ordered.1)
      | false ↦ IsOrdered-filter p xs ordered.1
    ]

pub IsOrdered-outside : (xs : Cells) (table : TableId) (range : TokenRange) → IsOrdered xs → IsOrdered (outside xs table range)
IsOrdered-outside xs table range = IsOrdered-filter (λ e. not (is_inside table range e)) xs
