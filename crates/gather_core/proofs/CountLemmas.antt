-- What is counted of ranges.
use Rattle.std.proofs.Common.{◌≡◌, ◌+◌, ◌-◌, ◌<◌, ◌≤◌, ◌≤ℤ◌, ◌<ℤ◌, ◌&&◌, ◌||◌, ℕ, ℤ, zero, suc, min, not, int_lt, nat_lt, Bool, true, false, cond, Option, Some, None, List, [], ◌∷◌, take, drop, get_or, length, arith, refl, ap, sym, subst, ◌∙◌}
use Rattle.std.proofs.lemmas.Bool.Decides.{nat_tests}
use Rattle.std.proofs.lemmas.Int.{ints}
use Rattle.std.proofs.lemmas.List.Sums.{sum_by-cons, count_by_more_yes, count_by_more_no}
use Rattle.std.specs.List.{count_by}
use Rattle.std.specs.Ordering.{int_eq, is_eq}
use Rattle.base_ids.specs.declared.ids.TableId.{TableId}
use Rattle.cell_merge.specs.Cell.{cell_order}
use Rattle.cell_merge.specs.declared.cell.Cell.{Cell}
use Rattle.token_ring.specs.declared.ring.TokenRange.{TokenRange}
use Rattle.token_ring.specs.declared.token.Token.{Token}
use Rattle.replica_store.specs.Cells.{Cells, IsOrdered, IsAscending, IsAllAbove, cell_at, is_within, range_cells, stored_at}
use Rattle.replica_store.specs.declared.store.Stored.{Stored}
use Rattle.replica_store.proofs.MapLemmas.{stored_at-range_cells}
use Rattle.gather_core.proofs.PutManyLemmas.{EachOf, each_weaker, IsOf, range_cells_of}
use Rattle.gather_core.specs.Counts.{is_new, new_in, cells_new, is_other, starts_below, IsFrom}

-- a sum that stands still at an end, when more is added to it
pub more_still : (m count more left all : ℕ) → more + left ≡ all → min (min (count + more) m + left) m ≡ min (count + all) m
more_still m count more left all whole = omega arith

-- ---- where to go on in a list

le_test : (a b : ℤ) → int_lt a b ≡ false → b ≤ℤ a
le_test a b e = grind (arith, ints)

le_trans : (a b c : ℤ) → a ≤ℤ b → b ≤ℤ c → a ≤ℤ c
le_trans a b c one two = grind (arith, ints)

lt_le : (a b : ℤ) → a <ℤ b → a ≤ℤ b
lt_le a b below = grind (arith, ints)

off : (a b c : ℤ) → int_lt a b ≡ true → b ≤ℤ c → int_eq a c ≡ false
off a b c below upto = grind (arith, ints)

off_above : (a b c : ℤ) → a ≤ℤ b → b <ℤ c → int_eq c a ≡ false
off_above a b c upto above = grind (arith, ints)

other_token : (a b : ℤ) → int_lt a b ≡ true → int_eq b a ≡ false
other_token a b above = grind (arith, ints)

one_token : (a b : ℤ) → int_lt a b ≡ false → a ≤ℤ b → int_eq b a ≡ true
one_token a b upto from = grind (arith, ints)

-- whether there is a cell at an index that is below the token
pub starts_at : (token : Token) (cells : List Stored) (at : ℕ) (d : Stored) → at < length cells → starts_below token (drop at cells) ≡ int_lt (get_or cells at d).token.value token.value
starts_at token [] at d within = absurd (omega arith)
starts_at token (x ∷ xs) zero d within = refl
starts_at token (x ∷ xs) (suc at) d within = starts_at token xs at d (omega arith)

pub starts_end : (token : Token) (cells : List Stored) (at : ℕ) → length cells ≤ at → starts_below token (drop at cells) ≡ false
starts_end token [] zero end = refl
starts_end token [] (suc at) end = refl
starts_end token (x ∷ xs) zero end = absurd (omega arith)
starts_end token (x ∷ xs) (suc at) end = starts_end token xs at (omega arith)

pub is_from : (token : Token) (cells : List Stored) → starts_below token cells ≡ false → IsFrom token cells
is_from token [] e = tt
is_from token (x ∷ xs) e = le_test x.token.value token.value e

pub starts_within : (token : Token) (cells : List Stored) (at : ℕ) → starts_below token (drop at cells) ≡ true → at < length cells
starts_within token [] zero e = cc e
starts_within token [] (suc at) e = cc e
starts_within token (x ∷ xs) zero e = omega arith
starts_within token (x ∷ xs) (suc at) e = omega (arith, starts_within token xs at e)

-- past a cell below the token, the rest tells the same
pub past_below : (token : Token) (cells : List Stored) (at : ℕ) → starts_below token (drop at cells) ≡ true → (k : Token) → token.value ≤ℤ k.value → stored_at (drop (at + 1) cells) k ≡ stored_at (drop at cells) k
past_below token cells at below k upto = ap (λ n. stored_at (drop n cells) k) (let one : at + 1 ≡ suc at = omega arith in one) ∙ past cells at below
  where
    past : (cells : List Stored) (at : ℕ) → starts_below token (drop at cells) ≡ true → stored_at (drop (suc at) cells) k ≡ stored_at (drop at cells) k
    past [] zero e = cc e
    past [] (suc at) e = cc e
    past (x ∷ xs) zero e = rw (off x.token.value token.value k.value e upto) refl
    past (x ∷ xs) (suc at) e = past xs at e

-- ---- what is told of one cell

none_above : (last token : Token) (cells : List Stored) → token.value ≤ℤ last.value → IsAllAbove last cells → stored_at cells token ≡ None
none_above last token [] upto above = refl
none_above last token (x ∷ xs) upto above =
    rw (off_above token.value last.value x.token.value upto above.0) (none_above last token xs upto above.1)

pub new_at : (stored : Stored) (cells : List Stored) (at : ℕ) (x : Stored) → IsAscending cells → at < length cells → x ≡ get_or cells at x → IsFrom stored.token (drop at cells) → is_other x stored ≡ is_new (stored_at (drop at cells) stored.token) stored.cell
new_at stored [] at x ascending within is from = absurd (omega arith)
new_at stored (y ∷ ys) zero x ascending within is from =
    let P : Stored → Type 0 = λ z. is_other z stored ≡ is_new (cond (int_eq y.token.value stored.token.value) (Some y.cell) (stored_at ys stored.token)) stored.cell in
    let here : P y =
    elim (int_lt stored.token.value y.token.value) as (λ v. int_lt stored.token.value y.token.value ≡ v → (v || not (is_eq (cell_order y.cell stored.cell))) ≡ is_new (cond (int_eq y.token.value stored.token.value) (Some y.cell) (stored_at ys stored.token)) stored.cell) [
      | true ↦ λ above. rw (other_token stored.token.value y.token.value above, none_above y.token stored.token ys from ascending.0) refl
      | false ↦ λ upto. rw (one_token stored.token.value y.token.value upto from) refl
    ] refl in
    subst P (sym is) here
new_at stored (y ∷ ys) (suc at) x ascending within is from = new_at stored ys at x ascending.1 (omega arith) is from

pub new_end : (stored : Stored) (cells : List Stored) (at : ℕ) → length cells ≤ at → is_new (stored_at (drop at cells) stored.token) stored.cell ≡ true
new_end stored [] zero end = refl
new_end stored [] (suc at) end = refl
new_end stored (x ∷ xs) zero end = absurd (omega arith)
new_end stored (x ∷ xs) (suc at) end = new_end stored xs at (omega arith)

-- ---- going over both lists

-- from the index on, the list before tells all that it tells of these cells
abbrev pub Keeps : List Stored → ℕ → List Stored → Type 0
Keeps before at [] = Unit {0}
Keeps before at (s ∷ rest) = (k : Token) → s.token.value ≤ℤ k.value → stored_at (drop at before) k ≡ stored_at before k

pub keeps_first : (before now : List Stored) → Keeps before 0 now
keeps_first before [] = tt
keeps_first before (s ∷ rest) = λ k _. refl

pub keeps_next : (before : List Stored) (at to : ℕ) (now : List Stored) (i : ℕ) (s : Stored) → IsAscending now → i < length now → s ≡ get_or now i s → Keeps before at (drop i now) → ((k : Token) → s.token.value ≤ℤ k.value → stored_at (drop to before) k ≡ stored_at (drop at before) k) → Keeps before to (drop (i + 1) now)
keeps_next before at to now i s ascending within is keeps same =
    let one : i + 1 ≡ suc i = omega arith in
    subst (λ n. Keeps before to (drop n now)) (sym one) (next now i ascending within is keeps)
  where
    next : (now : List Stored) (i : ℕ) → IsAscending now → i < length now → s ≡ get_or now i s → Keeps before at (drop i now) → Keeps before to (drop (suc i) now)
    next [] i ascending within is keeps = absurd (omega arith)
    next (x ∷ []) zero ascending within is keeps = tt
    next (x ∷ y ∷ ys) zero ascending within is keeps = λ k upto.
        (let low : x.token.value ≤ℤ k.value = le_trans x.token.value y.token.value k.value (lt_le x.token.value y.token.value ascending.0.0) upto in
        let P : Stored → Type 0 = λ z. z.token.value ≤ℤ k.value in
        same k (subst P (sym is) low) ∙ keeps k low)
    next (x ∷ xs) (suc i) ascending within is keeps = next xs i ascending.1 (omega arith) is keeps

pub told_here : (before : List Stored) (at to : ℕ) (now : List Stored) (i : ℕ) (s : Stored) → i < length now → s ≡ get_or now i s → Keeps before at (drop i now) → ((k : Token) → s.token.value ≤ℤ k.value → stored_at (drop to before) k ≡ stored_at (drop at before) k) → stored_at (drop to before) s.token ≡ stored_at before s.token
told_here before at to now i s within is keeps same = same s.token (same_le s.token.value) ∙ kept now i within is keeps
  where
    same_le : (a : ℤ) → a ≤ℤ a
    same_le a = grind (arith, ints)

    kept : (now : List Stored) (i : ℕ) → i < length now → s ≡ get_or now i s → Keeps before at (drop i now) → stored_at (drop at before) s.token ≡ stored_at before s.token
    kept [] i within is keeps = absurd (omega arith)
    kept (x ∷ xs) zero within is keeps = (let P : Stored → Type 0 = λ z. z.token.value ≤ℤ s.token.value in keeps s.token (subst P is (same_le s.token.value)))
    kept (x ∷ xs) (suc i) within is keeps = kept xs i (omega arith) is keeps

-- the count with one cell more
pub new_yes : (before now : List Stored) (i : ℕ) (s : Stored) (to : ℕ) → i < length now → s ≡ get_or now i s → stored_at (drop to before) s.token ≡ stored_at before s.token → is_new (stored_at (drop to before) s.token) s.cell ≡ true → new_in before (take (i + 1) now) ≡ new_in before (take i now) + 1
new_yes before now i s to within is told other =
    let P : Stored → Type 0 = λ x. is_new (stored_at before x.token) x.cell ≡ true in
    count_by_more_yes (λ (x : Stored). is_new (stored_at before x.token) x.cell) now i s within (subst P is (ap (λ (c : Option Cell). is_new c s.cell) (sym told) ∙ other))

pub new_no : (before now : List Stored) (i : ℕ) (s : Stored) (to : ℕ) → i < length now → s ≡ get_or now i s → stored_at (drop to before) s.token ≡ stored_at before s.token → is_new (stored_at (drop to before) s.token) s.cell ≡ false → new_in before (take (i + 1) now) ≡ new_in before (take i now)
new_no before now i s to within is told no_new =
    let P : Stored → Type 0 = λ x. is_new (stored_at before x.token) x.cell ≡ false in
    count_by_more_no (λ (x : Stored). is_new (stored_at before x.token) x.cell) now i s within (subst P is (ap (λ (c : Option Cell). is_new c s.cell) (sym told) ∙ no_new))

-- ---- by what was held

abbrev one_if : Bool → ℕ
one_if b = cond b 1 0

count_each : (f g : Stored → Bool) (list : List Stored) → EachOf (λ s. f s ≡ g s) list → count_by f list ≡ count_by g list
count_each f g [] each = refl
count_each f g (s ∷ rest) each =
    sum_by-cons (λ x. one_if (f x)) s rest
    ∙ (ap (λ b. one_if b + count_by f rest) each.0
    ∙ (ap (λ n. one_if (g s) + n) (count_each f g rest each.1)
    ∙ sym (sum_by-cons (λ x. one_if (g x)) s rest)))

-- the count by the cells of the range before is the count by all that was held
pub new_same : (before now : Cells) (table : TableId) (range : TokenRange) → IsOrdered now → new_in (range_cells before table range None) (range_cells now table range None) ≡ cells_new before now table range
new_same before now table range ordered =
    let old : List Stored = range_cells before table range None in
    let f : Stored → Bool = λ s. is_new (stored_at old s.token) s.cell in
    let g : Stored → Bool = λ s. is_new (cell_at before table s.token) s.cell in
    count_each f g (range_cells now table range None)
    (each_weaker (IsOf now table range) (λ s. f s ≡ g s)
    (λ s is. (let within : is_within table range table s.token ≡ true = is.within in
    ap (λ (c : Option Cell). is_new c s.cell) (stored_at-range_cells before table range None s.token ∙ rw within refl)))
    (range_cells now table range None) (range_cells_of now table range None ordered))
