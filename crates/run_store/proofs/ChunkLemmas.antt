-- The cells of a range among runs: those of each run, one after another.
use Rattle.std.proofs.Common.{◌≡◌, ◌↔◌, ◌⊎◌, ℕ, zero, suc, ◌+◌, ◌-◌, ◌/◌, ◌<◌, ◌≤◌, ◌==◌, ◌&&◌, nat_lt, Bool, true, false, IsTrue, Option, List, [], ◌∷◌, ◌++◌, length, take, drop, get_or, map, filter, refl, ap, sym, subst, ◌∙◌, arith, inl, inr, length-append, length-take, append-nil}
use Rattle.std.proofs.lemmas.Bool.Decides.{nat_tests}
use Rattle.std.proofs.lemmas.List.{map-append, take-append-drop, drop_more, take_more, take_all}
use Rattle.std.proofs.lemmas.List.Elements.{filter-append}
use Rattle.base_ids.specs.declared.ids.TableId.{TableId}
use Rattle.token_ring.specs.Ring.{width, tablet_at}
use Rattle.token_ring.specs.declared.token.Token.{Token}
use Rattle.token_ring.specs.declared.ring.TokenRange.{TokenRange}
use Rattle.replica_store.specs.declared.store.Stored.{Stored}
use Rattle.replica_store.specs.Cells.{Cells, IsOrdered, rank, is_inside, is_above, range_cells}
use Rattle.replica_store.specs.Columns.{start_of}
use Rattle.replica_store.proofs.RankLemmas.{is_wanted-rank}
use Rattle.run_store.specs.Runs.{Filled, of_table, run_cells, first_run_cells, IsOfTablet, AreRuns, AreOrdered}
use Rattle.run_store.proofs.TabletLemmas.{one_tablet}
use Rattle.run_store.proofs.GroupLemmas.{tablet_mono, lower_first, run_cells-append}

abbrev is_wanted : TableId → TokenRange → Option Token → TableId × Stored → Bool
is_wanted t range after e = is_inside t range e && is_above after e.1.token

pub wanted-append : (t : TableId) (range : TokenRange) (after : Option Token) (xs ys : Cells) → range_cells (xs ++ ys) t range after ≡ range_cells xs t range after ++ range_cells ys t range after
wanted-append t range after xs ys =
    ap (map (λ (e : TableId × Stored). e.1)) (filter-append (is_wanted t range after) xs ys) ∙ map-append (λ (e : TableId × Stored). e.1) (filter (is_wanted t range after) xs) (filter (is_wanted t range after) ys)

pub wanted_runs : (t : TableId) (range : TokenRange) (after : Option Token) (first second : List Filled) → range_cells (run_cells t (first ++ second)) t range after ≡ range_cells (run_cells t first) t range after ++ range_cells (run_cells t second) t range after
wanted_runs t range after first second = ap (λ (xs : Cells). range_cells xs t range after) (run_cells-append t first second) ∙ wanted-append t range after (run_cells t first) (run_cells t second)

pub ordered_at : (t : TableId) (runs : List Filled) (i : ℕ) (run : Filled) → AreOrdered t runs → i < length runs → run ≡ get_or runs i run → IsOrdered (of_table t run.stored)
ordered_at t [] i run are within read = absurd (omega arith)
ordered_at t (r ∷ runs) zero run are within read = let P : Filled → Type 0 = λ x. IsOrdered (of_table t x.stored) in subst P (sym read) are.0
ordered_at t (r ∷ runs) (suc i) run are within read = ordered_at t runs i run are.1 (omega arith) read

pub AreOrdered-drop : (t : TableId) (n : ℕ) (runs : List Filled) → AreOrdered t runs → AreOrdered t (drop n runs)
AreOrdered-drop t zero runs are = are
AreOrdered-drop t (suc n) [] are = tt
AreOrdered-drop t (suc n) (run ∷ runs) are = AreOrdered-drop t n runs are.1

pub AreOrdered-take : (t : TableId) (n : ℕ) (runs : List Filled) → AreOrdered t runs → AreOrdered t (take n runs)
AreOrdered-take t zero runs are = tt
AreOrdered-take t (suc n) [] are = tt
AreOrdered-take t (suc n) (run ∷ runs) are = (are.0, AreOrdered-take t n runs are.1)

pub AreOrdered-runs : (t : TableId) (log2 first : ℕ) (runs : List Filled) → AreRuns t log2 first runs → AreOrdered t runs
AreOrdered-runs t log2 first [] are = tt
AreOrdered-runs t log2 first (run ∷ runs) are = (are.0.ordered, AreOrdered-runs t log2 (first + 1) runs are.1)

nothing : {X : Type 0} (xs : List X) → length xs ≡ 0 → xs ≡ []
nothing [] none = refl
nothing (x ∷ xs) none = absurd (omega arith)

-- one more run without wanted cells
pub wanted_more : (t : TableId) (range : TokenRange) (after : Option Token) (runs : List Filled) (i : ℕ) (run : Filled) → i < length runs → run ≡ get_or runs i run → range_cells (run_cells t (take i runs)) t range after ≡ [] → length (range_cells (of_table t run.stored) t range after) ≡ 0 → range_cells (run_cells t (take (i + 1) runs)) t range after ≡ []
wanted_more t range after runs i run within read none here =
    let cells : range_cells (of_table t (get_or runs i run).stored) t range after ≡ [] = ap (λ (r : Filled). range_cells (of_table t r.stored) t range after) (sym read) ∙ nothing (range_cells (of_table t run.stored) t range after) here in
    let last : run_cells t (get_or runs i run ∷ []) ≡ of_table t (get_or runs i run).stored = append-nil (of_table t (get_or runs i run).stored) in
    ap (λ (rs : List Filled). range_cells (run_cells t rs) t range after) (take_more runs i run within)
    ∙ wanted_runs t range after (take i runs) (get_or runs i run ∷ [])
    ∙ rw (none, last) cells

-- what is wanted, where a run is the first that has any
pub wanted_split : (t : TableId) (range : TokenRange) (after : Option Token) (runs : List Filled) (i : ℕ) (run : Filled) → i < length runs → run ≡ get_or runs i run → range_cells (run_cells t (take i runs)) t range after ≡ [] → range_cells (run_cells t runs) t range after ≡ range_cells (of_table t run.stored) t range after ++ range_cells (run_cells t (drop (i + 1) runs)) t range after
wanted_split t range after runs i run within read none =
    ap (λ (rs : List Filled). range_cells (run_cells t rs) t range after) (sym (take-append-drop i runs))
    ∙ wanted_runs t range after (take i runs) (drop i runs)
    ∙ rw none (ap (λ (rs : List Filled). range_cells (run_cells t rs) t range after) (drop_more runs i run within)
    ∙ wanted-append t range after (of_table t (get_or runs i run).stored) (run_cells t (drop (i + 1) runs))
    ∙ ap (λ (r : Filled). range_cells (of_table t r.stored) t range after ++ range_cells (run_cells t (drop (i + 1) runs)) t range after) (sym read))

-- whether any is wanted, by the first run that has any
pub has_any_is : (t : TableId) (range : TokenRange) (after : Option Token) (runs : List Filled) (i : ℕ) → i ≤ length runs → range_cells (run_cells t (take i runs)) t range after ≡ [] → ((d : Filled) → i < length runs → 0 < length (range_cells (of_table t (get_or runs i d).stored) t range after)) → nat_lt i (length runs) ≡ nat_lt 0 (length (range_cells (run_cells t runs) t range after))
has_any_is t range after runs i within none some =
    elim (nat_lt i (length runs)) as (λ b. nat_lt i (length runs) ≡ b → b ≡ nat_lt 0 (length (range_cells (run_cells t runs) t range after))) [
      | true ↦ λ test.
          let below : i < length runs = grind (arith, nat_tests) in
          let d : Filled = record { stored = []; spare = 0 } in
          let run = get_or runs i d in
          let e = wanted_split t range after runs i run below (read_again runs i d below) none in
          let many : 0 < length (range_cells (run_cells t runs) t range after) = rw e (omega (arith, length-append (range_cells (of_table t run.stored) t range after) (range_cells (run_cells t (drop (i + 1) runs)) t range after), some d below)) in
          grind (arith, nat_tests)
      | false ↦ λ test.
          let all : take i runs ≡ runs = take_all i runs (grind (arith, nat_tests)) in
          let empty : range_cells (run_cells t runs) t range after ≡ [] = rw all at none in
          rw empty
    ] refl
  where
    read_again : (rs : List Filled) (n : ℕ) (d : Filled) → n < length rs → get_or rs n d ≡ get_or rs n (get_or rs n d)
    read_again [] n d below = absurd (omega arith)
    read_again (r ∷ rs) zero d below = refl
    read_again (r ∷ rs) (suc n) d below = read_again rs n d (omega arith)

-- some of the first cells, of more
pub take_of_more : {X : Type 0} (max : ℕ) (xs ys : List X) → take max xs ≡ take (length (take max xs)) (xs ++ ys)
take_of_more zero xs ys = refl
take_of_more (suc max) [] ys = refl
take_of_more (suc max) (x ∷ xs) ys = ap (λ zs. x ∷ zs) (take_of_more max xs ys)

pub take_some : {X : Type 0} (max : ℕ) (xs : List X) → 1 ≤ max → 0 < length xs → take max xs ≡ [] → ⊥
take_some zero xs most some empty = omega arith
take_some (suc max) [] most some empty = omega arith
take_some (suc max) (x ∷ xs) most some empty = cc

pub lends_more : {X : Type 0} (more : Bool) (n : ℕ) (xs ys : List X) → (IsTrue more ↔ ((n < length xs) ⊎ IsTrue (nat_lt 0 (length ys)))) → n ≤ length xs → IsTrue more ↔ (n < length (xs ++ ys))
lends_more more n xs ys says within =
    let long = length-append xs ys in (
      λ yes. elim (says.0 yes) [ inl here ↦ omega arith | inr further ↦ later further ],
      λ below. elim (cases_of n (length xs)) [ inl here ↦ says.1 (inl here) | inr end ↦ says.1 (inr (some end below)) ],
    )
  where
    later : IsTrue (nat_lt 0 (length ys)) → n < length (xs ++ ys)
    later further = grind (arith, nat_tests, length-append xs ys)

    cases_of : (a b : ℕ) → (a < b) ⊎ (b ≤ a)
    cases_of a b = grind arith

    some : length xs ≤ n → n < length (xs ++ ys) → IsTrue (nat_lt 0 (length ys))
    some end below = grind (arith, nat_tests, length-append xs ys)

pub lend_prefix : {X : Type 0} (max : ℕ) (lent xs ys all : List X) → lent ≡ take max xs → all ≡ xs ++ ys → lent ≡ take (length lent) all
lend_prefix max lent xs ys all lent_is all_is = rw (lent_is, all_is) (take_of_more max xs ys)

pub lend_some : {X : Type 0} (max : ℕ) (lent xs all : List X) → 1 ≤ max → lent ≡ take max xs → 0 < length xs → lent ≡ [] → all ≡ []
lend_some max lent xs all most lent_is some empty = absurd (take_some max xs most some (sym lent_is ∙ empty))

-- a run of a tablet below the first asked token has no wanted cell
none_low : (t : TableId) (range : TokenRange) (after : Option Token) (log2 tablet : ℕ) (asked : Token) (stored : List Stored) → rank t asked ≤ start_of t range after → tablet < tablet_at log2 asked.value → IsOfTablet log2 tablet (of_table t stored) → range_cells (of_table t stored) t range after ≡ []
none_low t range after log2 tablet asked [] start lower own = refl
none_low t range after log2 tablet asked (s ∷ rest) start lower own =
    let before : rank t s.token < rank t asked = lower_first t log2 s.token asked (let same = own.0 in omega arith) in
    let e : (TableId × Stored) = (t, s) in
    let unwanted : is_wanted t range after (t, s) ≡ false = is_wanted-rank t range after (t, s) ∙ grind (arith, nat_tests) in
    rw unwanted (none_low t range after log2 tablet asked rest start lower own.1)

-- nor has one of a tablet above the range's last token
none_high : (t : TableId) (range : TokenRange) (after : Option Token) (log2 tablet : ℕ) (stored : List Stored) → tablet_at log2 range.last.value < tablet → IsOfTablet log2 tablet (of_table t stored) → range_cells (of_table t stored) t range after ≡ []
none_high t range after log2 tablet [] upper own = refl
none_high t range after log2 tablet (s ∷ rest) upper own =
    let behind : rank t range.last < rank t s.token = lower_first t log2 range.last s.token (let same = own.0 in omega arith) in
    let unwanted : is_wanted t range after (t, s) ≡ false = is_wanted-rank t range after (t, s) ∙ grind (arith, nat_tests) in
    rw unwanted (none_high t range after log2 tablet rest upper own.1)

pub AreRuns-drop : (t : TableId) (log2 first n : ℕ) (runs : List Filled) → AreRuns t log2 first runs → AreRuns t log2 (first + n) (drop n runs)
AreRuns-drop t log2 first zero runs are = let e : first + 0 ≡ first = omega arith in rw e are
AreRuns-drop t log2 first (suc n) [] are = tt
AreRuns-drop t log2 first (suc n) (run ∷ runs) are = let e : first + suc n ≡ first + 1 + n = omega arith in rw e (AreRuns-drop t log2 (first + 1) n runs are.1)

narrow_drop : (t : TableId) (range : TokenRange) (after : Option Token) (log2 first n : ℕ) (asked : Token) (runs : List Filled) → rank t asked ≤ start_of t range after → first + n ≤ tablet_at log2 asked.value → AreRuns t log2 first runs → range_cells (run_cells t (drop n runs)) t range after ≡ range_cells (run_cells t runs) t range after
narrow_drop t range after log2 first zero asked runs start low are = refl
narrow_drop t range after log2 first (suc n) asked [] start low are = refl
narrow_drop t range after log2 first (suc n) asked (run ∷ runs) start low are =
    narrow_drop t range after log2 (first + 1) n asked runs start (omega arith) are.1
    ∙ sym (wanted-append t range after (of_table t run.stored) (run_cells t runs) ∙ rw (none_low t range after log2 first asked run.stored start (omega arith) are.0.own))

narrow_high : (t : TableId) (range : TokenRange) (after : Option Token) (log2 first : ℕ) (runs : List Filled) → tablet_at log2 range.last.value < first → AreRuns t log2 first runs → range_cells (run_cells t runs) t range after ≡ []
narrow_high t range after log2 first [] high are = refl
narrow_high t range after log2 first (run ∷ runs) high are =
    wanted-append t range after (of_table t run.stored) (run_cells t runs) ∙ rw (none_high t range after log2 first run.stored high are.0.own) (narrow_high t range after log2 (first + 1) runs (omega arith) are.1)

narrow_take : (t : TableId) (range : TokenRange) (after : Option Token) (log2 first n : ℕ) (runs : List Filled) → tablet_at log2 range.last.value < first + n → AreRuns t log2 first runs → range_cells (run_cells t (take n runs)) t range after ≡ range_cells (run_cells t runs) t range after
narrow_take t range after log2 first zero runs high are = sym (narrow_high t range after log2 first runs (omega arith) are)
narrow_take t range after log2 first (suc n) [] high are = refl
narrow_take t range after log2 first (suc n) (run ∷ runs) high are =
    wanted-append t range after (of_table t run.stored) (run_cells t (take n runs))
    ∙ ap (λ (xs : List Stored). range_cells (of_table t run.stored) t range after ++ xs) (narrow_take t range after log2 (first + 1) n runs (omega arith) are.1)
    ∙ sym (wanted-append t range after (of_table t run.stored) (run_cells t runs))

-- all that is wanted lies in the runs from the first asked token's to the one of the range's last token
pub narrow : (t : TableId) (range : TokenRange) (after : Option Token) (log2 from until : ℕ) (asked : Token) (runs : List Filled) → rank t asked ≤ start_of t range after → from ≡ tablet_at log2 asked.value → until ≡ tablet_at log2 range.last.value → from < until + 1 → AreRuns t log2 0 runs → range_cells (run_cells t (take (until + 1 - from) (drop from runs))) t range after ≡ range_cells (run_cells t runs) t range after
narrow t range after log2 from until asked runs start from_is until_is below are =
    narrow_take t range after log2 (0 + from) (until + 1 - from) (drop from runs) (omega arith) (AreRuns-drop t log2 0 from runs are)
    ∙ narrow_drop t range after log2 0 from asked runs start (omega arith) are

pub narrow_none : (t : TableId) (range : TokenRange) (after : Option Token) (log2 from until : ℕ) (asked : Token) (runs : List Filled) → rank t asked ≤ start_of t range after → from ≡ tablet_at log2 asked.value → until ≡ tablet_at log2 range.last.value → until + 1 ≤ from → AreRuns t log2 0 runs → range_cells (run_cells t runs) t range after ≡ []
narrow_none t range after log2 from until asked runs start from_is until_is above are =
    sym (narrow_drop t range after log2 0 from asked runs start (omega arith) are)
    ∙ narrow_high t range after log2 (0 + from) (drop from runs) (omega arith) (AreRuns-drop t log2 0 from runs are)

-- where both ends of a range have one tablet, at most one run is left
pub narrow_one : (log2 from until first last asked : ℕ) (runs : List Filled) → first ≤ asked → from ≡ asked / width log2 → until ≡ last / width log2 → first / width log2 ≡ last / width log2 → length (take (until + 1 - from) (drop from runs)) ≤ 1
narrow_one log2 from until first last asked runs above from_is until_is one =
    let least = tablet_mono log2 first asked above in
    omega (arith, length-take (until + 1 - from) (drop from runs))

pub take_nothing : {X : Type 0} (n : ℕ) (xs : List X) → xs ≡ [] → [] ≡ take n xs
take_nothing zero xs none = refl
take_nothing (suc n) [] none = refl
take_nothing (suc n) (x ∷ xs) none = cc

-- what is wanted of cells of one tablet is of that tablet
wanted_own : (t : TableId) (range : TokenRange) (after : Option Token) (log2 tablet : ℕ) (stored : List Stored) → IsOfTablet log2 tablet (of_table t stored) → IsOfTablet log2 tablet (of_table t (range_cells (of_table t stored) t range after))
wanted_own t range after log2 tablet [] own = tt
wanted_own t range after log2 tablet (s ∷ rest) own =
    elim (is_wanted t range after (t, s)) as (λ b. is_wanted t range after (t, s) ≡ b → IsOfTablet log2 tablet (of_table t (range_cells (of_table t (s ∷ rest)) t range after))) [
      | true ↦ λ test. rw test (own.0, wanted_own t range after log2 tablet rest own.1)
      | false ↦ λ test. rw test (wanted_own t range after log2 tablet rest own.1)
    ] refl

-- all cells of a tablet are kept where that tablet is looked for
keep_own : (t : TableId) (log2 tablet sought : ℕ) (stored : List Stored) → sought ≡ tablet → IsOfTablet log2 tablet (of_table t stored) → filter (λ (s : Stored). tablet_at log2 s.token.value == sought) stored ≡ stored
keep_own t log2 tablet sought [] same own = refl
keep_own t log2 tablet sought (s ∷ rest) same own =
    let here : (tablet_at log2 s.token.value == sought) ≡ true = grind (arith, nat_tests, own.0, same) in
    rw here (ap (λ (ss : List Stored). s ∷ ss) (keep_own t log2 tablet sought rest same own.1))

-- and none where another is looked for
keep_none : (t : TableId) (log2 tablet sought : ℕ) (stored : List Stored) → sought < tablet → IsOfTablet log2 tablet (of_table t stored) → filter (λ (s : Stored). tablet_at log2 s.token.value == sought) stored ≡ []
keep_none t log2 tablet sought [] apart own = refl
keep_none t log2 tablet sought (s ∷ rest) apart own =
    let there : (tablet_at log2 s.token.value == sought) ≡ false = grind (arith, nat_tests, own.0, apart) in
    rw there (keep_none t log2 tablet sought rest apart own.1)

-- nor of the runs of later tablets
keep_later : (t : TableId) (range : TokenRange) (after : Option Token) (log2 first sought : ℕ) (runs : List Filled) → sought < first → AreRuns t log2 first runs → filter (λ (s : Stored). tablet_at log2 s.token.value == sought) (range_cells (run_cells t runs) t range after) ≡ []
keep_later t range after log2 first sought [] lower are = refl
keep_later t range after log2 first sought (run ∷ runs) lower are =
    ap (filter (λ (s : Stored). tablet_at log2 s.token.value == sought)) (wanted-append t range after (of_table t run.stored) (run_cells t runs))
    ∙ filter-append (λ (s : Stored). tablet_at log2 s.token.value == sought) (range_cells (of_table t run.stored) t range after) (range_cells (run_cells t runs) t range after)
    ∙ rw (keep_none t log2 first sought (range_cells (of_table t run.stored) t range after) lower (wanted_own t range after log2 first run.stored are.0.own)) (keep_later t range after log2 (first + 1) sought runs (omega arith) are.1)

-- the cells of the first one's run, where the later ones are of other tablets
first_of_two : (t : TableId) (log2 tablet : ℕ) (xs ys : List Stored) → 0 < length xs → IsOfTablet log2 tablet (of_table t xs) → ((sought : ℕ) → sought ≡ tablet → filter (λ (s : Stored). tablet_at log2 s.token.value == sought) ys ≡ []) → first_run_cells log2 (xs ++ ys) ≡ xs
first_of_two t log2 tablet [] ys some own none = absurd (omega arith)
first_of_two t log2 tablet (x ∷ xs) ys some own none =
    let sought = tablet_at log2 x.token.value in
    filter-append (λ (s : Stored). tablet_at log2 s.token.value == sought) (x ∷ xs) ys
    ∙ rw (keep_own t log2 tablet sought (x ∷ xs) own.0 own, none sought own.0) (append-nil (x ∷ xs))

own_at : (t : TableId) (log2 first : ℕ) (runs : List Filled) (i : ℕ) (run : Filled) → AreRuns t log2 first runs → i < length runs → run ≡ get_or runs i run → IsOfTablet log2 (first + i) (of_table t run.stored)
own_at t log2 first [] i run are within read = absurd (omega arith)
own_at t log2 first (r ∷ runs) zero run are within read =
    let e : first + 0 ≡ first = omega arith in
    let P : Filled → Type 0 = λ x. IsOfTablet log2 first (of_table t x.stored) in
    rw e (subst P (sym read) are.0.own)
own_at t log2 first (r ∷ runs) (suc i) run are within read =
    let e : first + suc i ≡ first + 1 + i = omega arith in
    rw e (own_at t log2 (first + 1) runs i run are.1 (omega arith) read)

-- what is wanted of the first run that has any is what is wanted of the first one's run
pub first_run_is : (t : TableId) (range : TokenRange) (after : Option Token) (log2 first : ℕ) (runs : List Filled) (i : ℕ) (run : Filled) → AreRuns t log2 first runs → i < length runs → run ≡ get_or runs i run → range_cells (run_cells t (take i runs)) t range after ≡ [] → 0 < length (range_cells (of_table t run.stored) t range after) → first_run_cells log2 (range_cells (run_cells t runs) t range after) ≡ range_cells (of_table t run.stored) t range after
first_run_is t range after log2 first runs i run are within read none some =
    let own = wanted_own t range after log2 (first + i) run.stored (own_at t log2 first runs i run are within read) in
    let later : (sought : ℕ) → sought ≡ first + i → filter (λ (s : Stored). tablet_at log2 s.token.value == sought) (range_cells (run_cells t (drop (i + 1) runs)) t range after) ≡ [] =
    λ sought same. keep_later t range after log2 (first + (i + 1)) sought (drop (i + 1) runs) (omega arith) (AreRuns-drop t log2 first (i + 1) runs are) in
    ap (first_run_cells log2) (wanted_split t range after runs i run within read none)
    ∙ first_of_two t log2 (first + i) (range_cells (of_table t run.stored) t range after) (range_cells (run_cells t (drop (i + 1) runs)) t range after) some own later

pub AreRuns-take : (t : TableId) (log2 first n : ℕ) (runs : List Filled) → AreRuns t log2 first runs → AreRuns t log2 first (take n runs)
AreRuns-take t log2 first zero runs are = tt
AreRuns-take t log2 first (suc n) [] are = tt
AreRuns-take t log2 first (suc n) (run ∷ runs) are = (are.0, AreRuns-take t log2 (first + 1) n runs are.1)

-- the runs between two of them
pub AreRuns-between : (t : TableId) (log2 from n : ℕ) (runs : List Filled) → AreRuns t log2 0 runs → AreRuns t log2 (0 + from) (take n (drop from runs))
AreRuns-between t log2 from n runs are = AreRuns-take t log2 (0 + from) n (drop from runs) (AreRuns-drop t log2 0 from runs are)

-- without cells none is lent
pub first_run_none : (log2 max : ℕ) (xs : List Stored) → xs ≡ [] → [] ≡ take max (first_run_cells log2 xs)
first_run_none log2 zero [] none = refl
first_run_none log2 (suc max) [] none = refl
first_run_none log2 max (x ∷ xs) none = cc

-- in one run all cells are of the first one's
pub first_run_all : (t : TableId) (xs : List Stored) → first_run_cells 0 xs ≡ xs
first_run_all t [] = refl
first_run_all t (x ∷ xs) =
    let own = one_tablet t (x ∷ xs) in
    keep_own t 0 0 (tablet_at 0 x.token.value) (x ∷ xs) own.0 own
