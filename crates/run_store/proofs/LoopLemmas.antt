-- Loops over the runs of a table: room made in each, and a range taken out of each.
use Rattle.std.proofs.Common.{◌≡◌, ℕ, zero, suc, ◌+◌, ◌^◌, ◌<◌, ◌≤◌, not, true, false, cond, List, [], ◌∷◌, ◌++◌, length, get_or, set, map, refl, ap, sym, ◌∙◌, arith, ◌⊎◌, inl, inr}
use Rattle.std.proofs.lemmas.Bool.Decides.{nat_tests}
use Rattle.std.proofs.lemmas.List.Elements.{filter-append, AllWithin-more_set}
use Rattle.base_ids.specs.declared.ids.TableId.{TableId}
use Rattle.token_ring.specs.Ring.{tablet_at}
use Rattle.token_ring.specs.declared.ring.TokenRange.{TokenRange}
use Rattle.replica_store.specs.declared.store.Stored.{Stored}
use Rattle.replica_store.specs.Cells.{Cells, rank, is_inside, outside}
use Rattle.replica_store.proofs.RankLemmas.{is_inside-rank}
use Rattle.run_store.specs.Runs.{Filled, of_table, run_cells, IsOfTablet, AreRuns, IsGrouped, least_spare}
use Rattle.run_store.proofs.GroupLemmas.{lower_first, run_read}

pub stored-set : (runs : List Filled) (i : ℕ) (old new : Filled) → old ≡ get_or runs i old → new.stored ≡ old.stored → map (λ (run : Filled). run.stored) (set runs i new) ≡ map (λ (run : Filled). run.stored) runs
stored-set [] i old new read same = refl
stored-set (run ∷ runs) zero old new read same = ap (λ (s : List Stored). s ∷ map (λ (r : Filled). r.stored) runs) (same ∙ ap (λ (r : Filled). r.stored) read)
stored-set (run ∷ runs) (suc i) old new read same = ap (λ (ss : List (List Stored)). run.stored ∷ ss) (stored-set runs i old new read same)

-- the room of all, where each has it
pub least_spare-all : (n : ℕ) (runs : List Filled) → n ≤ 2 ^ 64 → ((k : ℕ) (d : Filled) → k < length runs → n ≤ (get_or runs k d).spare) → n ≤ least_spare runs
least_spare-all n [] most each = most
least_spare-all n (run ∷ runs) most each =
    let rest = least_spare-all n runs most (λ k d below. each (suc k) d (omega arith)) in
    let here : n ≤ run.spare = each 0 run (omega arith) in
    omega arith

pub run_cells-same : (t : TableId) (runs others : List Filled) → map (λ (run : Filled). run.stored) runs ≡ map (λ (run : Filled). run.stored) others → run_cells t runs ≡ run_cells t others
run_cells-same t [] [] same = refl
run_cells-same t [] (o ∷ others) same = cc
run_cells-same t (r ∷ runs) [] same = cc
run_cells-same t (r ∷ runs) (o ∷ others) same =
    let here : r.stored ≡ o.stored = cc in
    let rest : map (λ (run : Filled). run.stored) runs ≡ map (λ (run : Filled). run.stored) others = cc in
    rw (here, run_cells-same t runs others rest)

pub length-same : (runs others : List Filled) → map (λ (run : Filled). run.stored) runs ≡ map (λ (run : Filled). run.stored) others → length runs ≡ length others
length-same [] [] same = refl
length-same [] (o ∷ others) same = cc
length-same (r ∷ runs) [] same = cc
length-same (r ∷ runs) (o ∷ others) same =
    let rest : map (λ (run : Filled). run.stored) runs ≡ map (λ (run : Filled). run.stored) others = cc in
    ap suc (length-same runs others rest)

AreRuns-same : (t : TableId) (log2 first : ℕ) (runs others : List Filled) → map (λ (run : Filled). run.stored) runs ≡ map (λ (run : Filled). run.stored) others → AreRuns t log2 first others → AreRuns t log2 first runs
AreRuns-same t log2 first [] others same are = tt
AreRuns-same t log2 first (r ∷ runs) [] same are = cc
AreRuns-same t log2 first (r ∷ runs) (o ∷ others) same are =
    let here : r.stored ≡ o.stored = cc in
    let rest : map (λ (run : Filled). run.stored) runs ≡ map (λ (run : Filled). run.stored) others = cc in
    (rw here are.0, AreRuns-same t log2 (first + 1) runs others rest are.1)

pub IsGrouped-same : (t : TableId) (log2 : ℕ) (runs others : List Filled) → map (λ (run : Filled). run.stored) runs ≡ map (λ (run : Filled). run.stored) others → IsGrouped t log2 others → IsGrouped t log2 runs
IsGrouped-same t log2 runs others same is = record { few = is.few; count = length-same runs others same ∙ is.count; each = AreRuns-same t log2 0 runs others same is.each }

-- nothing of a range is in a run
abbrev pub IsClean : TableId → TokenRange → Filled → Type 0
IsClean t range run = outside (of_table t run.stored) t range ≡ of_table t run.stored

clean_low : (t : TableId) (range : TokenRange) (log2 tablet : ℕ) (stored : List Stored) → tablet < tablet_at log2 range.first.value → IsOfTablet log2 tablet (of_table t stored) → outside (of_table t stored) t range ≡ of_table t stored
clean_low t range log2 tablet [] lower own = refl
clean_low t range log2 tablet (s ∷ rest) lower own =
    let before : rank t s.token < rank t range.first = lower_first t log2 s.token range.first (let same = own.0 in omega arith) in
    let apart : is_inside t range (t, s) ≡ false = is_inside-rank t range (t, s) ∙ grind (arith, nat_tests) in
    rw apart (ap (λ (es : Cells). (t, s) ∷ es) (clean_low t range log2 tablet rest lower own.1))

clean_high : (t : TableId) (range : TokenRange) (log2 tablet : ℕ) (stored : List Stored) → tablet_at log2 range.last.value < tablet → IsOfTablet log2 tablet (of_table t stored) → outside (of_table t stored) t range ≡ of_table t stored
clean_high t range log2 tablet [] upper own = refl
clean_high t range log2 tablet (s ∷ rest) upper own =
    let behind : rank t range.last < rank t s.token = lower_first t log2 range.last s.token (let same = own.0 in omega arith) in
    let apart : is_inside t range (t, s) ≡ false = is_inside-rank t range (t, s) ∙ grind (arith, nat_tests) in
    rw apart (ap (λ (es : Cells). (t, s) ∷ es) (clean_high t range log2 tablet rest upper own.1))

get_or-again : {X : Type 0} (xs : List X) (k : ℕ) (d : X) → k < length xs → get_or xs k d ≡ get_or xs k (get_or xs k d)
get_or-again [] k d below = absurd (omega arith)
get_or-again (x ∷ xs) zero d below = refl
get_or-again (x ∷ xs) (suc k) d below = get_or-again xs k d (omega arith)

pub all_low : (t : TableId) (range : TokenRange) (log2 : ℕ) (runs : List Filled) → IsGrouped t log2 runs → (from : ℕ) → from ≡ tablet_at log2 range.first.value → from < 2 ^ log2 → (k : ℕ) (d : Filled) → k < from → IsClean t range (get_or runs k d)
all_low t range log2 runs is from from_is within k d below =
    let run = run_read t log2 runs k (get_or runs k d) is (omega arith) (get_or-again runs k d (omega (arith, is.count))) in
    clean_low t range log2 k (get_or runs k d).stored (omega arith) run.own

pub each_clean : (t : TableId) (range : TokenRange) (log2 : ℕ) (runs : List Filled) → IsGrouped t log2 runs → (until at : ℕ) → until ≡ tablet_at log2 range.last.value → until + 1 ≤ at → ((k : ℕ) (d : Filled) → k < at → IsClean t range (get_or runs k d)) → (k : ℕ) (d : Filled) → k < length runs → IsClean t range (get_or runs k d)
each_clean t range log2 runs is until at until_is done clean k d below =
    elim (cases_of k at) [
      | inl low ↦ clean k d low
      | inr high ↦
          let run = run_read t log2 runs k (get_or runs k d) is (omega (arith, is.count)) (get_or-again runs k d below) in
          clean_high t range log2 k (get_or runs k d).stored (omega arith) run.own
    ]
  where
    cases_of : (a b : ℕ) → (a < b) ⊎ (b ≤ a)
    cases_of a b = grind arith

outside-append : (t : TableId) (range : TokenRange) (xs ys : Cells) → outside (xs ++ ys) t range ≡ outside xs t range ++ outside ys t range
outside-append t range xs ys = filter-append (λ e. not (is_inside t range e)) xs ys

pub all_clean : (t : TableId) (range : TokenRange) (runs : List Filled) → ((k : ℕ) (d : Filled) → k < length runs → IsClean t range (get_or runs k d)) → outside (run_cells t runs) t range ≡ run_cells t runs
all_clean t range [] clean = refl
all_clean t range (run ∷ runs) clean =
    let here : outside (of_table t run.stored) t range ≡ of_table t run.stored = clean 0 run (omega arith) in
    let rest : outside (run_cells t runs) t range ≡ run_cells t runs = all_clean t range runs (λ k d below. clean (suc k) d (omega arith)) in
    outside-append t range (of_table t run.stored) (run_cells t runs) ∙ rw (here, rest)

outside-twice : (t : TableId) (range : TokenRange) (xs : Cells) → outside (outside xs t range) t range ≡ outside xs t range
outside-twice t range [] = refl
outside-twice t range (x ∷ xs) =
    elim (not (is_inside t range x)) as (λ b. not (is_inside t range x) ≡ b → outside (cond b (x ∷ outside xs t range) (outside xs t range)) t range ≡ cond b (x ∷ outside xs t range) (outside xs t range)) [
      | true ↦ λ stays. rw stays (ap (λ (es : Cells). x ∷ es) (outside-twice t range xs))
      | false ↦ λ goes. outside-twice t range xs
    ] refl

pub clean_now : (t : TableId) (range : TokenRange) (old new : Filled) → of_table t new.stored ≡ outside (of_table t old.stored) t range → IsClean t range new
clean_now t range old new changed = rw changed (outside-twice t range (of_table t old.stored))

pub outside-set : (t : TableId) (range : TokenRange) (runs : List Filled) (i : ℕ) (old new : Filled) → old ≡ get_or runs i old → of_table t new.stored ≡ outside (of_table t old.stored) t range → outside (run_cells t (set runs i new)) t range ≡ outside (run_cells t runs) t range
outside-set t range [] i old new read changed = refl
outside-set t range (run ∷ runs) zero old new read changed =
    outside-append t range (of_table t new.stored) (run_cells t runs)
    ∙ ap (λ (es : Cells). es ++ outside (run_cells t runs) t range) (clean_now t range old new changed ∙ changed ∙ ap (λ (r : Filled). outside (of_table t r.stored) t range) read)
    ∙ sym (outside-append t range (of_table t run.stored) (run_cells t runs))
outside-set t range (run ∷ runs) (suc i) old new read changed =
    outside-append t range (of_table t run.stored) (run_cells t (set runs i new))
    ∙ ap (λ (es : Cells). outside (of_table t run.stored) t range ++ es) (outside-set t range runs i old new read changed)
    ∙ sym (outside-append t range (of_table t run.stored) (run_cells t runs))

-- what holds of each run below an index, and of the one that was written there
pub each_more : (P : Filled → Type 0) (runs : List Filled) (i : ℕ) (run : Filled) → i < length runs → ((k : ℕ) (d : Filled) → k < i → P (get_or runs k d)) → P run → (k : ℕ) (d : Filled) → k < i + 1 → P (get_or (set runs i run) k d)
each_more P runs i run within before here = λ k d below. AllWithin-more_set runs i run within P (λ j e _ lower. before j e lower) here k d (omega arith) below
