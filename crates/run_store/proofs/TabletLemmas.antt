-- The cells of one tablet are those of its run.
use Rattle.std.proofs.Common.{◌≡◌, ◌≢◌, ℕ, zero, suc, ◌+◌, ◌<◌, ◌^◌, ◌==◌, ◌&&◌, true, false, List, [], ◌∷◌, ◌++◌, length, get_or, map, filter, refl, ap, sym, ◌∙◌, arith, append-nil}
use Rattle.std.proofs.lemmas.Bool.Decides.{nat_tests}
use Rattle.std.proofs.lemmas.List.{map-append}
use Rattle.std.proofs.lemmas.List.Elements.{filter-append}
use Rattle.base_ids.specs.declared.ids.TableId.{TableId}
use Rattle.token_ring.specs.Ring.{offset, tablet_at}
use Rattle.token_ring.proofs.Offsets.{offset_below, tablet_below}
use Rattle.replica_store.specs.declared.store.Stored.{Stored}
use Rattle.replica_store.specs.Cells.{Cells, IsOrdered}
use Rattle.run_store.specs.Runs.{Filled, of_table, run_cells, IsOfTablet, AreRuns, IsGrouped, tablet_cells}

-- with one tablet alone, each token has it
pub one_tablet : (t : TableId) (stored : List Stored) → IsOfTablet 0 0 (of_table t stored)
one_tablet t [] = tt
one_tablet t (s ∷ rest) =
    let below : tablet_at 0 s.token.value < 2 ^ 0 = tablet_below 0 (offset s.token.value) (omega arith) (offset_below s.token.value s.token.is_token) in
    (omega arith, one_tablet t rest)

pub single_run : (t : TableId) (stored : List Stored) (run : Filled) → IsOrdered (of_table t stored) → run.stored ≡ stored → IsGrouped t 0 (run ∷ [])
single_run t stored run ordered same = record { few = omega arith; count = refl; each = ((rw same (record { ordered = ordered; own = one_tablet t stored })), tt) }

tablet_cells-append : (t : TableId) (log2 tablet : ℕ) (xs ys : Cells) → tablet_cells (xs ++ ys) t log2 tablet ≡ tablet_cells xs t log2 tablet ++ tablet_cells ys t log2 tablet
tablet_cells-append t log2 tablet xs ys =
    ap (map (λ (e : TableId × Stored). e.1)) (filter-append (λ (e : TableId × Stored). (e.0.0 == t.0) && (tablet_at log2 e.1.token.value == tablet)) xs ys)
    ∙ map-append (λ (e : TableId × Stored). e.1) (filter (λ (e : TableId × Stored). (e.0.0 == t.0) && (tablet_at log2 e.1.token.value == tablet)) xs) (filter (λ (e : TableId × Stored). (e.0.0 == t.0) && (tablet_at log2 e.1.token.value == tablet)) ys)

own_tablet : (t : TableId) (log2 tablet : ℕ) (stored : List Stored) → IsOfTablet log2 tablet (of_table t stored) → tablet_cells (of_table t stored) t log2 tablet ≡ stored
own_tablet t log2 tablet [] own = refl
own_tablet t log2 tablet (s ∷ rest) own =
    let table : (t.0 == t.0) ≡ true = grind (arith, nat_tests) in
    let here : (tablet_at log2 s.token.value == tablet) ≡ true = grind (arith, nat_tests, own.0) in
    rw (table, here) (ap (λ (ss : List Stored). s ∷ ss) (own_tablet t log2 tablet rest own.1))

other_tablet : (t : TableId) (log2 tablet other : ℕ) (stored : List Stored) → other ≢ tablet → IsOfTablet log2 other (of_table t stored) → tablet_cells (of_table t stored) t log2 tablet ≡ []
other_tablet t log2 tablet other [] apart own = refl
other_tablet t log2 tablet other (s ∷ rest) apart own =
    let table : (t.0 == t.0) ≡ true = grind (arith, nat_tests) in
    let there : (tablet_at log2 s.token.value == tablet) ≡ false = grind (arith, nat_tests, own.0, apart) in
    rw (table, there) (other_tablet t log2 tablet other rest apart own.1)

later_tablets : (t : TableId) (log2 tablet first : ℕ) (runs : List Filled) → tablet < first → AreRuns t log2 first runs → tablet_cells (run_cells t runs) t log2 tablet ≡ []
later_tablets t log2 tablet first [] lower are = refl
later_tablets t log2 tablet first (run ∷ runs) lower are =
    tablet_cells-append t log2 tablet (of_table t run.stored) (run_cells t runs)
    ∙ rw (other_tablet t log2 tablet first run.stored (omega arith) are.0.own) (later_tablets t log2 tablet (first + 1) runs (omega arith) are.1)

run_is : (t : TableId) (log2 first i : ℕ) (runs : List Filled) (run : Filled) → AreRuns t log2 first runs → i < length runs → run ≡ get_or runs i run → tablet_cells (run_cells t runs) t log2 (first + i) ≡ run.stored
run_is t log2 first i [] run are within read = absurd (omega arith)
run_is t log2 first zero (r ∷ runs) run are within read =
    let e : first + 0 ≡ first = omega arith in
    rw e (tablet_cells-append t log2 first (of_table t r.stored) (run_cells t runs)
    ∙ rw (own_tablet t log2 first r.stored are.0.own, later_tablets t log2 first (first + 1) runs (omega arith) are.1) (append-nil r.stored))
    ∙ ap (λ (x : Filled). x.stored) (sym read)
run_is t log2 first (suc i) (r ∷ runs) run are within read =
    let e : first + suc i ≡ first + 1 + i = omega arith in
    rw e (tablet_cells-append t log2 (first + 1 + i) (of_table t r.stored) (run_cells t runs)
    ∙ rw (other_tablet t log2 (first + 1 + i) first r.stored (omega arith) are.0.own) (run_is t log2 (first + 1) i runs run are.1 (omega arith) read))

pub run_cells_are : (t : TableId) (log2 i : ℕ) (runs : List Filled) (run : Filled) → IsGrouped t log2 runs → i < 2 ^ log2 → run ≡ get_or runs i run → run.stored ≡ tablet_cells (run_cells t runs) t log2 i
run_cells_are t log2 i runs run is within read =
    let e : 0 + i ≡ i = omega arith in
    sym (rw e at (run_is t log2 0 i runs run is.each (omega (arith, is.count)) read))
