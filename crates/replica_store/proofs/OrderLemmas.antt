-- What order says of the index of the first cell from a place on.
use Rattle.std.proofs.Common.{◌≡◌, ℕ, zero, suc, ◌<◌, ◌≤◌, true, false, cond, nat_lt, List, [], ◌∷◌, length, get_or, arith, refl, ◌∙◌}
use Rattle.std.specs.List.{zip}
use Rattle.std.proofs.lemmas.Slice.Zip.{length-zip, get_or-zip}
use Rattle.std.proofs.lemmas.Bool.Decides.{nat_tests}
use Rattle.base_ids.specs.declared.ids.TableId.{TableId}
use Rattle.replica_store.specs.declared.store.Stored.{Stored}
use Rattle.replica_store.specs.Cells.{Cells, IsOrdered, IsAfter, rank, rank_of}
use Rattle.replica_store.specs.Columns.{first_from}

pub first_from-le : (xs : Cells) (from : ℕ) → first_from xs from ≤ length xs
first_from-le [] from = omega arith
first_from-le (x ∷ xs) from =
    elim (nat_lt (rank_of x) from) as (λ b. cond b (suc (first_from xs from)) 0 ≤ suc (length xs)) [
      | true ↦ omega (arith, first_from-le xs from)
      | false ↦ omega arith
    ]

-- those that stand after a place do so one by one
pub after_at : (place : ℕ) (xs : Cells) (i : ℕ) (d : TableId × Stored) → IsAfter place xs → i < length xs → place < rank_of (get_or xs i d)
after_at place [] i d after within = absurd (omega arith)
after_at place (x ∷ xs) zero d after within = after.0
after_at place (x ∷ xs) (suc i) d after within = after_at place xs i d after.1 (omega arith)

-- a cell before the place lies below the index
pub before_first : (xs : Cells) (from i : ℕ) (d : TableId × Stored) → IsOrdered xs → i < length xs → rank_of (get_or xs i d) < from → i < first_from xs from
before_first [] from i d ordered within before = absurd (omega arith)
before_first (x ∷ xs) from zero d ordered within before = grind (arith, nat_tests)
before_first (x ∷ xs) from (suc i) d ordered within before =
    let rest : i < first_from xs from = before_first xs from i d ordered.1 (omega arith) before in
    let after : rank_of x < rank_of (get_or xs i d) = after_at (rank_of x) xs i d ordered.0 (omega arith) in
    elim (nat_lt (rank_of x) from) as (λ b. nat_lt (rank_of x) from ≡ b → suc i < cond b (suc (first_from xs from)) 0) [
      | true ↦ λ p. omega arith
      | false ↦ λ p. absurd (grind (arith, nat_tests))
    ] refl

-- a cell at the place or after it does not
pub from_first : (xs : Cells) (from i : ℕ) (d : TableId × Stored) → i < length xs → from ≤ rank_of (get_or xs i d) → first_from xs from ≤ i
from_first [] from i d within behind = omega arith
from_first (x ∷ xs) from zero d within behind =
    elim (nat_lt (rank_of x) from) as (λ b. nat_lt (rank_of x) from ≡ b → cond b (suc (first_from xs from)) 0 ≤ 0) [
      | true ↦ λ p. absurd (grind (arith, nat_tests))
      | false ↦ λ p. omega arith
    ] refl
from_first (x ∷ xs) from (suc i) d within behind =
    let rest : first_from xs from ≤ i = from_first xs from i d (omega arith) behind in
    elim (nat_lt (rank_of x) from) as (λ b. cond b (suc (first_from xs from)) 0 ≤ suc i) [
      | true ↦ omega arith
      | false ↦ omega arith
    ]

-- the pair at an index is that of the two columns
pub rank_of-zip : (tables : List TableId) (stored : List Stored) (i : ℕ) (d : TableId × Stored) → length stored ≡ length tables → i < length tables → rank_of (get_or (zip tables stored) i d) ≡ rank (get_or tables i d.0) (get_or stored i d.1).token
rank_of-zip tables stored i d same within = let within_stored : i < length stored = omega arith in rw (get_or-zip tables stored i d)

pub length-columns : (tables : List TableId) (stored : List Stored) → length stored ≡ length tables → length (zip tables stored) ≡ length tables
length-columns tables stored same = length-zip tables stored ∙ omega arith
