-- Stores that are all at hand.
use Rattle.std.proofs.Common.{◌≡◌, ◌+◌, ◌<◌, ◌≤◌, ◌==◌, ℕ, zero, suc, Bool, true, false, cond, nat_eq, Option, Some, None, List, [], ◌∷◌, length, slice_index_or, slice_set, arith, refl, ap, sym, subst, ◌∙◌}
use Rattle.std.specs.Prelude.{slice_get}
use Rattle.std.proofs.lemmas.Bool.Decides.{nat_tests}
use Rattle.base_ids.specs.Names.{same_host}
use Rattle.base_ids.specs.declared.ids.HostId.{HostId}
use Rattle.replica_store.specs.Cells.{Cells, IsOrdered}
use Rattle.gather_core.specs.Laws.{AreOrdered}
use Rattle.gather_core.specs.Steps.{Stores, with_store}
use Rattle.gather_core.specs.Rounds.{of_store, cells_in}

module _ {X : Type 0} (cells : X → Cells) where
  set_at : (xs : List X) (i : ℕ) (new : X) (k : ℕ) → i < length xs → of_store cells (slice_get (slice_set xs i new) k) ≡ cond (nat_eq i k) (cells new) (of_store cells (slice_get xs k))
  set_at [] i new k within = absurd (omega arith)
  set_at (x ∷ xs) zero new zero within = refl
  set_at (x ∷ xs) zero new (suc k) within = (let off : nat_eq 0 (suc k) ≡ false = grind (arith, nat_tests) in rw off refl)
  set_at (x ∷ xs) (suc i) new zero within = (let off : nat_eq (suc i) 0 ≡ false = grind (arith, nat_tests) in rw off refl)
  set_at (x ∷ xs) (suc i) new (suc k) within =
      let both : nat_eq i k ≡ nat_eq (suc i) (suc k) = grind (arith, nat_tests) in
      set_at xs i new k (omega arith) ∙ ap (λ b. cond b (cells new) (of_store cells (slice_get xs k))) both

  pub set_in : (xs : List X) (by : HostId) (new : X) (value : Cells) → by.0 < length xs → cells new ≡ value → cells_in cells (slice_set xs by.0 new) ≡ with_store (cells_in cells xs) by value
  set_in xs by new value within is = λ i other. at other i
    where
      at : (other : HostId) → cells_in cells (slice_set xs by.0 new) other ≡ with_store (cells_in cells xs) by value other
      at other = set_at xs by.0 new other.0 within ∙ ap (λ (v : Cells). cond (nat_eq by.0 other.0) v (of_store cells (slice_get xs other.0))) is

  got_at : (xs : List X) (i : ℕ) (x : X) → i < length xs → x ≡ slice_index_or xs i x → cells x ≡ of_store cells (slice_get xs i)
  got_at [] i x within is = absurd (omega arith)
  got_at (y ∷ xs) zero x within is = ap cells is
  got_at (y ∷ xs) (suc i) x within is = got_at xs i x (omega arith) is

  -- what a host's store holds
  pub got_in : (xs : List X) (host : HostId) (i : ℕ) (x : X) → i ≡ host.0 → host.0 < length xs → x ≡ slice_index_or xs i x → cells x ≡ cells_in cells xs host
  got_in xs host i x same within is =
      let P : ℕ → Type 0 = λ n. x ≡ slice_index_or xs n x in
      got_at xs host.0 x within (subst P same is)

  pub put_in : (xs : List X) (i : ℕ) (by : HostId) (new : X) (value : Cells) → i ≡ by.0 → by.0 < length xs → cells new ≡ value → cells_in cells (slice_set xs i new) ≡ with_store (cells_in cells xs) by value
  put_in xs i by new value same within is = ap (λ n. cells_in cells (slice_set xs n new)) same ∙ set_in xs by new value within is

  -- of no store, and of one more that is in order
  pub ordered_none : AreOrdered (cells_in cells [])
  ordered_none host = none host.0
    where
      none : (n : ℕ) → IsOrdered (of_store cells (slice_get (let no : List X = [] in no) n))
      none zero = tt
      none (suc n) = tt

  pub ordered_more : (x : X) (xs : List X) → IsOrdered (cells x) → AreOrdered (cells_in cells xs) → AreOrdered (cells_in cells (x ∷ xs))
  ordered_more x xs here rest host = at host.0
    where
      at : (n : ℕ) → IsOrdered (of_store cells (slice_get (x ∷ xs) n))
      at zero = here
      at (suc n) = rest (record { 0 = n })
