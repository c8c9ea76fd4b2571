-- Two columns as one list of pairs.
use Rattle.std.proofs.Common.{◌≡◌, ℕ, zero, suc, ◌<◌, ◌≤◌, ◌==◌, true, false, List, [], ◌∷◌, ◌++◌, length, take, drop, get_or, set, insert, arith, refl, ap, sym, ◌∙◌, length-drop}
use Rattle.std.specs.List.{zip}
use Rattle.std.proofs.lemmas.Slice.Zip.{get_or-zip}
use Rattle.base_ids.specs.declared.ids.TableId.{TableId}
use Rattle.replica_store.specs.declared.store.Stored.{Stored}
use Rattle.replica_store.specs.Cells.{Cells, IsOrdered, IsAfter, rank_of}
use Rattle.replica_store.specs.Columns.{AreColumns, begins_at}
use Rattle.replica_store.proofs.OrderLemmas.{length-columns}

module _ {A B : Type 0} where
  zip-nil : (ks : List A) → (let vs : List B = [] in zip ks vs) ≡ []
  zip-nil [] = refl
  zip-nil (k ∷ ks) = refl

  pub zip-drop : (n : ℕ) (ks : List A) (vs : List B) → zip (drop n ks) (drop n vs) ≡ drop n (zip ks vs)
  zip-drop zero ks vs = refl
  zip-drop (suc n) [] vs = refl
  zip-drop (suc n) (k ∷ ks) [] = zip-nil (drop n ks)
  zip-drop (suc n) (k ∷ ks) (v ∷ vs) = zip-drop n ks vs

  pub zip-take : (n : ℕ) (ks : List A) (vs : List B) → zip (take n ks) (take n vs) ≡ take n (zip ks vs)
  zip-take zero ks vs = refl
  zip-take (suc n) [] vs = refl
  zip-take (suc n) (k ∷ ks) [] = refl
  zip-take (suc n) (k ∷ ks) (v ∷ vs) = ap (λ es. (k, v) ∷ es) (zip-take n ks vs)

  -- both columns cut at one index
  pub zip-cut : (n : ℕ) (ks others : List A) (vs more : List B) → length vs ≡ length ks → zip (take n ks ++ others) (take n vs ++ more) ≡ take n (zip ks vs) ++ zip others more
  zip-cut zero ks others vs more same = refl
  zip-cut (suc n) [] others [] more same = refl
  zip-cut (suc n) [] others (v ∷ vs) more same = absurd (omega arith)
  zip-cut (suc n) (k ∷ ks) others [] more same = absurd (omega arith)
  zip-cut (suc n) (k ∷ ks) others (v ∷ vs) more same = ap (λ es. (k, v) ∷ es) (zip-cut n ks others vs more (omega arith))

  pub zip-insert : (n : ℕ) (ks : List A) (vs : List B) (k : A) (v : B) → length vs ≡ length ks → zip (insert ks n k) (insert vs n v) ≡ insert (zip ks vs) n (k, v)
  zip-insert n ks vs k v same = zip-cut n ks (k ∷ drop n ks) vs (v ∷ drop n vs) same ∙ ap (λ es. take n (zip ks vs) ++ (k, v) ∷ es) (zip-drop n ks vs)

  pub zip-set : (ks : List A) (vs : List B) (n : ℕ) (d : A) (v : B) → zip ks (set vs n v) ≡ set (zip ks vs) n (get_or ks n d, v)
  zip-set [] vs n d v = refl
  zip-set (k ∷ ks) [] n d v = refl
  zip-set (k ∷ ks) (x ∷ vs) zero d v = refl
  zip-set (k ∷ ks) (x ∷ vs) (suc n) d v = ap (λ es. (k, x) ∷ es) (zip-set ks vs n d v)

IsAfter-drop : (place n : ℕ) (xs : Cells) → IsAfter place xs → IsAfter place (drop n xs)
IsAfter-drop place zero xs after = after
IsAfter-drop place (suc n) [] after = tt
IsAfter-drop place (suc n) (x ∷ xs) after = IsAfter-drop place n xs after.1

pub IsOrdered-drop : (n : ℕ) (xs : Cells) → IsOrdered xs → IsOrdered (drop n xs)
IsOrdered-drop zero xs ordered = ordered
IsOrdered-drop (suc n) [] ordered = tt
IsOrdered-drop (suc n) (x ∷ xs) ordered = IsOrdered-drop n xs ordered.1

pub AreColumns-drop : (n : ℕ) (tables : List TableId) (stored : List Stored) → AreColumns tables stored → AreColumns (drop n tables) (drop n stored)
AreColumns-drop n tables stored columns = record {
  one_length = simp length-drop (omega (arith, columns.one_length));
  ordered = rw (zip-drop n tables stored) (IsOrdered-drop n (zip tables stored) columns.ordered);
}

-- whether the cells from an index on begin at a place
pub begins_at-index : (xs : Cells) (i place : ℕ) (d : TableId × Stored) → i < length xs → begins_at (drop i xs) place ≡ (rank_of (get_or xs i d) == place)
begins_at-index [] i place d within = absurd (omega arith)
begins_at-index (x ∷ xs) zero place d within = refl
begins_at-index (x ∷ xs) (suc i) place d within = begins_at-index xs i place d (omega arith)

pub begins_at-past : (xs : Cells) (i place : ℕ) → length xs ≤ i → begins_at (drop i xs) place ≡ false
begins_at-past [] zero place past = refl
begins_at-past [] (suc i) place past = refl
begins_at-past (x ∷ xs) zero place past = absurd (omega arith)
begins_at-past (x ∷ xs) (suc i) place past = begins_at-past xs i place (omega arith)

pub begins_at-within : (xs : Cells) (i place : ℕ) → begins_at (drop i xs) place ≡ true → i < length xs
begins_at-within [] zero place begins = cc
begins_at-within [] (suc i) place begins = cc
begins_at-within (x ∷ xs) zero place begins = omega arith
begins_at-within (x ∷ xs) (suc i) place begins = omega (arith, begins_at-within xs i place begins)

pub get_or-columns : (tables : List TableId) (stored : List Stored) (i : ℕ) (d : TableId) (e : Stored) → length stored ≡ length tables → i < length (zip tables stored) → e ≡ get_or stored i e → get_or (zip tables stored) i (d, e) ≡ (get_or tables i d, e)
get_or-columns tables stored i d e same within is =
    let long = length-columns tables stored same in
    let left : i < length tables = omega arith in
    let right : i < length stored = omega arith in
    get_or-zip tables stored i (d, e) left right ∙ ap (λ (y : Stored). (get_or tables i d, y)) (sym is)
