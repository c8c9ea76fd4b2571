-- The list as a map: what a dropped range leaves, and that the map tells the list.
use Rattle.std.proofs.Common.{◌^◌, ◌≡◌, ℕ, ◌<◌, ◌≤◌, ◌==◌, ◌&&◌, not, nat_lt, nat_le, Bool, true, false, cond, Option, Some, None, [], ◌∷◌, arith, refl, ap, sym, ◌∙◌, inl, inr, map, filter}
use Rattle.std.proofs.lemmas.Bool.{cases_lt}
use Rattle.std.proofs.lemmas.Bool.Decides.{nat_tests, Decides-int_eq}
use Rattle.std.proofs.Props.{props}
use mathlib.Core.HLevel.{is_prop→PathP}
use Rattle.std.specs.Ordering.{int_eq}
use Rattle.base_ids.specs.declared.ids.TableId.{TableId}
use Rattle.token_ring.specs.declared.token.Token.{Token}
use Rattle.token_ring.specs.declared.ring.TokenRange.{TokenRange}
use Rattle.token_ring.specs.Ring.{IsToken, offset}
use Rattle.cell_merge.specs.declared.cell.Cell.{Cell}
use Rattle.replica_store.specs.declared.store.Stored.{Stored}
use Rattle.replica_store.specs.Cells.{Cells, IsOrdered, IsAfter, rank, rank_of, is_same, is_within, is_inside, is_above, cell_at, outside, range_cells, stored_at, IsAllAbove, IsAscending}
use Rattle.replica_store.specs.Columns.{end_of}
use Rattle.replica_store.proofs.PutLemmas.{IsAfter-below}
use Rattle.replica_store.proofs.RankLemmas.{is_same-rank, is_within-rank, table_place, token_below}

-- whether a token lies in a range is told by its rank
same_within : (table : TableId) (range : TokenRange) (a : TableId) (j : Token) (b : TableId) (k : Token) → is_same a j b k ≡ true → is_within table range a j ≡ is_within table range b k
same_within table range a j b k same =
    let tests : (rank a j == rank b k) ≡ true = sym (is_same-rank a j b k) ∙ same in
    let ranks : rank a j ≡ rank b k = grind (arith, nat_tests) in
    is_within-rank table range a j ∙ ap (λ r. nat_le (rank table range.first) r && nat_lt r (end_of table range)) ranks ∙ sym (is_within-rank table range b k)

pub cell_at-outside : (xs : Cells) (table : TableId) (range : TokenRange) (t : TableId) (k : Token) → cell_at (outside xs table range) t k ≡ cond (is_within table range t k) None (cell_at xs t k)
cell_at-outside [] table range t k = elim (is_within table range t k) as (λ b. (let missing : Option Cell = None in missing) ≡ cond b None None) [ true ↦ refl | false ↦ refl ]
cell_at-outside (x ∷ xs) table range t k =
    elim (is_same x.0 x.1.token t k) as (λ b. is_same x.0 x.1.token t k ≡ b → cell_at (cond (not (is_inside table range x)) (x ∷ outside xs table range) (outside xs table range)) t k ≡ cond (is_within table range t k) None (cond b (Some x.1.cell) (cell_at xs t k))) [
      | true ↦ λ same.
          let both = same_within table range x.0 x.1.token t k same in
          rw (← both) (elim (is_inside table range x) as (λ b. is_inside table range x ≡ b → cell_at (cond (not b) (x ∷ outside xs table range) (outside xs table range)) t k ≡ cond b None (Some x.1.cell)) [
            | true ↦ λ inside. cell_at-outside xs table range t k ∙ rw (← both, inside)
            | false ↦ λ apart. rw same
          ] refl)
      | false ↦ λ other.
          elim (not (is_inside table range x)) as (λ b. cell_at (cond b (x ∷ outside xs table range) (outside xs table range)) t k ≡ cond (is_within table range t k) None (cell_at xs t k)) [
            | true ↦ rw other (cell_at-outside xs table range t k)
            | false ↦ cell_at-outside xs table range t k
          ]
    ] refl

pub cell_at-after : (xs : Cells) (t : TableId) (k : Token) (first : ℕ) → IsAfter first xs → rank t k ≤ first → cell_at xs t k ≡ None
cell_at-after [] t k first after below = refl
cell_at-after (x ∷ xs) t k first after below =
    let other : is_same x.0 x.1.token t k ≡ false = is_same-rank x.0 x.1.token t k ∙ grind (arith, nat_tests, after.0) in
    rw other (cell_at-after xs t k first after.1 below)

token_same : (a b : Token) → a.value ≡ b.value → a ≡ b
token_same a b same = λ i. record { value = same i; is_token = is_prop→PathP (λ j. IsToken (same j)) (λ j. hlevel props) a.is_token b.is_token i }

both_true : (a b : Bool) → (a && b) ≡ true → (a ≡ true) × (b ≡ true)
both_true true true both = (refl, refl)
both_true true false both = cc
both_true false b both = cc

-- one place, one table and token
one_place : (t other : TableId) (j k : Token) → rank t j ≡ rank other k → (t ≡ other) × (j ≡ k)
one_place t other j k same =
    let found : is_same t j other k ≡ true = is_same-rank t j other k ∙ grind (arith, nat_tests) in
    let parts = both_true (t.0 == other.0) (int_eq j.value k.value) found in
    let tables : t.0 ≡ other.0 = grind (arith, nat_tests, parts.0) in
    ((λ i. record { 0 = tables i }), token_same j k ((Decides-int_eq j.value k.value).0 parts.1))

is_same-self : (t : TableId) (k : Token) → is_same t k t k ≡ true
is_same-self t k = is_same-rank t k t k ∙ grind (arith, nat_tests)

cell_at-head : (x : TableId × Stored) (xs : Cells) → cell_at (x ∷ xs) x.0 x.1.token ≡ Some x.1.cell
cell_at-head x xs = rw (is_same-self x.0 x.1.token)

-- what stands before all of a list is not in it
cell_at-before : (xs : Cells) (x y : TableId × Stored) → IsOrdered (y ∷ xs) → rank_of x < rank_of y → cell_at (y ∷ xs) x.0 x.1.token ≡ None
cell_at-before xs x y ordered before = cell_at-after (y ∷ xs) x.0 x.1.token (rank_of x) (before, IsAfter-below xs (rank_of x) (rank_of y) (omega arith) ordered.0) (omega arith)

pub one_list : (xs ys : Cells) → IsOrdered xs → IsOrdered ys → ((t : TableId) (k : Token) → cell_at xs t k ≡ cell_at ys t k) → xs ≡ ys
one_list [] [] ordered others same = refl
one_list [] (y ∷ ys) ordered others same = let found = same y.0 y.1.token ∙ cell_at-head y ys in cc
one_list (x ∷ xs) [] ordered others same = let found = sym (same x.0 x.1.token) ∙ cell_at-head x xs in cc
one_list (x ∷ xs) (y ∷ ys) ordered others same =
    elim (cases_lt (rank_of x) (rank_of y)) [
      | inl before ↦ let lost = sym (cell_at-head x xs) ∙ same x.0 x.1.token ∙ cell_at-before ys x y others before in cc
      | inr rest ↦ elim (cases_lt (rank_of y) (rank_of x)) [
        | inl behind ↦ let lost = sym (cell_at-head y ys) ∙ sym (same y.0 y.1.token) ∙ cell_at-before xs y x ordered behind in cc
        | inr other ↦ let ranks : rank_of x ≡ rank_of y = omega arith in joined ranks (λ tails. one_list xs ys ordered.1 others.1 tails)
      ]
    ]
  where
    joined : rank_of x ≡ rank_of y → (((t : TableId) (k : Token) → cell_at xs t k ≡ cell_at ys t k) → xs ≡ ys) → x ∷ xs ≡ y ∷ ys
    joined ranks tails =
        let place = one_place x.0 y.0 x.1.token y.1.token ranks in
        let here : is_same y.0 y.1.token x.0 x.1.token ≡ true = is_same-rank y.0 y.1.token x.0 x.1.token ∙ grind (arith, nat_tests) in
        let shown : cell_at (y ∷ ys) x.0 x.1.token ≡ Some y.1.cell = rw here in
        let cells : Some x.1.cell ≡ Some y.1.cell = sym (cell_at-head x xs) ∙ same x.0 x.1.token ∙ shown in
        let cell : x.1.cell ≡ y.1.cell = cc in
        let head : x ≡ y = λ i. (place.0 i, record { token = place.1 i; cell = cell i }) in
        ap (λ (e : TableId × Stored). e ∷ xs) head ∙ ap (λ (es : Cells). y ∷ es) (tails (tail_same ranks))
      where
        tail_same : rank_of x ≡ rank_of y → (t : TableId) (k : Token) → cell_at xs t k ≡ cell_at ys t k
        tail_same ranks t k =
            elim (is_same x.0 x.1.token t k) as (λ b. is_same x.0 x.1.token t k ≡ b → cell_at xs t k ≡ cell_at ys t k) [
              | true ↦ λ at_x.
                  let tests : (rank_of x == rank t k) ≡ true = sym (is_same-rank x.0 x.1.token t k) ∙ at_x in
                  let at_rank : rank_of x ≡ rank t k = grind (arith, nat_tests) in
                  cell_at-after xs t k (rank_of x) ordered.0 (omega arith) ∙ sym (cell_at-after ys t k (rank_of y) others.0 (omega arith))
              | false ↦ λ not_x.
                  let not_y : is_same y.0 y.1.token t k ≡ false = is_same-rank y.0 y.1.token t k ∙ ap (λ r. r == rank t k) (sym ranks) ∙ sym (is_same-rank x.0 x.1.token t k) ∙ not_x in
                  rw (not_x, not_y) at (same t k)
            ] refl

-- a stored cell of the asked token is wanted exactly where the token is
wanted_same : (table : TableId) (range : TokenRange) (after : Option Token) (x : TableId × Stored) (k : Token) → x.0 ≡ table → x.1.token ≡ k → (is_inside table range x && is_above after x.1.token) ≡ (is_within table range table k && is_above after k)
wanted_same table range after x k one_table one_token = ap (λ (e : TableId × Token). is_within table range e.0 e.1 && is_above after e.1) (λ i. (one_table i, one_token i))

pub stored_at-range_cells : (xs : Cells) (table : TableId) (range : TokenRange) (after : Option Token) (k : Token) → stored_at (range_cells xs table range after) k ≡ cond (is_within table range table k && is_above after k) (cell_at xs table k) None
stored_at-range_cells [] table range after k = elim (is_within table range table k && is_above after k) as (λ b. (let missing : Option Cell = None in missing) ≡ cond b None None) [ true ↦ refl | false ↦ refl ]
stored_at-range_cells (x ∷ xs) table range after k =
    elim (is_same x.0 x.1.token table k) as (λ b. is_same x.0 x.1.token table k ≡ b → stored_at (map (λ (e : TableId × Stored). e.1) (cond (is_inside table range x && is_above after x.1.token) (x ∷ wanted xs) (wanted xs))) k ≡ cond (is_within table range table k && is_above after k) (cond b (Some x.1.cell) (cell_at xs table k)) None) [
      | true ↦ λ same.
          let tests : (rank_of x == rank table k) ≡ true = sym (is_same-rank x.0 x.1.token table k) ∙ same in
          let ranks : rank_of x ≡ rank table k = grind (arith, nat_tests) in
          let place = one_place x.0 table x.1.token k ranks in
          let both = wanted_same table range after x k place.0 place.1 in
          let token : int_eq x.1.token.value k.value ≡ true = (Decides-int_eq x.1.token.value k.value).1 (λ i. (place.1 i).value) in
          rw both (elim (is_within table range table k && is_above after k) as (λ b. (is_within table range table k && is_above after k) ≡ b → stored_at (map (λ (e : TableId × Stored). e.1) (cond b (x ∷ wanted xs) (wanted xs))) k ≡ cond b (Some x.1.cell) None) [
            | true ↦ λ asked. rw token
            | false ↦ λ other. stored_at-range_cells xs table range after k ∙ rw other
          ] refl)
      | false ↦ λ other.
          elim (is_inside table range x && is_above after x.1.token) as (λ b. (is_inside table range x && is_above after x.1.token) ≡ b → stored_at (map (λ (e : TableId × Stored). e.1) (cond b (x ∷ wanted xs) (wanted xs))) k ≡ cond (is_within table range table k && is_above after k) (cell_at xs table k) None) [
            | true ↦ λ asked.
                let inside = both_true (is_inside table range x) (is_above after x.1.token) asked in
                let tables = both_true (x.0.0 == table.0) _ inside.0 in
                let token : int_eq x.1.token.value k.value ≡ false = rw tables.0 at other in
                rw token (stored_at-range_cells xs table range after k)
            | false ↦ λ _. stored_at-range_cells xs table range after k
          ] refl
    ] refl
  where
    wanted : Cells → Cells
    wanted es = filter (λ e. is_inside table range e && is_above after e.1.token) es

-- of one table, what stands after a place has a greater token
above_after : (xs : Cells) (table : TableId) (range : TokenRange) (after : Option Token) (x : TableId × Stored) → is_inside table range x ≡ true → IsAfter (rank_of x) xs → IsAllAbove x.1.token (range_cells xs table range after)
above_after [] table range after x inside behind = tt
above_after (y ∷ ys) table range after x inside behind =
    elim (is_inside table range y && is_above after y.1.token) as (λ b. (is_inside table range y && is_above after y.1.token) ≡ b → IsAllAbove x.1.token (map (λ (e : TableId × Stored). e.1) (cond b (y ∷ filter (λ e. is_inside table range e && is_above after e.1.token) ys) (filter (λ e. is_inside table range e && is_above after e.1.token) ys)))) [
      | true ↦ λ asked.
          let left = both_true (x.0.0 == table.0) _ inside in
          let right = both_true (y.0.0 == table.0) _ (both_true (is_inside table range y) (is_above after y.1.token) asked).0 in
          let one_table : x.0.0 ≡ y.0.0 = grind (arith, nat_tests, left.0, right.0) in
          let lower : offset x.1.token.value < offset y.1.token.value = table_place x.0.0 y.0.0 (offset x.1.token.value) (offset y.1.token.value) (2 ^ 64) one_table behind.0 in
          (token_below x.1.token y.1.token lower, above_after ys table range after x inside behind.1)
      | false ↦ λ _. above_after ys table range after x inside behind.1
    ] refl

pub IsAscending-range_cells : (xs : Cells) (table : TableId) (range : TokenRange) (after : Option Token) → IsOrdered xs → IsAscending (range_cells xs table range after)
IsAscending-range_cells [] table range after ordered = tt
IsAscending-range_cells (x ∷ xs) table range after ordered =
    elim (is_inside table range x && is_above after x.1.token) as (λ b. (is_inside table range x && is_above after x.1.token) ≡ b → IsAscending (map (λ (e : TableId × Stored). e.1) (cond b (x ∷ filter (λ e. is_inside table range e && is_above after e.1.token) xs) (filter (λ e. is_inside table range e && is_above after e.1.token) xs)))) [
      | true ↦ λ asked. (above_after xs table range after x (both_true (is_inside table range x) (is_above after x.1.token) asked).0 ordered.0, IsAscending-range_cells xs table range after ordered.1)
      | false ↦ λ _. IsAscending-range_cells xs table range after ordered.1
    ] refl
