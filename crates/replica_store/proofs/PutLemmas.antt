-- What a cell that is put into its place does to a sorted list, and where a cell is found.
use Rattle.std.proofs.Common.{◌≡◌, ℕ, zero, suc, ◌<◌, ◌≤◌, ◌==◌, nat_lt, true, false, cond, Option, Some, None, [], ◌∷◌, drop, get_or, set, insert, arith, refl, ap, sym, ◌∙◌}
use Rattle.std.specs.Ordering.{is_lt}
use Rattle.std.proofs.lemmas.Bool.Decides.{nat_tests}
use Rattle.base_ids.specs.declared.ids.TableId.{TableId}
use Rattle.cell_merge.specs.Cell.{cell_order, greater_cell}
use Rattle.cell_merge.specs.declared.cell.Cell.{Cell}
use Rattle.token_ring.specs.declared.token.Token.{Token}
use Rattle.replica_store.specs.declared.store.Stored.{Stored}
use Rattle.replica_store.specs.Cells.{Cells, IsOrdered, IsAfter, rank, rank_of, cell_at, only_at}
use Rattle.replica_store.specs.Columns.{first_from, begins_at, put_at}
use Rattle.replica_store.proofs.RankLemmas.{is_same-rank}

-- the cell at a place, by the place alone
abbrev cell_of : Cells → ℕ → Option Cell
cell_of [] place = None
cell_of (e ∷ es) place = cond (rank_of e == place) (Some e.1.cell) (cell_of es place)

pub cell_at-cell_of : (xs : Cells) (table : TableId) (token : Token) → cell_at xs table token ≡ cell_of xs (rank table token)
cell_at-cell_of [] table token = refl
cell_at-cell_of (x ∷ xs) table token = rw (is_same-rank x.0 x.1.token table token, cell_at-cell_of xs table token)

cell_of-after : (xs : Cells) (first place : ℕ) → IsAfter first xs → place ≤ first → cell_of xs place ≡ None
cell_of-after [] first place after below = refl
cell_of-after (x ∷ xs) first place after below =
    let other : (rank_of x == place) ≡ false = grind (arith, nat_tests, after.0) in
    rw other (cell_of-after xs first place after.1 below)

-- the cell of the first of these, where it stands at the place
abbrev first_cell : Cells → ℕ → Option Cell
first_cell [] place = None
first_cell (e ∷ es) place = cond (rank_of e == place) (Some e.1.cell) None

cell_of-first : (xs : Cells) (place : ℕ) → IsOrdered xs → cell_of xs place ≡ first_cell (drop (first_from xs place) xs) place
cell_of-first [] place ordered = refl
cell_of-first (x ∷ xs) place ordered =
    elim (nat_lt (rank_of x) place) as (λ b. nat_lt (rank_of x) place ≡ b → cond (rank_of x == place) (Some x.1.cell) (cell_of xs place) ≡ first_cell (drop (cond b (suc (first_from xs place)) 0) (x ∷ xs)) place) [
      | true ↦ λ p. let other : (rank_of x == place) ≡ false = grind (arith, nat_tests) in rw other (cell_of-first xs place ordered.1)
      | false ↦ λ p.
          elim (rank_of x == place) as (λ b. cond b (Some x.1.cell) (cell_of xs place) ≡ cond b (Some x.1.cell) None) [
            | true ↦ refl
            | false ↦ cell_of-after xs (rank_of x) place ordered.0 (grind (arith, nat_tests))
          ]
    ] refl

pub cell_at-found : (xs : Cells) (table : TableId) (token : Token) (d : TableId × Stored) → IsOrdered xs → begins_at (drop (first_from xs (rank table token)) xs) (rank table token) ≡ true → cell_at xs table token ≡ Some (get_or xs (first_from xs (rank table token)) d).1.cell
cell_at-found xs table token d ordered begins = cell_at-cell_of xs table token ∙ cell_of-first xs (rank table token) ordered ∙ first xs (first_from xs (rank table token)) (rank table token) begins
  where
    first : (ys : Cells) (i place : ℕ) → begins_at (drop i ys) place ≡ true → first_cell (drop i ys) place ≡ Some (get_or ys i d).1.cell
    first [] zero place p = cc
    first [] (suc i) place p = cc
    first (y ∷ ys) zero place p = rw p
    first (y ∷ ys) (suc i) place p = first ys i place p

pub cell_at-missing : (xs : Cells) (table : TableId) (token : Token) → IsOrdered xs → begins_at (drop (first_from xs (rank table token)) xs) (rank table token) ≡ false → cell_at xs table token ≡ None
cell_at-missing xs table token ordered begins = cell_at-cell_of xs table token ∙ cell_of-first xs (rank table token) ordered ∙ none (drop (first_from xs (rank table token)) xs) (rank table token) begins
  where
    none : (ys : Cells) (place : ℕ) → begins_at ys place ≡ false → first_cell ys place ≡ None
    none [] place p = refl
    none (y ∷ ys) place p = rw p

-- the greater one of two cells
abbrev pub greater : Cell → Cell → Cell
greater a b = cond (is_lt (cell_order a b)) b a

-- where a cell stands at the place, it becomes the greater one
pub put_at-found : (xs : Cells) (p : TableId × Stored) (d : TableId × Stored) → begins_at (drop (first_from xs (rank_of p)) xs) (rank_of p) ≡ true → put_at xs p ≡ set xs (first_from xs (rank_of p)) ((get_or xs (first_from xs (rank_of p)) d).0, record { token = (get_or xs (first_from xs (rank_of p)) d).1.token; cell = greater (get_or xs (first_from xs (rank_of p)) d).1.cell p.1.cell })
put_at-found [] p d begins = cc
put_at-found (x ∷ xs) p d begins =
    elim (nat_lt (rank_of x) (rank_of p)) as (λ b. begins_at (drop (cond b (suc (first_from xs (rank_of p))) 0) (x ∷ xs)) (rank_of p) ≡ true
    → cond b (x ∷ put_at xs p) (cond (rank_of x == rank_of p) (cond (is_lt (cell_order x.1.cell p.1.cell)) ((x.0, record x.1 { cell = p.1.cell }) ∷ xs) (x ∷ xs)) (p ∷ x ∷ xs))
    ≡ set (x ∷ xs) (cond b (suc (first_from xs (rank_of p))) 0) ((get_or (x ∷ xs) (cond b (suc (first_from xs (rank_of p))) 0) d).0, record { token = (get_or (x ∷ xs) (cond b (suc (first_from xs (rank_of p))) 0) d).1.token; cell = greater (get_or (x ∷ xs) (cond b (suc (first_from xs (rank_of p))) 0) d).1.cell p.1.cell })) [
      | true ↦ λ rest. ap (λ es. x ∷ es) (put_at-found xs p d rest)
      | false ↦ λ here. rw here (
          elim (is_lt (cell_order x.1.cell p.1.cell)) as (λ b. cond b ((x.0, record x.1 { cell = p.1.cell }) ∷ xs) (x ∷ xs) ≡ (x.0, record { token = x.1.token; cell = cond b p.1.cell x.1.cell }) ∷ xs) [ true ↦ refl | false ↦ refl ])
    ] begins

-- where none stands there, it goes between
pub put_at-missing : (xs : Cells) (p : TableId × Stored) → begins_at (drop (first_from xs (rank_of p)) xs) (rank_of p) ≡ false → put_at xs p ≡ insert xs (first_from xs (rank_of p)) p
put_at-missing [] p begins = refl
put_at-missing (x ∷ xs) p begins =
    elim (nat_lt (rank_of x) (rank_of p)) as (λ b. begins_at (drop (cond b (suc (first_from xs (rank_of p))) 0) (x ∷ xs)) (rank_of p) ≡ false
    → cond b (x ∷ put_at xs p) (cond (rank_of x == rank_of p) (cond (is_lt (cell_order x.1.cell p.1.cell)) ((x.0, record x.1 { cell = p.1.cell }) ∷ xs) (x ∷ xs)) (p ∷ x ∷ xs))
    ≡ insert (x ∷ xs) (cond b (suc (first_from xs (rank_of p))) 0) p) [
      | true ↦ λ rest. ap (λ es. x ∷ es) (put_at-missing xs p rest)
      | false ↦ λ here. rw here
    ] begins

IsAfter-put_at : (xs : Cells) (p : TableId × Stored) (first : ℕ) → IsAfter first xs → first < rank_of p → IsAfter first (put_at xs p)
IsAfter-put_at [] p first after before = (before, tt)
IsAfter-put_at (x ∷ xs) p first after before =
    elim (nat_lt (rank_of x) (rank_of p)) as (λ b. IsAfter first (cond b (x ∷ put_at xs p) (cond (rank_of x == rank_of p) (cond (is_lt (cell_order x.1.cell p.1.cell)) ((x.0, record x.1 { cell = p.1.cell }) ∷ xs) (x ∷ xs)) (p ∷ x ∷ xs)))) [
      | true ↦ (after.0, IsAfter-put_at xs p first after.1 before)
      | false ↦ elim (rank_of x == rank_of p) as (λ b. IsAfter first (cond b (cond (is_lt (cell_order x.1.cell p.1.cell)) ((x.0, record x.1 { cell = p.1.cell }) ∷ xs) (x ∷ xs)) (p ∷ x ∷ xs))) [
        | true ↦ elim (is_lt (cell_order x.1.cell p.1.cell)) as (λ b. IsAfter first (cond b ((x.0, record x.1 { cell = p.1.cell }) ∷ xs) (x ∷ xs))) [ true ↦ after | false ↦ after ]
        | false ↦ (before, after)
      ]
    ]

pub IsAfter-below : (xs : Cells) (first second : ℕ) → first ≤ second → IsAfter second xs → IsAfter first xs
IsAfter-below [] first second below after = tt
IsAfter-below (x ∷ xs) first second below after = (let here : second < rank_of x = after.0 in omega arith, IsAfter-below xs first second below after.1)

pub IsOrdered-put_at : (xs : Cells) (p : TableId × Stored) → IsOrdered xs → IsOrdered (put_at xs p)
IsOrdered-put_at [] p ordered = (tt, tt)
IsOrdered-put_at (x ∷ xs) p ordered =
    elim (nat_lt (rank_of x) (rank_of p)) as (λ b. nat_lt (rank_of x) (rank_of p) ≡ b → IsOrdered (cond b (x ∷ put_at xs p) (cond (rank_of x == rank_of p) (cond (is_lt (cell_order x.1.cell p.1.cell)) ((x.0, record x.1 { cell = p.1.cell }) ∷ xs) (x ∷ xs)) (p ∷ x ∷ xs)))) [
      | true ↦ λ before. (IsAfter-put_at xs p (rank_of x) ordered.0 (grind (arith, nat_tests)), IsOrdered-put_at xs p ordered.1)
      | false ↦ λ behind. elim (rank_of x == rank_of p) as (λ b. (rank_of x == rank_of p) ≡ b → IsOrdered (cond b (cond (is_lt (cell_order x.1.cell p.1.cell)) ((x.0, record x.1 { cell = p.1.cell }) ∷ xs) (x ∷ xs)) (p ∷ x ∷ xs))) [
        | true ↦ λ same. elim (is_lt (cell_order x.1.cell p.1.cell)) as (λ b. IsOrdered (cond b ((x.0, record x.1 { cell = p.1.cell }) ∷ xs) (x ∷ xs))) [ true ↦ ordered | false ↦ ordered ]
        | false ↦ λ other. let first : rank_of p < rank_of x = grind (arith, nat_tests) in ((first, IsAfter-below xs (rank_of p) (rank_of x) (omega arith) ordered.0), ordered)
      ] refl
    ] refl

greater_cell-none : (a : Option Cell) → greater_cell a None ≡ a
greater_cell-none None = refl
greater_cell-none (Some a) = refl

cell_of-put_at : (xs : Cells) (p : TableId × Stored) (place : ℕ) → IsOrdered xs → cell_of (put_at xs p) place ≡ greater_cell (cell_of xs place) (cond (rank_of p == place) (Some p.1.cell) None)
cell_of-put_at [] p place ordered = refl
cell_of-put_at (x ∷ xs) p place ordered =
    elim (nat_lt (rank_of x) (rank_of p)) as (λ b. nat_lt (rank_of x) (rank_of p) ≡ b → cell_of (cond b (x ∷ put_at xs p) (cond (rank_of x == rank_of p) (cond (is_lt (cell_order x.1.cell p.1.cell)) ((x.0, record x.1 { cell = p.1.cell }) ∷ xs) (x ∷ xs)) (p ∷ x ∷ xs))) place ≡ after_put) [
      | true ↦ λ before. elim (rank_of x == place) as (λ b. (rank_of x == place) ≡ b → cond b (Some x.1.cell) (cell_of (put_at xs p) place) ≡ greater_cell (cond b (Some x.1.cell) (cell_of xs place)) (cond (rank_of p == place) (Some p.1.cell) None)) [
        | true ↦ λ here. let other : (rank_of p == place) ≡ false = grind (arith, nat_tests) in rw other
        | false ↦ λ other. cell_of-put_at xs p place ordered.1
      ] refl
      | false ↦ λ behind. elim (rank_of x == rank_of p) as (λ b. (rank_of x == rank_of p) ≡ b → cell_of (cond b (cond (is_lt (cell_order x.1.cell p.1.cell)) ((x.0, record x.1 { cell = p.1.cell }) ∷ xs) (x ∷ xs)) (p ∷ x ∷ xs)) place ≡ after_put) [
        | true ↦ λ same. let ranks : rank_of x ≡ rank_of p = grind (arith, nat_tests) in
            rw (← ranks) (elim (is_lt (cell_order x.1.cell p.1.cell)) as (λ b. cell_of (cond b ((x.0, record x.1 { cell = p.1.cell }) ∷ xs) (x ∷ xs)) place ≡ cond (rank_of x == place) (cond b (Some p.1.cell) (Some x.1.cell)) (cell_of xs place)) [ true ↦ refl | false ↦ refl ]
            ∙ elim (rank_of x == place) as (λ b. cond b (cond (is_lt (cell_order x.1.cell p.1.cell)) (Some p.1.cell) (Some x.1.cell)) (cell_of xs place) ≡ greater_cell (cond b (Some x.1.cell) (cell_of xs place)) (cond b (Some p.1.cell) None)) [ true ↦ refl | false ↦ sym (greater_cell-none (cell_of xs place)) ])
        | false ↦ λ other. let first : rank_of p < rank_of x = grind (arith, nat_tests) in
            elim (rank_of p == place) as (λ b. (rank_of p == place) ≡ b → cond b (Some p.1.cell) (cell_of (x ∷ xs) place) ≡ greater_cell (cell_of (x ∷ xs) place) (cond b (Some p.1.cell) None)) [
              | true ↦ λ here. let missing : cell_of (x ∷ xs) place ≡ None = cell_of-after (x ∷ xs) (rank_of p) place (first, IsAfter-below xs (rank_of p) (rank_of x) (omega arith) ordered.0) (grind (arith, nat_tests)) in rw missing
              | false ↦ λ there. sym (greater_cell-none (cell_of (x ∷ xs) place))
            ] refl
      ] refl
    ] refl
  where
    after_put : Option Cell
    after_put = greater_cell (cell_of (x ∷ xs) place) (cond (rank_of p == place) (Some p.1.cell) None)

pub cell_at-put_at : (xs : Cells) (p : TableId × Stored) (table : TableId) (token : Token) → IsOrdered xs → cell_at (put_at xs p) table token ≡ greater_cell (cell_at xs table token) (only_at p.0 p.1.token p.1.cell table token)
cell_at-put_at xs p table token ordered = rw (cell_at-cell_of (put_at xs p) table token, cell_at-cell_of xs table token, is_same-rank p.0 p.1.token table token) (cell_of-put_at xs p (rank table token) ordered)
