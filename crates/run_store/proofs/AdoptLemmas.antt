-- Found tables, the logarithms of their run counts, and a table that gets its first run.
use Rattle.std.proofs.Common.{◌≡◌, ◌≢◌, ℕ, zero, suc, ◌-◌, ◌^◌, ◌<◌, ◌≤◌, ◌==◌, ◌&&◌, ◌||◌, not, true, false, cond, Option, None, Result, Ok, Err, List, [], ◌∷◌, ◌++◌, length, get_or, set, map, filter, refl, ap, sym, subst, ◌∙◌, arith, inl, inr}
use Rattle.std.specs.Prelude.{OnOk}
use Rattle.std.proofs.lemmas.Bool.{cases_lt}
use Rattle.std.proofs.lemmas.Bool.Decides.{nat_tests}
use Rattle.std.proofs.Math.Pow.{pow-lt}
use Rattle.base_ids.specs.declared.ids.TableId.{TableId}
use Rattle.token_ring.specs.declared.token.Token.{Token}
use Rattle.token_ring.specs.declared.ring.TokenRange.{TokenRange}
use Rattle.token_ring.specs.Ring.{offset, tablet_at, first_offset, last_offset}
use Rattle.token_ring.proofs.Offsets.{offset_below, offset_pos, tablet_below}
use Rattle.replica_store.specs.declared.store.Stored.{Stored}
use Rattle.replica_store.specs.Cells.{Cells, IsOrdered, is_within, is_inside, cell_at, range_cells, outside}
use Rattle.replica_store.proofs.RankLemmas.{is_within-rank}
use Rattle.replica_store.proofs.RangeLemmas.{IsOrdered-filter, filter-same}
use Rattle.replica_store.proofs.MapLemmas.{one_list, cell_at-outside}
use Rattle.run_store.specs.Runs.{of_table, tablet_cells}
use Rattle.run_store.specs.Tables.{Grouped, IsOfTable, IsGrouped, AreTables, IsLaid, has_own, store_cells, cells_of, index_of, log2_of, log2s_of, least_room, without}
use Rattle.run_store.proofs.StoreLemmas.{one_table, of_one, cell_at-of_one, cell_at-store_cells, IsOrdered-store_cells, range_cells-store_cells, tablet_cells-store_cells, without_range, found_table, found_cells, missing_cells}

pub found_range : (gs : List Grouped) (rest : Cells) (t : TableId) (at : ℕ) (g : Grouped) (range : TokenRange) (after : Option Token) → IsLaid gs rest → at ≡ index_of gs t → at < length gs → g ≡ get_or gs at g → range_cells g.cells g.table range after ≡ range_cells (store_cells gs rest) t range after
found_range gs rest t at g range after laid at_is within read =
    ap (λ (u : TableId). range_cells g.cells u range after) (found_table gs t at g at_is within read)
    ∙ ap (λ (xs : Cells). range_cells xs t range after) (sym (found_cells gs rest t at g at_is within read))
    ∙ range_cells-store_cells gs rest t range after laid.each laid.rest

pub missing_range : (gs : List Grouped) (rest : Cells) (t : TableId) (range : TokenRange) (after : Option Token) → IsLaid gs rest → length gs ≤ index_of gs t → range_cells rest t range after ≡ range_cells (store_cells gs rest) t range after
missing_range gs rest t range after laid missing =
    ap (λ (xs : Cells). range_cells xs t range after) (sym (missing_cells gs rest t missing)) ∙ range_cells-store_cells gs rest t range after laid.each laid.rest

pub found_log2 : (gs : List Grouped) (t : TableId) (at : ℕ) (g : Grouped) → at ≡ index_of gs t → at < length gs → g ≡ get_or gs at g → g.log2 ≡ log2_of (log2s_of gs) t
found_log2 [] t at g at_is within read = absurd (omega arith)
found_log2 (x ∷ gs) t at g at_is within read =
    elim (x.table.0 == t.0) as (λ b. at ≡ cond b 0 (suc (index_of gs t)) → g.log2 ≡ cond b x.log2 (log2_of (log2s_of gs) t)) [
      | true ↦ λ at_here. ap (λ (y : Grouped). y.log2) (read ∙ ap (λ n. get_or (x ∷ gs) n g) at_here)
      | false ↦ λ at_later. found_log2 gs t (index_of gs t) g refl (omega arith) (read ∙ ap (λ n. get_or (x ∷ gs) n g) at_later)
    ] at_is

pub missing_log2 : (gs : List Grouped) (t : TableId) → length gs ≤ index_of gs t → 0 ≡ log2_of (log2s_of gs) t
missing_log2 [] t missing = refl
missing_log2 (x ∷ gs) t missing =
    elim (x.table.0 == t.0) as (λ b. suc (length gs) ≤ cond b 0 (suc (index_of gs t)) → 0 ≡ cond b x.log2 (log2_of (log2s_of gs) t)) [
      | true ↦ λ none. absurd (omega arith)
      | false ↦ λ none. missing_log2 gs t (omega arith)
    ] missing

-- the logarithms where one table has changed
pub log2_of-set : (gs : List Grouped) (t : TableId) (at : ℕ) (g : Grouped) → at ≡ index_of gs t → at < length gs → g.table ≡ t → (u : TableId) → log2_of (log2s_of (set gs at g)) u ≡ cond (t.0 == u.0) g.log2 (log2_of (log2s_of gs) u)
log2_of-set [] t at g at_is within table u = absurd (omega arith)
log2_of-set (x ∷ gs) t at g at_is within table u =
    elim (x.table.0 == t.0) as (λ b. (x.table.0 == t.0) ≡ b → at ≡ cond b 0 (suc (index_of gs t)) → log2_of (log2s_of (set (x ∷ gs) at g)) u ≡ cond (t.0 == u.0) g.log2 (log2_of (log2s_of (x ∷ gs)) u)) [
      | true ↦ λ same at_here.
          ap (λ n. log2_of (log2s_of (set (x ∷ gs) n g)) u) at_here
          ∙ ap (λ (v : TableId). cond (v.0 == u.0) g.log2 (log2_of (log2s_of gs) u)) table
          ∙ elim (t.0 == u.0) as (λ b. (t.0 == u.0) ≡ b → cond b g.log2 (log2_of (log2s_of gs) u) ≡ cond b g.log2 (cond (x.table.0 == u.0) x.log2 (log2_of (log2s_of gs) u))) [
            | true ↦ λ _. refl
            | false ↦ λ apart. let other : (x.table.0 == u.0) ≡ false = grind (arith, nat_tests) in rw other
          ] refl
      | false ↦ λ apart at_later.
          ap (λ n. log2_of (log2s_of (set (x ∷ gs) n g)) u) at_later
          ∙ rw (log2_of-set gs t (index_of gs t) g refl (omega arith) table u) (
          elim (t.0 == u.0) as (λ b. (t.0 == u.0) ≡ b → cond (x.table.0 == u.0) x.log2 (cond b g.log2 (log2_of (log2s_of gs) u)) ≡ cond b g.log2 (cond (x.table.0 == u.0) x.log2 (log2_of (log2s_of gs) u))) [
            | true ↦ λ here. let other : (x.table.0 == u.0) ≡ false = grind (arith, nat_tests) in rw other
            | false ↦ λ _. refl
          ] refl)
    ] refl at_is

pub log2_here : (gs : List Grouped) (t : TableId) (at : ℕ) (g : Grouped) → at ≡ index_of gs t → at < length gs → g.table ≡ t → log2_of (log2s_of (set gs at g)) t ≡ g.log2
log2_here gs t at g at_is within table = let own : (t.0 == t.0) ≡ true = grind (arith, nat_tests) in log2_of-set gs t at g at_is within table t ∙ rw own

pub log2_elsewhere : (gs : List Grouped) (t : TableId) (at : ℕ) (g : Grouped) → at ≡ index_of gs t → at < length gs → g.table ≡ t → (u : TableId) → u ≢ t → log2_of (log2s_of (set gs at g)) u ≡ log2_of (log2s_of gs) u
log2_elsewhere gs t at g at_is within table u apart =
    log2_of-set gs t at g at_is within table u
    ∙ elim (t.0 == u.0) as (λ b. (t.0 == u.0) ≡ b → cond b g.log2 (log2_of (log2s_of gs) u) ≡ log2_of (log2s_of gs) u) [
      | true ↦ λ same. absurd (apart (sym (one_table t u same)))
      | false ↦ λ _. refl
    ] refl

-- cells stay where those of one table do
pub store_cells-set : (gs : List Grouped) (rest : Cells) (i : ℕ) (old new : Grouped) → old ≡ get_or gs i old → new.table ≡ old.table → new.cells ≡ old.cells → store_cells (set gs i new) rest ≡ store_cells gs rest
store_cells-set [] rest i old new read table cells = refl
store_cells-set (g ∷ gs) rest zero old new read table cells =
    rw (table ∙ ap (λ (x : Grouped). x.table) read, cells ∙ ap (λ (x : Grouped). x.cells) read)
store_cells-set (g ∷ gs) rest (suc i) old new read table cells = rw (store_cells-set gs rest i old new read table cells)

pub OnOk-map : {T E : Type 0} {A B : Type 0} (r : Result T E) → (A → B) → OnOk r A → OnOk r B
OnOk-map (Ok x) f on = f on
OnOk-map (Err e) f on = on

-- a power of two has one logarithm
pub one_log2 : (a b : ℕ) → 2 ^ a ≡ 2 ^ b → a ≡ b
one_log2 a b same =
    elim (cases_lt a b) [
      | inl lower ↦ absurd (let powers = pow-lt lower in omega arith)
      | inr rest ↦ elim (cases_lt b a) [
        | inl higher ↦ absurd (let powers = pow-lt higher in omega arith)
        | inr other ↦ omega arith
      ]
    ]

-- the range of the one tablet has all tokens
pub all_within : (range : TokenRange) → offset range.first.value ≡ first_offset 0 0 → offset range.last.value ≡ last_offset 0 0 → (t : TableId) (k : Token) → is_within t range t k ≡ true
all_within range first last t k =
    let above : 0 < offset k.value = offset_pos k.value k.is_token in
    let below : offset k.value < 2 ^ 64 = offset_below k.value k.is_token in
    let first_is : offset range.first.value ≡ 1 = first in
    let last_is : offset range.last.value ≡ 2 ^ 64 - 1 = last in
    is_within-rank t range t k ∙ grind (arith, nat_tests)

module _ (whole : TokenRange) (all : (t : TableId) (k : Token) → is_within t whole t k ≡ true) where
  within_table : (t : TableId) (x : TableId × Stored) → (x.0.0 == t.0) ≡ true → is_inside t whole x ≡ true
  within_table t x same = ap (λ (u : TableId). is_within t whole u x.1.token) (one_table x.0 t same) ∙ all t x.1.token

  -- the cells of all tokens of a table are those of the table
  pub of_table-whole : (t : TableId) (xs : Cells) → of_table t (range_cells xs t whole None) ≡ of_one t xs
  of_table-whole t [] = refl
  of_table-whole t (x ∷ xs) =
      elim (x.0.0 == t.0) as (λ b. (x.0.0 == t.0) ≡ b → of_table t (map (λ (e : TableId × Stored). e.1) (cond (is_inside t whole x && true) (x ∷ filter (λ e. is_inside t whole e && true) xs) (filter (λ e. is_inside t whole e && true) xs))) ≡ cond b (x ∷ of_one t xs) (of_one t xs)) [
        | true ↦ λ same.
            let head : (t, x.1) ≡ x = λ i. ((sym (one_table x.0 t same)) i, x.1) in
            rw (within_table t x same) (ap (λ (e : TableId × Stored). e ∷ of_table t (range_cells xs t whole None)) head ∙ ap (λ (es : Cells). x ∷ es) (of_table-whole t xs))
        | false ↦ λ apart. rw apart (of_table-whole t xs)
      ] refl

  -- outside of all tokens of a table stand the cells of the other tables
  pub outside-whole : (t : TableId) (xs : Cells) → outside xs t whole ≡ without t xs
  outside-whole t xs = filter-same (λ e. not (is_inside t whole e)) (λ e. not (e.0.0 == t.0)) xs same
    where
      same : (x : TableId × Stored) → not (is_inside t whole x) ≡ not (x.0.0 == t.0)
      same x =
          elim (x.0.0 == t.0) as (λ b. (x.0.0 == t.0) ≡ b → not (is_inside t whole x) ≡ not b) [
            | true ↦ λ own. rw (within_table t x own)
            | false ↦ λ apart. rw apart
          ] refl

  -- and with one tablet alone they are those of that tablet
  pub whole_tablet : (t : TableId) (xs : Cells) → range_cells xs t whole None ≡ tablet_cells xs t 0 0
  whole_tablet t xs = ap (map (λ (e : TableId × Stored). e.1)) (filter-same (λ e. is_inside t whole e && true) (λ e. (e.0.0 == t.0) && (tablet_at 0 e.1.token.value == 0)) xs same)
    where
      same : (x : TableId × Stored) → (is_inside t whole x && true) ≡ ((x.0.0 == t.0) && (tablet_at 0 x.1.token.value == 0))
      same x =
          let below : tablet_at 0 x.1.token.value < 2 ^ 0 = tablet_below 0 (offset x.1.token.value) (omega arith) (offset_below x.1.token.value x.1.token.is_token) in
          let only : (tablet_at 0 x.1.token.value == 0) ≡ true = grind (arith, nat_tests) in
          elim (x.0.0 == t.0) as (λ b. (x.0.0 == t.0) ≡ b → (is_inside t whole x && true) ≡ (b && (tablet_at 0 x.1.token.value == 0))) [
            | true ↦ λ own. rw (within_table t x own, only)
            | false ↦ λ apart. rw apart
          ] refl

  left_elsewhere : (t : TableId) (xs : Cells) (u : TableId) (k : Token) → (t.0 == u.0) ≡ false → cell_at (outside xs t whole) u k ≡ cell_at xs u k
  left_elsewhere t xs u k apart = let other : (u.0 == t.0) ≡ false = grind (arith, nat_tests) in cell_at-outside xs t whole u k ∙ rw other

  -- each token keeps its cell where a table gets its first run
  adopted : (gs : List Grouped) (rest : Cells) (t : TableId) (g : Grouped) → length gs ≤ index_of gs t → g.table ≡ t → g.cells ≡ of_one t rest → (u : TableId) (k : Token) → cell_at (cells_of (gs ++ g ∷ []) (outside rest t whole) u) u k ≡ cell_at (cells_of gs rest u) u k
  adopted [] rest t g missing table cells u k =
      ap (λ (v : TableId). cell_at (cond (v.0 == u.0) g.cells (outside rest t whole)) u k) table
      ∙ elim (t.0 == u.0) as (λ b. (t.0 == u.0) ≡ b → cell_at (cond b g.cells (outside rest t whole)) u k ≡ cell_at rest u k) [
        | true ↦ λ same. ap (λ (xs : Cells). cell_at xs u k) cells ∙ cell_at-of_one t rest u k ∙ rw same
        | false ↦ λ apart. left_elsewhere t rest u k apart
      ] refl
  adopted (x ∷ gs) rest t g missing table cells u k =
      elim (x.table.0 == t.0) as (λ b. suc (length gs) ≤ cond b 0 (suc (index_of gs t)) → cell_at (cells_of (x ∷ gs ++ g ∷ []) (outside rest t whole) u) u k ≡ cell_at (cells_of (x ∷ gs) rest u) u k) [
        | true ↦ λ none. absurd (omega arith)
        | false ↦ λ none. elim (x.table.0 == u.0) as (λ b. cell_at (cond b x.cells (cells_of (gs ++ g ∷ []) (outside rest t whole) u)) u k ≡ cell_at (cond b x.cells (cells_of gs rest u)) u k) [
          | true ↦ refl
          | false ↦ adopted gs rest t g (omega arith) table cells u k
        ]
      ] missing

  pub AreTables-push : (gs : List Grouped) (g : Grouped) → AreTables gs → IsGrouped g → AreTables (gs ++ g ∷ [])
  AreTables-push [] g are here = (here, tt)
  AreTables-push (x ∷ gs) g are here = (are.0, AreTables-push gs g are.1 here)

  IsOfTable-of_one : (t : TableId) (xs : Cells) → IsOfTable t (of_one t xs)
  IsOfTable-of_one t [] = tt
  IsOfTable-of_one t (x ∷ xs) =
      elim (x.0.0 == t.0) as (λ b. (x.0.0 == t.0) ≡ b → IsOfTable t (cond b (x ∷ of_one t xs) (of_one t xs))) [
        | true ↦ λ same. (grind (arith, nat_tests), IsOfTable-of_one t xs)
        | false ↦ λ _. IsOfTable-of_one t xs
      ] refl

  pub adopted_is : (rest : Cells) (t : TableId) (g : Grouped) → IsOrdered rest → g.table ≡ t → g.log2 ≡ 0 → g.cells ≡ of_one t rest → IsGrouped g
  adopted_is rest t g ordered table log2 cells = record {
    few = omega arith;
    ordered = rw cells (IsOrdered-filter (λ e. e.0.0 == t.0) rest ordered);
    own = rw (table, cells) (IsOfTable-of_one t rest);
  }

  pub adopted_laid : (gs : List Grouped) (rest : Cells) (t : TableId) (g : Grouped) → IsLaid gs rest → g.table ≡ t → g.log2 ≡ 0 → g.cells ≡ of_one t rest → IsLaid (gs ++ g ∷ []) (outside rest t whole)
  adopted_laid gs rest t g laid table log2 cells = record {
    each = AreTables-push gs g laid.each (adopted_is rest t g laid.rest table log2 cells);
    rest = IsOrdered-filter (λ e. not (is_inside t whole e)) rest laid.rest;
  }

  pub adopted_cells : (gs : List Grouped) (rest : Cells) (t : TableId) (g : Grouped) → IsLaid gs rest → length gs ≤ index_of gs t → g.table ≡ t → g.log2 ≡ 0 → g.cells ≡ of_one t rest → store_cells (gs ++ g ∷ []) (outside rest t whole) ≡ store_cells gs rest
  adopted_cells gs rest t g laid missing table log2 cells =
      let new = adopted_laid gs rest t g laid table log2 cells in
      one_list (store_cells (gs ++ g ∷ []) (outside rest t whole)) (store_cells gs rest) (IsOrdered-store_cells (gs ++ g ∷ []) (outside rest t whole) new.rest) (IsOrdered-store_cells gs rest laid.rest)
      (λ u k. cell_at-store_cells (gs ++ g ∷ []) (outside rest t whole) u k new.each new.rest ∙ adopted gs rest t g missing table cells u k ∙ sym (cell_at-store_cells gs rest u k laid.each laid.rest))

pub adopted_log2s : (gs : List Grouped) (g : Grouped) → g.log2 ≡ 0 → (u : TableId) → log2_of (log2s_of (gs ++ g ∷ [])) u ≡ log2_of (log2s_of gs) u
adopted_log2s [] g log2 u = elim (g.table.0 == u.0) as (λ b. cond b g.log2 (let none : ℕ = 0 in none) ≡ (let none : ℕ = 0 in none)) [ true ↦ log2 | false ↦ refl ]
adopted_log2s (x ∷ gs) g log2 u = rw (adopted_log2s gs g log2 u)

pub adopted_index : (gs : List Grouped) (t : TableId) (g : Grouped) → length gs ≤ index_of gs t → g.table ≡ t → index_of gs t ≡ index_of (gs ++ g ∷ []) t
adopted_index [] t g missing table =
    let own : (g.table.0 == t.0) ≡ true = ap (λ (u : TableId). u.0 == t.0) table ∙ grind (arith, nat_tests) in rw own
adopted_index (x ∷ gs) t g missing table =
    elim (x.table.0 == t.0) as (λ b. suc (length gs) ≤ cond b 0 (suc (index_of gs t)) → cond b 0 (suc (index_of gs t)) ≡ cond b 0 (suc (index_of (gs ++ g ∷ []) t))) [
      | true ↦ λ none. refl
      | false ↦ λ none. ap suc (adopted_index gs t g (omega arith) table)
    ] missing

pub index_of-le : (gs : List Grouped) (t : TableId) → index_of gs t ≤ length gs
index_of-le [] t = omega arith
index_of-le (x ∷ gs) t = elim (x.table.0 == t.0) as (λ b. cond b 0 (suc (index_of gs t)) ≤ suc (length gs)) [ true ↦ omega arith | false ↦ omega (arith, index_of-le gs t) ]

-- the room of all, where each has it
pub least_room-all : (n : ℕ) (gs : List Grouped) → n ≤ 2 ^ 64 → ((k : ℕ) (d : Grouped) → k < length gs → n ≤ (get_or gs k d).spare) → n ≤ least_room gs
least_room-all n [] most each = most
least_room-all n (g ∷ gs) most each =
    let rest = least_room-all n gs most (λ k d below. each (suc k) d (omega arith)) in
    let here : n ≤ g.spare = each 0 g (omega arith) in
    omega arith

pub few_of : (gs : List Grouped) (t : TableId) → AreTables gs → log2_of (log2s_of gs) t ≤ 10
few_of [] t are = omega arith
few_of (g ∷ gs) t are = elim (g.table.0 == t.0) as (λ b. cond b g.log2 (log2_of (log2s_of gs) t) ≤ 10) [ true ↦ are.0.few | false ↦ few_of gs t are.1 ]

pub found_tablet : (gs : List Grouped) (rest : Cells) (t : TableId) (at : ℕ) (g : Grouped) (tablet : ℕ) → IsLaid gs rest → at ≡ index_of gs t → at < length gs → g ≡ get_or gs at g → tablet_cells g.cells g.table g.log2 tablet ≡ tablet_cells (store_cells gs rest) t (log2_of (log2s_of gs) t) tablet
found_tablet gs rest t at g tablet laid at_is within read =
    ap (λ (u : TableId). tablet_cells g.cells u g.log2 tablet) (found_table gs t at g at_is within read)
    ∙ ap (λ n. tablet_cells g.cells t n tablet) (found_log2 gs t at g at_is within read)
    ∙ ap (λ (xs : Cells). tablet_cells xs t (log2_of (log2s_of gs) t) tablet) (sym (found_cells gs rest t at g at_is within read))
    ∙ tablet_cells-store_cells gs rest t (log2_of (log2s_of gs) t) tablet laid.each laid.rest

pub missing_tablet : (gs : List Grouped) (rest : Cells) (t : TableId) (tablet : ℕ) → IsLaid gs rest → length gs ≤ index_of gs t → tablet < 2 ^ log2_of (log2s_of gs) t → tablet_cells rest t 0 0 ≡ tablet_cells (store_cells gs rest) t (log2_of (log2s_of gs) t) tablet
missing_tablet gs rest t tablet laid missing below =
    let none : 0 ≡ log2_of (log2s_of gs) t = missing_log2 gs t missing in
    let one : tablet < 1 = (let P : ℕ → Type 0 = λ n. tablet < 2 ^ n in subst P (sym none) below) in
    let first : 0 ≡ tablet = omega arith in
    ap (λ (xs : Cells). tablet_cells xs t 0 0) (sym (missing_cells gs rest t missing))
    ∙ tablet_cells-store_cells gs rest t 0 0 laid.each laid.rest
    ∙ ap (λ n. tablet_cells (store_cells gs rest) t n 0) none
    ∙ ap (λ n. tablet_cells (store_cells gs rest) t (log2_of (log2s_of gs) t) n) first

-- a list in order that at each place has what is left of a dropped range
pub dropped : (old new : Cells) (t : TableId) (range : TokenRange) → IsOrdered old → IsOrdered new → ((u : TableId) (k : Token) → cell_at new u k ≡ without_range t range u k (cell_at old u k)) → new ≡ outside old t range
dropped old new t range ordered ordered_new left =
    one_list new (outside old t range) ordered_new (IsOrdered-filter (λ e. not (is_inside t range e)) old ordered) (λ u k. left u k ∙ sym (cell_at-outside old t range u k))

-- a table that is found has runs of its own
pub found_own : (gs : List Grouped) (t : TableId) → index_of gs t < length gs → has_own (log2s_of gs) t ≡ true
found_own [] t within = absurd (omega arith)
found_own (x ∷ gs) t within =
    elim (x.table.0 == t.0) as (λ b. cond b 0 (suc (index_of gs t)) < suc (length gs) → (b || has_own (log2s_of gs) t) ≡ true) [
      | true ↦ λ _. refl
      | false ↦ λ later. found_own gs t (omega arith)
    ] within

-- and keeps them where a table is added
pub own_push : (gs : List Grouped) (g : Grouped) (t : TableId) → has_own (log2s_of gs) t ≡ true → has_own (log2s_of (gs ++ g ∷ [])) t ≡ true
own_push [] g t own = absurd cc
own_push (x ∷ gs) g t own =
    elim (x.table.0 == t.0) as (λ b. (b || has_own (log2s_of gs) t) ≡ true → (b || has_own (log2s_of (gs ++ g ∷ [])) t) ≡ true) [
      | true ↦ λ _. refl
      | false ↦ own_push gs g t
    ] own

-- and where one table has changed
pub own_set : (gs : List Grouped) (i : ℕ) (old new : Grouped) → old ≡ get_or gs i old → new.table ≡ old.table → (t : TableId) → has_own (log2s_of (set gs i new)) t ≡ has_own (log2s_of gs) t
own_set [] i old new read table t = refl
own_set (g ∷ gs) zero old new read table t = rw (table ∙ ap (λ (x : Grouped). x.table) read) refl
own_set (g ∷ gs) (suc i) old new read table t = rw (own_set gs i old new read table t) refl
