-- What a pull has passed was covered by chunks.
use Rattle.std.proofs.Common.{◌≡◌, ◌==◌, ◌≤ℤ◌, ◌<ℤ◌, ℕ, zero, suc, ◌≤◌, Bool, true, false, cond, not, ◌&&◌, ◌||◌, int_le, int_lt, nat_lt, Option, Some, None, List, [], ◌∷◌, length, take, arith, refl, ap, sym, ◌∙◌}
use Rattle.std.proofs.lemmas.Bool.Decides.{nat_tests}
use Rattle.std.proofs.lemmas.Int.{ints}
use Rattle.std.proofs.lemmas.List.{take_all}
use Rattle.std.specs.Ordering.{int_eq}
use Rattle.token_ring.specs.declared.token.Token.{Token}
use Rattle.cell_merge.specs.declared.cell.Cell.{Cell}
use Rattle.replica_store.specs.declared.store.Stored.{Stored}
use Rattle.replica_store.specs.Cells.{Cells, IsOrdered, cell_at, range_cells, stored_at, is_within, is_above, IsAllAbove, IsAscending}
use Rattle.replica_store.proofs.MapLemmas.{stored_at-range_cells, IsAscending-range_cells}
use Rattle.stream_core.specs.declared.data.ChunkAsk.{ChunkAsk}
use Rattle.stream_core.specs.declared.data.ChunkMsg.{ChunkMsg}
use Rattle.stream_core.specs.Pulls.{Pulling, most_cells, last_token, same_after, is_next, pull_after, served_chunk}
use Rattle.stream_core.specs.Passed.{is_upto, has_passed, covers, HasCell, ChunkHasCells, PassedIsCovered}

-- all cells stand above where one is, and none has a token that is not above it
AreAbove : Option Token → List Stored → Type 0
AreAbove None cells = Unit {0}
AreAbove (Some token) cells = IsAllAbove token cells

not_here : (last token : Token) (stored : Stored) → int_le token.value last.value ≡ true → last.value <ℤ stored.token.value → int_eq stored.token.value token.value ≡ false
not_here last token stored upto above = grind (arith, ints)

stored_at-above : (last token : Token) (cells : List Stored) → int_le token.value last.value ≡ true → IsAllAbove last cells → stored_at cells token ≡ None
stored_at-above last token [] upto above = refl
stored_at-above last token (stored ∷ rest) upto above =
    rw (not_here last token stored upto above.0) (stored_at-above last token rest upto above.1)

-- up to the last token of the first cells, these tell the same as all
stored_at-take : (after : Option Token) (cells : List Stored) (n : ℕ) (token : Token) → AreAbove after cells → IsAscending cells → is_upto (last_token after (take n cells)) token ≡ true → stored_at (take n cells) token ≡ stored_at cells token
unfolding AreAbove
stored_at-take after [] zero token above ascending upto = refl
stored_at-take after [] (suc n) token above ascending upto = refl
stored_at-take None (stored ∷ rest) zero token above ascending upto = cc
stored_at-take (Some last) (stored ∷ rest) zero token above ascending upto = sym (stored_at-above last token (stored ∷ rest) upto above)
stored_at-take after (stored ∷ rest) (suc n) token above ascending upto =
    ap (λ (other : Option Cell). cond (int_eq stored.token.value token.value) (Some stored.cell) other)
    (stored_at-take (Some stored.token) rest n token ascending.0 ascending.1 upto)

front_tells : (cells : List Stored) (n : ℕ) (token : Token) → IsAscending cells → (not (nat_lt n (length cells)) || is_upto (last_token None (take n cells)) token) ≡ true → stored_at (take n cells) token ≡ stored_at cells token
unfolding AreAbove
front_tells cells n token ascending covered =
    elim (nat_lt n (length cells)) as (λ b. nat_lt n (length cells) ≡ b → (not b || is_upto (last_token None (take n cells)) token) ≡ true → stored_at (take n cells) token ≡ stored_at cells token) [
      | true ↦ λ _ upto. stored_at-take None cells n token tt ascending upto
      | false ↦ λ few _. ap (λ (cs : List Stored). stored_at cs token) (take_all n cells (grind (arith, nat_tests)))
    ] refl covered

left_true : (a b : Bool) → (a && b) ≡ true → a ≡ true
left_true true b both = refl
left_true false b both = both

right_true : (a b : Bool) → (a && b) ≡ true → b ≡ true
right_true true b both = both
right_true false b both = cc

right_false : (a b : Bool) → (a || b) ≡ false → b ≡ false
right_false true b neither = cc
right_false false b neither = neither

-- a chunk has the source's cell at each token that it covers
covered_cell : (source : Cells) (ask : ChunkAsk) (n : ℕ) (token : Token) → IsOrdered source → is_within ask.table ask.range ask.table token ≡ true → (is_above ask.after token && (not (nat_lt n (length (range_cells source ask.table ask.range ask.after))) || is_upto (last_token None (take n (range_cells source ask.table ask.range ask.after))) token)) ≡ true → stored_at (take n (range_cells source ask.table ask.range ask.after)) token ≡ cell_at source ask.table token
covered_cell source ask n token ordered within covered =
    let all = range_cells source ask.table ask.range ask.after in
    let above : is_above ask.after token ≡ true = left_true (is_above ask.after token) _ covered in
    front_tells all n token (IsAscending-range_cells source ask.table ask.range ask.after ordered) (right_true (is_above ask.after token) _ covered)
    ∙ stored_at-range_cells source ask.table ask.range ask.after token
    ∙ rw (within, above)

pub chunk_has_cells : ChunkHasCells
chunk_has_cells source ask token ordered within covered = covered_cell source ask most_cells token ordered within covered

above_same : (a b : Option Token) (token : Token) → same_after a b ≡ true → is_upto b token ≡ false → is_above a token ≡ true
above_same None None token same beyond = refl
above_same None (Some b) token same beyond = cc
above_same (Some a) None token same beyond = cc
above_same (Some a) (Some b) token same beyond = grind (arith, ints)

same_upto : (after : Option Token) (cells : List Stored) (token : Token) (ended : Bool) → is_upto after token ≡ false → (ended || is_upto (last_token after cells) token) ≡ true → (ended || is_upto (last_token None cells) token) ≡ true
same_upto after [] token ended beyond upto = rw beyond at upto
same_upto after (stored ∷ rest) token ended beyond upto = upto

-- what a chunk lets a pull pass, it covers
passed_covered : (pull : Pulling) (chunk : ChunkMsg) (token : Token) → has_passed pull token ≡ false → has_passed (pull_after pull chunk) token ≡ true → covers chunk token ≡ true
passed_covered pull chunk token before after =
    elim (is_next pull chunk) as (λ b. is_next pull chunk ≡ b → has_passed (cond b (record pull { after = last_token pull.after chunk.cells; done = not chunk.more }) pull) token ≡ true → covers chunk token ≡ true) [
      | true ↦ λ next passed.
          let same : same_after chunk.after pull.after ≡ true = left_true (same_after chunk.after pull.after) (not pull.done) (right_true (chunk.session.0 == pull.session.0) _ next) in
          let beyond : is_upto pull.after token ≡ false = right_false pull.done (is_upto pull.after token) before in
          rw (above_same chunk.after pull.after token same beyond) (same_upto pull.after chunk.cells token (not chunk.more) beyond passed)
      | false ↦ λ _ passed. cc
    ] refl after

pub passed_is_covered : PassedIsCovered
passed_is_covered source ask pull token ordered within before after =
    let covered = passed_covered pull (served_chunk source ask) token before after in
    record { covered = covered; cell = chunk_has_cells source ask token ordered within covered }
