-- What is left of a range once some of its first cells were lent.
use Rattle.std.proofs.Common.{◌≡◌, ℕ, zero, suc, ◌+◌, ◌-◌, ◌*◌, ◌^◌, ◌<◌, ◌≤◌, ◌==◌, ◌&&◌, max, nat_lt, nat_le, Bool, true, false, cond, Option, Some, None, List, [], ◌∷◌, ◌++◌, length, take, drop, get_or, get_or-take, length-take, length-append, map, filter, arith, refl, ap, sym, ◌∙◌}
use Rattle.std.proofs.lemmas.Bool.Decides.{nat_tests}
use Rattle.std.proofs.lemmas.List.{take-append-drop}
use Rattle.base_ids.specs.declared.ids.TableId.{TableId}
use Rattle.token_ring.specs.Ring.{offset}
use Rattle.token_ring.specs.declared.token.Token.{Token}
use Rattle.token_ring.specs.declared.ring.TokenRange.{TokenRange}
use Rattle.replica_store.specs.declared.store.Stored.{Stored}
use Rattle.replica_store.specs.Cells.{Cells, IsOrdered, IsAfter, rank, rank_of, is_inside, is_above, range_cells}
use Rattle.replica_store.specs.Columns.{start_of, end_of}
use Rattle.replica_store.proofs.OrderLemmas.{after_at}
use Rattle.replica_store.proofs.RankLemmas.{is_wanted-rank}
use Rattle.replica_store.proofs.RangeLemmas.{IsOrdered-filter, filter-same}

module _ {X : Type 0} where
  filter-filter : (p q : X → Bool) (xs : List X) → filter p (filter q xs) ≡ filter (λ x. q x && p x) xs
  filter-filter p q [] = refl
  filter-filter p q (x ∷ xs) =
      elim (q x) as (λ b. filter p (cond b (x ∷ filter q xs) (filter q xs)) ≡ cond (b && p x) (x ∷ filter (λ x. q x && p x) xs) (filter (λ x. q x && p x) xs)) [
        | true ↦ ap (λ es. cond (p x) (x ∷ es) es) (filter-filter p q xs)
        | false ↦ filter-filter p q xs
      ]

  passes-front : (p : X → Bool) (x : X) (xs : List X) (d : X) → p x ≡ true → ((k : ℕ) → k < length xs → p (get_or xs k d) ≡ true) → (i : ℕ) → i < length (x ∷ xs) → p (get_or (x ∷ xs) i d) ≡ true
  passes-front p x xs d here rest zero within = here
  passes-front p x xs d here rest (suc i) within = rest i (omega arith)

  passes-filter : (p : X → Bool) (xs : List X) (i : ℕ) (d : X) → i < length (filter p xs) → p (get_or (filter p xs) i d) ≡ true
  passes-filter p [] i d within = absurd (omega arith)
  passes-filter p (x ∷ xs) i d within =
      elim (p x) as (λ b. p x ≡ b → i < length (cond b (x ∷ filter p xs) (filter p xs)) → p (get_or (cond b (x ∷ filter p xs) (filter p xs)) i d) ≡ true) [
        | true ↦ λ here below. passes-front p x (filter p xs) d here (λ k. passes-filter p xs k d) i below
        | false ↦ λ there below. passes-filter p xs i d below
      ] refl within

filter-after : (first : ℕ) (xs : Cells) → IsAfter first xs → filter (λ e. nat_lt first (rank_of e)) xs ≡ xs
filter-after first [] after = refl
filter-after first (x ∷ xs) after =
    let behind : nat_lt first (rank_of x) ≡ true = grind (arith, nat_tests, after.0) in
    rw behind (ap (λ es. x ∷ es) (filter-after first xs after.1))

-- the cells behind the one at an index are those of a greater place
filter-behind_index : (xs : Cells) (i : ℕ) (d : TableId × Stored) → IsOrdered xs → i < length xs → filter (λ e. nat_lt (rank_of (get_or xs i d)) (rank_of e)) xs ≡ drop (suc i) xs
filter-behind_index [] i d ordered within = absurd (omega arith)
filter-behind_index (x ∷ xs) zero d ordered within =
    let same : nat_lt (rank_of x) (rank_of x) ≡ false = grind (arith, nat_tests) in
    rw same (filter-after (rank_of x) xs ordered.0)
filter-behind_index (x ∷ xs) (suc i) d ordered within =
    let before : rank_of x < rank_of (get_or xs i d) = after_at (rank_of x) xs i d ordered.0 (omega arith) in
    let early : nat_lt (rank_of (get_or xs i d)) (rank_of x) ≡ false = grind (arith, nat_tests) in
    rw early (filter-behind_index xs i d ordered.1 (omega arith))

next_tests : (first start reached r end : ℕ) → start ≤ reached → first ≤ reached → (nat_le (max first (reached + 1)) r && nat_lt r end) ≡ ((nat_le start r && nat_lt r end) && nat_lt reached r)
next_tests first start reached r end from low = grind (arith, nat_tests)

first_le_start : (table : TableId) (range : TokenRange) (after : Option Token) → rank table range.first ≤ start_of table range after
first_le_start table range None = omega arith
first_le_start table range (Some after) = omega arith

-- to ask for what lies above the token of a wanted cell is to ask for the wanted cells behind it
next_wanted : (table : TableId) (range : TokenRange) (after : Option Token) (e : TableId × Stored) → (is_inside table range e && is_above after e.1.token) ≡ true → (other : TableId × Stored) → (is_inside table range other && is_above (Some e.1.token) other.1.token) ≡ ((is_inside table range other && is_above after other.1.token) && nat_lt (rank_of e) (rank_of other))
next_wanted table range after e wanted other =
    let tests : (nat_le (start_of table range after) (rank_of e) && nat_lt (rank_of e) (end_of table range)) ≡ true = sym (is_wanted-rank table range after e) ∙ wanted in
    let reached : start_of table range after ≤ rank_of e = grind (arith, nat_tests) in
    let first = first_le_start table range after in
    let tables : (e.0.0 == table.0) ≡ true = first_true (e.0.0 == table.0) _ (first_true (is_inside table range e) _ wanted) in
    let one_table : e.0.0 ≡ table.0 = grind (arith, nat_tests) in
    let rank_same : rank table e.1.token ≡ rank_of e = ap (λ n. n * 2 ^ 64 + offset e.1.token.value) (sym one_table) in
    is_wanted-rank table range (Some e.1.token) other
    ∙ rw rank_same (next_tests (rank table range.first) (start_of table range after) (rank_of e) (rank_of other) (end_of table range) reached (omega arith))
    ∙ ap (λ b. b && nat_lt (rank_of e) (rank_of other)) (sym (is_wanted-rank table range after other))
  where
    first_true : (a b : Bool) → (a && b) ≡ true → a ≡ true
    first_true true b both = refl
    first_true false b both = both

map-drop_seconds : (n : ℕ) (xs : Cells) → map (λ (e : TableId × Stored). e.1) (drop n xs) ≡ drop n (map (λ (e : TableId × Stored). e.1) xs)
map-drop_seconds zero xs = refl
map-drop_seconds (suc n) [] = refl
map-drop_seconds (suc n) (x ∷ xs) = map-drop_seconds n xs

second_at : (xs : Cells) (i : ℕ) (d : TableId × Stored) → i < length xs → get_or (map (λ (e : TableId × Stored). e.1) xs) i d.1 ≡ (get_or xs i d).1
second_at [] i d within = absurd (omega arith)
second_at (x ∷ xs) zero d within = refl
second_at (x ∷ xs) (suc i) d within = second_at xs i d (omega arith)

length-seconds : (xs : Cells) → length (map (λ (e : TableId × Stored). e.1) xs) ≡ length xs
length-seconds [] = refl
length-seconds (x ∷ xs) = ap suc (length-seconds xs)

-- the cells above the one at an index are those behind it
pub range_cells-next : (xs : Cells) (table : TableId) (range : TokenRange) (after : Option Token) (i : ℕ) (last : Stored) → IsOrdered xs → i < length (range_cells xs table range after) → get_or (range_cells xs table range after) i last ≡ last → range_cells xs table range (Some last.token) ≡ drop (suc i) (range_cells xs table range after)
range_cells-next xs table range after i last ordered within is_last =
    let wanted = filter (λ e. is_inside table range e && is_above after e.1.token) xs in
    let d : TableId × Stored = (record { 0 = 0 }, last) in
    let below : i < length wanted = omega (arith, length-seconds wanted) in
    let e : TableId × Stored = get_or wanted i d in
    let second : e.1 ≡ last = sym (second_at wanted i d below) ∙ is_last in
    let passes : (is_inside table range e && is_above after e.1.token) ≡ true = passes-filter (λ e. is_inside table range e && is_above after e.1.token) xs i d below in
    ap (λ (s : Stored). range_cells xs table range (Some s.token)) (sym second)
    ∙ ap (map (λ (e : TableId × Stored). e.1)) (
    filter-same (λ o. is_inside table range o && is_above (Some e.1.token) o.1.token) (λ o. (is_inside table range o && is_above after o.1.token) && nat_lt (rank_of e) (rank_of o)) xs (next_wanted table range after e passes)
    ∙ sym (filter-filter (λ o. nat_lt (rank_of e) (rank_of o)) (λ o. is_inside table range o && is_above after o.1.token) xs)
    ∙ filter-behind_index wanted i d (IsOrdered-filter (λ o. is_inside table range o && is_above after o.1.token) xs ordered) below)
    ∙ map-drop_seconds (suc i) wanted

-- lent cells and what lies above the last of them are all that was asked for
pub range_cells-split : (xs : Cells) (table : TableId) (range : TokenRange) (after : Option Token) (cells : List Stored) (last : Stored) (n : ℕ) → IsOrdered xs → cells ≡ take n (range_cells xs table range after) → 0 < n → n ≤ length (range_cells xs table range after) → get_or cells (n - 1) last ≡ last → cells ++ range_cells xs table range (Some last.token) ≡ range_cells xs table range after
range_cells-split xs table range after cells last n ordered prefix some within is_last =
    let all = range_cells xs table range after in
    let i = n - 1 in
    let below : i < n = omega arith in
    let in_all : get_or all i last ≡ last = sym (get_or-take n all i last below) ∙ ap (λ (cs : List Stored). get_or cs i last) (sym prefix) ∙ is_last in
    let next = range_cells-next xs table range after i last ordered (omega arith) in_all in
    let count : suc i ≡ n = omega arith in
    ap (λ (cs : List Stored). cs ++ range_cells xs table range (Some last.token)) prefix
    ∙ ap (λ (cs : List Stored). take n all ++ cs) (next ∙ ap (λ k. drop k all) count)
    ∙ take-append-drop n all

-- the same, for the cells of a chunk
pub chunk_split : (xs : Cells) (table : TableId) (range : TokenRange) (after : Option Token) (cells : List Stored) (last : Stored) → IsOrdered xs → cells ≡ take (length cells) (range_cells xs table range after) → 0 < length cells → last ≡ get_or cells (length cells - 1) last → cells ++ range_cells xs table range (Some last.token) ≡ range_cells xs table range after
chunk_split xs table range after cells last ordered prefix some is_last =
    let long = ap length prefix ∙ length-take (length cells) (range_cells xs table range after) in
    range_cells-split xs table range after cells last (length cells) ordered prefix some (omega arith) (sym is_last)

-- fewer cells are left above the last cell of a chunk
pub fewer_left : (xs : Cells) (table : TableId) (range : TokenRange) (after : Option Token) (cells : List Stored) (last : Stored) → IsOrdered xs → cells ≡ take (length cells) (range_cells xs table range after) → 0 < length cells → last ≡ get_or cells (length cells - 1) last → length (range_cells xs table range (Some last.token)) < length (range_cells xs table range after)
fewer_left xs table range after cells last ordered prefix some is_last =
    let whole = ap length (chunk_split xs table range after cells last ordered prefix some is_last) in
    omega (arith, length-append cells (range_cells xs table range (Some last.token)))
