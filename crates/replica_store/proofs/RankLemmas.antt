-- The rank of a place tells places apart, and puts the tables one after another.
use Rattle.std.proofs.Common.{◌≡◌, ℕ, ◌+◌, ◌*◌, ◌^◌, ◌<◌, ◌≤◌, ◌==◌, ◌&&◌, Bool, true, false, nat_lt, nat_le, max, Option, None, Some, arith, inl, inr, refl, ◌∙◌, ℤ, pos, negsuc, ap, ◌<ℤ◌}
use Rattle.std.specs.Prelude.{int_le, int_lt}
use Rattle.std.specs.Ordering.{int_eq}
use Rattle.std.proofs.lemmas.Bool.{cases_lt}
use Rattle.std.proofs.lemmas.Bool.Decides.{nat_tests}
use Rattle.std.proofs.lemmas.Int.{ints}
use Rattle.base_ids.specs.declared.ids.TableId.{TableId}
use Rattle.token_ring.specs.Ring.{IsToken, offset}
use Rattle.token_ring.specs.declared.token.Token.{Token}
use Rattle.token_ring.specs.declared.ring.TokenRange.{TokenRange}
use Rattle.replica_store.specs.declared.store.Stored.{Stored}
use Rattle.replica_store.specs.Cells.{is_same, is_within, is_inside, is_above, rank, rank_of}
use Rattle.replica_store.specs.Columns.{start_of, end_of}

-- what belongs to a lower table comes first
table_first : (a b p q M : ℕ) → p < M → a < b → a * M + p < b * M + q
table_first a b p q M below lower = let more : (a + 1) * M ≤ b * M = grind arith in omega arith

same-rank : (a b p q M : ℕ) → p < M → q < M → ((a == b) && (p == q)) ≡ ((a * M + p) == (b * M + q))
same-rank a b p q M left right =
    elim (cases_lt a b) [
      | inl lower ↦ let first = table_first a b p q M left lower in grind (arith, nat_tests)
      | inr rest ↦ elim (cases_lt b a) [
        | inl lower ↦ let first = table_first b a q p M right lower in grind (arith, nat_tests)
        | inr other ↦ let same : a ≡ b = omega arith in rw same (grind (arith, nat_tests))
      ]
    ]

offset_below : (v : ℤ) → IsToken v → offset v < 2 ^ 64
offset_below (pos n) token = omega (arith, ints, token.1)
offset_below (negsuc n) token = omega arith

int_eq-offset : (a b : ℤ) → IsToken a → IsToken b → int_eq a b ≡ (offset a == offset b)
int_eq-offset (pos a) (pos b) left right = grind (arith, ints, nat_tests)
int_eq-offset (pos a) (negsuc b) left right = grind (arith, ints, nat_tests)
int_eq-offset (negsuc a) (pos b) left right = grind (arith, ints, nat_tests)
int_eq-offset (negsuc a) (negsuc b) left right = grind (arith, ints, nat_tests)

int_le-offset : (a b : ℤ) → IsToken a → IsToken b → int_le a b ≡ nat_le (offset a) (offset b)
int_le-offset (pos a) (pos b) left right = grind (arith, ints, nat_tests)
int_le-offset (pos a) (negsuc b) left right = grind (arith, ints, nat_tests)
int_le-offset (negsuc a) (pos b) left right = grind (arith, ints, nat_tests)
int_le-offset (negsuc a) (negsuc b) left right = grind (arith, ints, nat_tests)

int_lt-offset : (a b : ℤ) → IsToken a → IsToken b → int_lt a b ≡ nat_lt (offset a) (offset b)
int_lt-offset (pos a) (pos b) left right = grind (arith, ints, nat_tests)
int_lt-offset (pos a) (negsuc b) left right = grind (arith, ints, nat_tests)
int_lt-offset (negsuc a) (pos b) left right = grind (arith, ints, nat_tests)
int_lt-offset (negsuc a) (negsuc b) left right = grind (arith, ints, nat_tests)

-- two tokens of tables are the same exactly where their ranks are
pub is_same-rank : (table : TableId) (token : Token) (other_table : TableId) (other : Token) → is_same table token other_table other ≡ (rank table token == rank other_table other)
is_same-rank table token other_table other =
    rw (int_eq-offset token.value other.value token.is_token other.is_token) (same-rank table.0 other_table.0 (offset token.value) (offset other.value) (2 ^ 64) (offset_below token.value token.is_token) (offset_below other.value other.is_token))

-- within one table, from a place to below another; in another table, neither
between-rank : (a b first p last M : ℕ) → first < M → p < M → last < M → ((a == b) && (nat_le first p && nat_le p last)) ≡ (nat_le (b * M + first) (a * M + p) && nat_lt (a * M + p) (b * M + last + 1))
between-rank a b first p last M first_below p_below last_below =
    elim (cases_lt a b) [
      | inl lower ↦ let before = table_first a b p first M p_below lower in grind (arith, nat_tests)
      | inr rest ↦ elim (cases_lt b a) [
        | inl lower ↦ let behind = table_first b a last p M last_below lower in grind (arith, nat_tests)
        | inr other ↦ let same : a ≡ b = omega arith in rw same (grind (arith, nat_tests))
      ]
    ]

pub is_within-rank : (table : TableId) (range : TokenRange) (t : TableId) (k : Token) → is_within table range t k ≡ (nat_le (rank table range.first) (rank t k) && nat_lt (rank t k) (end_of table range))
is_within-rank table range t k =
    rw (int_le-offset range.first.value k.value range.first.is_token k.is_token, int_le-offset k.value range.last.value k.is_token range.last.is_token)
    (between-rank t.0 table.0 (offset range.first.value) (offset k.value) (offset range.last.value) (2 ^ 64) (offset_below range.first.value range.first.is_token) (offset_below k.value k.is_token) (offset_below range.last.value range.last.is_token))

pub is_inside-rank : (table : TableId) (range : TokenRange) (e : TableId × Stored) → is_inside table range e ≡ (nat_le (rank table range.first) (rank_of e) && nat_lt (rank_of e) (end_of table range))
is_inside-rank table range e = is_within-rank table range e.0 e.1.token

above-rank : (a b first p last after M : ℕ) → first < M → p < M → last < M → after < M → (((a == b) && (nat_le first p && nat_le p last)) && nat_lt after p) ≡ (nat_le (max (b * M + first) (b * M + after + 1)) (a * M + p) && nat_lt (a * M + p) (b * M + last + 1))
above-rank a b first p last after M first_below p_below last_below after_below =
    elim (cases_lt a b) [
      | inl lower ↦ let before = table_first a b p first M p_below lower in grind (arith, nat_tests)
      | inr rest ↦ elim (cases_lt b a) [
        | inl lower ↦ let behind = table_first b a last p M last_below lower in grind (arith, nat_tests)
        | inr other ↦ let same : a ≡ b = omega arith in rw same (grind (arith, nat_tests))
      ]
    ]

and-true : (b : Bool) → (b && true) ≡ b
and-true true = refl
and-true false = refl

-- the cells of a range above `after` are those from one place to below another
pub is_wanted-rank : (table : TableId) (range : TokenRange) (after : Option Token) (e : TableId × Stored) → (is_inside table range e && is_above after e.1.token) ≡ (nat_le (start_of table range after) (rank_of e) && nat_lt (rank_of e) (end_of table range))
is_wanted-rank table range None e = and-true (is_inside table range e) ∙ is_inside-rank table range e
is_wanted-rank table range (Some after) e =
    rw (int_le-offset range.first.value e.1.token.value range.first.is_token e.1.token.is_token, int_le-offset e.1.token.value range.last.value e.1.token.is_token range.last.is_token, int_lt-offset after.value e.1.token.value after.is_token e.1.token.is_token)
    (above-rank e.0.0 table.0 (offset range.first.value) (offset e.1.token.value) (offset range.last.value) (offset after.value) (2 ^ 64) (offset_below range.first.value range.first.is_token) (offset_below e.1.token.value e.1.token.is_token) (offset_below range.last.value range.last.is_token) (offset_below after.value after.is_token))

-- of one table, the lower rank has the lower token
pub table_place : (a b p q M : ℕ) → a ≡ b → a * M + p < b * M + q → p < q
table_place a b p q M same below = let tables : a * M ≡ b * M = ap (λ n. n * M) same in omega arith

pub token_below : (a b : Token) → offset a.value < offset b.value → a.value <ℤ b.value
token_below a b below =
    let test : int_lt a.value b.value ≡ true = int_lt-offset a.value b.value a.is_token b.is_token ∙ grind (arith, nat_tests) in
    grind (arith, ints)
