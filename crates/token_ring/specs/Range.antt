-- Tokens by their numbers, and ranges of tokens.
use Rattle.std.specs.Prelude.{◌≡◌, ◌≤ℤ◌, ◌^◌, ℕ, ℤ, Bool, true, pos, int_lt, refl}
use Rattle.std.specs.Int.Signed.{lt_z_yes}
use Rattle.std.proofs.Common.{T, subst, sym}
use Rattle.token_ring.specs.Ring.{least_number, number_at, first_offset, last_offset}
use Rattle.token_ring.specs.declared.ring.TokenRange.{TokenRange}
use Rattle.token_ring.specs.declared.token.Token.{Token}

-- a token lies in a range, whose ends are both in it
abbrev pub IsIn : TokenRange → Token → Type 0
IsIn range token = (range.first.value ≤ℤ token.value) × (token.value ≤ℤ range.last.value)

-- the number is above -2^63
abbrev pub above_least : ℤ → Bool
above_least value = int_lt least_number value

-- the number is below 2^63
abbrev pub below_end : ℤ → Bool
below_end value = int_lt value (pos (2 ^ 63))

-- the token of a number by these two tests: that of 0 where one fails
abbrev pub token_by : (value : ℤ) (above below : Bool) → above_least value ≡ above → below_end value ≡ below → Token
token_by value true true above below =
    record { value = value; is_token = (lt_z_yes (subst T (sym above) tt), lt_z_yes (subst T (sym below) tt)) }
token_by value a b above below = record { value = pos 0; is_token = (lt_z_yes tt, lt_z_yes tt) }

-- the token of a number, and that of 0 for a number that is no token's
abbrev pub token_of : ℤ → Token
token_of value = token_by value (above_least value) (below_end value) refl refl

-- the tokens of a tablet, of 2^log2 tablets
abbrev pub range_at : ℕ → ℕ → TokenRange
range_at log2 tablet =
    record {
      first = token_of (number_at (first_offset log2 tablet));
      last = token_of (number_at (last_offset log2 tablet));
    }
