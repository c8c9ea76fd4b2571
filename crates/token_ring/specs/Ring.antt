-- The ring: signed 64-bit numbers in order, divided evenly into a power of two of tablets.
use Rattle.std.specs.Prelude.{◌≡◌, ◌+◌, ◌-◌, ◌*◌, ◌/◌, ◌^◌, ◌≤◌, ◌<ℤ◌, ℕ, ℤ, negsuc, pos, nat_le, max, if◌then◌else◌}

-- the one signed 64-bit number that is no token, -2^63
abbrev pub least_number : ℤ
least_number = negsuc (2 ^ 63 - 1)

-- a token: any signed 64-bit number above the least one
abbrev pub IsToken : ℤ → Type 0
IsToken value = (least_number <ℤ value) × (value <ℤ pos (2 ^ 63))

-- the offset of a number from the start of the ring: it plus 2^63
abbrev pub offset : ℤ → ℕ
offset (pos n) = 2 ^ 63 + n
offset (negsuc n) = 2 ^ 63 - (n + 1)

-- the number at an offset
abbrev pub number_at : ℕ → ℤ
number_at at = if nat_le (2 ^ 63) at then pos (at - 2 ^ 63) else negsuc (2 ^ 63 - at - 1)

-- how many offsets each of 2^log2 tablets has
abbrev pub width : ℕ → ℕ
width log2 = 2 ^ (64 - log2)

-- the tablet of a token, of 2^log2 tablets
abbrev pub tablet_at : ℕ → ℤ → ℕ
tablet_at log2 token = offset token / width log2

-- the first offset of a tablet that is a token's: offset 0 is none
abbrev pub first_offset : ℕ → ℕ → ℕ
first_offset log2 tablet = max 1 (tablet * width log2)

-- the last offset of a tablet
abbrev pub last_offset : ℕ → ℕ → ℕ
last_offset log2 tablet = (tablet + 1) * width log2 - 1

-- a token lies from the first to the last offset of a tablet
abbrev pub IsBetween : ℕ → ℕ → ℤ → Type 0
IsBetween log2 tablet token = (first_offset log2 tablet ≤ offset token) × (offset token ≤ last_offset log2 tablet)

-- the offsets of the two tablets that a tablet is split into follow one another, and together are its offsets
pub record HasChildren (log2 : ℕ) (tablet : ℕ) : Type 0 where
  pub first : first_offset (log2 + 1) (2 * tablet) ≡ first_offset log2 tablet
  pub follows : last_offset (log2 + 1) (2 * tablet) + 1 ≡ first_offset (log2 + 1) (2 * tablet + 1)
  pub last : last_offset (log2 + 1) (2 * tablet + 1) ≡ last_offset log2 tablet
