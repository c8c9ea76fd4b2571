-- What the fields of a `Bytes64` are, and that its bytes give them back.
use Rattle.std.specs.Prelude.{◌≡◌, ℕ, ◌-◌, ◌≤◌, List, ◌++◌, length, take, drop, replicate}
use Rattle.std.proofs.Common.{arith}
use Rattle.std.proofs.lemmas.List.{take-append-drop, length-take-le}

-- an array of 64 bytes, of which the first `len` count and the others are zero
pub record IsPadded (len : ℕ) (bytes : List ℕ) : Type 0 where
  pub size : length bytes ≡ 64
  pub fits : len ≤ 64
  pub rest : drop len bytes ≡ replicate (64 - len) 0

pub length-front : (len : ℕ) (bytes : List ℕ) → IsPadded len bytes → length (take len bytes) ≡ len
length-front len bytes h =
    let fits : len ≤ length bytes = omega (arith, h.size, h.fits) in
    length-take-le len bytes fits

-- the array is its front and as many zeros as are missing
pub front_padded : (len : ℕ) (bytes : List ℕ) → IsPadded len bytes →
    take len bytes ++ replicate (64 - length (take len bytes)) 0 ≡ bytes
front_padded len bytes h =
    rw (length-front len bytes h, ← h.rest) (take-append-drop len bytes)
