-- Places of the ring, and the tablets that they lie in.
use Rattle.std.proofs.Common.{◌≡◌, ◌+◌, ◌-◌, ◌*◌, ◌/◌, ◌%◌, ◌^◌, ◌<◌, ◌≤◌, ◌≤ℤ◌, ℕ, ℤ, pos, negsuc, max, sym, ap, ◌∙◌, subst, arith}
use Rattle.std.proofs.Math.Nat.{mod-eq_of_lt, div-mul-le_self, lt-div-mul-add, div-div-eq-div-mul, mul-le-mul_right, pow-le-pow_right}
use Rattle.std.proofs.lemmas.Nat.{pow-add, shr_below, div-mul-add, pow_pos, pow_below}
use Rattle.std.proofs.lemmas.Int.{ints}
use Rattle.token_ring.specs.Ring.{IsToken, offset, width, tablet_at, first_offset, last_offset, IsBetween, HasChildren}

pub width_pos : (log2 : ℕ) → 0 < width log2
width_pos log2 = pow_pos (64 - log2)

-- 2^log2 tablets are the whole ring
pub all_offsets : (log2 : ℕ) → log2 ≤ 64 → 2 ^ log2 * width log2 ≡ 2 ^ 64
all_offsets log2 h =
    let e : log2 + (64 - log2) ≡ 64 = omega arith in sym (pow-add 2 log2 (64 - log2)) ∙ ap (λ n. 2 ^ n) e

-- with twice as many tablets each has half as many offsets
pub width_half : (log2 : ℕ) → log2 < 64 → width log2 ≡ 2 * width (log2 + 1)
width_half log2 h =
    let e : 64 - log2 ≡ 1 + (64 - (log2 + 1)) = omega arith in ap (λ n. 2 ^ n) e ∙ pow-add 2 1 (64 - (log2 + 1))

pub offset_pos : (value : ℤ) → IsToken value → 0 < offset value
offset_pos (pos n) h = omega arith
offset_pos (negsuc n) h = grind (arith, ints)

pub offset_below : (value : ℤ) → IsToken value → offset value < 2 ^ 64
offset_below (pos n) h = grind (arith, ints)
offset_below (negsuc n) h = omega arith

pub tablet_below : (log2 at : ℕ) → log2 ≤ 64 → at < 2 ^ 64 → at / width log2 < 2 ^ log2
tablet_below log2 at h below =
    let e : log2 + (64 - log2) ≡ 64 = omega arith in
    shr_below at log2 (64 - log2) (let P : ℕ → Type 0 = λ n. at < 2 ^ n in subst P (sym e) below)

-- an offset lies in a tablet from its first offset on up to the next tablet's
pub in_tablet : (w at tablet : ℕ) → 0 < w → tablet * w ≤ at → at < tablet * w + w → at / w ≡ tablet
in_tablet w at tablet positive low high =
    let e : at ≡ tablet * w + (at - tablet * w) = omega arith in
    ap (λ n. n / w) e ∙ div-mul-add tablet w (at - tablet * w) (omega arith)

pub tablet_low : (w at tablet : ℕ) → at / w ≡ tablet → tablet * w ≤ at
tablet_low w at tablet e = let P : ℕ → Type 0 = λ n. n * w ≤ at in subst P e (div-mul-le_self at w)

pub tablet_high : (w at tablet : ℕ) → 0 < w → at / w ≡ tablet → at < tablet * w + w
tablet_high w at tablet positive e =
    let P : ℕ → Type 0 = λ n. at < n * w + w in subst P e (lt-div-mul-add positive)

pub between_has_tablet : (log2 tablet : ℕ) (value : ℤ) → IsToken value → IsBetween log2 tablet value → tablet_at log2 value ≡ tablet
between_has_tablet log2 tablet value token h =
    let positive : 0 < width log2 = width_pos log2 in
    in_tablet (width log2) (offset value) tablet positive (omega (arith, h.0)) (omega (arith, h.1))

pub tablet_is_between : (log2 tablet : ℕ) (value : ℤ) → IsToken value → tablet_at log2 value ≡ tablet → IsBetween log2 tablet value
tablet_is_between log2 tablet value token e =
    let positive : 0 < width log2 = width_pos log2 in
    let above : 0 < offset value = offset_pos value token in
    let low : tablet * width log2 ≤ offset value = tablet_low (width log2) (offset value) tablet e in
    let high : offset value < tablet * width log2 + width log2 = tablet_high (width log2) (offset value) tablet positive e in
    (omega arith, omega arith)

-- the order of numbers is the order of their offsets
pub offset_le : (a b : ℤ) → IsToken a → IsToken b → a ≤ℤ b → offset a ≤ offset b
offset_le (pos a) (pos b) h k le = grind (arith, ints)
offset_le (pos a) (negsuc b) h k le = grind (arith, ints)
offset_le (negsuc a) (pos b) h k le = omega arith
offset_le (negsuc a) (negsuc b) h k le = grind (arith, ints)

pub le_offset : (a b : ℤ) → IsToken a → IsToken b → offset a ≤ offset b → a ≤ℤ b
le_offset (pos a) (pos b) h k le = grind (arith, ints)
le_offset (pos a) (negsuc b) h k le = grind (arith, ints)
le_offset (negsuc a) (pos b) h k le = grind (arith, ints)
le_offset (negsuc a) (negsuc b) h k le = grind (arith, ints)

-- a tablet of at most 1024 has two offsets or more
pub width_big : (log2 : ℕ) → log2 ≤ 10 → 1 < width log2
width_big log2 h = pow_below 0 (64 - log2) (omega arith)

-- a tablet's offsets end within the ring
pub ends_within : (log2 tablets : ℕ) → log2 ≤ 64 → tablets ≤ 2 ^ log2 → tablets * width log2 ≤ 2 ^ 64
ends_within log2 tablets h within =
    let whole : 2 ^ log2 * width log2 ≡ 2 ^ 64 = all_offsets log2 h in
    let le : tablets * width log2 ≤ 2 ^ log2 * width log2 = mul-le-mul_right (width log2) within in
    omega arith

first_half : (tablet w v : ℕ) → w ≡ 2 * v → max 1 (2 * tablet * v) ≡ max 1 (tablet * w)
first_half tablet w v e = let P : ℕ → Type 0 = λ n. max 1 (2 * tablet * v) ≡ max 1 (tablet * n) in subst P (sym e) (omega arith)

middle : (tablet v : ℕ) → 0 < v → (2 * tablet + 1) * v - 1 + 1 ≡ max 1 ((2 * tablet + 1) * v)
middle tablet v h = omega arith

last_half : (tablet w v : ℕ) → w ≡ 2 * v → (2 * tablet + 1 + 1) * v - 1 ≡ (tablet + 1) * w - 1
last_half tablet w v e = let P : ℕ → Type 0 = λ n. (2 * tablet + 1 + 1) * v - 1 ≡ (tablet + 1) * n - 1 in subst P (sym e) (omega arith)

pub children_follow : (log2 tablet : ℕ) → log2 < 10 → HasChildren log2 tablet
children_follow log2 tablet h =
    let half : width log2 ≡ 2 * width (log2 + 1) = width_half log2 (omega arith) in
    record {
      first = first_half tablet (width log2) (width (log2 + 1)) half;
      follows = middle tablet (width (log2 + 1)) (width_pos (log2 + 1));
      last = last_half tablet (width log2) (width (log2 + 1)) half;
    }

pub parent_tablet : (log2 at : ℕ) → log2 < 64 → at / width (log2 + 1) / 2 ≡ at / width log2
parent_tablet log2 at h =
    let half : width log2 ≡ width (log2 + 1) * 2 = width_half log2 h ∙ omega arith in
    div-div-eq-div-mul at (width (log2 + 1)) 2 ∙ ap (λ n. at / n) (sym half)

pub few_tablets : (log2 : ℕ) → log2 ≤ 10 → 2 ^ log2 ≤ 2 ^ 10
few_tablets log2 h = pow-le-pow_right {n = 2} (omega arith) h

-- the last offset of a tablet is a token's
pub second_offset : (log2 tablet end : ℕ) → log2 ≤ 10 → end ≡ (tablet + 1) * width log2 → 1 < end
second_offset log2 tablet end h e = let big : 1 < width log2 = width_big log2 h in omega arith

-- a range whose ends have the first and the last offset of a tablet has exactly its tokens
pub in_range : (log2 tablet : ℕ) (first last value : ℤ) → IsToken first → IsToken last → IsToken value → offset first ≡ first_offset log2 tablet → offset last ≡ last_offset log2 tablet → first ≤ℤ value → value ≤ℤ last → tablet_at log2 value ≡ tablet
in_range log2 tablet first last value f l v low high from to =
    let a : offset first ≤ offset value = offset_le first value f v from in
    let b : offset value ≤ offset last = offset_le value last v l to in
    between_has_tablet log2 tablet value v (omega arith, omega arith)

pub range_has : (log2 tablet : ℕ) (first last value : ℤ) → IsToken first → IsToken last → IsToken value → offset first ≡ first_offset log2 tablet → offset last ≡ last_offset log2 tablet → tablet_at log2 value ≡ tablet → (first ≤ℤ value) × (value ≤ℤ last)
range_has log2 tablet first last value f l v low high e =
    let h : IsBetween log2 tablet value = tablet_is_between log2 tablet value v e in
    (le_offset first value f v (omega arith), le_offset value last v l (omega arith))

-- a shift left that stays within 128 bits is a product
pub shifted_within : (log2 tablets n : ℕ) → log2 ≤ 10 → tablets ≤ 2 ^ log2 → n ≡ tablets → n * width log2 % 2 ^ 128 ≤ 2 ^ 64
shifted_within log2 tablets n h within e =
    let le : tablets * width log2 ≤ 2 ^ 64 = ends_within log2 tablets (omega arith) within in
    let small : n * width log2 ≤ 2 ^ 64 = (let P : ℕ → Type 0 = λ m. m * width log2 ≤ 2 ^ 64 in subst P (sym e) le) in
    omega (arith, mod-eq_of_lt {n = n * width log2} {m = 2 ^ 128} (omega arith))
