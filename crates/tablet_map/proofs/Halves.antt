-- Each tablet twice, and the left one of each pair.
use Rattle.std.proofs.Common.{◌≡◌, ◌+◌, ◌-◌, ◌*◌, ◌^◌, ◌<◌, ℕ, List, [], ◌∷◌, length, map, refl, arith}
use Rattle.std.proofs.lemmas.List.Elements.{All-nil, All-cons, All-head, All-tail}
use Rattle.std.proofs.lemmas.Nat.{pow-add}
use Rattle.std.specs.List.{All, flat_map}
use Rattle.tablet_map.specs.declared.tablet.Tablet.{Tablet}
use Rattle.tablet_map.specs.Tablets.{IsSound, IsMap}
use Rattle.tablet_map.specs.Calls.{both, pairs}
use Rattle.tablet_map.proofs.Pairs.{length-lefts}

pub length-both : (list : List Tablet) → length (flat_map both list) ≡ 2 * length list
length-both [] = refl
length-both (tablet ∷ rest) = omega (arith, length-both rest)

sound_both : (list : List Tablet) → All IsSound list → All IsSound (flat_map both list)
sound_both [] sound = All-nil IsSound
sound_both (tablet ∷ rest) sound =
    let first : IsSound tablet = All-head IsSound tablet rest sound in
    All-cons IsSound tablet (tablet ∷ flat_map both rest) first
    (All-cons IsSound tablet (flat_map both rest) first (sound_both rest (All-tail IsSound tablet rest sound)))

pub twice : (log2 : ℕ) → 2 ^ (log2 + 1) ≡ 2 * 2 ^ log2
twice log2 = omega (arith, pow-add 2 log2 1)

pub split_map : (log2 : ℕ) (list : List Tablet) → log2 < 10 → IsMap log2 list → IsMap (log2 + 1) (flat_map both list)
split_map log2 list below map =
    record {
      few = omega arith;
      count = omega (arith, length-both list, twice log2, map.count);
      sound = sound_both list map.sound;
    }

sound_lefts : (list : List Tablet) → All IsSound list → All IsSound (map (λ (pair : Tablet × Tablet). pair.0) (pairs list))
sound_lefts [] sound = All-nil IsSound
sound_lefts (left ∷ []) sound = All-nil IsSound
sound_lefts (left ∷ right ∷ rest) sound =
    All-cons IsSound left (map (λ (pair : Tablet × Tablet). pair.0) (pairs rest)) (All-head IsSound left (right ∷ rest) sound)
    (sound_lefts rest (All-tail IsSound right rest (All-tail IsSound left (right ∷ rest) sound)))

pub merge_map : (log2 : ℕ) (list : List Tablet) → 0 < log2 → IsMap log2 list → IsMap (log2 - 1) (map (λ (pair : Tablet × Tablet). pair.0) (pairs list))
merge_map log2 list above map =
    let e : log2 - 1 + 1 ≡ log2 = omega arith in
    let pow : 2 ^ log2 ≡ 2 * 2 ^ (log2 - 1) = (rw e at (twice (log2 - 1))) in
    record {
      few = omega arith;
      count = omega (arith, length-lefts list, pow, map.count);
      sound = sound_lefts list map.sound;
    }
