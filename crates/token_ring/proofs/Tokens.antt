-- Tokens are told apart by their numbers, and numbers by their offsets.
use Rattle.std.proofs.Common.{◌≡◌, ◌∙◌, ℕ, ℤ, pos, negsuc, Bool, true, false, refl, sym, ap, subst, arith}
use Rattle.std.proofs.Props.{props}
use Rattle.std.proofs.lemmas.Bool.Decides.{nat_tests}
use Rattle.std.proofs.lemmas.Int.{ints}
use Rattle.token_ring.specs.Range.{above_least, below_end, token_by, token_of, range_at}
use Rattle.token_ring.specs.Ring.{IsToken, offset, number_at, first_offset, last_offset}
use Rattle.token_ring.specs.declared.ring.TokenRange.{TokenRange}
use Rattle.token_ring.specs.declared.token.Token.{Token}

one_proof : (value : ℤ) → IsProp (IsToken value)
one_proof value = hlevel props

with_number : (a : Token) (value : ℤ) → a.value ≡ value → (fact : IsToken value) → a ≡ record { value = value; is_token = fact }
with_number a value e =
    let P : ℤ → Type 0 = λ v. (fact : IsToken v) → a ≡ record { value = v; is_token = fact } in
    subst P e
    (λ fact. ap (λ (f : IsToken a.value). let t : Token = record { value = a.value; is_token = f } in t) (one_proof a.value a.is_token fact))

pub same_token : (a b : Token) → a.value ≡ b.value → a ≡ b
same_token a b e = with_number a b.value e b.is_token

pub number_of_offset : (value : ℤ) → IsToken value → number_at (offset value) ≡ value
number_of_offset (pos n) h = grind (arith, nat_tests)
number_of_offset (negsuc n) h = grind (arith, nat_tests, ints)

-- a number that is a token's is its token's number
value_by : (value : ℤ) (above below : Bool) (p : above_least value ≡ above) (q : below_end value ≡ below) → above ≡ true → below ≡ true → (token_by value above below p q).value ≡ value
value_by value true true p q a b = refl
value_by value true false p q a b = cc
value_by value false below p q a b = cc

pub value_of_token : (value : ℤ) → IsToken value → (token_of value).value ≡ value
value_of_token value h =
    let low : above_least value ≡ true = grind (arith, ints, h.0) in
    let high : below_end value ≡ true = grind (arith, ints, h.1) in
    value_by value (above_least value) (below_end value) refl refl low high

-- the token at an offset
pub token_at_offset : (token : Token) (at : ℕ) → offset token.value ≡ at → token ≡ token_of (number_at at)
token_at_offset token at e =
    let same : number_at at ≡ token.value = ap number_at (sym e) ∙ number_of_offset token.value token.is_token in
    same_token token (token_of (number_at at)) (sym (ap (λ v. (token_of v).value) same ∙ value_of_token token.value token.is_token))

same_range : (range : TokenRange) (first last : Token) → range.first ≡ first → range.last ≡ last → range ≡ record { first = first; last = last }
same_range range first last p q i = record { first = p i; last = q i }

pub range_at_offsets : (range : TokenRange) (log2 tablet : ℕ) → offset range.first.value ≡ first_offset log2 tablet → offset range.last.value ≡ last_offset log2 tablet → range ≡ range_at log2 tablet
range_at_offsets range log2 tablet low high =
    same_range range (token_of (number_at (first_offset log2 tablet))) (token_of (number_at (last_offset log2 tablet)))
    (token_at_offset range.first (first_offset log2 tablet) low) (token_at_offset range.last (last_offset log2 tablet) high)
