-- Words for the laws of an operation on two values and of a relation between two.
use Rattle.std.specs.Prelude.{◌≡◌, ◌⊎◌}

abbrev pub IsAssociative : {X : Type 0} → (X → X → X) → Type 0
IsAssociative {X} f = (a b c : X) → f (f a b) c ≡ f a (f b c)

abbrev pub IsCommutative : {X : Type 0} → (X → X → X) → Type 0
IsCommutative {X} f = (a b : X) → f a b ≡ f b a

abbrev pub IsIdempotent : {X : Type 0} → (X → X → X) → Type 0
IsIdempotent {X} f = (a : X) → f a a ≡ a

-- `e` changes nothing, on either side
abbrev pub IsIdentity : {X : Type 0} → (X → X → X) → X → Type 0
IsIdentity {X} f e = (a : X) → (f e a ≡ a) × (f a e ≡ a)

-- `f` gives one of the two that it is given
abbrev pub IsChoice : {X : Type 0} → (X → X → X) → Type 0
IsChoice {X} f = (a b : X) → (f a b ≡ a) ⊎ (f a b ≡ b)

-- `f a b` is above both, and below all that is above both; `Above x y` says that `x` is above `y` or the same
pub record IsLeastUpperBound {X : Type 0} (Above : X → X → Type 0) (f : X → X → X) : Type 0 where
  pub first : (a b : X) → Above (f a b) a
  pub second : (a b : X) → Above (f a b) b
  pub least : (a b c : X) → Above c a → Above c b → Above c (f a b)

-- a total order, as a relation
pub record IsTotal {X : Type 0} (Above : X → X → Type 0) : Type 0 where
  pub reflexive : (a : X) → Above a a
  pub transitive : (a b c : X) → Above a b → Above b c → Above a c
  pub antisymmetric : (a b : X) → Above a b → Above b a → a ≡ b
  pub total : (a b : X) → Above a b ⊎ Above b a
