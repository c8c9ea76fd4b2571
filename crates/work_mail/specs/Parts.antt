-- Each part before and after its work.
use Rattle.std.specs.Prelude.{List, length, slice_index_or, ℕ, ◌<◌}

-- each of these has become what stands in its place, as the relation says
abbrev pub ChangeBy : {X : Type 0} → (X → X → Type 0) → List X → List X → Type 0
ChangeBy {X} R xs ys =
    (i : ℕ) (d : X) → i < length xs → R (slice_index_or xs i d) (slice_index_or ys i d)
