-- Evidence as callers see it.
use Rattle.std.specs.Prelude.{ℕ, List}
use Rattle.barrier_core.specs.declared.data.Told.{Told}

-- the facts that were noted, the newest first, and how many more are sure to be noted without taking memory
pub record Heard : Type 0 where
  pub facts : List Told
  pub spare : ℕ
