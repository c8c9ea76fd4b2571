-- Counts that stop at the end of their type, and what is told of a source and of a sink.
use Rattle.std.specs.Prelude.{ℕ, ◌+◌, ◌-◌, ◌^◌, ◌≤◌, min, List, Option}

-- the greatest value of a count
abbrev pub last_count : ℕ
last_count = 2 ^ 64 - 1

-- a count after n more: it stands still at its greatest value
abbrev pub raised_by : ℕ → ℕ → ℕ
raised_by count n = count + min n (last_count - count)

-- at least one more was counted, where a count at its greatest value counts as risen
abbrev pub Rose : ℕ → ℕ → Type 0
Rose before after = raised_by before 1 ≤ after

-- what is told of a source
pub record SourceAccount : Type 0 where
  -- the bytes that are left, where the source tells them
  pub left : Option (List ℕ)
  -- how many bytes were given
  pub given : ℕ
  -- how many calls there were, and how many of them failed
  pub calls : ℕ
  pub faults : ℕ

-- what is told of a sink
pub record SinkAccount : Type 0 where
  -- the bytes that were taken so far, where the sink tells them
  pub content : Option (List ℕ)
  -- how many calls have failed
  pub faults : ℕ
